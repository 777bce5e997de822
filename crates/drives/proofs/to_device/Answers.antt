-- `drives::to_device` meets its promise: each way out, by the tests that lead to it. Assumes nothing.
use mathlib.Core.Path.{refl}
use native.Mathlib.Omega.{arith}
use Prim.Native.Nat.{◌-◌}
use mathlib.Core.Path.{◌∙◌}
use Rattle.drives.specs.Drives.{reply_of}
use Rattle.drives.proofs.Ways.{device-place, obeys-by, drives-tells, drives-state, limit-obeys, event-obeys}
use Rattle.drives.proofs.Ways.{at-device, no-device}
use Rattle.drives.proofs.to_device.Goals as goal

pub overflow_sub-k : goal.overflow_sub-k
overflow_sub-k c =
    let a = c.args in
    (device-place a.row.now.count a.k c.is_device.ensures c.if-not-is_device.false).0

pub deliver-requires : goal.deliver-requires
deliver-requires c =
    let a = c.args in
    (device-place a.row.now.count a.k c.is_device.ensures c.if-not-is_device.false).1

pub returns-then-command-le-HEAR : goal.returns-then-command-le-HEAR
returns-then-command-le-HEAR c =
    let a = c.args in
    obeys-by
    (drives-tells a.command a.row.now a.octets.now a.lent.now (a.k - 1) a.value (omega arith)
    ∙ at-device a.command a.row.now a.octets.now a.lent.now a.k a.value c.is_device.ensures
    c.if-not-is_device.false)
    c.deliver.ensures

pub overflow_sub-result : goal.overflow_sub-result
overflow_sub-result c =
    let a = c.args in
    (device-place a.row.now.count a.k c.is_device.ensures c.if-not-is_device.false).0

pub returns-then-command-eq-SHOW : goal.returns-then-command-eq-SHOW
unfolding reply_of
returns-then-command-eq-SHOW c =
    let a = c.args in
    obeys-by
    (drives-state a.command a.row.now a.octets.now a.lent.now (a.k - 1) a.value (omega arith)
    ∙ at-device a.command a.row.now a.octets.now a.lent.now a.k a.value c.is_device.ensures
    c.if-not-is_device.false)
    (record { after = refl; lent = refl })

pub overflow_sub-k-then-command-eq-LIMIT : goal.overflow_sub-k-then-command-eq-LIMIT
overflow_sub-k-then-command-eq-LIMIT c =
    let at = c in
    let a = at.args in
    (device-place a.row.now.count a.k at.is_device.ensures c.if-not-is_device.false).0

pub tell_limit-requires : goal.tell_limit-requires
tell_limit-requires c =
    let at = c in
    let a = at.args in
    (device-place a.row.now.count a.k at.is_device.ensures c.if-not-is_device.false).1

pub returns-then-command-eq-LIMIT : goal.returns-then-command-eq-LIMIT
returns-then-command-eq-LIMIT c =
    let at = c in
    let a = at.args in
    obeys-by
    (at-device a.command a.row.now a.octets.now a.lent.now a.k a.value at.is_device.ensures
    c.if-not-is_device.false)
    (limit-obeys a.command a.row.now a.octets.now a.lent.now (a.k - 1) a.value c.if-command-eq-LIMIT.true
    c.tell_limit.ensures)

pub overflow_sub-k-2 : goal.overflow_sub-k-2
overflow_sub-k-2 c =
    let at = c in
    let a = at.args in
    (device-place a.row.now.count a.k at.is_device.ensures c.if-not-is_device.false).0

pub befall-requires : goal.befall-requires
befall-requires c =
    let at = c in
    let a = at.args in
    (device-place a.row.now.count a.k at.is_device.ensures c.if-not-is_device.false).1

pub returns : goal.returns
returns c =
    let at = c in
    let a = at.args in
    obeys-by
    (at-device a.command a.row.now a.octets.now a.lent.now a.k a.value at.is_device.ensures
    c.if-not-is_device.false)
    (event-obeys a.command a.row.now a.octets.now a.lent.now (a.k - 1) a.value (omega arith)
    c.if-command-eq-SHOW.false c.if-command-eq-LIMIT.false c.befall.ensures)

pub returns-then-not-is_device : goal.returns-then-not-is_device
unfolding reply_of
returns-then-not-is_device c =
    let a = c.args in
    obeys-by
    (no-device a.command a.row.now a.octets.now a.lent.now a.k a.value c.is_device.ensures
    c.if-not-is_device.true)
    (record { after = refl; lent = refl })
