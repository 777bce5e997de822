-- `writer::is_short` meets its promise: each octet counts once from the start, and an escaped one once more.
-- Assumes nothing.
use borrow.Author.Tests.{lt-ltb, le-ltb}
use mathlib.Core.Path.{sym, ap, ◌∙◌}
use Prim.Native.Nat.{◌+◌}
use native.Mathlib.Omega.{arith}
use lib.Dec.{ltb}
use lib.ListN.{length, drop, length-drop}
use Rattle.frame.specs.Line.{between}
use Rattle.frame.proofs.Escapes.{special-two, other-one, on_line-long, on_line-short, length-between}
use Rattle.frame.proofs.Escapes.{more-long, line-done}
use Rattle.writer.proofs.is_short.Goals as goal
use Rattle.writer.proofs.is_short.Goals.{then-is_special+else-room-len, else-is_special}

pub returns-then-d-room : goal.returns-then-d-room
returns-then-d-room c =
    let a = c.args in
    let d = a.d.now in
    sym (le-ltb a.room (length (between d)) (omega (arith, length-between d, on_line-short d)))

pub loop-b-init : goal.loop-b-init
loop-b-init c = omega (arith, length-between c.args.d.now)

pub overflow_add-len-then-is_special : goal.overflow_add-len-then-is_special
overflow_add-len-then-is_special c =
    let d = c.args.d.now in
    omega (arith, length-between d, on_line-short d)

pub returns-then-room-len : goal.returns-then-room-len
returns-then-room-len c =
    let a = c.args in
    let d = a.d.now in
    let two = special-two _ (sym c.is_special.ensures ∙ c.if-is_special.true) in
    let more = more-long d c.loop-b.b-index c.loop-b-test.true in
    let left = on_line-long (drop (c.loop-b.b-index + 1) d) in
    sym (lt-ltb a.room (length (between d)) (omega (arith, length-drop (c.loop-b.b-index + 1) d)))

pub loop-b-preserved : goal.loop-b-preserved
loop-b-preserved c =
    let told = sym c.is_special.ensures in
    let more = more-long c.args.d.now c.loop-b.b-index c.loop-b-test.true in
    elim c.if-is_special.branch [
      | then-is_special+else-room-len w ↦ let two = special-two _ (told ∙ w.if-is_special.true) in omega arith
      | else-is_special w ↦ let one = other-one _ (told ∙ w.if-is_special.false) in omega arith
    ]

pub returns : goal.returns
returns c =
    let a = c.args in
    let done = line-done a.d.now c.loop-b.b-index c.loop-b-test.false in
    ap (ltb a.room) (omega (arith, ap length done))
