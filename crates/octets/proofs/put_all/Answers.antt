-- `octets::put_all` meets its promise: what is left of the source is what is left to store. Assumes nothing.
use borrow.Author.Rules.{rules}
use Prim.Native.Nat.{◌-◌, ◌<◌, ◌≤◌, min}
use native.Mathlib.Nat.{add-zero}
use native.Mathlib.Omega.{arith}
use lib.ListN.{length}
use Rattle.octets.proofs.Stores.{sets_more, sets-done}
use Rattle.octets.proofs.put_all.Goals as goal

pub loop-i-init : goal.loop-i-init
loop-i-init c = (search rules, rw add-zero)

pub loop-i-preserved : goal.loop-i-preserved
loop-i-preserved c =
    let start = c.args in
    let h : c.loop-i.i < length start.s.now = omega arith in
    (search rules, sets_more _ _ _ _ h c.loop-i.invariant.1)

pub returns : goal.returns
returns c =
    let start = c.args in
    let now = c.loop-i in
    let h : min (length start.s.now) (length now.out - start.at) ≤ now.i = omega arith in
    sets-done _ _ _ _ h now.invariant.1
