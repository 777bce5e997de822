-- `device::hear` meets its promise: each way out, by the tests that lead to it. Assumes nothing.
use lib.ListN.{length-take}
use native.Mathlib.Omega.{arith}
use Rattle.device.proofs.Reacts.{heard-refused, heard-judged, heard-count, judges-is}
use Rattle.device.proofs.hear.Goals as goal

pub returns-in_default : goal.returns-in_default
returns-in_default c =
    let a = c.args in
    rw (c.and.ensures, c.in_default.is)
    (heard-refused a.device.now _ a.answer.now _ _ _ c.decode-handed.ensures c.in_default.is)

pub slice_bounds-store-end : goal.slice_bounds-store-end
slice_bounds-store-end c = heard-count _ _ c.decode-handed.ensures c.in-Ok.is

pub slice_bounds-judge-end : goal.slice_bounds-judge-end
slice_bounds-judge-end c = simp length-take (omega (arith, heard-count _ _ c.decode-handed.ensures c.in-Ok.is))

pub returns : goal.returns
returns c =
    let a = c.args in
    judges-is (heard-judged a.device.now _ a.answer.now _ _ _ c.decode-handed.ensures c.in-Ok.is) c.judge.ensures
