-- `fcs::RemainderTable::run_by_two` meets its promise: the octets that are left, from the register as it is, give what all gave from
-- the start. Assumes nothing.
use mathlib.Core.Path.{◌≡◌, ap, ◌∙◌}
use Prim.Native.Nat.{ℕ, ◌*◌, ◌/◌}
use native.Mathlib.Omega.{arith}
use lib.ListN.{length, get_or}
use Rattle.std.proofs.lemmas.List.{get_or-drop}
use Rattle.octets.proofs.Chunks.{chunk-length}
use Rattle.fcs.proofs.Register.{register-chunk, register-pair, register-last, register-done}
use Rattle.fcs.proofs.RemainderTable.run_by_two.Goals as goal

pub loop-a-preserved : goal.loop-a-preserved
loop-a-preserved c =
    let now = c.loop-a in
    let s = c.args.s.now in
    let pairs = c.as_chunks.ensures in
    let two = chunk-length 2 now.a-index s pairs.front pairs.front_len c.loop-a-test.true (omega (arith, pairs.front_len)) in
    register-chunk 2 now.a-index _ s pairs.front pairs.front_len c.loop-a-test.true now.invariant
    (register-pair _ _ two c.two_on-r.ensures)

pub returns-in-len1-up : goal.returns-in-len1-up
returns-in-len1-up c =
    let s = c.args.s.now in
    let at = c.loop-a.a-index * 2 in
    let last : c.from.result ≡ get_or s at 0 =
    c.from.ensures ∙ rw (c.as_chunks.ensures.back) (get_or-drop (length s / 2 * 2) s 0 0 ∙ ap (λ (i : ℕ). get_or s i 0) (omega arith)) in
    register-last s at _ c.loop-a.invariant (omega arith) (omega arith) (rw (← last) c.eight_on.ensures)

pub returns-in-empty : goal.returns-in-empty
returns-in-empty c =
    register-done c.args.s.now (c.loop-a.a-index * 2) _ c.loop-a.invariant (omega (arith, c.as_chunks.ensures.front_len, c.as_chunks.ensures.back_len))
