-- What an accepted I-frame, a good N(R) and an acknowledgement need, and what a session counts, in 01's words.
-- Assumes nothing.
use mathlib.Core.Path.{◌≡◌, refl, sym}
use mathlib.Core.Bool.{true, false, cond, not, or-true}
use mathlib.Core.Logic.{◌↔◌, ◌⊎◌, ⊎_map, ⊎_elim}
use Prim.Native.Nat.{ℕ, ◌+◌, ◌*◌, ◌<◌}
use native.Mathlib.Nat.{mod-eq_of_lt}
use native.Mathlib.Omega.{arith}
use borrow.Author.Tests.{eqb-true, eq-eqb, not-true}
use lib.Dec.{eqb}
use Rattle.octets.proofs.Words.{true-not-false, and_parts, or_parts}
use Rattle.control.specs.Control.{next_of}
use Rattle.record.specs.declared.Pending.{Pending}
use Rattle.record.specs.declared.Pending.TheVariants.{Nothing, Answer, Indication}
use Rattle.record.specs.declared.Session.{Session}
use Rattle.session.specs.Session.{pends, acknowledges, good_number, accepts, vs_of, counts_of}

-- "at most one pending answer": one is, or none is
pub pends-exactly : (p : Pending) → pends p ≡ true ↔ (p ≡ Nothing → ⊥)
pends-exactly Nothing = (λ e. absurd (true-not-false (sym e)), λ w. absurd (w refl))
pends-exactly Answer = (λ e h. true-not-false (cc), λ w. refl)
pends-exactly Indication = (λ e h. true-not-false (cc), λ w. refl)

-- an I-frame is accepted exactly if nothing is pending and its number is the next one due
pub accepts-exactly : (s : Session) (n : ℕ) → accepts s n ≡ true ↔ (pends s.pending ≡ false) × (n ≡ s.r)
unfolding accepts
accepts-exactly s n = (
  λ e. let parts = and_parts (not (pends s.pending)) (eqb n s.r) e in
      (not-true _ parts.0, eqb-true n s.r parts.1),
  λ w. rw (w.0, eq-eqb n s.r w.1),
)

-- an answer is acknowledged exactly if it is pending and the number is the one behind S
pub acknowledges-exactly : (s : Session) (n : ℕ)
    → acknowledges s n ≡ true ↔ (pends s.pending ≡ true) × (n ≡ next_of s.s)
unfolding acknowledges
acknowledges-exactly s n = (
  λ e. let parts = and_parts (pends s.pending) (eqb n (next_of s.s)) e in
      (parts.0, eqb-true n (next_of s.s) parts.1),
  λ w. rw (w.0, eq-eqb n (next_of s.s) w.1),
)

-- "N(R) must be S, or S+1 where an answer is pending"
pub good-exactly : (s : Session) (n : ℕ)
    → good_number s n ≡ true ↔ ((n ≡ s.s) ⊎ ((pends s.pending ≡ true) × (n ≡ next_of s.s)))
unfolding good_number
good-exactly s n = (
  λ e. ⊎_map (eqb-true n s.s) (acknowledges-exactly s n).0 (or_parts (eqb n s.s) (acknowledges s n) e),
  ⊎_elim (λ e. rw (eq-eqb n s.s e))
      (λ w. rw ((acknowledges-exactly s n).1 w) (or-true (eqb n s.s))),
)

-- "2·V(S) + 32·R"; "V(S) is S, or S+1 with an answer pending"
pub counts-is : (s : Session) → s.r < 8 → s.s < 8
    → counts_of s ≡ 2 * cond (pends s.pending) (next_of s.s) s.s + 32 * s.r
unfolding counts_of vs_of
counts-is s hr hs = rw (mod-eq_of_lt hr, mod-eq_of_lt hs) (omega arith)
