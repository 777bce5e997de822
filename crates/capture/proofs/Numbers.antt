-- When the two calls of a salvage are refused, each number exactly then, and that there is no other one.
-- Assumes nothing.
use mathlib.Core.Path.{◌≡◌, refl, ap}
use mathlib.Core.Bool.{true, not}
use mathlib.Core.List.{List, [], ◌∷◌}
use mathlib.Core.Logic.{◌↔◌, ◌⊎◌, inl, inr, ⊎_elim, ⊎_map}
use Prim.Native.Nat.{ℕ, ◌+◌, ◌<◌, ◌≤◌}
use borrow.Author.Tests.{ltb-true, ltb-false, lt-ltb, le-ltb, not-false}
use lib.ListN.{length}
use Rattle.octets.specs.Octets.{holds}
use Rattle.octets.proofs.Words.{holds-exactly}
use Rattle.refusal.specs.Answer.{gives, refuses, Clear, numbers_of}
use Rattle.refusal.proofs.Exactly.{TestsFor, exactly-tests, exactly-given}
use Rattle.limits.specs.Limits.{is_limit}
use Rattle.salvage.specs.Holding.{Holding, raw_most, Workable}
use Rattle.salvage.specs.Work.{Progress, AtEnd, works, spare_most, salvage_rows, salvaged, at_end, finish_rows, finished}
use Rattle.salvage.specs.declared.Salvage.{Salvage}
use Rattle.live.proofs.Answered.{numbered, first_of, denied}

module _ (N : ℕ) (c : Holding) (s : List ℕ) (room : ℕ) where
  -- 6: no frame limit, or a record that holds more octets than there are places for
  pub salvage-6 : salvaged N c s room ≡ refuses 6
      ↔ ((is_limit N ≡ true → ⊥) ⊎ ((260 < c.salvage.receiver.count) ⊎ (520 < c.salvage.stretch.held)))
  unfolding salvaged salvage_rows TestsFor numbers_of holds
  salvage-6 =
      let rows = exactly-tests 6 (salvage_rows N c.salvage (length s) room) (works N c s) in (
        λ e.
            ⊎_map (denied _ (λ q. q, λ q. q)).0 (λ w. ⊎_map (ltb-true _ _) (λ q. ltb-true _ _ q.1) w.1) (rows.0 e),
        λ w.
            rows.1 (first_of _ (⊎_map (denied _ (λ q. q, λ q. q)).1 (λ v. first_of _ (⊎_map (lt-ltb _ _) (lt-ltb _ _) v)) w)),
      )

  -- 5: none of that, and an output shorter than what a call may have to write
  pub salvage-5 : salvaged N c s room ≡ refuses 5
      ↔ ((is_limit N ≡ true) × (c.salvage.receiver.count ≤ 260) × (c.salvage.stretch.held ≤ 520)
      × (room < 521 + length s))
  unfolding salvaged salvage_rows TestsFor numbers_of holds
  salvage-5 =
      let rows = exactly-tests 5 (salvage_rows N c.salvage (length s) room) (works N c s) in (
        λ e.
            let t = rows.0 e in (
              not-false _ t.0,
              ltb-false _ _ t.1.0,
              ltb-false _ _ t.1.1.0,
              ltb-true _ _ t.1.1.1,
            ),
        λ w. rows.1 (ap not w.0, (le-ltb _ _ w.1, (le-ltb _ _ w.2, lt-ltb _ _ w.3))),
      )

  -- no other number
  pub salvage-other : {k : ℕ} → salvaged N c s room ≡ refuses k → (k ≡ 5) ⊎ (k ≡ 6)
  unfolding salvaged salvage_rows numbers_of
  salvage-other e =
      ⊎_elim inr (⊎_elim inr (⊎_elim inr (⊎_elim inl absurd)))
      ((holds-exactly _ (6 ∷ 6 ∷ 6 ∷ 5 ∷ [])).0
      (numbered (works N c s) (salvage_rows N c.salvage (length s) room) e))

  -- neither: what is made of the octets
  pub salvage-given : {t : Progress} → salvaged N c s room ≡ gives t → works N c s ≡ t
  unfolding salvaged
  salvage-given {t} e = ((exactly-given (salvage_rows N c.salvage (length s) room) (works N c s) t).0 e).1

  pub salvage-done : is_limit N ≡ true → Workable c → spare_most + length s ≤ room
      → salvaged N c s room ≡ gives (works N c s)
  unfolding salvaged salvage_rows Clear
  salvage-done l u fits =
      (exactly-given (salvage_rows N c.salvage (length s) room) (works N c s) (works N c s)).1 (
        (ap not l, (le-ltb _ _ u.0.1, (le-ltb _ _ u.2, (le-ltb _ _ fits, tt)))),
        refl,
      )

module _ (v : Salvage) where
  -- 6: a record that holds more octets than there are places for
  pub finish-6 : finished v ≡ refuses 6 ↔ ((260 < v.receiver.count) ⊎ (520 < v.stretch.held))
  unfolding finished finish_rows TestsFor numbers_of holds
  finish-6 =
      let rows = exactly-tests 6 (finish_rows v) (at_end v) in (
        λ e. ⊎_map (ltb-true _ _) (λ q. ltb-true _ _ q.1) (rows.0 e),
        λ w. rows.1 (first_of _ (⊎_map (lt-ltb _ _) (lt-ltb _ _) w)),
      )

  -- no other number
  pub finish-other : {k : ℕ} → finished v ≡ refuses k → k ≡ 6
  unfolding finished finish_rows numbers_of
  finish-other e =
      ⊎_elim (λ q. q) (⊎_elim (λ q. q) absurd)
      ((holds-exactly _ (6 ∷ 6 ∷ [])).0 (numbered (at_end v) (finish_rows v) e))

  -- it is not refused
  pub finish-done : v.receiver.count ≤ 260 → v.stretch.held ≤ raw_most → finished v ≡ gives (at_end v)
  unfolding finished finish_rows Clear
  finish-done few held =
      (exactly-given (finish_rows v) (at_end v) (at_end v)).1 ((le-ltb _ _ few, (le-ltb _ _ held, tt)), refl)

  pub finish-given : {t : AtEnd} → finished v ≡ gives t → at_end v ≡ t
  unfolding finished
  finish-given {t} e = ((exactly-given (finish_rows v) (at_end v) t).0 e).1
