-- A walk counts each answer until it has ended, and stays from there on. Assumes nothing.
use mathlib.Core.Path.{◌≡◌, refl, sym, ap, ◌∙◌}
use mathlib.Core.Bool.{Bool, true, false, cond}
use mathlib.Core.List.{List, [], ◌∷◌, ◌++◌}
use mathlib.Core.Logic.{◌⊎◌, inl, inr}
use mathlib.Core.Option.{some}
use Prim.Native.Nat.{ℕ, zero, suc, ◌+◌, ◌≤◌}
use native.Mathlib.Omega.{arith}
use lib.Dec.{ltb}
use lib.ListN.{length}
use Rattle.identity.specs.Bits.{Bits}
use Rattle.walk.specs.Beginnings.{then}
use Rattle.walk.specs.Machine.{next, Phase, asking, complete, doubtful, limited, full, Ended, named}
use Rattle.walk.specs.Machine.{Walk, settle, listing, noted, step_in, step, run}
use Rattle.walk.proofs.Play.{ended, stays}

module _ {A : Type 0} (name : Bits → A) (d cap : ℕ) where
  abbrev take_in : Walk A → Bool → Walk A
  take_in s a = step name d cap s a

  noted-counts : (l c : ℕ) (f : List A) (p : Bits) (q w a : Bool) → (noted name d cap l c f p q w a).count ≡ suc c
  unfolding noted listing
  noted-counts l c f p q w false = refl
  noted-counts l c f p q w true = by_tests (ltb (length p) d) (ltb (length f) cap)
    where
      by_tests : (t u : Bool)
          → (cond t (settle l (suc c) f false w (some (then p false)))
          (cond u (settle l (suc c) (f ++ (name p ∷ [])) false w (next p)) (ended l (suc c) f (full p)))).count
          ≡ suc c
      by_tests true u = refl
      by_tests false true = refl
      by_tests false false = refl

  -- a walk that has ended takes no answer; one that has not counts it
  abbrev Takes : Walk A → Bool → Type 0
  Takes s a =
      (Ended s.phase × (take_in s a ≡ s))
      ⊎ ((Ended s.phase → ⊥) × ((take_in s a).count ≡ suc s.count))

  takes : (s : Walk A) (a : Bool) → Takes s a
  unfolding step step_in
  takes s a = go s.limit s.count s.listed s.phase
    where
      go : (l c : ℕ) (f : List A) (x : Phase) → Takes (ended l c f x) a
      go l c f (asking p q w) = inr (λ h. h, noted-counts l c f p q w a)
      go l c f complete = inl (tt, refl)
      go l c f doubtful = inl (tt, refl)
      go l c f (limited p) = inl (tt, refl)
      go l c f (full p) = inl (tt, refl)

  module _ (heard : Bits → Bool) where
    abbrev go : ℕ → Walk A → Walk A
    go n s = run name d cap heard n s

    -- the answer to what is asked
    abbrev said : Walk A → Bool
    said s = heard (named s.phase)

    grows : (n : ℕ) (s : Walk A) → s.count ≤ (go n s).count
    unfolding run
    grows zero s = omega arith
    grows (suc n) s = by_turn (takes s (said s)) (grows n (take_in s (said s)))
      where
        by_turn : Takes s (said s) → (take_in s (said s)).count ≤ (go n (take_in s (said s))).count
            → s.count ≤ (go n (take_in s (said s))).count
        by_turn (inl (e, r)) h = omega (arith, ap (λ (t : Walk A). t.count) r)
        by_turn (inr (e, r)) h = omega arith

    -- so many answers as the end has counted make the end
    pub stops : (n i : ℕ) (s : Walk A) → Ended (go n s).phase → (go n s).count ≤ s.count + i → go i s ≡ go n s
    unfolding run
    stops zero i s e h = by_turn (takes s (said s))
      where
        by_turn : Takes s (said s) → go i s ≡ s
        by_turn (inl (x, r)) = stays name d cap heard i s r
        by_turn (inr (x, r)) = absurd (x e)
    stops (suc n) zero s e h = by_turn (takes s (said s))
      where
        by_turn : Takes s (said s) → s ≡ go (suc n) s
        by_turn (inl (x, r)) = sym (stays name d cap heard (suc n) s r)
        by_turn (inr (x, r)) = absurd (omega (arith, grows n (take_in s (said s))))
    stops (suc n) (suc i) s e h = by_turn (takes s (said s)) (stops n i (take_in s (said s)) e)
      where
        by_turn : Takes s (said s)
            → ((go n (take_in s (said s))).count ≤ (take_in s (said s)).count + i
            → go i (take_in s (said s)) ≡ go n (take_in s (said s)))
            → go (suc i) s ≡ go (suc n) s
        by_turn (inl (x, r)) more =
            stays name d cap heard (suc i) s r ∙ sym (stays name d cap heard (suc n) s r)
        by_turn (inr (x, r)) more = more (omega arith)
