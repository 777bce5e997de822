-- What a walk asks after i answers: a walk with the limit i would end there, and names the same beginning.
-- Assumes nothing.
use mathlib.Core.Path.{◌≡◌, refl, sym, ap, ◌∙◌, subst}
use mathlib.Core.Bool.{Bool, true, false, cond, ◌||◌}
use mathlib.Core.List.{List, [], ◌∷◌, ◌++◌}
use mathlib.Core.Option.{Option, none, some}
use Prim.Native.Nat.{ℕ, zero, suc, ◌+◌, ◌≤◌, ◌<◌}
use native.Mathlib.Omega.{arith}
use borrow.Author.Tests.{lt-ltb, ltb-false}
use lib.Dec.{ltb}
use lib.ListN.{length, get_or}
use Rattle.identity.specs.Bits.{Bits}
use Rattle.walk.specs.Beginnings.{then}
use Rattle.walk.specs.Probes.{Mark, asked, beginnings_of, place}
use Rattle.walk.specs.Machine.{next, zero_half, Phase, asking, complete, doubtful, limited, full, named}
use Rattle.walk.specs.Machine.{Walk, go_on, start, listing, noted, step_in, step, run}
use Rattle.walk.specs.Demand.{AsksNext}
use Rattle.walk.proofs.Play.{ended}
use Rattle.walk.proofs.Places.{asked-at, place-hit, place-bound}
use Rattle.walk.proofs.Endings.{probes, Ending, all_asked, at-limit, at-full, ending}

module _ {A : Type 0} (name : Bits → A) (d cap : ℕ) (heard : Bits → Bool) (i l : ℕ) (less : i < l) where
  -- how the walk with the limit i stands, after c answers, beside the one with the limit l
  abbrev Beside : ℕ → Phase → Phase → Type 0
  Beside c (asking p q w) x = x ≡ asking p q w
  Beside c complete x = x ≡ complete
  Beside c doubtful x = x ≡ doubtful
  Beside c (limited p) x = (i ≤ c) × (q : Bool) × (w : Bool) × (x ≡ asking p q w)
  Beside c (full p) x = x ≡ full p

  abbrev BesideAt : Walk A → Walk A → Type 0
  BesideAt s t = Beside s.count s.phase t.phase

  abbrev go : ℕ → Walk A → Walk A
  go n s = run name d cap heard n s

  beside-go : (c : ℕ) (q w : Bool) (at : Option Bits) → c ≤ i → Beside c (go_on i c q w at) (go_on l c q w at)
  unfolding go_on
  beside-go c q true none h = refl
  beside-go c q false none h = refl
  beside-go c q w (some p) h = rw (lt-ltb c l (omega arith)) (by-test (ltb c i) refl)
    where
      by-test : (t : Bool) → ltb c i ≡ t → Beside c (cond t (asking p q w) (limited p)) (asking p q w)
      by-test true e = refl
      by-test false e = (ltb-false c i e, q, w, refl)

  -- n answers more, on either
  abbrev More : ℕ → Type 0
  More n =
      (c : ℕ) (f : List A) (x y : Phase) → c + n ≤ i → Beside c x y
      → BesideAt (go n (ended i c f x)) (go n (ended l c f y))

  beside-noted : (n : ℕ) → More n → (c : ℕ) (f : List A) (p : Bits) (q w a : Bool) → c + suc n ≤ i
      → BesideAt (go n (noted name d cap i c f p q w a)) (go n (noted name d cap l c f p q w a))
  unfolding noted listing
  beside-noted n more c f p q w false h =
      more (suc c) f _ _ (omega arith) (beside-go (suc c) (zero_half p) (w || q) (next p) (omega arith))
  beside-noted n more c f p q w true h = by_tests (ltb (length p) d) (ltb (length f) cap)
    where
      settled : ℕ → List A → Option Bits → Walk A
      settled k g at = ended k (suc c) g (go_on k (suc c) false w at)

      by_tests : (t u : Bool)
          → BesideAt
          (go n (cond t (settled i f (some (then p false)))
          (cond u (settled i (f ++ (name p ∷ [])) (next p)) (ended i (suc c) f (full p)))))
          (go n (cond t (settled l f (some (then p false)))
          (cond u (settled l (f ++ (name p ∷ [])) (next p)) (ended l (suc c) f (full p)))))
      by_tests true u =
          more (suc c) f _ _ (omega arith) (beside-go (suc c) false w (some (then p false)) (omega arith))
      by_tests false true =
          more (suc c) (f ++ (name p ∷ [])) _ _ (omega arith) (beside-go (suc c) false w (next p) (omega arith))
      by_tests false false = more (suc c) f (full p) (full p) (omega arith) refl

  beside-run : (n : ℕ) → More n
  unfolding run step noted step_in named
  beside-run zero c f x y h k = k
  beside-run (suc n) c f (asking p q w) y h k =
      rw k (beside-noted n (beside-run n) c f p q w (heard p) h)
  beside-run (suc n) c f complete y h k = rw k (beside-run n c f complete complete (omega arith) refl)
  beside-run (suc n) c f doubtful y h k = rw k (beside-run n c f doubtful doubtful (omega arith) refl)
  beside-run (suc n) c f (limited p) y h k = absurd (omega (arith, k.0))
  beside-run (suc n) c f (full p) y h k = rw k (beside-run n c f (full p) (full p) (omega arith) refl)

  beside : BesideAt (go i (start i)) (go i (start l))
  beside = beside-run i 0 [] _ _ (omega arith) (beside-go 0 false false (some []) (omega arith))

  -- what is asked after i answers, if the probes answered are more
  pub asks-next : i < place cap (probes name d cap l heard)
      → AsksNext (get_or (beginnings_of (probes name d cap l heard)) i []) (run name d cap heard i (start l))
  asks-next h = by_end (ending name d cap i heard)
    where
      ms : List Mark
      ms = probes name d cap l heard

      by_end : Ending name d cap i heard → AsksNext (get_or (beginnings_of ms) i []) (go i (start l))
      by_end (all_asked a b e) = absurd (omega (arith, place-bound cap ms))
      by_end (at-full ys p zs e a b r) = absurd (omega (arith, ap (place cap) e, place-hit cap ys p zs b))
      by_end (at-limit ys m zs e a b r) =
          let (n, q, w, g) =
          subst (λ (s : Walk A). Beside s.count s.phase (go i (start l)).phase) r beside in
          let there : get_or (beginnings_of ms) i [] ≡ asked m =
          ap (λ (x : List Mark). get_or (beginnings_of x) i []) e ∙ asked-at ys m zs i a in
          (q, w, g ∙ ap (λ (x : Bits). asking x q w) (sym there))
