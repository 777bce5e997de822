-- Which alarms a row of flags raises: the codes whose flags are set, ascending; what an alarm event makes of them.
-- Assumes nothing.
use mathlib.Core.Path.{◌≡◌, refl, sym, ◌∙◌}
use mathlib.Core.Bool.{Bool, true, false, cond}
use mathlib.Core.List.{List, [], ◌∷◌}
use mathlib.Core.Logic.{◌↔◌, ◌⊎◌, inl, inr, ⊎_elim}
use Prim.Native.Nat.{ℕ, suc, ◌<◌}
use native.Mathlib.Omega.{arith}
use borrow.Author.Tests.{eqb-true, eqb-false, ltb-true}
use lib.Dec.{eqb, lit<}
use lib.ListN.{length, get_or, set}
use lib.Seq.{get_or-set_same, get_or-set_other}
use Rattle.octets.specs.Octets.{holds, place_of}
use Rattle.octets.proofs.Words.{true-not-false, holds_not, place-held}
use Rattle.antenna.specs.Alarms.{alarm_codes, codes_among, codes_of, flag_among, flag_of, BelowAll, Ascending}

-- what is below all of a list does not stand in it
pub below-not : (k : ℕ) (ns : List ℕ) → BelowAll k ns → holds k ns ≡ false
unfolding holds
below-not k [] b = refl
below-not k (n ∷ ns) b = holds_not k n ns (λ e. omega (arith, b.0, e)) (below-not k ns b.1)

-- the six codes ascend
pub codes-ascend : Ascending alarm_codes
codes-ascend = (
  (lit< tt, (lit< tt, (lit< tt, (lit< tt, (lit< tt, tt))))),
  (
    (lit< tt, (lit< tt, (lit< tt, (lit< tt, tt)))),
    (
      (lit< tt, (lit< tt, (lit< tt, tt))),
      ((lit< tt, (lit< tt, tt)), ((lit< tt, tt), (tt, tt))),
    ),
  ),
)

below-codes : (k : ℕ) (cs : List ℕ) (fs : List Bool) → BelowAll k cs → BelowAll k (codes_among cs fs)
unfolding codes_among
below-codes k [] fs b = tt
below-codes k (c ∷ cs) [] b = tt
below-codes k (c ∷ cs) (true ∷ fs) b = (b.0, below-codes k cs fs b.1)
below-codes k (c ∷ cs) (false ∷ fs) b = below-codes k cs fs b.1

pub among-ascending : (cs : List ℕ) (fs : List Bool) → Ascending cs → Ascending (codes_among cs fs)
unfolding codes_among
among-ascending [] fs a = tt
among-ascending (c ∷ cs) [] a = tt
among-ascending (c ∷ cs) (true ∷ fs) a = (below-codes c cs fs a.0, among-ascending cs fs a.1)
among-ascending (c ∷ cs) (false ∷ fs) a = among-ascending cs fs a.1

-- "raised alarms, ascending"
pub codes-ascending : (fs : List Bool) → Ascending (codes_of fs)
codes-ascending fs = among-ascending alarm_codes fs codes-ascend

-- a code is among those of a row exactly if it is one and its flag is set
module _ (k : ℕ) where
  pub among-exactly : (cs : List ℕ) (fs : List Bool) → Ascending cs
      → holds k (codes_among cs fs) ≡ true ↔ (holds k cs ≡ true) × (flag_among cs k fs ≡ true)
  unfolding holds codes_among flag_among place_of
  among-exactly [] fs a = (λ e. absurd (true-not-false (sym e)), λ w. w.0)
  among-exactly (c ∷ cs) [] a = (λ e. absurd (true-not-false (sym e)), λ w. absurd (true-not-false (sym w.1)))
  among-exactly (c ∷ cs) (f ∷ fs) a = go (eqb c k) f refl (among-exactly cs fs a.1)
    where
      gone : eqb c k ≡ true → holds k (codes_among cs fs) ≡ false
      gone e =
          let q : c ≡ k = eqb-true c k e in
          below-not k (codes_among cs fs) (rw q at (below-codes c cs fs a.0))

      go : (t g : Bool) → eqb c k ≡ t
          → (holds k (codes_among cs fs) ≡ true ↔ (holds k cs ≡ true) × (flag_among cs k fs ≡ true))
          → holds k (cond g (c ∷ codes_among cs fs) (codes_among cs fs)) ≡ true
          ↔ (cond t true (holds k cs) ≡ true) × (get_or (g ∷ fs) (cond t 0 (suc (place_of k cs))) false ≡ true)
      go true true e ih = (λ h. (refl, refl), λ w. rw e)
      go true false e ih =
          (λ h. absurd (true-not-false (sym h ∙ gone e)), λ w. absurd (true-not-false (sym w.1)))
      go false true e ih = (λ h. ih.0 (rw e at h), λ w. rw e (ih.1 w))
      go false false e ih = ih

  -- "raised alarms": a code is among them exactly if it is an alarm's and its flag is set
  pub codes-exactly : (fs : List Bool)
      → holds k (codes_of fs) ≡ true ↔ (holds k alarm_codes ≡ true) × (flag_of k fs ≡ true)
  codes-exactly fs = among-exactly alarm_codes fs codes-ascend

-- two codes at one place are one
place-apart : (j k : ℕ) (cs : List ℕ) → holds j cs ≡ true → place_of j cs ≡ place_of k cs → j ≡ k
unfolding holds place_of
place-apart j k [] h e = absurd (true-not-false (sym h))
place-apart j k (c ∷ cs) h e = go (eqb c j) (eqb c k) refl refl (place-apart j k cs) h e
  where
    go : (t u : Bool) → eqb c j ≡ t → eqb c k ≡ u
        → (holds j cs ≡ true → place_of j cs ≡ place_of k cs → j ≡ k) → cond t true (holds j cs) ≡ true
        → cond t 0 (suc (place_of j cs)) ≡ cond u 0 (suc (place_of k cs)) → j ≡ k
    go true true p q less g n = sym (eqb-true c j p) ∙ eqb-true c k q
    go true false p q less g n = let none : ⊥ = omega (arith, n) in absurd none
    go false true p q less g n = let none : ⊥ = omega (arith, n) in absurd none
    go false false p q less g n = less g (omega (arith, n))

-- the flag of k set to v
abbrev with : ℕ → List Bool → Bool → List Bool
with k fs v = set fs (place_of k alarm_codes) v

-- in a row of six
module _ (k : ℕ) (fs : List Bool) (v : Bool) (six : length fs ≡ 6) (known : holds k alarm_codes ≡ true) where
  flag_same : flag_of k (set fs (place_of k alarm_codes) v) ≡ v
  unfolding flag_among
  flag_same =
      let inside : place_of k alarm_codes < 6 =
      ltb-true (place_of k alarm_codes) 6 (sym (place-held k alarm_codes) ∙ known) in
      get_or-set_same fs (place_of k alarm_codes) v false (rw six inside)

  flag-other : (j : ℕ) → holds j alarm_codes ≡ true → (j ≡ k → ⊥)
      → flag_of j (set fs (place_of k alarm_codes) v) ≡ flag_of j fs
  unfolding flag_among
  flag-other j h n =
      get_or-set_other fs (place_of k alarm_codes) (place_of j alarm_codes) v false
      (λ e. n (place-apart j k alarm_codes h e))

-- "Alarm events raise or clear one"
module _ (j k : ℕ) (fs : List Bool) (six : length fs ≡ 6) (known : holds k alarm_codes ≡ true) where
  pub raise-exactly : holds j (codes_of (set fs (place_of k alarm_codes) true)) ≡ true
      ↔ (j ≡ k) ⊎ (holds j (codes_of fs) ≡ true)
  raise-exactly = go (eqb j k) refl
    where
      go : (t : Bool) → eqb j k ≡ t
          → holds j (codes_of (with k fs true)) ≡ true ↔ (j ≡ k) ⊎ (holds j (codes_of fs) ≡ true)
      go true e =
          let q : j ≡ k = eqb-true j k e in (
            λ h. inl q,
            λ w. (codes-exactly j (with k fs true)).1 (rw q known, rw q (flag_same k fs true six known)),
          )
      go false e =
          let n : j ≡ k → ⊥ = eqb-false j k e in (
            λ h. let w = (codes-exactly j (with k fs true)).0 h in
                inr ((codes-exactly j fs).1 (w.0, sym (flag-other k fs true six known j w.0 n) ∙ w.1)),
            ⊎_elim (λ q. absurd (n q)) (λ h. let w = (codes-exactly j fs).0 h in
                (codes-exactly j (with k fs true)).1 (w.0, flag-other k fs true six known j w.0 n ∙ w.1)),
          )

  pub clear-exactly : holds j (codes_of (set fs (place_of k alarm_codes) false)) ≡ true
      ↔ (j ≡ k → ⊥) × (holds j (codes_of fs) ≡ true)
  clear-exactly = (gone, kept)
    where
      gone : holds j (codes_of (with k fs false)) ≡ true → (j ≡ k → ⊥) × (holds j (codes_of fs) ≡ true)
      gone h =
          let w = (codes-exactly j (with k fs false)).0 h in
          let n : j ≡ k → ⊥ =
          λ q. true-not-false (sym w.1 ∙ rw q (flag_same k fs false six known)) in
          (n, (codes-exactly j fs).1 (w.0, sym (flag-other k fs false six known j w.0 n) ∙ w.1))

      kept : (j ≡ k → ⊥) × (holds j (codes_of fs) ≡ true) → holds j (codes_of (with k fs false)) ≡ true
      kept (n, h) =
          let w = (codes-exactly j fs).0 h in
          (codes-exactly j (with k fs false)).1 (w.0, flag-other k fs false six known j w.0 n ∙ w.1)
