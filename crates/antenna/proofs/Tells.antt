-- An indication tells every change: whoever was told the one row, and reads its pairs, knows the other; and its codes
-- are those whose flags differ, each once, ascending. Assumes nothing.
use mathlib.Core.Path.{◌≡◌, refl, sym, ap, ◌∙◌}
use mathlib.Core.Bool.{Bool, true, false, cond}
use mathlib.Core.List.{List, [], ◌∷◌}
use mathlib.Core.Logic.{◌↔◌}
use Prim.Native.Nat.{ℕ, zero, suc, ◌*◌}
use native.Mathlib.Omega.{arith}
use borrow.Author.Tests.{eq-eqb, ne_eqb}
use lib.Dec.{eqb}
use lib.ListN.{length, get_or, set}
use Rattle.octets.specs.Octets.{holds, place_of}
use Rattle.octets.proofs.Words.{true-not-false, holds-head, holds-tail}
use Rattle.antenna.specs.Alarms.{alarm_codes, flag_octet, differs, changes_among, changes_of, Ascending}
use Rattle.antenna.specs.Alarms.{codes_among, flag_among, flag_of, codes_in, applied_among, applied}
use Rattle.antenna.proofs.Codes.{below-not, codes-ascend, codes-exactly, codes-ascending}

place-first : (c : ℕ) (cs : List ℕ) → place_of c (c ∷ cs) ≡ 0
unfolding place_of
place-first c cs = rw (eq-eqb c c refl)

place-later : (c d : ℕ) (cs : List ℕ) → (c ≡ d → ⊥) → place_of d (c ∷ cs) ≡ suc (place_of d cs)
unfolding place_of
place-later c d cs n = rw (ne_eqb c d n)

-- a code that is in no pair: its flag stays
beyond : (c : ℕ) (cs ds : List ℕ) (ps ts : List Bool) (f : Bool) (fs : List Bool) → holds c ds ≡ false
    → applied_among (c ∷ cs) (changes_among ds ps ts) (f ∷ fs) ≡ f ∷ applied_among cs (changes_among ds ps ts) fs
unfolding applied_among changes_among
beyond c cs [] ps ts f fs h = refl
beyond c cs (d ∷ ds) [] ts f fs h = refl
beyond c cs (d ∷ ds) (p ∷ ps) [] f fs h = refl
beyond c cs (d ∷ ds) (p ∷ ps) (t ∷ ts) f fs h =
    go (differs p t) (λ gs. beyond c cs ds ps ts f gs (holds-tail c d ds h))
  where
    go : (b : Bool)
        → ((gs : List Bool) → applied_among (c ∷ cs) (changes_among ds ps ts) (f ∷ gs)
        ≡ f ∷ applied_among cs (changes_among ds ps ts) gs)
        → applied_among (c ∷ cs) (cond b (d ∷ flag_octet p ∷ changes_among ds ps ts) (changes_among ds ps ts)) (f ∷ fs)
        ≡ f ∷ applied_among cs (cond b (d ∷ flag_octet p ∷ changes_among ds ps ts) (changes_among ds ps ts)) fs
    go true less =
        ap
        (λ (i : ℕ). applied_among (c ∷ cs) (changes_among ds ps ts) (set (f ∷ fs) i (eqb (flag_octet p) 1)))
        (place-later c d cs (λ e. holds-head c d ds h (sym e)))
        ∙ less (set fs (place_of d cs) (eqb (flag_octet p) 1))
    go false less = less fs

state-back : (p : Bool) → eqb (flag_octet p) 1 ≡ p
state-back true = refl
state-back false = refl

alike : (p t : Bool) → differs p t ≡ false → t ≡ p
alike true true e = refl
alike true false e = sym e
alike false t e = e

pub among-tell : (cs : List ℕ) (ps ts : List Bool) → Ascending cs → length ps ≡ length cs → length ts ≡ length cs
    → applied_among cs (changes_among cs ps ts) ts ≡ ps
unfolding applied_among changes_among
among-tell [] [] [] a m n = refl
among-tell [] [] (t ∷ ts) a m n = let none : ⊥ = omega (arith, n) in absurd none
among-tell [] (p ∷ ps) ts a m n = let none : ⊥ = omega (arith, m) in absurd none
among-tell (c ∷ cs) [] ts a m n = let none : ⊥ = omega (arith, m) in absurd none
among-tell (c ∷ cs) (p ∷ ps) [] a m n = let none : ⊥ = omega (arith, n) in absurd none
among-tell (c ∷ cs) (p ∷ ps) (t ∷ ts) a m n =
    go (differs p t) refl (among-tell cs ps ts a.1 (omega (arith, m)) (omega (arith, n)))
  where
    rest : (f : Bool) → applied_among cs (changes_among cs ps ts) ts ≡ ps
        → applied_among (c ∷ cs) (changes_among cs ps ts) (f ∷ ts) ≡ f ∷ ps
    rest f less = beyond c cs cs ps ts f ts (below-not c cs a.0) ∙ ap (λ (fs : List Bool). f ∷ fs) less

    go : (b : Bool) → differs p t ≡ b → applied_among cs (changes_among cs ps ts) ts ≡ ps
        → applied_among (c ∷ cs) (cond b (c ∷ flag_octet p ∷ changes_among cs ps ts) (changes_among cs ps ts)) (t ∷ ts)
        ≡ p ∷ ps
    go true e less =
        ap
        (λ (i : ℕ). applied_among (c ∷ cs) (changes_among cs ps ts) (set (t ∷ ts) i (eqb (flag_octet p) 1)))
        (place-first c cs)
        ∙ ap (λ (f : Bool). applied_among (c ∷ cs) (changes_among cs ps ts) (f ∷ ts)) (state-back p)
        ∙ rest p less
    go false e less = rw (alike p t e) (rest p less)

-- "pairs alarm and 1 (raised) or 0, ascending, for alarms whose present state differs from what was told": none is lost
pub tells_all : (present told : List Bool) → length present ≡ 6 → length told ≡ 6
    → applied (changes_of present told) told ≡ present
tells_all present told m n = among-tell alarm_codes present told codes-ascend m n

-- where the rows differ
differing : List Bool → List Bool → List Bool
differing [] ts = []
differing (p ∷ ps) [] = []
differing (p ∷ ps) (t ∷ ts) = differs p t ∷ differing ps ts

codes-differing : (cs : List ℕ) (ps ts : List Bool)
    → codes_in (changes_among cs ps ts) ≡ codes_among cs (differing ps ts)
unfolding codes_in changes_among codes_among differing
codes-differing [] ps ts = refl
codes-differing (c ∷ cs) [] ts = refl
codes-differing (c ∷ cs) (p ∷ ps) [] = refl
codes-differing (c ∷ cs) (p ∷ ps) (t ∷ ts) = go (differs p t) (codes-differing cs ps ts)
  where
    go : (b : Bool) → codes_in (changes_among cs ps ts) ≡ codes_among cs (differing ps ts)
        → codes_in (cond b (c ∷ flag_octet p ∷ changes_among cs ps ts) (changes_among cs ps ts))
        ≡ cond b (c ∷ codes_among cs (differing ps ts)) (codes_among cs (differing ps ts))
    go true less = ap (λ (ks : List ℕ). c ∷ ks) less
    go false less = less

differing-at : (ps ts : List Bool) (i : ℕ) → length ps ≡ length ts
    → get_or (differing ps ts) i false ≡ differs (get_or ps i false) (get_or ts i false)
unfolding differing
differing-at [] [] i e = refl
differing-at [] (t ∷ ts) i e = let none : ⊥ = omega (arith, e) in absurd none
differing-at (p ∷ ps) [] i e = let none : ⊥ = omega (arith, e) in absurd none
differing-at (p ∷ ps) (t ∷ ts) zero e = refl
differing-at (p ∷ ps) (t ∷ ts) (suc i) e = differing-at ps ts i (omega (arith, e))

differs-exactly : (a b : Bool) → differs a b ≡ true ↔ (a ≡ b → ⊥)
differs-exactly true true = (λ e. absurd (true-not-false (sym e)), λ n. absurd (n refl))
differs-exactly true false = (λ e q. true-not-false q, λ n. refl)
differs-exactly false true = (λ e q. true-not-false (sym q), λ n. refl)
differs-exactly false false = (λ e. absurd (true-not-false (sym e)), λ n. absurd (n refl))

module _ (present told : List Bool) where
  -- an alarm is told exactly if its "present state differs from what was told"
  pub tells-exactly : (k : ℕ) → length present ≡ length told
      → holds k (codes_in (changes_of present told)) ≡ true
      ↔ (holds k alarm_codes ≡ true) × (flag_of k present ≡ flag_of k told → ⊥)
  unfolding flag_among
  tells-exactly k e =
      let same : flag_of k (differing present told) ≡ differs (flag_of k present) (flag_of k told) =
      differing-at present told (place_of k alarm_codes) e in
      let differ = differs-exactly (flag_of k present) (flag_of k told) in
      let here = codes-exactly k (differing present told) in
      let codes = codes-differing alarm_codes present told in (
        λ h. let w = here.0 (rw codes at h) in (w.0, differ.0 (sym same ∙ w.1)),
        λ w. rw codes (here.1 (w.0, same ∙ differ.1 w.1)),
      )

  -- "ascending", so each once
  pub tells-ascending : Ascending (codes_in (changes_of present told))
  tells-ascending = rw (codes-differing alarm_codes present told) (codes-ascending (differing present told))

-- in pairs, and nothing behind them
pairs-whole : (cs : List ℕ) (ps ts : List Bool)
    → length (changes_among cs ps ts) ≡ 2 * length (codes_in (changes_among cs ps ts))
unfolding codes_in changes_among
pairs-whole [] ps ts = refl
pairs-whole (c ∷ cs) [] ts = refl
pairs-whole (c ∷ cs) (p ∷ ps) [] = refl
pairs-whole (c ∷ cs) (p ∷ ps) (t ∷ ts) = go (differs p t) (pairs-whole cs ps ts)
  where
    go : (b : Bool) → length (changes_among cs ps ts) ≡ 2 * length (codes_in (changes_among cs ps ts))
        → length (cond b (c ∷ flag_octet p ∷ changes_among cs ps ts) (changes_among cs ps ts))
        ≡ 2 * length (codes_in (cond b (c ∷ flag_octet p ∷ changes_among cs ps ts) (changes_among cs ps ts)))
    go true less = omega (arith, less)
    go false less = less

pub tells-pairs : (present told : List Bool)
    → length (changes_of present told) ≡ 2 * length (codes_in (changes_of present told))
tells-pairs present told = pairs-whole alarm_codes present told
