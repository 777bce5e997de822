-- A word looked for in a list that a loop goes through by an index i, and the last one of a list; two tests joined.
-- Assumes nothing.
use mathlib.Core.Path.{◌≡◌, refl, sym, ap, ◌∙◌}
use mathlib.Core.Bool.{Bool, true, false, cond, not, ◌&&◌, ◌||◌}
use mathlib.Core.List.{List, [], ◌∷◌}
use mathlib.Core.Logic.{◌↔◌, ◌⊎◌, inl, inr, ⊎_elim}
use Prim.Native.Nat.{ℕ, zero, suc, ◌+◌, ◌-◌, ◌<◌, ◌≤◌}
use native.Mathlib.Nat.{le_of_suc-le-suc, not-suc-le-zero}
use native.Mathlib.Omega.{arith}
use borrow.Author.Tests.{eqb-true, eqb-false, eq-eqb, ne_eqb, lt-ltb, ltb-false}
use lib.Dec.{eqb, ltb, leb-suc-suc}
use lib.ListN.{length, get_or, drop, drop_of_length-le}
use Rattle.std.proofs.lemmas.List.Recursion.{is_position_or_len}
use Rattle.std.proofs.lemmas.List.Sums.{prefix_len-le-length}
use Rattle.std.specs.List.{list_any, position, position_or_len}
use Rattle.std.proofs.Common.{Option}
use Rattle.std.specs.Option.{unwrap_or}
use Rattle.octets.specs.Octets.{holds, OneOf, place_of, last_of}
use Rattle.octets.proofs.Rest.{rest}

pub true-not-false : true ≡ false → ⊥
true-not-false e = let z : ◌≡◌ {A = ℕ} 0 1 = cc in omega arith

-- of two tests, both
pub and_parts : (a b : Bool) → (a && b) ≡ true → (a ≡ true) × (b ≡ true)
and_parts true b e = (refl, e)
and_parts false b e = absurd (true-not-false (sym e))

-- of two tests, of which one holds, or none
pub or_parts : (a b : Bool) → (a || b) ≡ true → (a ≡ true) ⊎ (b ≡ true)
or_parts true b e = inl refl
or_parts false b e = inr e

pub or-none : (a b : Bool) → (a || b) ≡ false → (a ≡ false) × (b ≡ false)
or-none true b e = absurd (true-not-false e)
or-none false b e = (refl, e)

module _ (x y : ℕ) (ys : List ℕ) (h : holds x (y ∷ ys) ≡ false) where
  pub holds-head : y ≡ x → ⊥
  unfolding holds
  holds-head e = true-not-false (rw (eq-eqb y x e) at h)

  pub holds-tail : holds x ys ≡ false
  unfolding holds
  holds-tail = rw (ne_eqb y x holds-head) at h

-- the test, in words
pub holds-exactly : (k : ℕ) (cs : List ℕ) → holds k cs ≡ true ↔ OneOf k cs
unfolding holds
holds-exactly k [] = (λ e. absurd (true-not-false (sym e)), λ w. absurd w)
holds-exactly k (c ∷ cs) = go (eqb c k) refl (holds-exactly k cs)
  where
    go : (t : Bool) → eqb c k ≡ t → (holds k cs ≡ true ↔ OneOf k cs)
        → cond t true (holds k cs) ≡ true ↔ OneOf k (c ∷ cs)
    go true e less = (λ h. inl (sym (eqb-true c k e)), λ w. refl)
    go false e less = (λ h. inr (less.0 h), ⊎_elim (λ q. absurd (eqb-false c k e (sym q))) less.1)

pub holds_not : (x y : ℕ) (ys : List ℕ) → (y ≡ x → ⊥) → holds x ys ≡ false → holds x (y ∷ ys) ≡ false
unfolding holds
holds_not x y ys n h = rw (ne_eqb y x n) h

-- what a list does not hold stands at none of its places
pub holds-nowhere : (x : ℕ) (s : List ℕ) → holds x s ≡ false → (i : ℕ) → i < length s → get_or s i 0 ≡ x → ⊥
holds-nowhere x [] h i b e = absurd (not-suc-le-zero b)
holds-nowhere x (y ∷ ys) h zero b e = holds-head x y ys h e
holds-nowhere x (y ∷ ys) h (suc i) b e = holds-nowhere x ys (holds-tail x y ys h) i (le_of_suc-le-suc b) e

-- the place of x is the library's, where it has one
place-first : (x : ℕ) (s : List ℕ) → place_of x s ≡ position_or_len (λ y. eqb y x) s
unfolding place_of
place-first x s = is_position_or_len (place_of x) (λ y. eqb y x) refl
    (λ y ys. let n : suc (place_of x ys) ≡ 1 + place_of x ys = omega arith in ap (λ (m : ℕ). cond (eqb y x) 0 m) n) s

pub place-found : (x : ℕ) (s : List ℕ) {r : Option ℕ} → r ≡ position (λ y. eqb y x) s → unwrap_or r (length s) ≡ place_of x s
place-found x s {r} e = go (ltb n (length s)) refl
  where
    n : ℕ
    n = position_or_len (λ y. eqb y x) s

    go : (t : Bool) → ltb n (length s) ≡ t → unwrap_or r (length s) ≡ place_of x s
    go true t = rw (e, t) (sym (place-first x s))
    go false t =
        let most : n ≡ length s = omega (arith, ltb-false n (length s) t, prefix_len-le-length (λ y. not (eqb y x)) s) in
        rw (e, t) (sym most ∙ sym (place-first x s))

-- the library's test
pub holds-any : (x : ℕ) (s : List ℕ) → list_any (λ y. eqb y x) s ≡ holds x s
unfolding holds
holds-any x [] = refl
holds-any x (y ∷ ys) = go (eqb y x) (holds-any x ys)
  where
    go : (t : Bool) {a b : Bool} → a ≡ b → (t || a) ≡ cond t true b
    go true e = refl
    go false e = e

-- what a list holds has a place in it, and what it does not hold has none
pub place-held : (x : ℕ) (s : List ℕ) → holds x s ≡ ltb (place_of x s) (length s)
unfolding holds place_of
place-held x [] = refl
place-held x (y ∷ ys) = go (eqb y x) refl (place-held x ys)
  where
    go : (t : Bool) → eqb y x ≡ t → holds x ys ≡ ltb (place_of x ys) (length ys)
        → cond t true (holds x ys) ≡ ltb (cond t 0 (suc (place_of x ys))) (suc (length ys))
    go true e h = sym (lt-ltb 0 (suc (length ys)) (omega arith))
    go false e h = h ∙ sym (leb-suc-suc (suc (place_of x ys)) (length ys))

pub last_cons : (d x : ℕ) (xs : List ℕ) (e : ℕ) → last_of d (x ∷ xs) ≡ get_or (x ∷ xs) (length xs) e
unfolding last_of
last_cons d x [] e = refl
last_cons d x (y ∷ ys) e = last_cons x y ys e

pub last-at : (d : ℕ) (s : List ℕ) (e : ℕ) → 0 < length s → last_of d s ≡ get_or s (length s - 1) e
last-at d [] e h = absurd (not-suc-le-zero h)
last-at d (x ∷ xs) e h = let n : suc (length xs) - 1 ≡ length xs = omega arith in rw n (last_cons d x xs e)

pub last_empty : (d : ℕ) (s : List ℕ) → length s ≡ 0 → last_of d s ≡ d
unfolding last_of
last_empty d [] e = refl
last_empty d (x ∷ xs) e = let none : ⊥ = omega (arith, e) in absurd none
