-- A table of identifiers: the place of an identifier in it, and what its row allows. Assumes nothing.
use mathlib.Core.Path.{◌≡◌, refl, sym, ap, ◌∙◌}
use mathlib.Core.Bool.{Bool, true, false, cond, ◌&&◌, false≢true}
use mathlib.Core.List.{List, [], ◌∷◌}
use Prim.Native.Nat.{ℕ, suc, ◌+◌, ◌<◌, ◌≤◌}
use native.Mathlib.Nat.{le_of_suc-le-suc, not-suc-le-zero}
use native.Mathlib.Omega.{arith}
use borrow.Author.Tests.{eqb-true}
use lib.Dec.{eqb, leb}
use lib.ListN.{length, get_or}
use Rattle.std.specs.List.{position_or_len}
use Rattle.std.proofs.lemmas.List.Recursion.{is_position_or_len}
use Rattle.params.specs.Field.{right_length}
use Rattle.params.specs.Walk.{place_in}
use Rattle.params.specs.declared.Identifier.{Identifier}

-- the place of n is that of the first row whose identifier it is
pub place_position : (n : ℕ) (t : List Identifier) → place_in n t ≡ position_or_len (λ (r : Identifier). eqb r.id n) t
unfolding place_in
place_position n t =
    is_position_or_len (place_in n) (λ (r : Identifier). eqb r.id n) refl
    (λ r s. let next : suc (place_in n s) ≡ 1 + place_in n s = omega arith in ap (cond (eqb r.id n) 0) next) t

-- the row that is found says which lengths are right; without one none is
pub right-at : (t : List Identifier) (n k : ℕ) (d : Identifier) → place_in n t < length t
    → right_length t n k
    ≡ (leb (get_or t (place_in n t) d).least k && leb k (get_or t (place_in n t) d).most)
unfolding place_in right_length
right-at [] n k d h = absurd (not-suc-le-zero h)
right-at (r ∷ t) n k d h = go (eqb r.id n) h (right-at t n k d)
  where
    go : (b : Bool) → cond b 0 (suc (place_in n t)) < suc (length t)
        → (place_in n t < length t
        → right_length t n k ≡ (leb (get_or t (place_in n t) d).least k && leb k (get_or t (place_in n t) d).most))
        → cond b (leb r.least k && leb k r.most) (right_length t n k)
        ≡ (leb (get_or (r ∷ t) (cond b 0 (suc (place_in n t))) d).least k
        && leb k (get_or (r ∷ t) (cond b 0 (suc (place_in n t))) d).most)
    go true g more = refl
    go false g more = more (le_of_suc-le-suc g)

pub right-past : (t : List Identifier) (n k : ℕ) → length t ≤ place_in n t → right_length t n k ≡ false
unfolding place_in right_length
right-past [] n k h = refl
right-past (r ∷ t) n k h = go (eqb r.id n) h (right-past t n k)
  where
    go : (b : Bool) → suc (length t) ≤ cond b 0 (suc (place_in n t))
        → (length t ≤ place_in n t → right_length t n k ≡ false)
        → cond b (leb r.least k && leb k r.most) (right_length t n k) ≡ false
    go true g more = absurd (not-suc-le-zero g)
    go false g more = more (le_of_suc-le-suc g)

pub right-inside : (t : List Identifier) (n k : ℕ) → right_length t n k ≡ true → place_in n t < length t
unfolding place_in right_length
right-inside [] n k e = absurd (false≢true e)
right-inside (r ∷ t) n k e = go (eqb r.id n) e (right-inside t n k)
  where
    go : (b : Bool) → cond b (leb r.least k && leb k r.most) (right_length t n k) ≡ true
        → (right_length t n k ≡ true → place_in n t < length t)
        → cond b 0 (suc (place_in n t)) < suc (length t)
    go true g more = omega arith
    go false g more = let h = more g in omega arith

-- different identifiers have different places
row_of : (t : List Identifier) (n : ℕ) (d : Identifier) → place_in n t < length t → (get_or t (place_in n t) d).id ≡ n
unfolding place_in
row_of [] n d h = absurd (not-suc-le-zero h)
row_of (r ∷ t) n d h = go (eqb r.id n) refl h (row_of t n d)
  where
    go : (b : Bool) → eqb r.id n ≡ b → cond b 0 (suc (place_in n t)) < suc (length t)
        → (place_in n t < length t → (get_or t (place_in n t) d).id ≡ n)
        → (get_or (r ∷ t) (cond b 0 (suc (place_in n t))) d).id ≡ n
    go true e g more = eqb-true r.id n e
    go false e g more = more (le_of_suc-le-suc g)

pub places-apart : (t : List Identifier) (n k : ℕ) → place_in n t < length t → (k ≡ n → ⊥) → place_in k t ≡ place_in n t → ⊥
places-apart t n k h apart e =
    let d : Identifier = record { id = 0; least = 0; most = 0 } in
    let there : place_in k t < length t = rw e h in
    apart (sym (row_of t k d there) ∙ ap (λ (i : ℕ). (get_or t i d).id) e ∙ row_of t n d h)
