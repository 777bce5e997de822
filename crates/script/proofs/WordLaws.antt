-- The words of a line, as `split` gives them, how many spaces it has, and the place of a name for a loop that goes
-- through the names. Assumes nothing.
use Rattle.std.proofs.Common.{◌≡◌, Bool, true, false, cond, List, [], ◌∷◌, Option, Some, None, ℕ, zero, suc, ◌+◌, ◌-◌, ◌<◌, ◌≤◌, length, refl, ap, ◌∙◌, arith, add-one, eqb}
use Rattle.std.specs.Prelude.{option_map, unwrap_or, slice_get}
use Rattle.std.specs.List.{slice_split, onto_first, filter}
use denote.Ref.{Bor}
use Rattle.octets.specs.Octets.{place_of}
use Rattle.identity.specs.Identity.{same}
use Rattle.script.specs.Words.{first_of, behind_first, word_at, spaces_in, place_from}

-- ---- the words

abbrev pub is_space : ℕ → Bool
is_space c = eqb c 0x20

-- one part of a split; none is like an empty one
abbrev part_at : List (List ℕ) → ℕ → List ℕ
part_at ps n = unwrap_or (slice_get ps n) []

word-empty : (n : ℕ) → [] ≡ word_at n []
unfolding word_at first_of behind_first place_of
word-empty zero = refl
word-empty (suc n) = word-empty n

word-split : (s : List ℕ) (n : ℕ) → part_at (slice_split is_space s) n ≡ word_at n s
unfolding word_at first_of behind_first place_of
word-split [] zero = word-empty 0
word-split [] (suc n) = word-empty (suc n)
word-split (x ∷ s) n = go (eqb x 0x20) refl (slice_split is_space s) (word-split s) n
  where
    go : (t : Bool) → eqb x 0x20 ≡ t → (ps : List (List ℕ)) → ((n : ℕ) → part_at ps n ≡ word_at n s) → (n : ℕ)
        → part_at (cond t ([] ∷ ps) (onto_first x ps)) n ≡ word_at n (x ∷ s)
    go true e ps h zero = rw e
    go true e ps h (suc n) = rw e (h n)
    go false e [] h zero = rw e (ap (λ (w : List ℕ). x ∷ w) (h 0))
    go false e [] h (suc n) = rw e (h (suc n))
    go false e (p ∷ ps) h zero = rw e (ap (λ (w : List ℕ). x ∷ w) (h 0))
    go false e (p ∷ ps) h (suc n) = rw e (h (suc n))

pub word-nth : (r : Option (Bor (List ℕ))) (d : Bor (List ℕ)) (n : ℕ) (s : List ℕ) → d.now ≡ []
    → option_map (λ x. x.now) r ≡ slice_get (slice_split is_space s) n → (unwrap_or r d).now ≡ word_at n s
word-nth r d n s e f = go r ∙ ap (λ (o : Option (List ℕ)). unwrap_or o []) f ∙ word-split s n
  where
    go : (r : Option (Bor (List ℕ))) → (unwrap_or r d).now ≡ unwrap_or (option_map (λ x. x.now) r) []
    go (Some x) = refl
    go None = e

-- ---- the spaces

pub spaces-counted : (s : List ℕ) → length (filter is_space s) ≡ spaces_in s
unfolding spaces_in
spaces-counted [] = refl
spaces-counted (x ∷ s) = go (eqb x 0x20) (spaces-counted s)
  where
    go : (t : Bool) {n : ℕ} → length (filter is_space s) ≡ n
        → length (cond t (x ∷ filter is_space s) (filter is_space s)) ≡ cond t (suc n) n
    go true e = ap suc e
    go false e = e

-- ---- the place of a name, for a loop that goes through the names by i

module _ (names name : List ℕ) (i n : ℕ) {w : Option ℕ} (v : place_from i (n - i) names name ≡ w) where
  pub name-here : i < n → same (word_at i names) name ≡ true → Some i ≡ w
  unfolding place_from
  name-here h e =
      let m : n - i ≡ suc (n - suc i) = omega arith in
      rw (m, e) at v

  pub name-more : i < n → same (word_at i names) name ≡ false → place_from (i + 1) (n - (i + 1)) names name ≡ w
  unfolding place_from
  name-more h e =
      let m : n - i ≡ suc (n - suc i) = omega arith in
      rw add-one (rw (m, e) at v)

  pub name_done : n ≤ i → None ≡ w
  unfolding place_from
  name_done h =
      let m : n - i ≡ 0 = omega arith in
      rw m at v
