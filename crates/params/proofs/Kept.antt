-- Where the walk's parts end up: kept one after the other, the triples of a payload leave the parts of all of them
-- exactly if each has a right length and none comes twice. For every table of identifiers. Assumes nothing.
use mathlib.Core.Path.{◌≡◌, refl, sym, ap, ◌∙◌}
use mathlib.Core.Bool.{Bool, true, false, cond, not, ◌&&◌, false≢true, and-false}
use mathlib.Core.List.{List, [], ◌∷◌}
use mathlib.Core.Option.{Option, none, some}
use Prim.Native.Nat.{ℕ, zero, suc, ◌+◌, ◌<◌}
use native.Mathlib.Omega.{arith}
use borrow.Author.Tests.{ne_eqb, not-true, ltb-true, ltb-false}
use lib.Dec.{leb, ltb}
use Rattle.std.proofs.lemmas.Option.{cond_some}
use lib.ListN.{length, get_or, set, length-set, length-replicate}
use lib.Seq.{get_or-set_same, get_or-set_other, set_comm}
use Rattle.octets.specs.Octets.{holds}
use Rattle.octets.proofs.Words.{holds-head, holds-tail, true-not-false}
use Rattle.params.specs.Field.{Param, ◌is◌, right_length, identifiers, all_right, none_twice, checked}
use Rattle.std.specs.Prelude.{is_none, Some, None, Ok}
use Rattle.std.specs.declared.option.Option as code
use Rattle.params.specs.Walk.{place_in, Part, part, no_parts, parts_at, part_in, Found, unformed, found_from}
use Rattle.params.specs.declared.Identifier.{Identifier}
use Rattle.params.proofs.Tables.{right-at, right-past, right-inside, places-apart}

-- both halves of a test
pub both_of : (a b : Bool) → a && b ≡ true → (a ≡ true) × (b ≡ true)
both_of true b e = (refl, e)
both_of false b e = absurd (false≢true e)

pub of-both : {a b : Bool} → a ≡ true → b ≡ true → a && b ≡ true
of-both e f = rw (e, f)

-- ---- the loop's own state: the parts so far, and the triples that are left

-- with the parts f so far a triple n of k octets is taken: its length is right, and it repeats none
abbrev pub fits : List Identifier → List Part → ℕ → ℕ → Bool
fits t f n k = right_length t n k && is_none (part_in f (place_in n t))

abbrev pub formed : List Part → Found
formed f = Ok f

unfoldable pub kept : List Identifier → List Part → ℕ → List Param → Found
kept t f at [] = formed f
kept t f at (n is v ∷ ps) =
    cond (fits t f n (length v))
    (kept t (set f (place_in n t) (part (at + 2) (length v))) (at + 2 + length v) ps) unformed

unfoldable pub kept_from : List Identifier → List Part → ℕ → Option (List Param) → Found
kept_from t f at none = unformed
kept_from t f at (some ps) = kept t f at ps

-- the place for a triple's part, by the row p of its identifier
module _ (t : List Identifier) (f : List Part) (n k : ℕ) where
  pub room-none : cond (ltb (place_in n t) (length t)) (Some (place_in n t)) None ≡ None
      → None ≡ cond (fits t f n k) (Some (place_in n t)) None
  room-none e =
      let past : ltb (place_in n t) (length t) ≡ false = go (ltb (place_in n t) (length t)) e in
      rw (right-past t n k (ltb-false (place_in n t) (length t) past))
    where
      go : (b : Bool) → cond b (Some (place_in n t)) None ≡ None → b ≡ false
      go true i = let z : ◌≡◌ {A = ℕ} 0 1 = cc in let no : ⊥ = omega arith in absurd no
      go false i = refl

  module _ (p : ℕ) (e : cond (ltb (place_in n t) (length t)) (Some (place_in n t)) None ≡ Some p) where
    row_there : (place_in n t < length t) × (p ≡ place_in n t)
    row_there = let (h, i) = cond_some _ _ _ e in (ltb-true (place_in n t) (length t) h, sym i)

    pub room-repeat : is_none (part_in f p) ≡ false → None ≡ cond (fits t f n k) (Some (place_in n t)) None
    room-repeat b = rw (rw row_there.1 at b, and-false (right_length t n k))

    module _ (d : Identifier) where
      fits-at : fits t f n k ≡ ((leb (get_or t p d).least k && leb k (get_or t p d).most) && is_none (part_in f p))
      fits-at =
          let (h, i) = row_there in
          rw i (ap (λ (b : Bool). b && is_none (part_in f (place_in n t))) (right-at t n k d h))

      pub room-there : leb (get_or t p d).least k && leb k (get_or t p d).most ≡ true → is_none (part_in f p) ≡ true
          → Some p ≡ cond (fits t f n k) (Some (place_in n t)) None
      room-there a b = rw (fits-at ∙ of-both a b) (ap Some row_there.1)

      pub room-length : leb (get_or t p d).least k && leb k (get_or t p d).most ≡ false
          → None ≡ cond (fits t f n k) (Some (place_in n t)) None
      room-length a = rw (fits-at, a)

-- and back: there is a place for a triple that is taken, and for no other
module _ (t : List Identifier) (f : List Part) (n k : ℕ) {r : code.Option ℕ}
    (e : r ≡ cond (fits t f n k) (Some (place_in n t)) None) where
  pub room-taken : {p : ℕ} → r ≡ Some p → (fits t f n k ≡ true) × (p ≡ place_in n t)
  room-taken i = let (h, j) = cond_some _ _ _ (sym e ∙ i) in (h, sym j)

  pub room-left : r ≡ None → fits t f n k ≡ false
  room-left i = go (fits t f n k) (sym e ∙ i)
    where
      go : (b : Bool) → cond b (Some (place_in n t)) None ≡ None → b ≡ false
      go true j = let z : ◌≡◌ {A = ℕ} 0 1 = cc in let no : ⊥ = omega arith in absurd no
      go false j = refl

  -- and it is a place of the table
  pub taken-inside : {p : ℕ} → r ≡ Some p → p < length t
  taken-inside i =
      let (h, j) = room-taken i in
      let (right, absent) = both_of (right_length t n k) (is_none (part_in f (place_in n t))) h in
      omega (arith, j, right-inside t n k right)

-- ---- a part put down is there, and the others are as they were

module _ (t : List Identifier) (f : List Part) (x : Part) (n : ℕ) (h : place_in n t < length t) where
  pub part_same : length f ≡ length t → part_in (set f (place_in n t) x) (place_in n t) ≡ x
  part_same e = get_or-set_same f (place_in n t) x None (rw e h)

  part-other : (k : ℕ) → (k ≡ n → ⊥) → part_in (set f (place_in n t) x) (place_in k t) ≡ part_in f (place_in k t)
  part-other k apart =
      get_or-set_other f (place_in n t) (place_in k t) x None (places-apart t n k h apart)

-- ---- a wrong length or a repeat

module _ (t : List Identifier) where
  -- an identifier that has its part already is not taken again
  kept-repeat : (n : ℕ) (ps : List Param) (f : List Part) (at : ℕ) → is_none (part_in f (place_in n t)) ≡ false
      → holds n (identifiers ps) ≡ true → kept t f at ps ≡ unformed
  unfolding holds identifiers kept
  kept-repeat n [] f at a h = absurd (false≢true h)
  kept-repeat n (k is v ∷ ps) f at a h =
      go (λ (g : List Part) (q : ℕ). kept-repeat n ps g q) (fits t f k (length v)) refl
    where
      x : Part
      x = (part (at + 2) (length v))

      go : ((g : List Part) (q : ℕ) → is_none (part_in g (place_in n t)) ≡ false → holds n (identifiers ps) ≡ true
          → kept t g q ps ≡ unformed) → (b : Bool) → fits t f k (length v) ≡ b
          → cond b (kept t (set f (place_in k t) x) (at + 2 + length v) ps) unformed ≡ unformed
      go more false e = refl
      go more true e =
          let (r, b) = both_of (right_length t k (length v)) (is_none (part_in f (place_in k t))) e in
          let apart : k ≡ n → ⊥ = λ (i : k ≡ n). true-not-false (sym b ∙ (rw (← i) at a)) in
          let other = part-other t f x k (right-inside t k (length v) r) n (λ (i : n ≡ k). apart (sym i)) in
          more (set f (place_in k t) x) (at + 2 + length v) (rw other a) (rw (ne_eqb k n apart) at h)

  kept-bad : (ps : List Param) (f : List Part) (at : ℕ) → length f ≡ length t
      → all_right t ps && none_twice (identifiers ps) ≡ false → kept t f at ps ≡ unformed
  unfolding all_right none_twice identifiers kept
  kept-bad [] f at l h = absurd (false≢true (sym h))
  kept-bad (n is v ∷ ps) f at l h =
      go (kept-bad ps (set f (place_in n t) x) (at + 2 + length v) (length-set f (place_in n t) x ∙ l))
      (fits t f n (length v)) refl (holds n (identifiers ps)) refl
    where
      x : Part
      x = (part (at + 2) (length v))

      next : Found
      next = kept t (set f (place_in n t) x) (at + 2 + length v) ps

      go : (all_right t ps && none_twice (identifiers ps) ≡ false → next ≡ unformed)
          → (b : Bool) → fits t f n (length v) ≡ b → (u : Bool) → holds n (identifiers ps) ≡ u
          → cond b next unformed ≡ unformed
      go more false e u d = refl
      go more true e true d =
          let (r, b) = both_of (right_length t n (length v)) (is_none (part_in f (place_in n t))) e in
          let there = ap is_none (part_same t f x n (right-inside t n (length v) r) l) in
          kept-repeat n ps (set f (place_in n t) x) (at + 2 + length v) there d
      go more true e false d =
          let (r, b) = both_of (right_length t n (length v)) (is_none (part_in f (place_in n t))) e in
          more (rw (r, d) at h)

  -- ---- right lengths, and none twice

  -- the parts of f, and over them those of the triples
  unfoldable laid : List Part → ℕ → List Param → List Part
  laid f at [] = f
  laid f at (n is v ∷ ps) = set (laid f (at + 2 + length v) ps) (place_in n t) (part (at + 2) (length v))

  laid-set : (f : List Part) (x : Part) (n : ℕ) → place_in n t < length t → (ps : List Param) (at : ℕ)
      → holds n (identifiers ps) ≡ false → laid (set f (place_in n t) x) at ps ≡ set (laid f at ps) (place_in n t) x
  unfolding laid identifiers
  laid-set f x n h [] at e = refl
  laid-set f x n h (k is v ∷ ps) at e =
      let y = (part (at + 2) (length v)) in
      let apart = places-apart t n k h (holds-head n k (identifiers ps) e) in
      ap (λ (l : List Part). set l (place_in k t) y)
      (laid-set f x n h ps (at + 2 + length v) (holds-tail n k (identifiers ps) e))
      ∙ set_comm (laid f (at + 2 + length v) ps) (place_in n t) (place_in k t) x y
      (λ (i : place_in n t ≡ place_in k t). apart (sym i))

  -- none of these identifiers has a part yet
  abbrev Fresh : List Part → List ℕ → Type 0
  Fresh f [] = Unit {0}
  Fresh f (n ∷ ns) = (is_none (part_in f (place_in n t)) ≡ true) × Fresh f ns

  fresh-more : (f : List Part) (x : Part) (n : ℕ) → place_in n t < length t → (ns : List ℕ) → holds n ns ≡ false
      → Fresh f ns → Fresh (set f (place_in n t) x) ns
  fresh-more f x n h [] e fs = tt
  fresh-more f x n h (k ∷ ns) e fs =
      (rw (part-other t f x n h k (holds-head n k ns e)) fs.0, fresh-more f x n h ns (holds-tail n k ns e) fs.1)

  kept-good : (ps : List Param) (f : List Part) (at : ℕ) → all_right t ps ≡ true → none_twice (identifiers ps) ≡ true
      → Fresh f (identifiers ps) → kept t f at ps ≡ formed (laid f at ps)
  unfolding all_right none_twice identifiers kept laid
  kept-good [] f at r o fs = refl
  kept-good (n is v ∷ ps) f at r o fs =
      let x = (part (at + 2) (length v)) in
      let (here, more) = both_of (right_length t n (length v)) (all_right t ps) r in
      let (new, rest) = both_of (not (holds n (identifiers ps))) (none_twice (identifiers ps)) o in
      let once = not-true (holds n (identifiers ps)) new in
      let h = right-inside t n (length v) here in
      let fresh = fresh-more f x n h (identifiers ps) once fs.1 in
      rw (here, fs.0)
      (kept-good ps (set f (place_in n t) x) (at + 2 + length v) more rest fresh
      ∙ ap formed (laid-set f x n h ps (at + 2 + length v) once))

  absent_none : (k i : ℕ) → is_none (part_in (no_parts k) i) ≡ true
  absent_none zero i = refl
  absent_none (suc k) zero = refl
  absent_none (suc k) (suc i) = absent_none k i

  fresh-none : (k : ℕ) (ns : List ℕ) → Fresh (no_parts k) ns
  fresh-none k [] = tt
  fresh-none k (n ∷ ns) = (absent_none k (place_in n t), fresh-none k ns)

  laid-all : (at : ℕ) (ps : List Param) → laid (no_parts (length t)) at ps ≡ parts_at t at ps
  unfolding laid parts_at
  laid-all at [] = refl
  laid-all at (n is v ∷ ps) =
      ap (λ (l : List Part). set l (place_in n t) (part (at + 2) (length v))) (laid-all (at + 2 + length v) ps)

  -- all triples, from the first: the definition's parts, or malformed
  pub kept-all : (k : ℕ) → k ≡ length t → (at : ℕ) (x : Option (List Param))
      → kept_from t (no_parts k) at x ≡ found_from at t (checked t x)
  unfolding kept_from found_from checked
  kept-all k l at none = refl
  kept-all k l at (some ps) = go (all_right t ps && none_twice (identifiers ps)) refl
    where
      go : (b : Bool) → all_right t ps && none_twice (identifiers ps) ≡ b
          → kept t (no_parts k) at ps ≡ found_from at t (cond b (some ps) none)
      go true e =
          let (r, o) = both_of (all_right t ps) (none_twice (identifiers ps)) e in
          kept-good ps (no_parts k) at r o (fresh-none k (identifiers ps))
          ∙ ap (λ (j : ℕ). formed (laid (no_parts j) at ps)) l ∙ ap formed (laid-all at ps)
      go false e = kept-bad ps (no_parts k) at (length-replicate k None ∙ l) e
