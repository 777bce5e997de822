-- The walk reads what the definition says, for every group: at the place that an identifier has in the table it finds
-- where the value of its parameter stands. Assumes nothing.
use mathlib.Core.Path.{◌≡◌, refl, sym, ap, ◌∙◌}
use mathlib.Core.Bool.{Bool, true, false, cond}
use mathlib.Core.List.{List, [], ◌∷◌, ◌++◌}
use mathlib.Core.Option.{Option, none, some}
use Prim.Native.Nat.{ℕ, zero, suc, ◌+◌, ◌<◌}
use native.Mathlib.Omega.{arith}
use borrow.Author.Tests.{eqb-true, eqb-false}
use lib.Dec.{eqb}
use lib.ListN.{length, set, take, drop, length-set, length-replicate}
use lib.Seq.{get_or-set_other, drop-drop, take-append_seam, drop-append_seam}
use Rattle.params.specs.Field.{Param, ◌is◌, triple_of, field_of, xid_payload, right_length, AllRight, params_of}
use Rattle.params.specs.Field.{value_for}
use Rattle.std.specs.Prelude.{None, Ok, Err}
use Rattle.reader.specs.declared.Malformed.{Malformed}
use Rattle.params.specs.Walk.{place_in, Part, part, no_parts, parts_at, part_in, Found, found_from, found_in, value_at}
use Rattle.params.specs.declared.Identifier.{Identifier}
use Rattle.params.specs.declared.Group.{Group}
use Rattle.params.proofs.Tables.{places-apart}
use Rattle.params.proofs.Kept.{part_same}
use Rattle.params.proofs.Exact.{params-exactly}

-- a given value has a right length
pub value-right : (t : List Identifier) (n : ℕ) (ps : List Param) {v : List ℕ} → AllRight t ps → value_for n ps ≡ some v
    → right_length t n (length v) ≡ true
unfolding value_for
value-right t n [] {v} r e = let z : ◌≡◌ {A = ℕ} 0 1 = cc in let no : ⊥ = omega arith in absurd no
value-right t n (k is u ∷ ps) {v} r e = go (value-right t n ps {v = v} r.1) (eqb k n) refl e
  where
    go : (value_for n ps ≡ some v → right_length t n (length v) ≡ true) → (b : Bool) → eqb k n ≡ b
        → cond b (some u) (value_for n ps) ≡ some v → right_length t n (length v) ≡ true
    go more true d f =
        let same : u ≡ v = cc in
        rw (sym (eqb-true k n d)) (rw same at r.0)
    go more false d f = more f

parts-long : (t : List Identifier) (at : ℕ) (ps : List Param) → length (parts_at t at ps) ≡ length t
unfolding parts_at
parts-long t at [] = length-replicate (length t) None
parts-long t at (n is v ∷ ps) =
    length-set (parts_at t (at + 2 + length v) ps) (place_in n t) (part (at + 2) (length v))
    ∙ parts-long t (at + 2 + length v) ps

value_none : (m : List ℕ) (k i : ℕ) → value_at m (part_in (no_parts k) i) ≡ none
unfolding value_at
value_none m zero i = refl
value_none m (suc k) zero = refl
value_none m (suc k) (suc i) = value_none m k i

module _ (m : List ℕ) (t : List Identifier) (n : ℕ) (h : place_in n t < length t) where
  value_found : (ps : List Param) (at : ℕ) → drop at m ≡ field_of ps
      → value_at m (part_in (parts_at t at ps) (place_in n t)) ≡ value_for n ps
  unfolding parts_at value_at value_for field_of triple_of
  value_found [] at e = value_none m (length t) (place_in n t)
  value_found (k is v ∷ ps) at e =
      go (value_found ps (at + 2 + length v) behind) (eqb k n) refl
    where
      x : Part
      x = (part (at + 2) (length v))

      more : List Part
      more = parts_at t (at + 2 + length v) ps

      value : drop (at + 2) m ≡ v ++ field_of ps
      value = sym (drop-drop 2 at m) ∙ ap (drop 2) e

      behind : drop (at + 2 + length v) m ≡ field_of ps
      behind = sym (drop-drop (length v) (at + 2) m) ∙ ap (drop (length v)) value ∙ drop-append_seam v (field_of ps)

      here : value_at m x ≡ some v
      here = ap some (ap (take (length v)) value ∙ take-append_seam v (field_of ps))

      go : value_at m (part_in more (place_in n t)) ≡ value_for n ps → (b : Bool) → eqb k n ≡ b
          → value_at m (part_in (set more (place_in k t) x) (place_in n t)) ≡ cond b (some v) (value_for n ps)
      go less true d =
          rw (eqb-true k n d)
          (ap (value_at m) (part_same t more x n h (parts-long t (at + 2 + length v) ps)) ∙ here)
      go less false d =
          let apart = places-apart t n k h (eqb-false k n d) in
          let other = get_or-set_other more (place_in k t) (place_in n t) x None (λ i. apart (sym i)) in
          ap (λ (y : Part). value_at m y) other ∙ less

-- the values of the group's identifiers, each at its place
abbrev pub ValuesAt : Group → List ℕ → List Param → List Part → Type 0
ValuesAt g m ps f =
    (n : ℕ) → place_in n g.table < length g.table → value_at m (part_in f (place_in n g.table)) ≡ value_for n ps

pub values-found : (g : Group) (m : List ℕ) (ps : List Param) → params_of g m ≡ some ps
    → ValuesAt g m ps (parts_at g.table 3 ps)
unfolding xid_payload
values-found g m ps e n h =
    let field : drop 3 m ≡ field_of ps = ap (drop 3) ((params-exactly g m ps).0 e).octets in
    value_found m g.table n h ps 3 field

-- what the walk tells of a payload
module _ (g : Group) (m : List ℕ) {r : Found} (e : r ≡ found_in g m) where
  pub walk-malformed : {x : Malformed} → r ≡ Err x → params_of g m ≡ none
  unfolding found_in found_from
  walk-malformed {x} f = go (params_of g m) (sym e ∙ f)
    where
      go : (o : Option (List Param)) → found_from 3 g.table o ≡ Err x → o ≡ none
      go none h = refl
      go (some ps) h = let z : ◌≡◌ {A = ℕ} 0 1 = cc in let no : ⊥ = omega arith in absurd no

  pub walk-formed : {f : List Part} → r ≡ Ok f
      → (ps : List Param) × (params_of g m ≡ some ps) × ValuesAt g m ps f
  unfolding found_in found_from
  walk-formed {f} h = go (params_of g m) refl (sym e ∙ h)
    where
      go : (o : Option (List Param)) → params_of g m ≡ o → found_from 3 g.table o ≡ Ok f
          → (ps : List Param) × (params_of g m ≡ some ps) × ValuesAt g m ps f
      go none p i = let z : ◌≡◌ {A = ℕ} 0 1 = cc in let no : ⊥ = omega arith in absurd no
      go (some ps) p i =
          let same : parts_at g.table 3 ps ≡ f = cc in
          (ps, p, rw same at (values-found g m ps p))
