-- One turn of the walk: what is left from a place on, and what becomes of what stands there. Assumes nothing.
use mathlib.Core.Path.{◌≡◌, refl, sym, ◌∙◌}
use mathlib.Core.Bool.{true, false}
use mathlib.Core.List.{List, [], ◌∷◌}
use mathlib.Core.Logic.{⊎_elim}
use mathlib.Core.Option.{Option, none, some}
use Prim.Native.Nat.{ℕ, zero, suc, ◌+◌, ◌<◌, ◌≤◌}
use native.Mathlib.Nat.{not-suc-le-zero, le_of_suc-le-suc}
use native.Mathlib.Omega.{arith}
use lib.ListN.{length, get_or, set, take, drop, drop_of_length-le, length-drop}
use lib.Seq.{drop-drop, length-take-le}
use Rattle.octets.proofs.Rest.{rest}
use Rattle.reader.specs.Read.{end, cut_short, triple}
use Rattle.reader.proofs.Steps.{Means, next-two}
use Rattle.params.specs.Field.{Param, ◌is◌, before, triples_after, triples_of}
use Rattle.params.specs.Walk.{place_in, Part, part, Found, unformed}
use Rattle.params.specs.declared.Identifier.{Identifier}
use Rattle.params.proofs.Kept.{fits, formed, kept, kept_from}

-- the octets of a value passed over: they are there, or they are not
pub skip : (k : ℕ) (xs : List ℕ) → k ≤ length xs → triples_after k xs ≡ triples_of (drop k xs)
unfolding triples_after
skip zero xs h = refl
skip (suc k) [] h = absurd (not-suc-le-zero h)
skip (suc k) (x ∷ xs) h = skip k xs (le_of_suc-le-suc h)

pub skip-past : (k : ℕ) (xs : List ℕ) → length xs < k → triples_after k xs ≡ none
unfolding triples_after
skip-past zero xs h = absurd (not-suc-le-zero h)
skip-past (suc k) [] h = refl
skip-past (suc k) (x ∷ xs) h = skip-past k xs (le_of_suc-le-suc h)

module _ (m : List ℕ) (at : ℕ) where
  pub triples-end : Means m at end → triples_of (drop at m) ≡ some []
  unfolding triples_after
  triples-end h = rw (drop_of_length-le m h)

  pub triples-broken : Means m at cut_short → triples_of (drop at m) ≡ none
  unfolding triples_after before
  triples-broken h =
      ⊎_elim
      (λ (k : length m < at + 2). rw (rest m at h.0, drop_of_length-le m {i = at + 1} (omega arith)))
      (λ (k : (at + 2 ≤ length m) × (length m < at + 2 + get_or m (at + 1) 0)).
      let past : length (drop (at + 2) m) < get_or m (at + 1) 0 = rw length-drop (omega (arith, k.0, k.1)) in
      rw (next-two m at k.0, skip-past (get_or m (at + 1) 0) (drop (at + 2) m) past))
      h.1

  pub triples-whole : {n from len : ℕ} → Means m at (triple n from len)
      → triples_of (drop at m) ≡ before (n is take len (drop from m)) (triples_of (drop (from + len) m))
  unfolding triples_after
  triples-whole {n} {from} {len} h =
      let fits : len ≤ length (drop (at + 2) m) = rw length-drop (omega (arith, h.0)) in
      rw (h.2, h.1, next-two m at (omega (arith, h.0)), ← h.3, skip len (drop (at + 2) m) fits, drop-drop)

  pub value-whole : {n from len : ℕ} → Means m at (triple n from len) → length (take len (drop from m)) ≡ len
  value-whole {n} {from} {len} h = length-take-le len (drop from m) (rw length-drop (omega (arith, h.0, h.2)))

-- what becomes of a triple: it is taken, or the payload is malformed
module _ (t : List Identifier) (f : List Part) (at n : ℕ) (v : List ℕ) where
  kept-one : (x : Option (List Param)) → fits t f n (length v) ≡ true
      → kept_from t f at (before (n is v) x)
      ≡ kept_from t (set f (place_in n t) (part (at + 2) (length v))) (at + 2 + length v) x
  unfolding kept_from before kept
  kept-one none e = refl
  kept-one (some ps) e = rw e

  kept-not : (x : Option (List Param)) → fits t f n (length v) ≡ false
      → kept_from t f at (before (n is v) x) ≡ unformed
  unfolding kept_from before kept
  kept-not none e = refl
  kept-not (some ps) e = rw e

-- a turn of the loop, where what is left comes to w
module _ (t : List Identifier) (f : List Part) (m : List ℕ) (at : ℕ) {w : Found}
    (v : kept_from t f at (triples_of (drop at m)) ≡ w) where
  pub turn_end : Means m at end → formed f ≡ w
  unfolding kept_from kept
  turn_end h = rw (triples-end m at h) at v

  pub turn-broken : Means m at cut_short → unformed ≡ w
  unfolding kept_from
  turn-broken h = rw (triples-broken m at h) at v

  module _ {n from len : ℕ} (h : Means m at (triple n from len)) where
    pub turn-not : fits t f n len ≡ false → unformed ≡ w
    turn-not e =
        let x = triples_of (drop (from + len) m) in
        let e' : fits t f n (length (take len (drop from m))) ≡ false = rw (value-whole m at h) e in
        sym (kept-not t f at n (take len (drop from m)) x e') ∙ (rw (triples-whole m at h) at v)

    pub turn_more : fits t f n len ≡ true
        → kept_from t (set f (place_in n t) (part from len)) (from + len) (triples_of (drop (from + len) m)) ≡ w
    turn_more e =
        let x = triples_of (drop (from + len) m) in
        let e' : fits t f n (length (take len (drop from m))) ≡ true = rw (value-whole m at h) e in
        let one = kept-one t f at n (take len (drop from m)) x e' in
        rw h.2 (sym (rw (value-whole m at h, h.2) at one) ∙ (rw (triples-whole m at h, h.2) at v))
