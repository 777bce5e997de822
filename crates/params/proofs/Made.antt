-- Payloads made of any parameters, for every group, in 01's words: a repeat, another identifier or another length makes
-- one malformed, wherever it stands; any other is well formed, its parameters are the given ones, and the walk finds
-- their values. Assumes nothing.
--   Row t n k     == the table t has the identifier n, and its row, the first of n, allows k octets
--   Allowed g ps  == each of ps has a row of the group g; Unrepeated ps == no two of ps have one identifier
use mathlib.Core.Path.{◌≡◌, refl, sym, ap, ◌∙◌}
use mathlib.Core.Bool.{Bool, true, false, cond, not, ◌&&◌, false≢true}
use mathlib.Core.Logic.{⊎_elim}
use mathlib.Core.List.Memᴰ
use mathlib.Core.List.{List, [], ◌∷◌, ◌++◌, Memᴰ}
use mathlib.Core.Option.{none, some}
use Prim.Native.Nat.{ℕ, suc, ◌≤◌}
use borrow.Author.Tests.{eqb-true, eqb-false, eq-eqb, ne_eqb, leb-true, le-leb, not-true}
use lib.Dec.{eqb, leb}
use lib.ListN.{length}
use Rattle.octets.specs.Octets.{holds}
use Rattle.octets.proofs.Words.{true-not-false}
use Rattle.params.specs.Field.{Param, ◌is◌, xid_payload, right_length, identifiers, all_right, none_twice}
use Rattle.params.specs.Field.{checked, params_of, value_for}
use Rattle.std.specs.Prelude.{Ok}
use Rattle.params.specs.Walk.{place_in, Part, parts_at, part_in, found_from, found_in, value_at}
use Rattle.params.specs.declared.Identifier.{Identifier}
use Rattle.params.specs.declared.Group.{Group}
use Rattle.params.proofs.Tables.{right-inside}
use Rattle.params.proofs.Kept.{both_of, of-both}
use Rattle.params.proofs.Exact.{triples-field, opened-payload}
use Rattle.params.proofs.Values.{values-found}

pub record Row (t : List Identifier) (n k : ℕ) : Type 0 where
  pub ahead : List Identifier
  pub row : Identifier
  pub behind : List Identifier
  pub whole : t ≡ ahead ++ (row ∷ behind)
  pub first : (r : Identifier) → Memᴰ r ahead → r.id ≡ n → ⊥
  pub named : row.id ≡ n
  pub enough : row.least ≤ k
  pub within : k ≤ row.most

abbrev pub Allowed : Group → List Param → Type 0
Allowed g ps = (n : ℕ) (v : List ℕ) → Memᴰ (n is v) ps → Row g.table n (length v)

abbrev pub Unrepeated : List Param → Type 0
Unrepeated ps = (qs rs ss : List Param) (n : ℕ) (u v : List ℕ) → ps ≡ qs ++ (n is u ∷ (rs ++ (n is v ∷ ss))) → ⊥

-- ---- the row of an identifier

right-row : (t : List Identifier) (n k : ℕ) → right_length t n k ≡ true → Row t n k
unfolding right_length
right-row [] n k e = absurd (false≢true e)
right-row (r ∷ t) n k e = go (eqb r.id n) refl e (right-row t n k)
  where
    go : (b : Bool) → eqb r.id n ≡ b → cond b (leb r.least k && leb k r.most) (right_length t n k) ≡ true
        → (right_length t n k ≡ true → Row t n k) → Row (r ∷ t) n k
    go true d f more =
        let (a, b) = both_of (leb r.least k) (leb k r.most) f in
        record {
          ahead = [];
          row = r;
          behind = t;
          whole = refl;
          first = λ q m i. Memᴰ.not-nil m;
          named = eqb-true r.id n d;
          enough = leb-true r.least k a;
          within = leb-true k r.most b;
        }
    go false d f more =
        let w = more f in
        record {
          ahead = r ∷ w.ahead;
          row = w.row;
          behind = w.behind;
          whole = ap (λ (s : List Identifier). r ∷ s) w.whole;
          first = λ q m i. ⊎_elim (λ (z : q ≡ r). eqb-false r.id n d (rw z at i))
              (λ (l : Memᴰ q w.ahead). w.first q l i) (Memᴰ.cases_cons m);
          named = w.named;
          enough = w.enough;
          within = w.within;
        }

module _ {t : List Identifier} {n k : ℕ} (w : Row t n k) where
  row-right : right_length t n k ≡ true
  unfolding right_length
  row-right = rw w.whole (go w.ahead w.first)
    where
      go : (s : List Identifier) → ((r : Identifier) → Memᴰ r s → r.id ≡ n → ⊥)
          → right_length (s ++ (w.row ∷ w.behind)) n k ≡ true
      go [] f =
          rw (eq-eqb w.row.id n w.named)
          (of-both (le-leb w.row.least k w.enough) (le-leb k w.row.most w.within))
      go (a ∷ s) f =
          rw (ne_eqb a.id n (f a (Memᴰ.head refl))) (go s (λ r m. f r (Memᴰ.tail m)))

  row-place : place_in n t ≡ length w.ahead
  unfolding place_in
  row-place = rw w.whole (go w.ahead w.first)
    where
      go : (s : List Identifier) → ((r : Identifier) → Memᴰ r s → r.id ≡ n → ⊥)
          → place_in n (s ++ (w.row ∷ w.behind)) ≡ length s
      go [] f = rw (eq-eqb w.row.id n w.named)
      go (a ∷ s) f =
          rw (ne_eqb a.id n (f a (Memᴰ.head refl))) (ap suc (go s (λ r m. f r (Memᴰ.tail m))))

-- ---- the tests of a payload, of parameters that stand somewhere

neither-way : (b : Bool) → b && false ≡ false
neither-way true = refl
neither-way false = refl

either_way : (b : Bool) → cond b true true ≡ true
either_way true = refl
either_way false = refl

held : (n : ℕ) (v : List ℕ) (qs rs : List Param) → holds n (identifiers (qs ++ (n is v ∷ rs))) ≡ true
unfolding holds identifiers
held n v [] rs = rw (eq-eqb n n refl)
held n v (k is w ∷ qs) rs = rw (held n v qs rs) (either_way (eqb k n))

twice : (ps qs rs : List Param) (n : ℕ) (u v : List ℕ)
    → none_twice (identifiers (ps ++ (n is u ∷ (qs ++ (n is v ∷ rs))))) ≡ false
unfolding none_twice identifiers
twice [] qs rs n u v = rw (held n v qs rs)
twice (k is w ∷ ps) qs rs n u v = rw (twice ps qs rs n u v, neither-way)

wrong : (t : List Identifier) (ps qs : List Param) (n : ℕ) (v : List ℕ) → right_length t n (length v) ≡ false
    → all_right t (ps ++ (n is v ∷ qs)) ≡ false
unfolding all_right
wrong t [] qs n v e = rw e
wrong t (k is w ∷ ps) qs n v e = rw (wrong t ps qs n v e, neither-way)

allowed-right : (t : List Identifier) (ps : List Param)
    → ((n : ℕ) (v : List ℕ) → Memᴰ (n is v) ps → Row t n (length v)) → all_right t ps ≡ true
unfolding all_right
allowed-right t [] a = refl
allowed-right t (n is v ∷ ps) a =
    of-both (row-right (a n v (Memᴰ.head refl))) (allowed-right t ps (λ k w m. a k w (Memᴰ.tail m)))

-- an identifier that is held is one of the parameters'
record Stands (n : ℕ) (ps : List Param) : Type 0 where
  before : List Param
  value : List ℕ
  after : List Param
  all : ps ≡ before ++ (n is value ∷ after)

stands : (n : ℕ) (ps : List Param) → holds n (identifiers ps) ≡ true → Stands n ps
unfolding holds identifiers
stands n [] e = absurd (false≢true e)
stands n (k is v ∷ ps) e = go (eqb k n) refl e (stands n ps)
  where
    go : (b : Bool) → eqb k n ≡ b → cond b true (holds n (identifiers ps)) ≡ true
        → (holds n (identifiers ps) ≡ true → Stands n ps) → Stands n (k is v ∷ ps)
    go true d f more =
        record { before = []; value = v; after = ps; all = ap (λ (i : ℕ). i is v ∷ ps) (eqb-true k n d) }
    go false d f more =
        let s = more f in
        record {
          before = k is v ∷ s.before;
          value = s.value;
          after = s.after;
          all = ap (λ (qs : List Param). k is v ∷ qs) s.all;
        }

unrepeated-once : (ps : List Param) → Unrepeated ps → none_twice (identifiers ps) ≡ true
unfolding none_twice identifiers
unrepeated-once [] h = refl
unrepeated-once (n is v ∷ ps) h =
    of-both (go (holds n (identifiers ps)) refl)
    (unrepeated-once ps (λ qs rs ss k u w e. h (n is v ∷ qs) rs ss k u w (ap (λ (xs : List Param). n is v ∷ xs) e)))
  where
    go : (b : Bool) → holds n (identifiers ps) ≡ b → not b ≡ true
    go true e =
        let s = stands n ps e in
        absurd (h [] s.before s.after n v s.value (ap (λ (xs : List Param). n is v ∷ xs) s.all))
    go false e = refl

-- ---- the value of an identifier

member-held : (n : ℕ) (v : List ℕ) (ps : List Param) → Memᴰ (n is v) ps → holds n (identifiers ps) ≡ true
unfolding holds identifiers
member-held n v [] m = absurd (Memᴰ.not-nil m)
member-held n v (k is w ∷ ps) m =
    ⊎_elim (λ (e : n is v ≡ k is w). let same : k ≡ n = cc in rw (eq-eqb k n same))
    (λ (l : Memᴰ (n is v) ps). rw (member-held n v ps l) (either_way (eqb k n))) (Memᴰ.cases_cons m)

value-given : (n : ℕ) (v : List ℕ) (ps : List Param) → none_twice (identifiers ps) ≡ true → Memᴰ (n is v) ps
    → value_for n ps ≡ some v
unfolding value_for none_twice identifiers
value-given n v [] o m = absurd (Memᴰ.not-nil m)
value-given n v (k is w ∷ ps) o m =
    let (a, b) = both_of (not (holds k (identifiers ps))) (none_twice (identifiers ps)) o in
    let free : holds k (identifiers ps) ≡ false = not-true (holds k (identifiers ps)) a in
    ⊎_elim (λ (e : n is v ≡ k is w). let i : k ≡ n = cc in let j : w ≡ v = cc in rw (eq-eqb k n i, j))
    (λ (l : Memᴰ (n is v) ps).
    rw (ne_eqb k n (λ (e : k ≡ n). true-not-false (sym (member-held n v ps l) ∙ (rw e at free))))
    (value-given n v ps b l))
    (Memᴰ.cases_cons m)

value-absent : (n : ℕ) (ps : List Param) → ((v : List ℕ) → Memᴰ (n is v) ps → ⊥) → value_for n ps ≡ none
unfolding value_for
value-absent n [] h = refl
value-absent n (k is w ∷ ps) h =
    rw (ne_eqb k n (λ (e : k ≡ n). h w (Memᴰ.head (ap (λ (i : ℕ). i is w) (sym e)))))
    (value-absent n ps (λ v m. h v (Memᴰ.tail m)))

-- ---- the payload

module _ (g : Group) where
  -- the octets before the triples are right, and the triples are those of ps
  made : (ps : List Param) → params_of g (xid_payload g ps)
      ≡ cond (all_right g.table ps && none_twice (identifiers ps)) (some ps) none
  unfolding params_of checked xid_payload
  made ps = rw (opened-payload g ps, triples-field ps)

  -- "A repeat: .. silence": wherever the two stand
  pub repeat-malformed : (ps qs rs : List Param) (n : ℕ) (u v : List ℕ)
      → params_of g (xid_payload g (ps ++ (n is u ∷ (qs ++ (n is v ∷ rs))))) ≡ none
  repeat-malformed ps qs rs n u v =
      made (ps ++ (n is u ∷ (qs ++ (n is v ∷ rs)))) ∙ rw (twice ps qs rs n u v, neither-way)

  -- "another identifier, another length: silence": wherever it stands
  pub other-malformed : (ps qs : List Param) (n : ℕ) (v : List ℕ) → (Row g.table n (length v) → ⊥)
      → params_of g (xid_payload g (ps ++ (n is v ∷ qs))) ≡ none
  other-malformed ps qs n v h =
      made (ps ++ (n is v ∷ qs)) ∙ rw (wrong g.table ps qs n v (go (right_length g.table n (length v)) refl))
    where
      go : (b : Bool) → right_length g.table n (length v) ≡ b → right_length g.table n (length v) ≡ false
      go true e = absurd (h (right-row g.table n (length v) e))
      go false e = e

  -- and no other reason: "any order"
  pub once-formed : (ps : List Param) → Allowed g ps → Unrepeated ps → params_of g (xid_payload g ps) ≡ some ps
  once-formed ps a o = made ps ∙ rw (allowed-right g.table ps a, unrepeated-once ps o)

  -- and the walk finds the value of each, at the place of its row; the rows of the others are empty
  pub walk-gives : (ps : List Param) → Allowed g ps → Unrepeated ps → let m = xid_payload g ps in
      (parts : List Part) × (found_in g m ≡ Ok parts)
      × ((n k : ℕ) (r : Row g.table n k) → let part = part_in parts (length r.ahead) in
      ((v : List ℕ) → Memᴰ (n is v) ps → value_at m part ≡ some v)
      × (((v : List ℕ) → Memᴰ (n is v) ps → ⊥) → value_at m part ≡ none))
  unfolding found_in found_from
  walk-gives ps a o = (
    parts_at g.table 3 ps,
    rw e,
    λ n k r. (
      λ v m. found n k r ∙ value-given n v ps (unrepeated-once ps o) m,
      λ h. found n k r ∙ value-absent n ps h,
    ),
  )
    where
      e : params_of g (xid_payload g ps) ≡ some ps
      e = once-formed ps a o

      found : (n k : ℕ) (r : Row g.table n k)
          → value_at (xid_payload g ps) (part_in (parts_at g.table 3 ps) (length r.ahead)) ≡ value_for n ps
      found n k r =
          let inside = right-inside g.table n k (row-right r) in
          rw (sym (row-place r)) (values-found g (xid_payload g ps) ps e n inside)
