-- `params_of` computes what `WellFormed` says, for every group and octets of any content: a payload has the parameters
-- ps exactly if it is 0x81, the group's octet, the length of all that follows and the triples of ps, each with a right
-- length and none twice. So no payload has two readings. Assumes nothing.
use mathlib.Core.Path.{◌≡◌, refl, sym, ap, ◌∙◌}
use mathlib.Core.Bool.{Bool, true, false, cond, not, ◌&&◌, false≢true}
use mathlib.Core.Logic.{◌↔◌, ⊎_elim}
use mathlib.Core.List.Memᴰ
use mathlib.Core.List.{List, [], ◌∷◌, ◌++◌, Memᴰ}
use mathlib.Core.Option.{Option, none, some}
use Prim.Native.Nat.{ℕ, zero, suc, ◌-◌, ◌≤◌}
use native.Mathlib.Omega.{arith}
use borrow.Author.Tests.{eqb-true, eq-eqb, le-leb, not-true}
use lib.Dec.{eqb, leb}
use lib.ListN.{length, take, drop, length-append, take-append-drop}
use lib.Seq.{take-append_seam, drop-append_seam, length-take-le}
use Rattle.octets.specs.Octets.{holds}
use Rattle.octets.proofs.Words.{holds-head, holds-tail, holds_not}
use Rattle.identity.specs.Order.{Different}
use Rattle.params.specs.Field.{Param, ◌is◌, triple_of, field_of, format, xid_payload, right_length, identifiers}
use Rattle.params.specs.Field.{AllRight, WellFormed, before, triples_after, triples_of, all_right, none_twice}
use Rattle.params.specs.Field.{checked, opened, params_of}
use Rattle.params.specs.declared.Identifier.{Identifier}
use Rattle.params.specs.declared.Group.{Group}
use Rattle.params.proofs.Turns.{skip}
use Rattle.params.proofs.Kept.{both_of, of-both}

-- ---- triples that fill a field exactly

pub triples-field : (ps : List Param) → triples_of (field_of ps) ≡ some ps
unfolding field_of triple_of triples_after before
triples-field [] = refl
triples-field (n is v ∷ ps) =
    let fits : length v ≤ length (v ++ field_of ps) = omega (arith, length-append v (field_of ps)) in
    rw (
      take-append_seam v (field_of ps),
      skip (length v) (v ++ field_of ps) fits,
      drop-append_seam v (field_of ps),
      triples-field ps,
    )

-- what is read off k octets on: there are k octets, and behind them the triples
record Filled (k : ℕ) (xs : List ℕ) (ps : List Param) : Type 0 where
  inside : k ≤ length xs
  octets : drop k xs ≡ field_of ps

filled-before : (n k : ℕ) (xs : List ℕ) (x : Option (List Param)) (ps : List Param)
    → ((qs : List Param) → x ≡ some qs → Filled k xs qs)
    → before (n is take k xs) x ≡ some ps → Filled 0 (n ∷ k ∷ xs) ps
unfolding before field_of triple_of
filled-before n k xs none ps ih e = let z : ◌≡◌ {A = ℕ} 0 1 = cc in let no : ⊥ = omega arith in absurd no
filled-before n k xs (some qs) ps ih e =
    let f = ih qs refl in
    let all : n is take k xs ∷ qs ≡ ps = cc in
    let long : length (take k xs) ≡ k = length-take-le k xs f.inside in
    record {
      inside = omega arith;
      octets = rw (← all, long, ← f.octets, take-append-drop k xs);
    }

field-triples : (k : ℕ) (xs : List ℕ) (ps : List Param) → triples_after k xs ≡ some ps → Filled k xs ps
unfolding triples_after field_of
field-triples zero [] ps e = let all : [] ≡ ps = cc in record { inside = omega arith; octets = rw (← all) }
field-triples (suc k) [] ps e = let z : ◌≡◌ {A = ℕ} 0 1 = cc in let no : ⊥ = omega arith in absurd no
field-triples (suc k) (x ∷ xs) ps e =
    let f = field-triples k xs ps e in record { inside = omega (arith, f.inside); octets = f.octets }
field-triples zero (n ∷ []) ps e = let z : ◌≡◌ {A = ℕ} 0 1 = cc in let no : ⊥ = omega arith in absurd no
field-triples zero (n ∷ k ∷ xs) ps e =
    filled-before n k xs (triples_after k xs) ps (λ (qs : List Param). field-triples k xs qs) e

pub triples-exactly : (s : List ℕ) (ps : List Param) → triples_of s ≡ some ps ↔ s ≡ field_of ps
triples-exactly s ps = (
  λ (e : triples_of s ≡ some ps). (field-triples 0 s ps e).octets,
  λ (e : s ≡ field_of ps). rw e (triples-field ps),
)

-- ---- right lengths, and none twice

right-all : (t : List Identifier) (ps : List Param) → all_right t ps ≡ true → AllRight t ps
unfolding all_right
right-all t [] e = tt
right-all t (n is v ∷ ps) e =
    let (a, b) = both_of (right_length t n (length v)) (all_right t ps) e in (a, right-all t ps b)

all_right_lem : (t : List Identifier) (ps : List Param) → AllRight t ps → all_right t ps ≡ true
unfolding all_right
all_right_lem t [] r = refl
all_right_lem t (n is v ∷ ps) r = of-both r.0 (all_right_lem t ps r.1)

holds-member : (n : ℕ) (ns : List ℕ) → holds n ns ≡ false → Memᴰ n ns → ⊥
holds-member n [] h m = Memᴰ.not-nil m
holds-member n (k ∷ ns) h m =
    ⊎_elim (λ (e : n ≡ k). holds-head n k ns h (sym e))
    (λ (t : Memᴰ n ns). holds-member n ns (holds-tail n k ns h) t) (Memᴰ.cases_cons m)

member-holds : (n : ℕ) (ns : List ℕ) → (Memᴰ n ns → ⊥) → holds n ns ≡ false
unfolding holds
member-holds n [] h = refl
member-holds n (k ∷ ns) h =
    holds_not n k ns (λ (e : k ≡ n). h (Memᴰ.head (sym e)))
    (member-holds n ns (λ (m : Memᴰ n ns). h (Memᴰ.tail m)))

pub once-different : (ns : List ℕ) → none_twice ns ≡ true → Different ns
unfolding none_twice
once-different [] e = tt
once-different (n ∷ ns) e =
    let (a, b) = both_of (not (holds n ns)) (none_twice ns) e in
    (holds-member n ns (not-true (holds n ns) a), once-different ns b)

different-once : (ns : List ℕ) → Different ns → none_twice ns ≡ true
unfolding none_twice
different-once [] d = refl
different-once (n ∷ ns) d = of-both (ap not (member-holds n ns d.0)) (different-once ns d.1)

-- ---- the three octets before them

opened-is : (o : ℕ) (m : List ℕ) → opened o m ≡ true → m ≡ format ∷ o ∷ length (drop 3 m) ∷ drop 3 m
unfolding opened
opened-is o [] e = absurd (false≢true e)
opened-is o (a ∷ []) e = absurd (false≢true e)
opened-is o (a ∷ b ∷ []) e = absurd (false≢true e)
opened-is o (a ∷ b ∷ k ∷ s) e =
    let n = length (a ∷ b ∷ k ∷ s) - 3 in
    let (l, e₀) = both_of (leb 3 (length (a ∷ b ∷ k ∷ s))) (eqb a format && (eqb b o && eqb k n)) e in
    let (x, e₁) = both_of (eqb a format) (eqb b o && eqb k n) e₀ in
    let (y, z) = both_of (eqb b o) (eqb k n) e₁ in
    let long : k ≡ length s = eqb-true k n z ∙ omega arith in
    rw (eqb-true a format x, eqb-true b o y, long)

pub opened-payload : (g : Group) (ps : List Param) → opened g.octet (xid_payload g ps) ≡ true
unfolding opened xid_payload
opened-payload g ps =
    let n = length (field_of ps) in
    of-both (le-leb 3 (suc (suc (suc n))) (omega arith))
    (of-both (eq-eqb g.octet g.octet refl) (eq-eqb n (suc (suc (suc n)) - 3) (omega arith)))

-- ---- the payload

checked-some : (t : List Identifier) (x : Option (List Param)) (ps : List Param) → checked t x ≡ some ps
    → (x ≡ some ps) × (all_right t ps ≡ true) × (none_twice (identifiers ps) ≡ true)
unfolding checked
checked-some t none ps e = let z : ◌≡◌ {A = ℕ} 0 1 = cc in let no : ⊥ = omega arith in absurd no
checked-some t (some qs) ps e = go (all_right t qs && none_twice (identifiers qs)) refl e
  where
    go : (b : Bool) → all_right t qs && none_twice (identifiers qs) ≡ b → cond b (some qs) none ≡ some ps
        → (some qs ≡ some ps) × (all_right t ps ≡ true) × (none_twice (identifiers ps) ≡ true)
    go true d f =
        let all : qs ≡ ps = cc in
        let (r, o) = both_of (all_right t qs) (none_twice (identifiers qs)) d in
        (f, rw all at r, rw all at o)
    go false d f = let z : ◌≡◌ {A = ℕ} 0 1 = cc in let no : ⊥ = omega arith in absurd no

module _ (g : Group) where
  formed : (m : List ℕ) (ps : List Param) → params_of g m ≡ some ps → WellFormed g m ps
  unfolding params_of xid_payload
  formed m ps e = go (opened g.octet m) refl e
    where
      go : (b : Bool) → opened g.octet m ≡ b → cond b (checked g.table (triples_of (drop 3 m))) none ≡ some ps
          → WellFormed g m ps
      go true o f =
          let (x, r, d) = checked-some g.table (triples_of (drop 3 m)) ps f in
          let field : drop 3 m ≡ field_of ps = (triples-exactly (drop 3 m) ps).0 x in
          record {
            octets = rw field at (opened-is g.octet m o);
            right = right-all g.table ps r;
            once = once-different (identifiers ps) d;
          }
      go false o f = let z : ◌≡◌ {A = ℕ} 0 1 = cc in let no : ⊥ = omega arith in absurd no

  well-formed : (m : List ℕ) (ps : List Param) → WellFormed g m ps → params_of g m ≡ some ps
  unfolding params_of checked xid_payload
  well-formed m ps w =
      rw w.octets (rw (
        opened-payload g ps,
        triples-field ps,
        all_right_lem g.table ps w.right,
        different-once (identifiers ps) w.once,
      ))

  pub params-exactly : (m : List ℕ) (ps : List Param) → params_of g m ≡ some ps ↔ WellFormed g m ps
  params-exactly m ps = (formed m ps, well-formed m ps)

  -- one reading only
  pub one-reading : (m : List ℕ) (ps qs : List Param) → WellFormed g m ps → WellFormed g m qs → ps ≡ qs
  one-reading m ps qs v w =
      let e = well-formed m ps v in
      let f = well-formed m qs w in
      cc
