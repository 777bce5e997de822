-- One octet of a stretch, by the tests of the code: what it makes of the record. Assumes nothing.
use mathlib.Core.Path.{◌≡◌, refl, sym, ap, ◌∙◌}
use mathlib.Core.Bool.{Bool, true, false, not, ◌&&◌, ◌||◌, or-true, or-false}
use mathlib.Core.List.{List}
use Prim.Native.Nat.{ℕ, ◌+◌, ◌<◌, ◌≤◌, min}
use native.Mathlib.Omega.{arith}
use borrow.Author.Tests.{lt-ltb, le-ltb, eq-eqb}
use lib.Bits.{bit_xor}
use lib.Dec.{eqb, ltb}
use lib.ListN.{length, set}
use lib.Seq.{set_out}
use Rattle.octets.proofs.Words.{true-not-false}
use Rattle.frame.specs.Line.{escape, toggle, plain_after}
use Rattle.receiver.specs.Held.{Held, Usable, held_of, places, added_by, taken_in, raw}
use Rattle.receiver.specs.declared.Receiver.{Receiver}

-- a record of its six fields, and a store
abbrev pub marked : ℕ → Bool → Bool → Bool → Bool → Bool → List ℕ → Held
marked n more escaping last any seen m =
    held_of (record { count = n; more = more; escaping = escaping; last = last; any = any; seen = seen }) m

pub marked-is : {n n' : ℕ} {p p' q q' l l' a a' s s' : Bool} {m m' : List ℕ} → n ≡ n' → p ≡ p' → q ≡ q' → l ≡ l' → a ≡ a'
    → s ≡ s' → m ≡ m' → marked n p q l a s m ≡ marked n' p' q' l' a' s' m'
marked-is en ep eq el ea es em = rw (en, ep, eq, el, ea, es, em)

-- one octet behind n of them: there is a place for it, or none
module _ (n : ℕ) (p : Bool) where
  place-left : n < places → p ≡ (p || ltb places (n + 1))
  place-left h = sym (ap (λ (t : Bool). p || t) (le-ltb places (n + 1) (omega arith)) ∙ or-false p)

  no_place : places ≤ n → true ≡ (p || ltb places (n + 1))
  no_place h = sym (ap (λ (t : Bool). p || t) (lt-ltb places (n + 1) (omega arith)) ∙ or-true p)

-- an escape; any octet where the store is full; one behind an escape, and one that stands for itself, where it is not
module _ (n : ℕ) (p l a : Bool) (m : List ℕ) (x : ℕ) where
  raw-escape : eqb x escape ≡ true → n ≤ places
      → marked n p true (eqb x escape) true true m ≡ raw (marked n p false l a true m) x
  unfolding raw taken_in added_by plain_after
  raw-escape e h =
      let k : n ≡ min places (n + 0) = omega arith in
      let few = le-ltb places (n + 0) (omega arith) in
      rw e (marked-is k (sym (ap (λ (t : Bool). p || t) few ∙ or-false p)) refl refl refl refl refl)

  raw-full : (q : Bool) → (not q && eqb x escape) ≡ false → n ≡ places → length m ≡ places
      → marked n true false (eqb x escape) true true m ≡ raw (marked n p q l a true m) x
  unfolding raw taken_in added_by plain_after
  raw-full true e h w =
      let k : n ≡ min places (n + 1) = omega arith in
      marked-is k (no_place n p (omega arith)) refl refl refl refl (sym (set_out m n (bit_xor x toggle) (omega arith)))
  raw-full false e h w =
      let k : n ≡ min places (n + 1) = omega arith in
      rw e (marked-is k (no_place n p (omega arith)) refl refl refl refl (sym (set_out m n x (omega arith))))

  raw-escaped : n < places → marked (n + 1) p false (eqb x escape) true true (set m n (bit_xor x toggle))
      ≡ raw (marked n p true l a true m) x
  unfolding raw taken_in added_by plain_after
  raw-escaped h =
      let k : n + 1 ≡ min places (n + 1) = omega arith in marked-is k (place-left n p h) refl refl refl refl refl

  pub raw-plain : eqb x escape ≡ false → n < places
      → marked (n + 1) p false false true true (set m n x) ≡ raw (marked n p false l a true m) x
  unfolding raw taken_in added_by plain_after
  raw-plain e h =
      let k : n + 1 ≡ min places (n + 1) = omega arith in
      rw e (marked-is k (place-left n p h) refl refl refl refl refl)

-- where the code's test says so
opens_at : (q t : Bool) → (not q && t) ≡ true → (q ≡ false) × (t ≡ true)
opens_at true t e = absurd (true-not-false (sym e))
opens_at false t e = (refl, e)

-- the same of a record whose fields are known by equations
module _ (r : Receiver) (m : List ℕ) (x : ℕ) where
  fields : {q s : Bool} → r.escaping ≡ q → r.seen ≡ s
      → held_of r m ≡ marked r.count r.more q r.last r.any s m
  fields e f = marked-is refl refl e refl refl f refl

  pub step-dropped : r.seen ≡ false → held_of r m ≡ raw (held_of r m) x
  unfolding raw
  step-dropped e = rw e

  module _ (u : Usable (held_of r m)) (e : r.seen ≡ true) where
    pub step-escape : (not r.escaping && eqb x escape) ≡ true
        → marked r.count r.more true (eqb x escape) true r.seen m ≡ raw (held_of r m) x
    step-escape o =
        let at = opens_at r.escaping (eqb x escape) o in
        marked-is refl refl refl refl refl e refl
        ∙ raw-escape r.count r.more r.last r.any m x at.1 u.1
        ∙ sym (ap (λ (h : Held). raw h x) (fields at.0 e))

    module _ (o : (not r.escaping && eqb x escape) ≡ false) where
      pub step-full : r.count ≡ places → marked r.count true false (eqb x escape) true r.seen m ≡ raw (held_of r m) x
      step-full h =
          marked-is refl refl refl refl refl e refl
          ∙ raw-full r.count r.more r.last r.any m x r.escaping o h u.0
          ∙ sym (ap (λ (h : Held). raw h x) (fields refl e))

      module _ (h : r.count ≡ places → ⊥) where
        pub step-escaped : r.escaping ≡ true
            → marked (r.count + 1) r.more false (eqb x escape) true r.seen (set m r.count (bit_xor x toggle))
            ≡ raw (held_of r m) x
        step-escaped f =
            marked-is refl refl refl refl refl e refl
            ∙ raw-escaped r.count r.more r.last r.any m x (omega (arith, u.1, h))
            ∙ sym (ap (λ (h : Held). raw h x) (fields f e))

-- an octet that is no escape where none is open
pub opens_not : {q : Bool} {x : ℕ} → (not q && eqb x escape) ≡ false → q ≡ false → x ≡ escape → ⊥
opens_not {q} {x} o f e = true-not-false (sym (rw (f, eq-eqb x escape e)) ∙ o)
