-- Octets that hand out nothing: none, one, some and then more, and as many as stand for themselves. Assumes nothing.
use mathlib.Core.Path.{◌≡◌, refl, sym, ap, ◌∙◌}
use mathlib.Core.Bool.{Bool, true, false, and-false, or-true}
use mathlib.Core.List.{List, [], ◌∷◌, ◌++◌}
use Prim.Native.Nat.{ℕ, zero, suc, ◌+◌, ◌-◌, ◌<◌, ◌≤◌, min}
use native.Mathlib.Nat.{zero-add, add-zero, add_assoc}
use native.Mathlib.Numerals.{add-one}
use native.Mathlib.Omega.{arith}
use lib.Dec.{eqb}
use borrow.Author.Tests.{eq-eqb, ne_eqb}
use lib.ListN.{length, get_or, take, drop, set, length-set, length-take, length-drop}
use lib.Seq.{sets, drop-drop, take-suc}
use Rattle.octets.proofs.Rest.{rest}
use Rattle.octets.proofs.Stores.{sets-append}
use Rattle.octets.proofs.Takes.{take_rest}
use Rattle.octets.proofs.Words.{true-not-false, or-none}
use Rattle.frame.specs.Line.{flag, escape, special}
use Rattle.receiver.specs.Held.{Held, Usable, held_of, places, open_marks, raw, after_flag, after_octet, stretched, closes}
use Rattle.receiver.specs.Call.{Took, further, takes}
use Rattle.receiver.specs.Pieces.{Plain, Copies, further_by, Passes}
use Rattle.receiver.specs.declared.Receiver.{Receiver}
use Rattle.receiver.proofs.After.{after-usable, after-flag, after-other, closes-other}
use Rattle.receiver.proofs.Steps.{marked, raw-plain}

pub pass-none : {h : Held} {s : List ℕ} → Usable h → Passes h s 0 h
unfolding further_by
pass-none u = record { few = omega arith; usable = u; same = λ N room. rw zero-add }

further-one : (t : Took) → further t ≡ further_by 1 t
unfolding further further_by
further-one t =
    let n : suc t.count ≡ 1 + t.count = omega arith in
    ap (λ (k : ℕ). record { held = t.held; count = k; told = t.told }) n

-- a flag that closes nothing
flag-closes-not : (h : Held) (x : ℕ) → stretched h.marks ≡ false → closes h x ≡ false
unfolding closes
flag-closes-not h x e = rw e (and-false (eqb x flag))

pub pass-one : (h : Held) (x : ℕ) (xs : List ℕ) → Usable (after_octet h x) → closes h x ≡ false → Passes h (x ∷ xs) 1 (after_octet h x)
unfolding takes
pass-one h x xs u e = record { few = omega arith; usable = u; same = λ N room. rw e (further-one (takes N room (after_octet h x) xs)) }

pub pass_on : {h g f : Held} {s : List ℕ} {k j : ℕ} → Passes h s k g → Passes g (drop k s) j f → Passes h s (k + j) f
unfolding further_by
pass_on {h} {g} {f} {s} {k} {j} p q =
    record {
      few = omega (arith, p.few, q.few, length-drop k s);
      usable = q.usable;
      same = λ N room.
          p.same N room
          ∙ ap (further_by k) (q.same N room)
          ∙ rw (add_assoc, drop-drop);
    }

-- the same, of the rest as the code lends it
pub pass-rest : {h g f : Held} {s : List ℕ} {k j : ℕ} → Passes h s k g → Passes g (take (length s - k) (drop k s)) j f
    → Passes h s (k + j) f
pass-rest {s = s} {k = k} p q = pass_on p (rw (take_rest k s) at q)

-- the octet at k: a flag that closes nothing, or one that is no flag
module _ {h g : Held} {s : List ℕ} {k : ℕ} (p : Passes h s k g) (i : k < length s) where
  one_further : closes g (get_or s k 0) ≡ false → Passes h s (k + 1) (after_octet g (get_or s k 0))
  one_further e =
      pass_on p
      (rw (rest s k i) (pass-one g (get_or s k 0) (drop (k + 1) s) (after-usable g (get_or s k 0) p.usable) e))

  pub flag-passes : get_or s k 0 ≡ flag → stretched g.marks ≡ false → Passes h s (k + 1) (held_of open_marks g.store)
  unfolding after_flag
  flag-passes e f =
      let opens : after_octet g (get_or s k 0) ≡ held_of open_marks g.store = after-flag g (get_or s k 0) (eq-eqb (get_or s k 0) flag e) in
      rw opens at (one_further (flag-closes-not g (get_or s k 0) f))

  pub raw-passes : (get_or s k 0 ≡ flag → ⊥) → {f : Held} → f ≡ raw g (get_or s k 0) → Passes h s (k + 1) f
  raw-passes n {f} e =
      let other = ne_eqb (get_or s k 0) flag n in
      let same : after_octet g (get_or s k 0) ≡ f = after-other g (get_or s k 0) other ∙ sym e in
      rw same at (one_further (closes-other g (get_or s k 0) other))

-- after no octets the one, after some the other
after-some : ℕ → Bool → Bool → Bool
after-some zero b c = b
after-some (suc n) b c = c

after_same : (n : ℕ) (b : Bool) → after-some n b b ≡ b
unfolding after-some
after_same zero b = refl
after_same (suc n) b = refl

module _ (n : ℕ) (p l a : Bool) (m : List ℕ) (x : ℕ) (plain : special x ≡ false) where
  no-special : (eqb x flag ≡ false) × (eqb x escape ≡ false)
  unfolding special
  no-special = or-none (eqb x flag) (eqb x escape) plain

  after-plain : n < places → after_octet (marked n p false l a true m) x ≡ marked (n + 1) p false false true true (set m n x)
  unfolding after_octet
  after-plain h = rw no-special.0 (sym (raw-plain n p l a m x no-special.1 h))

  plain-open : closes (marked n p false l a true m) x ≡ false
  unfolding closes
  plain-open = rw no-special.0

plain-pass : (k : ℕ) (s : List ℕ) (n : ℕ) (p l a : Bool) (m : List ℕ) → k ≤ length s → Plain (take k s) → n + k ≤ places
    → length m ≡ places → Passes (marked n p false l a true m) s k
    (marked (n + k) p false (after-some k l false) (after-some k a true) true (sets m n (take k s)))
unfolding after-some
plain-pass zero s n p l a m h w r e =
    rw add-zero (pass-none (e, omega arith))
plain-pass (suc k) [] n p l a m h w r e = absurd (omega arith)
plain-pass (suc k) (x ∷ xs) n p l a m h w r e =
    let one = after-plain n p l a m x w.0 (omega arith) in
    let f : Passes (marked n p false l a true m) (x ∷ xs) 1 (marked (n + 1) p false false true true (set m n x)) =
    rw one at (pass-one (marked n p false l a true m) x xs (rw one (length-set m n x ∙ e, omega arith)) (plain-open n p l a m x w.0)) in
    let g = plain-pass k xs (n + 1) p false true (set m n x) (omega arith) w.1 (omega arith) (length-set m n x ∙ e) in
    let c : suc n + k ≡ n + suc k = omega arith in
    let d : 1 + k ≡ suc k = omega arith in
    rw (add-one, c, d, after_same k false, after_same k true) at (pass_on f g)

-- the same, in the words of the code
pub some-passed : (r : Receiver) (s m : List ℕ) (k x : ℕ) {m' : List ℕ} → Usable (held_of r m) → r.seen ≡ true
    → r.escaping ≡ false → (x ≡ escape → ⊥) → Copies s m r.count k m'
    → Passes (held_of r m) s k (marked (r.count + k) r.more r.escaping (eqb x escape) true r.seen m')
unfolding after-some
some-passed r s m zero x u e f g c = absurd (omega (arith, c.some))
some-passed r s m (suc j) x u e f g c =
    rw (c.octets, ne_eqb x escape g, e, f)
    (plain-pass (suc j) s r.count r.more r.last r.any m c.few c.plain (omega (arith, c.inside, u.0))
    u.0)

plains-append : (s t : List ℕ) → Plain s → Plain t → Plain (s ++ t)
plains-append [] t p q = q
plains-append (x ∷ xs) t p q = (p.0, plains-append xs t p.1 q)

pub flag-special : (x : ℕ) → x ≡ flag → special x ≡ true
unfolding special
flag-special x e = rw (eq-eqb x flag e)

pub escape-special : (x : ℕ) → x ≡ escape → special x ≡ true
unfolding special
escape-special x e = rw (eq-eqb x escape e) (or-true (eqb x flag))

-- a flag or an escape is not the first where the first is neither
pub first_plain : (s : List ℕ) (i : ℕ) → 0 < length s → Plain (take 1 s) → special (get_or s i 0) ≡ true → 0 < i
first_plain [] zero h p e = absurd (omega arith)
first_plain (x ∷ s) zero h p e = absurd (true-not-false (sym e ∙ p.0))
first_plain s (suc i) h p e = omega arith

-- below the smaller is below the first
pub below : {i n : ℕ} (a b : ℕ) → i < n → n ≡ min a b → i < a
below a b h e = omega arith

-- a loop that copies goes one octet further
module _ (s : List ℕ) (i : ℕ) (h : i < length s) where
  one_more : take (i + 1) s ≡ take i s ++ get_or s i 0 ∷ []
  one_more = rw add-one (take-suc s i 0 h)

  pub more-plain : (get_or s i 0 ≡ flag → ⊥) → (get_or s i 0 ≡ escape → ⊥) → Plain (take i s) → Plain (take (i + 1) s)
  unfolding special
  more-plain a b p =
      rw one_more
      (plains-append (take i s) (get_or s i 0 ∷ []) p (rw (ne_eqb (get_or s i 0) flag a, ne_eqb (get_or s i 0) escape b) refl, tt))

  pub more-copied : (o : List ℕ) (at : ℕ) {m : List ℕ} → m ≡ sets o at (take i s)
      → set m (at + i) (get_or s i 0) ≡ sets o at (take (i + 1) s)
  more-copied o at {m} e =
      let n : length (take i s) ≡ i = omega (arith, length-take i s) in
      rw one_more (rw e (rw n at (sym (sets-append (take i s) (get_or s i 0 ∷ []) o at))))

-- what is left from k on, as the code lends it, where an octet stands there that is neither a flag nor an escape
pub plain-left : (s : List ℕ) (k : ℕ) → k < length s → (get_or s k 0 ≡ flag → ⊥) → (get_or s k 0 ≡ escape → ⊥)
    → (0 < length (take (length s - k) (drop k s))) × Plain (take 1 (take (length s - k) (drop k s)))
unfolding special
plain-left s k i a b =
    rw (take_rest k s, rest s k i)
    (omega arith, (rw (ne_eqb (get_or s k 0) flag a, ne_eqb (get_or s k 0) escape b) refl, tt))
