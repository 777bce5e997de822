-- Which words are numbers, which of them each kind of word takes, in the bench script's numbers, and the fault of any
-- other: both ways. Assumes nothing.
--   worth s        == what decimal digits stand for, each by its place
--   Digits s n     == s is one or more digits, and they stand for n
--   Says w b n     == the word w is a number of the size n, with a `-` in front exactly if b; NoNumber w == w is none
--   Within b a w v == w is a number of -b to a, and v its 16 bits; Outside b a w == it is a number outside that
--   Bounds k b a f == words of the kind k are numbers of -b to a, and f is the fault of one outside
--   ADevice d w v  == w is the number v, of 1 to d; NoDevice d w == it is a number that is not of 1 to d
use mathlib.Core.Path.{◌≡◌, refl, sym, ap, ◌∙◌}
use mathlib.Core.Bool.{Bool, true, false, cond, not, false≢true}
use mathlib.Core.Logic.{◌↔◌, ◌⊎◌, inl, inr, ⊎_elim}
use mathlib.Core.List.Memᴰ
use mathlib.Core.List.{List, [], ◌∷◌, Memᴰ}
use Rattle.std.specs.Prelude.{Result, Ok, Err}
use Prim.Native.Nat.{ℕ, zero, suc, ◌+◌, ◌-◌, ◌*◌, ◌%◌, ◌^◌, ◌<◌, ◌≤◌}
use Prim.Native.Char.{code}
use native.Mathlib.Numerals.{unary_clauses}
use native.Mathlib.Omega.{arith}
use borrow.Author.Tests.{leb-true, leb-false, le-leb, lt-leb, eqb-true, eqb-false, eq-eqb, ne_eqb, not-true}
use lib.Dec.{leb, eqb}
use lib.ListN.{length, get_or}
use Rattle.octets.proofs.Words.{and_parts, true-not-false}
use Rattle.script.specs.Values.{is_from_to, all_digits, numeral, decimal, is_negative, digits_of, pattern_of, ranged}
use Rattle.script.specs.Values.{number_by, from_one, value_of}
use Rattle.script.specs.declared.Fault.{Fault}
use Rattle.script.specs.declared.Fault.TheVariants.{Number, Room, Device}
use Rattle.script.proofs.Hexes.{between}

-- ---- what a number is

unfoldable pub worth : List ℕ → ℕ
worth [] = 0
worth (c ∷ s) = (c - code "0") * 10 ^ length s + worth s

-- "one or more digits, leading zeros read"
pub record Digits (s : List ℕ) (n : ℕ) : Type 0 where
  pub some : 0 < length s
  pub each : (c : ℕ) → Memᴰ c s → (code "0" ≤ c) × (c ≤ code "9")
  pub number : n ≡ worth s

-- "with at most one `-` in front"
abbrev pub Says : List ℕ → Bool → ℕ → Type 0
Says w false n = Digits w n
Says w true n = (s : List ℕ) × (w ≡ code "-" ∷ s) × Digits s n

one-place-on : (n d k w : ℕ) → (10 * n + d) * 10 ^ k + w ≡ n * 10 ^ suc k + (d * 10 ^ k + w)
one-place-on n d k w = simp unary_clauses (omega arith)

decimal-worth : (n : ℕ) (s : List ℕ) → decimal n s ≡ n * 10 ^ length s + worth s
unfolding decimal worth
decimal-worth n [] = omega arith
decimal-worth n (c ∷ s) = decimal-worth (10 * n + (c - 48)) s ∙ one-place-on n (c - 48) (length s) (worth s)

all-each : (s : List ℕ) → all_digits s ≡ true ↔ ((c : ℕ) → Memᴰ c s → (code "0" ≤ c) × (c ≤ code "9"))
unfolding all_digits
all-each [] = (λ e c m. absurd (Memᴰ.not-nil m), λ h. refl)
all-each (x ∷ s) = (
  λ e c m. let (a, b) = and_parts (is_from_to 48 57 x) (all_digits s) e in
      ⊎_elim (λ (i : c ≡ x). rw i ((between 48 57 x).0 a)) (λ (l : Memᴰ c s). (all-each s).0 b c l)
      (Memᴰ.cases_cons m),
  λ h. rw ((between 48 57 x).1 (h x (Memᴰ.head refl)), (all-each s).1 (λ c m. h c (Memᴰ.tail m))),
)

digits-exactly : (s : List ℕ) (n : ℕ) → (numeral s ≡ true) × (decimal 0 s ≡ n) ↔ Digits s n
unfolding numeral
digits-exactly s n = (
  λ (e, i). let (a, b) = and_parts (not (eqb (length s) 0)) (all_digits s) e in
      let long : length s ≡ 0 → ⊥ = eqb-false (length s) 0 (not-true (eqb (length s) 0) a) in
      record { some = omega (arith, long); each = (all-each s).0 b; number = sym i ∙ decimal-worth 0 s ∙ omega arith },
  λ d. (
    rw (ne_eqb (length s) 0 (λ i. omega (arith, i, d.some)), (all-each s).1 d.each),
    decimal-worth 0 s ∙ omega (arith, d.number),
  ),
)

says-exactly : (w : List ℕ) (b : Bool) (n : ℕ)
    → (is_negative w ≡ b) × (numeral (digits_of w) ≡ true) × (decimal 0 (digits_of w) ≡ n) ↔ Says w b n
unfolding is_negative digits_of
says-exactly w false n = (
  λ (a, b, c). (digits-exactly w n).0 (rw a at b, rw a at c),
  λ d. let a : eqb (get_or w 0 0) 45 ≡ false = unsigned w d in let (b, c) = (digits-exactly w n).1 d in (a, rw a b, rw a c),
)
  where
    unsigned : (w : List ℕ) → Digits w n → eqb (get_or w 0 0) 45 ≡ false
    unsigned [] d = refl
    unsigned (x ∷ w) d = ne_eqb x 45 (λ e. omega (arith, e, (d.each x (Memᴰ.head refl)).0))
says-exactly [] true n = (λ (a, b, c). absurd (false≢true a), λ (s, e, d). let no : ⊥ = omega (arith, ap length e) in absurd no)
says-exactly (x ∷ s) true n = (
  λ (a, b, c). (s, rw (eqb-true x 45 a), (digits-exactly s n).0 (rw a at b, rw a at c)),
  λ (r, e, d). let i : x ≡ 45 = cc in let j : s ≡ r = cc in
      let a = eq-eqb x 45 i in
      let (b, c) = (digits-exactly s n).1 (rw j d) in
      (a, rw a b, rw a c),
)

-- ---- numbers in their bounds

abbrev pub NoNumber : List ℕ → Type 0
NoNumber w = (b : Bool) (n : ℕ) → Says w b n → ⊥

-- "a tilt outside 16 bits signed": below zero a value is its 16 bits
pub data Within (below above : ℕ) (w : List ℕ) (v : ℕ) : Type 0 where
  up : (n : ℕ) → Says w false n → n ≤ above → v ≡ n → Within below above w v
  down : (n : ℕ) → Says w true n → n ≤ below → v ≡ (65536 - n) % 65536 → Within below above w v

pub data Outside (below above : ℕ) (w : List ℕ) : Type 0 where
  up : (n : ℕ) → Says w false n → above < n → Outside below above w
  down : (n : ℕ) → Says w true n → below < n → Outside below above w

-- what comes of a number of either sign, and of none
module _ (below above : ℕ) (f : Fault) (w : List ℕ) where
  says-number : (b : Bool) (n : ℕ) → Says w b n → number_by below above f w ≡ ranged b (cond b below above) f n
  unfolding number_by
  says-number b n s = let (i, j, k) = (says-exactly w b n).1 s in rw (j, i, k)

  no_number : NoNumber w → number_by below above f w ≡ Err Number
  unfolding number_by
  no_number h = go (numeral (digits_of w)) refl
    where
      go : (t : Bool) → numeral (digits_of w) ≡ t → number_by below above f w ≡ Err Number
      go true e = absurd (h (is_negative w) (decimal 0 (digits_of w)) ((says-exactly w _ _).0 (refl, e, refl)))
      go false e = rw e

  number-within : {v : ℕ} → Within below above w v → number_by below above f w ≡ Ok v
  unfolding ranged pattern_of
  number-within (up n s h e) = says-number false n s ∙ rw (le-leb n above h, e)
  number-within (down n s h e) = says-number true n s ∙ rw (le-leb n below h, e)

  number-outside : Outside below above w → number_by below above f w ≡ Err f
  unfolding ranged
  number-outside (up n s h) = says-number false n s ∙ rw (lt-leb n above h)
  number-outside (down n s h) = says-number true n s ∙ rw (lt-leb n below h)

-- ---- both ways

-- a word is no number, has a value, or is outside; what comes of each says when it comes
module _ (x : Result ℕ Fault) (No : Type 0) (Is : ℕ → Type 0) (Out : Type 0) (f : Fault) (no-bad : No → x ≡ Err Number)
    (is-means : (v : ℕ) → Is v → x ≡ Ok v) (out-bad : Out → x ≡ Err f) (one : No ⊎ (((v : ℕ) × Is v) ⊎ Out)) where
  means-not-bad : {v : ℕ} {g : Fault} → Ok v ≡ Err g → ⊥
  means-not-bad e = let z : ◌≡◌ {A = ℕ} 0 1 = cc in omega arith

  means-exactly : (v : ℕ) → x ≡ Ok v ↔ Is v
  means-exactly v = (
    λ e. ⊎_elim (λ h. absurd (means-not-bad (sym e ∙ no-bad h)))
        (⊎_elim (λ (u, i). let j = sym (is-means u i) ∙ e in let same : u ≡ v = cc in rw same at i)
        (λ h. absurd (means-not-bad (sym e ∙ out-bad h)))) one,
    is-means v,
  )

  bad-exactly : (g : Fault) → x ≡ Err g ↔ (No × (g ≡ Number)) ⊎ (Out × (g ≡ f))
  bad-exactly g = (
    λ e. ⊎_elim (λ h. let i = sym (no-bad h) ∙ e in let j : g ≡ Number = cc in inl (h, j))
        (⊎_elim (λ (u, i). absurd (means-not-bad (sym (is-means u i) ∙ e)))
        (λ h. let i = sym (out-bad h) ∙ e in let j : g ≡ f = cc in inr (h, j))) one,
    ⊎_elim (λ (h, e). rw e (no-bad h)) (λ (h, e). rw e (out-bad h)),
  )

  both_ways : ((v : ℕ) → x ≡ Ok v ↔ Is v)
      × ((g : Fault) → x ≡ Err g ↔ (No × (g ≡ Number)) ⊎ (Out × (g ≡ f)))
  both_ways = (means-exactly, bad-exactly)

-- which it is
up_to : (n most : ℕ) → (n ≤ most) ⊎ (most < n)
up_to n most = go (leb n most) refl
  where
    go : (t : Bool) → leb n most ≡ t → (n ≤ most) ⊎ (most < n)
    go true e = inl (leb-true n most e)
    go false e = inr (leb-false n most e)

says-or : (w : List ℕ) → NoNumber w ⊎ ((b : Bool) × (n : ℕ) × Says w b n)
says-or w = go (numeral (digits_of w)) refl
  where
    go : (t : Bool) → numeral (digits_of w) ≡ t → NoNumber w ⊎ ((b : Bool) × (n : ℕ) × Says w b n)
    go true e = inr (is_negative w, decimal 0 (digits_of w), (says-exactly w _ _).0 (refl, e, refl))
    go false e = inl (λ b n s. true-not-false (sym ((says-exactly w b n).1 s).1 ∙ e))

within-or : (below above : ℕ) (w : List ℕ) → NoNumber w ⊎ (((v : ℕ) × Within below above w v) ⊎ Outside below above w)
within-or below above w = ⊎_elim inl (λ (b, n, s). inr (go b n s)) (says-or w)
  where
    go : (b : Bool) (n : ℕ) → Says w b n → ((v : ℕ) × Within below above w v) ⊎ Outside below above w
    go false n s = ⊎_elim (λ h. inl (n, up n s h refl)) (λ h. inr (up n s h)) (up_to n above)
    go true n s =
        ⊎_elim (λ h. inl ((65536 - n) % 65536, down n s h refl)) (λ h. inr (down n s h)) (up_to n below)

-- ---- the kinds of number

pub data Bounds : ℕ → ℕ → ℕ → Fault → Type 0 where
  -- "a ROOM outside 0 to 600 is `error room`"
  room : Bounds (code "r") 0 600 Room
  -- "a tilt outside 16 bits signed, an alarm outside 0 to 255 and a limit outside 0 to 65,535 are `error number`"
  tilt : Bounds (code "t") 32768 32767 Number
  alarm : Bounds (code "a") 0 255 Number
  limit : Bounds (code "l") 0 65535 Number

bounded : {k below above : ℕ} {f : Fault} → Bounds k below above f → (d : ℕ) (w : List ℕ)
    → value_of k d w ≡ number_by below above f w
unfolding value_of
bounded room d w = refl
bounded tilt d w = refl
bounded alarm d w = refl
bounded limit d w = refl

module _ {k below above : ℕ} {f : Fault} (b : Bounds k below above f) (d : ℕ) (w : List ℕ) where
  number-ways : ((v : ℕ) → value_of k d w ≡ Ok v ↔ Within below above w v)
      × ((g : Fault) → value_of k d w ≡ Err g ↔ (NoNumber w × (g ≡ Number)) ⊎ (Outside below above w × (g ≡ f)))
  number-ways =
      rw (bounded b d w)
      (both_ways (number_by below above f w) (NoNumber w) (Within below above w) (Outside below above w) f
      (no_number below above f w) (λ v i. number-within below above f w i) (number-outside below above f w)
      (within-or below above w))

  pub number-taken : (v : ℕ) → value_of k d w ≡ Ok v ↔ Within below above w v
  number-taken = number-ways.0

  -- "anything else is `error number`"
  pub number-fault : (g : Fault) → value_of k d w ≡ Err g
      ↔ (NoNumber w × (g ≡ Number)) ⊎ (Outside below above w × (g ≡ f))
  number-fault = number-ways.1

-- "A K that is a number but no device of the bench, negative ones too, is `error device`"; they are counted from 1
abbrev pub ADevice : ℕ → List ℕ → ℕ → Type 0
ADevice d w v = Says w false v × (1 ≤ v) × (v ≤ d)

pub data NoDevice (d : ℕ) (w : List ℕ) : Type 0 where
  nought : Says w false 0 → NoDevice d w
  past : (n : ℕ) → Says w false n → d < n → NoDevice d w
  negative : (n : ℕ) → Says w true n → NoDevice d w

module _ (d : ℕ) (w : List ℕ) where
  device-no : NoDevice d w → value_of (code "d") d w ≡ Err Device
  unfolding value_of from_one
  device-no (nought s) = rw (number-within 0 d Device w {v = 0} (up 0 s (omega arith) refl))
  device-no (past n s h) = rw (number-outside 0 d Device w (up n s h))
  device-no (negative n s) =
      ⊎_elim (λ h. rw (number-within 0 d Device w {v = 0} (down n s h (omega (arith, h)))))
      (λ h. rw (number-outside 0 d Device w (down n s h))) (up_to n 0)

  device-is : (v : ℕ) → Says w false v → 1 ≤ v → v ≤ d → value_of (code "d") d w ≡ Ok v
  unfolding value_of from_one
  device-is v s a b = rw (number-within 0 d Device w (up v s b refl), ne_eqb v 0 (λ e. omega (arith, a, e)))

  device-not : NoNumber w → value_of (code "d") d w ≡ Err Number
  unfolding value_of from_one
  device-not h = rw (no_number 0 d Device w h)

  device-or : NoNumber w ⊎ (((v : ℕ) × ADevice d w v) ⊎ NoDevice d w)
  device-or = ⊎_elim inl (λ (b, n, s). inr (go b n s)) (says-or w)
    where
      go : (b : Bool) (n : ℕ) → Says w b n → ((v : ℕ) × ADevice d w v) ⊎ NoDevice d w
      go true n s = inr (negative n s)
      go false zero s = inr (nought s)
      go false (suc n) s =
          ⊎_elim (λ h. inl (suc n, (s, omega arith, h))) (λ h. inr (past (suc n) s h)) (up_to (suc n) d)

  device-ways : ((v : ℕ) → value_of (code "d") d w ≡ Ok v ↔ ADevice d w v)
      × ((g : Fault) → value_of (code "d") d w ≡ Err g ↔ (NoNumber w × (g ≡ Number)) ⊎ (NoDevice d w × (g ≡ Device)))
  device-ways =
      both_ways (value_of (code "d") d w) (NoNumber w) (ADevice d w) (NoDevice d w) Device
      device-not (λ v (s, a, b). device-is v s a b) device-no device-or

  pub device-taken : (v : ℕ) → value_of (code "d") d w ≡ Ok v ↔ ADevice d w v
  device-taken = device-ways.0

  pub device-fault : (g : Fault) → value_of (code "d") d w ≡ Err g
      ↔ (NoNumber w × (g ≡ Number)) ⊎ (NoDevice d w × (g ≡ Device))
  device-fault = device-ways.1
