-- A line that a loop goes through by an index i: what is left to decode at i, against what is left at i + 1; and a
-- broken line, by its two parts. Assumes nothing.
use mathlib.Core.Path.{◌≡◌, refl, sym, ap, ap₂, ◌∙◌}
use denote.Ref.{Bor}
use mathlib.Core.Bool.{Bool, true, false, cond, or-true}
use mathlib.Core.List.{List, [], ◌∷◌}
use mathlib.Core.Logic.{◌↔◌, ◌⊎◌, inl, inr, ⊎_elim}
use Prim.Native.Nat.{ℕ, zero, suc, ◌+◌, ◌-◌, ◌*◌, ◌<◌, ◌≤◌}
use native.Mathlib.Omega.{arith}
use borrow.Author.Tests.{eqb-true, eq-eqb, ne_eqb, ltb-true, ltb-false}
use lib.Bits.{bit_xor}
use lib.Dec.{eqb, ltb}
use lib.ListN.{length, get_or, drop, drop_of_length-le}
use Rattle.std.proofs.Common.{Option, Some, None}
use Rattle.std.specs.List.{slice_get}
use Rattle.std.specs.Option.{option_copied, option_eq}
use Rattle.octets.specs.Octets.{holds, OneOf, last_of}
use Rattle.octets.proofs.Rest.{rest}
use Rattle.octets.proofs.Words.{true-not-false, or_parts, or-none, holds-exactly}
use Rattle.octets.proofs.Words.{last-at, last_empty}
use Rattle.limits.specs.Limits.{line_most}
use Rattle.frame.specs.Line.{flag, escape, broken, plain_after, plain}

module _ (s : List ℕ) (i : ℕ) where
  pub plain_done : length s ≤ i → plain (drop i s) ≡ []
  unfolding plain_after
  plain_done h = rw (drop_of_length-le s h)

  module _ (h : i < length s) where
    -- an escape, and the octet behind it
    pub plain-pair : get_or s i 0 ≡ 0x7D → i + 1 < length s
        → plain (drop i s) ≡ bit_xor (get_or s (i + 1) 0) 0x20 ∷ plain (drop (i + 1 + 1) s)
    unfolding plain_after
    plain-pair e k = rw (rest s i h, eq-eqb (get_or s i 0) escape e, rest s (i + 1) k)

    -- an escape that is not the last octet has one behind it
    pub one-behind : eqb (last_of 0 s) escape ≡ false → get_or s i 0 ≡ escape → i + 1 < length s
    one-behind l e = go (ltb (i + 1) (length s)) refl
      where
        go : (t : Bool) → ltb (i + 1) (length s) ≡ t → i + 1 < length s
        go true t = ltb-true (i + 1) (length s) t
        go false t =
            let k : length s ≤ i + 1 = ltb-false (i + 1) (length s) t in
            let n : length s - 1 ≡ i = omega arith in
            let last : last_of 0 s ≡ escape = last-at 0 s 0 (omega arith) ∙ ap (λ (j : ℕ). get_or s j 0) n ∙ e in
            absurd (true-not-false (sym (eq-eqb (last_of 0 s) escape last) ∙ l))

    pub plain-octet : (get_or s i 0 ≡ escape → ⊥) → plain (drop i s) ≡ get_or s i 0 ∷ plain (drop (i + 1) s)
    unfolding plain_after
    plain-octet n = rw (rest s i h, ne_eqb (get_or s i 0) escape n)

-- a decoded octet takes at most two on the line; the Bool is that of `plain_after`, and one more is left over for it
plain-long-after : (removed : Bool) (s : List ℕ) → length s ≤ 2 * length (plain_after removed s) + cond removed 0 1
unfolding plain_after
plain-long-after true [] = omega arith
plain-long-after true (x ∷ xs) = omega (arith, plain-long-after false xs)
plain-long-after false [] = omega arith
plain-long-after false (x ∷ xs) = go (eqb x escape) (plain-long-after true xs) (plain-long-after false xs)
  where
    go : (t : Bool) → length xs ≤ 2 * length (plain_after true xs) + 0
        → length xs ≤ 2 * length (plain_after false xs) + 1
        → suc (length xs) ≤ 2 * length (cond t (plain_after true xs) (x ∷ plain_after false xs)) + 1
    go true h k = omega arith
    go false h k = omega arith

pub plain-long : (s : List ℕ) → length s ≤ 2 * length (plain s) + 1
plain-long s = plain-long-after false s

-- and each octet on the line stands for one at most
plain-short-after : (removed : Bool) (s : List ℕ) → length (plain_after removed s) ≤ length s
unfolding plain_after
plain-short-after true [] = omega arith
plain-short-after true (x ∷ xs) = omega (arith, plain-short-after false xs)
plain-short-after false [] = omega arith
plain-short-after false (x ∷ xs) = go (eqb x escape) (plain-short-after true xs) (plain-short-after false xs)
  where
    go : (t : Bool) → length (plain_after true xs) ≤ length xs → length (plain_after false xs) ≤ length xs
        → length (cond t (plain_after true xs) (x ∷ plain_after false xs)) ≤ suc (length xs)
    go true h k = omega arith
    go false h k = omega arith

pub plain-short : (s : List ℕ) → length (plain s) ≤ length s
plain-short s = plain-short-after false s

-- so more than 2N + 2 octets stand for more than N
pub overlong : (N : ℕ) (s : List ℕ) → line_most N < length s → N < length (plain s)
overlong N s h = omega (arith, plain-long s)

-- the last octet, as the library gives it
last-get : (d x : ℕ) (xs : List ℕ) → slice_get (x ∷ xs) (length xs) ≡ Some (last_of d (x ∷ xs))
unfolding last_of
last-get d x [] = refl
last-get d x (y ∷ ys) = last-get x y ys

last-there : (x : ℕ) (xs : List ℕ) → slice_get (x ∷ xs) (suc (length xs) - 1) ≡ Some (last_of 0 (x ∷ xs))
last-there x xs = let n : suc (length xs) - 1 ≡ length xs = omega arith in rw n (last-get 0 x xs)

pub ends-is : (s : List ℕ) (r : Option (Bor ℕ)) (y : Bor ℕ) → option_copied r ≡ slice_get s (length s - 1) → y.now ≡ escape
    → option_eq (λ (a b : Bor ℕ). eqb a.now b.now) r (Some y) ≡ eqb (last_of 0 s) escape
unfolding last_of
ends-is [] None y e f = refl
ends-is [] (Some a) y e f = cc
ends-is (x ∷ xs) None y e f = cc (last-there x xs)
ends-is (x ∷ xs) (Some a) y e f = let same : a.now ≡ last_of 0 (x ∷ xs) = cc (last-there x xs) in ap₂ eqb same f

module _ (s : List ℕ) where
  pub unbroken : holds flag s ≡ false → eqb (last_of 0 s) escape ≡ false → broken s ≡ false
  unfolding broken
  unbroken e f = rw (e, f)

  pub unbroken-parts : broken s ≡ false → (holds flag s ≡ false) × (eqb (last_of 0 s) escape ≡ false)
  unfolding broken
  unbroken-parts e = or-none (holds flag s) (eqb (last_of 0 s) escape) e

  -- "0x7E inside, or 0x7D as the last octet", in words
  pub broken-exactly : broken s ≡ true ↔ OneOf 0x7E s ⊎ ((0 < length s) × (get_or s (length s - 1) 0 ≡ 0x7D))
  unfolding broken
  broken-exactly = (
    λ e. ⊎_elim (λ h. inl ((holds-exactly flag s).0 h)) (λ h. inr (ended (eqb-true (last_of 0 s) escape h)))
        (or_parts (holds flag s) (eqb (last_of 0 s) escape) e),
    ⊎_elim (λ w. rw ((holds-exactly flag s).1 w))
        (λ w. rw (last-at 0 s 0 w.0 ∙ w.1) (or-true (holds flag s))),
  )
    where
      ended : last_of 0 s ≡ escape → (0 < length s) × (get_or s (length s - 1) 0 ≡ escape)
      ended e = go (length s) refl
        where
          go : (n : ℕ) → length s ≡ n → (0 < length s) × (get_or s (length s - 1) 0 ≡ escape)
          go zero n =
              let none : 0 ≡ escape = sym (last_empty 0 s n) ∙ e in absurd (omega arith)
          go (suc k) n =
              let some : 0 < length s = omega (arith, n) in (some, sym (last-at 0 s 0 some) ∙ e)
