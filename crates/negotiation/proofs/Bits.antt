-- The number that octets stand for, highest first: octet by octet, for a loop that goes through them by i and stops
-- where the number is past any payload's; and the limit that it asks for. Assumes nothing.
use mathlib.Core.Path.{◌≡◌, refl, sym, ap₂, ◌∙◌}
use mathlib.Core.List.{List, [], ◌∷◌, ◌++◌}
use Prim.Native.Nat.{ℕ, ◌+◌, ◌*◌, ◌^◌, ◌-◌, ◌≤◌, min}
use native.Mathlib.Omega.{arith}
use Rattle.limits.specs.Limits.{limit_most, payload_most}
use Rattle.negotiation.specs.Negotiation.{bits_from, bits_in, limit_for}

-- one octet to four
pub bits-one : (x : ℕ) → bits_in (x ∷ []) ≡ x
unfolding bits_from
bits-one x = omega arith

pub bits-two : (h l : ℕ) → bits_in (h ∷ l ∷ []) ≡ h * 256 + l
unfolding bits_from
bits-two h l = omega arith

pub bits-three : (a b c : ℕ) → bits_in (a ∷ b ∷ c ∷ []) ≡ a * 65536 + b * 256 + c
unfolding bits_from
bits-three a b c = omega arith

pub bits-four : (a b c d : ℕ) → bits_in (a ∷ b ∷ c ∷ d ∷ []) ≡ a * 16777216 + b * 65536 + c * 256 + d
unfolding bits_from
bits-four a b c d = omega arith

-- more octets make no smaller number
pub bits-least : (n : ℕ) (v : List ℕ) → n ≤ bits_from n v
unfolding bits_from
bits-least n [] = omega arith
bits-least n (x ∷ xs) = omega (arith, bits-least (n * 256 + x) xs)

-- one octet more
bits-push : (n : ℕ) (v : List ℕ) (x : ℕ) → bits_from n (v ++ (x ∷ [])) ≡ bits_from n v * 256 + x
unfolding bits_from
bits-push n [] x = refl
bits-push n (y ∷ v) x = bits-push (n * 256 + y) v x

-- and a number that tells as far as the most bits tells so with it, wherever past them it stops
pub bits-more : (v : List ℕ) (x a b : ℕ) → min a (payload_most limit_most * 8) ≡ min (bits_in v) (payload_most limit_most * 8)
    → b ≡ min (min (a * 256) (2 ^ 64 - 1) + x) (2 ^ 64 - 1)
    → min b (payload_most limit_most * 8) ≡ min (bits_in (v ++ (x ∷ []))) (payload_most limit_most * 8)
bits-more v x a b e f = rw (bits-push 0 v x, f) (omega arith)

-- up to 2048 bits the limit goes by their number, and past them it is the same
pub limit-as-far : (a b : ℕ) → min a (payload_most limit_most * 8) ≡ min b (payload_most limit_most * 8)
    → limit_for a ≡ limit_for b
unfolding limit_for
limit-as-far a b e = omega arith

-- the smaller of two numbers, each as far as m
apart : (m a b : ℕ) → min (min a b) m ≡ min (min a m) (min b m)
apart m a b = omega arith

pub smaller-as-far : (m a b c d : ℕ) → min a m ≡ min c m → min b m ≡ min d m → min (min a b) m ≡ min (min c d) m
smaller-as-far m a b c d e f = apart m a b ∙ ap₂ min e f ∙ sym (apart m c d)
