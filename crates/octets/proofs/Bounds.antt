-- Which lists are lists of octets, and the two octets of a number. Assumes nothing.
use mathlib.Core.Path.{◌≡◌}
use mathlib.Core.Bool.{Bool, true, false, cond}
use mathlib.Core.List.{List, [], ◌∷◌, ◌++◌}
use Prim.Native.Nat.{ℕ, zero, suc, ◌<◌}
use native.Mathlib.Omega.{arith}
use lib.Dec.{lit<}
use lib.ListN.{get_or, take}
use Rattle.octets.specs.Octets.{Octets, low_of, high_of, pair_of}

pub octets-of : (s : List ℕ) → ((i : ℕ) → get_or s i 0 < 256) → Octets s
octets-of [] h = tt
octets-of (x ∷ xs) h = (h 0, octets-of xs (λ i. h (suc i)))

pub octets-at : (s : List ℕ) → Octets s → (i : ℕ) → get_or s i 0 < 256
octets-at [] h i = lit< tt
octets-at (x ∷ xs) h zero = h.0
octets-at (x ∷ xs) h (suc i) = octets-at xs h.1 i

pub octets-take : (n : ℕ) (s : List ℕ) → Octets s → Octets (take n s)
octets-take zero s h = tt
octets-take (suc n) [] h = tt
octets-take (suc n) (x ∷ xs) h = (h.0, octets-take n xs h.1)

pub octets-append : (s t : List ℕ) → Octets s → Octets t → Octets (s ++ t)
octets-append [] t h k = k
octets-append (x ∷ xs) t h k = (h.0, octets-append xs t h.1 k)

pub octets-cond : (t : Bool) (l m : List ℕ) → Octets l → Octets m → Octets (cond t l m)
octets-cond true l m h k = h
octets-cond false l m h k = k

pub pair_parts : (n : ℕ) → n < 65536 → pair_of (low_of n) (high_of n) ≡ n
pair_parts n h = omega arith

pub low-pair : (l h : ℕ) → l < 256 → low_of (pair_of l h) ≡ l
low-pair l h b = omega arith

pub high-pair : (l h : ℕ) → l < 256 → h < 256 → high_of (pair_of l h) ≡ h
high-pair l h b d = omega arith
