-- Rows of octets compared: `==` on slices is `same`. Assumes nothing.
use mathlib.Core.Path.{◌≡◌, refl, ap}
use mathlib.Core.Bool.{Bool, ◌&&◌}
use mathlib.Core.List.{List, [], ◌∷◌}
use Prim.Native.Nat.{ℕ, ◌-◌, ◌<◌}
use native.Mathlib.Omega.{arith}
use lib.Dec.{eqb}
use lib.ListN.{length, get_or, take, drop}
use lib.Seq.{take_all}
use Rattle.std.proofs.lemmas.Bool.{eq-eqb}
use Rattle.std.specs.Prelude.{bytes_eq}
use Rattle.identity.specs.Identity.{same}

pub same_pointwise : (a b : List ℕ) → bytes_eq a b ≡ same a b
unfolding same
same_pointwise [] [] = refl
same_pointwise [] (y ∷ b) = refl
same_pointwise (x ∷ a) [] = refl
same_pointwise (x ∷ a) (y ∷ b) = ap (λ (t : Bool). eqb x y && t) (same_pointwise a b)

-- two rows that begin with one octet are the same exactly if what stands behind it is
pub same_behind : (a b : List ℕ) → 0 < length a → 0 < length b → get_or a 0 0 ≡ get_or b 0 0
    → bytes_eq (take (length a - 1) (drop 1 a)) (take (length b - 1) (drop 1 b)) ≡ same a b
unfolding same
same_behind [] b h k e = absurd (omega arith)
same_behind (x ∷ a) [] h k e = absurd (omega arith)
same_behind (x ∷ a) (y ∷ b) h k e =
    rw (eq-eqb x y e, take_all (length (x ∷ a) - 1) a (omega arith), take_all (length (y ∷ b) - 1) b (omega arith))
    (same_pointwise a b)
