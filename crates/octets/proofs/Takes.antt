-- The first of a list, as many as there are. Assumes nothing.
use mathlib.Core.Path.{◌≡◌, refl, sym, ap, ap₂, ◌∙◌}
use mathlib.Core.List.{List, [], ◌∷◌}
use Prim.Native.Nat.{ℕ, zero, suc, ◌-◌, ◌≤◌, min}
use native.Mathlib.Omega.{arith}
use lib.ListN.{length, take, drop, length-take, length-drop}
use lib.Seq.{take_all, take-nil}
use Rattle.octets.specs.Octets.{part_of}

module _ {A : Type 0} where
  -- the first of the first
  pub take_min : (a b : ℕ) (s : List A) → take (min a b) s ≡ take b (take a s)
  take_min zero b s = let n : min zero b ≡ 0 = omega arith in rw n (sym (take-nil b))
  take_min (suc a) zero s = let n : min (suc a) zero ≡ 0 = omega arith in rw n
  take_min (suc a) (suc b) [] = take-nil (min (suc a) (suc b))
  take_min (suc a) (suc b) (x ∷ s) =
      let n : min (suc a) (suc b) ≡ suc (min a b) = omega arith in
      rw n (ap (λ (l : List A). x ∷ l) (take_min a b s))

  -- no more than there are
  pub take_within : (a b : ℕ) (s : List A) → length s ≤ b → take (min a b) s ≡ take a s
  take_within a b s h = take_min a b s ∙ take_all b (take a s) (omega (arith, length-take a s))

  -- from a place to the end
  pub take_rest : (i : ℕ) (s : List A) → take (length s - i) (drop i s) ≡ drop i s
  take_rest i s = take_all (length s - i) (drop i s) (omega (arith, length-drop i s))

  pub take-room : (s : List A) (k : ℕ) → take (min (length s) k) s ≡ take k s
  take-room s k = take_min (length s) k s ∙ ap (take k) (take_all (length s) s (omega arith))

-- from one place up to another, and no more octets than there are
pub part-is : (from end : ℕ) (s : List ℕ) {n m : ℕ} → n ≡ min end (length s) → m ≡ min from n
    → take (n - m) (drop m s) ≡ part_of from end s
part-is zero end s {n} {m} e f =
    let z : m ≡ 0 = omega arith in
    let y : n - m ≡ min (length s) end = omega arith in
    ap₂ (λ (i j : ℕ). take i (drop j s)) y z ∙ take-room s end
part-is (suc from) zero s {n} {m} e f =
    let z : m ≡ 0 = omega arith in
    let y : n - m ≡ 0 = omega arith in
    ap₂ (λ (i j : ℕ). take i (drop j s)) y z
part-is (suc from) (suc end) [] {n} {m} e f =
    let z : m ≡ 0 = omega arith in
    let y : n - m ≡ 0 = omega arith in
    ap₂ (λ (i j : ℕ). take i (drop j [])) y z
part-is (suc from) (suc end) (x ∷ s) {n} {m} e f =
    let n' : ℕ = min end (length s) in
    let z : m ≡ suc (min from n') = omega arith in
    let y : n - m ≡ n' - min from n' = omega arith in
    ap₂ (λ (i j : ℕ). take i (drop j (x ∷ s))) y z ∙ part-is from end s refl refl
