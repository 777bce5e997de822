-- Octets with their check: what the check is of, and that it is right exactly for octets that are their body with its
-- check. Assumes nothing.
use mathlib.Core.Path.{◌≡◌, sym, ap, ◌∙◌}
use mathlib.Core.Bool.{true}
use mathlib.Core.List.{List, [], ◌∷◌, ◌++◌}
use mathlib.Core.Logic.{◌↔◌}
use Prim.Native.Nat.{ℕ, suc, ◌+◌, ◌-◌, ◌≤◌}
use native.Mathlib.Omega.{arith}
use borrow.Author.Tests.{eqb-true, eq-eqb}
use lib.ListN.{length, get_or, take, take-append-drop, drop_of_length-le}
use lib.Seq.{take_at, get_or_at, get_or-append-add, drop-cons}
use Rattle.octets.specs.Octets.{Octets, low_of, high_of, pair_of}
use Rattle.octets.proofs.Bounds.{octets-at, octets-take, pair_parts, low-pair, high-pair}
use Rattle.fcs.specs.Check.{check_of, with_check}
use Rattle.fcs.proofs.Register.{check-lt}
use Rattle.frame.specs.Decode.{body, right_check}
use Rattle.frame.proofs.Assembled.{length-with_check}

module _ (b : List ℕ) where
  before : length (with_check b) - 2 ≡ length b
  before = omega (arith, length-with_check b)

  pub body-with_check : body (with_check b) ≡ b
  unfolding body with_check
  body-with_check = take_at b (low_of (check_of b) ∷ high_of (check_of b) ∷ []) (length (with_check b) - 2) (sym before)

  low-is : get_or (with_check b) (length (with_check b) - 2) 0 ≡ low_of (check_of b)
  unfolding with_check
  low-is = get_or_at b (low_of (check_of b)) (high_of (check_of b) ∷ []) 0 (length (with_check b) - 2) (sym before)

  high_is : get_or (with_check b) (length (with_check b) - 1) 0 ≡ high_of (check_of b)
  unfolding with_check
  high_is =
      let n : length (with_check b) - 1 ≡ length b + 1 = omega (arith, length-with_check b) in
      rw n (get_or-append-add b (low_of (check_of b) ∷ high_of (check_of b) ∷ []) 1 0)

  pub right-with_check : Octets b → right_check (with_check b) ≡ true
  unfolding right_check
  right-with_check os =
      rw (body-with_check, low-is, high_is)
      (eq-eqb (check_of b) (pair_of (low_of (check_of b)) (high_of (check_of b)))
      (sym (pair_parts (check_of b) (check-lt b os))))

-- d is its first octets and its last two
pub split-two : (d : List ℕ) (k : ℕ) → length d ≡ suc (suc k) → take k d ++ get_or d k 0 ∷ get_or d (suc k) 0 ∷ [] ≡ d
split-two d k e =
    ap (λ (l : List ℕ). take k d ++ l)
    (sym
    (drop-cons d k 0 (omega arith)
    ∙ ap (λ (l : List ℕ). get_or d k 0 ∷ l)
    (drop-cons d (suc k) 0 (omega arith)
    ∙ ap (λ (l : List ℕ). get_or d (suc k) 0 ∷ l) (drop_of_length-le d {i = suc (suc k)} (omega arith)))))
    ∙ take-append-drop k d

-- octets whose check is right are their body with its check
with_check-body : (d : List ℕ) → Octets d → 2 ≤ length d → right_check d ≡ true → with_check (body d) ≡ d
unfolding with_check body right_check
with_check-body d os h r =
    let k : ℕ = length d - 2 in
    let n : length d - 1 ≡ suc k = omega arith in
    let low = octets-at d os k in
    let high = octets-at d os (suc k) in
    let c : check_of (take k d) ≡ pair_of (get_or d k 0) (get_or d (suc k) 0) =
    rw n at (eqb-true (check_of (take k d)) (pair_of (get_or d k 0) (get_or d (length d - 1) 0)) r) in
    rw (c, low-pair (get_or d k 0) (get_or d (suc k) 0) low, high-pair (get_or d k 0) (get_or d (suc k) 0) low high)
    (split-two d k (omega arith))

-- "two check octets, low one first": the check is right exactly if it is that of the octets before it. (Fewer than two
-- octets have no check to be right; that of none is 0.)
pub check-exactly : (d : List ℕ) → Octets d → 2 ≤ length d → right_check d ≡ true ↔ d ≡ with_check (body d)
unfolding body
check-exactly d os h = (
  λ r. sym (with_check-body d os h r),
  λ e. rw e (right-with_check (body d) (octets-take (length d - 2) d os)),
)
