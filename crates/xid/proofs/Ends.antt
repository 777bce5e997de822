-- An identity's right end: the test, and what it says of the octets. Assumes nothing.
use mathlib.Core.Path.{◌≡◌, sym, ap, ap₂, ◌∙◌}
use mathlib.Core.Bool.{true}
use mathlib.Core.Logic.{◌↔◌}
use mathlib.Core.List.{List, ◌++◌}
use Prim.Native.Nat.{ℕ, ◌+◌, ◌-◌}
use native.Mathlib.Omega.{arith}
use borrow.Author.Tests.{leb-true, le-leb}
use lib.Dec.{leb}
use lib.ListN.{length, take, drop, take-append-drop, length-append}
use lib.Seq.{drop-append_seam}
use Rattle.identity.specs.Identity.{same}
use Rattle.identity.proofs.Scans.{same-is, is_same}
use Rattle.params.proofs.Kept.{both_of, of-both}
use Rattle.xid.specs.Match.{rightmost, ends_with}
use Rattle.xid.specs.Meaning.{EndOf}

module _ (i v : List ℕ) where
  pub ends-exactly : ends_with i v ≡ true ↔ EndOf i v
  unfolding ends_with
  ends-exactly = (
    λ e.
        let (a, b) = both_of (leb (length v) (length i)) (same v (rightmost (length v) i)) e in
        (leb-true (length v) (length i) a, same-is v (rightmost (length v) i) b),
    λ (h, e). of-both (le-leb (length v) (length i) h) (is_same v (rightmost (length v) i) e),
  )

  -- whatever stands before it: compared from the right, and never from the left
  pub end-exactly : EndOf i v ↔ ((u : List ℕ) × (u ++ v ≡ i))
  end-exactly = (
    λ (h, e). (
      take (length i - length v) i,
      ap (λ (w : List ℕ). take (length i - length v) i ++ w) e ∙ take-append-drop (length i - length v) i,
    ),
    λ (u, e).
        let long : length i ≡ length u + length v = ap length (sym e) ∙ length-append u v in
        let before : length i - length v ≡ length u = omega arith in
        (omega arith, sym (ap₂ (drop {A = ℕ}) before (sym e) ∙ drop-append_seam u v)),
  )
