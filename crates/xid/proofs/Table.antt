-- Which lengths the table of scans and assignments allows, which values are a scan and which an assignment: in 01's words
-- and numbers, both ways. Assumes nothing.
use mathlib.Core.Path.{◌≡◌, refl, sym}
use mathlib.Core.Bool.{Bool, true, false, cond, not, ◌&&◌}
use mathlib.Core.List.{List}
use mathlib.Core.Logic.{◌↔◌}
use mathlib.Core.Option.{none, some}
use Prim.Native.Nat.{ℕ, ◌≤◌}
use native.Mathlib.Omega.{arith}
use borrow.Author.Tests.{eqb-true, leb-true, le-leb, eq-eqb, not-true}
use lib.Dec.{eqb, leb}
use lib.ListN.{length}
use Rattle.octets.proofs.Words.{true-not-false}
use Rattle.params.specs.Field.{right_length, given, octets_in}
use Rattle.params.proofs.Kept.{both_of}
use Rattle.xid.specs.Addressing.{addressing, Values}
use Rattle.xid.specs.Match.{is_scan, scan_shape, is_assignment, assignment_shape}
use Rattle.xid.specs.Meaning.{Allows, an-identity, an-address, a-mask, a-type, a-vendor}
use Rattle.xid.proofs.Told.{given-some, given-none, scan-values}

-- "Identifiers 1 (identity, 1 to 19), 2 (address, 1), 3 (mask, 1 to 19), 4 (type, 1), 6 (vendor, 2)"
module _ (n k : ℕ) where
  between : (least most : ℕ) → leb least k && leb k most ≡ true → (least ≤ k) × (k ≤ most)
  between least most e = let (a, b) = both_of (leb least k) (leb k most) e in (leb-true _ _ a, leb-true _ _ b)

  allows : right_length addressing.table n k ≡ true → Allows n k
  unfolding right_length
  allows = one (eqb 1 n) refl
    where
      six : (b : Bool) → eqb 6 n ≡ b → cond b (leb 2 k && leb k 2) false ≡ true → Allows n k
      six true q e = let (a, b) = between 2 2 e in a-vendor (sym (eqb-true 6 n q)) (omega (arith, a, b))
      six false q e = absurd (true-not-false (sym e))

      four : (b : Bool) → eqb 4 n ≡ b
          → cond b (leb 1 k && leb k 1) (cond (eqb 6 n) (leb 2 k && leb k 2) false) ≡ true → Allows n k
      four true q e = let (a, b) = between 1 1 e in a-type (sym (eqb-true 4 n q)) (omega (arith, a, b))
      four false q e = six (eqb 6 n) refl e

      three : (b : Bool) → eqb 3 n ≡ b
          → cond b (leb 1 k && leb k 19)
          (cond (eqb 4 n) (leb 1 k && leb k 1) (cond (eqb 6 n) (leb 2 k && leb k 2) false)) ≡ true → Allows n k
      three true q e = let (a, b) = between 1 19 e in a-mask (sym (eqb-true 3 n q)) a b
      three false q e = four (eqb 4 n) refl e

      two : (b : Bool) → eqb 2 n ≡ b
          → cond b (leb 1 k && leb k 1)
          (cond (eqb 3 n) (leb 1 k && leb k 19)
          (cond (eqb 4 n) (leb 1 k && leb k 1) (cond (eqb 6 n) (leb 2 k && leb k 2) false))) ≡ true → Allows n k
      two true q e = let (a, b) = between 1 1 e in an-address (sym (eqb-true 2 n q)) (omega (arith, a, b))
      two false q e = three (eqb 3 n) refl e

      one : (b : Bool) → eqb 1 n ≡ b
          → cond b (leb 1 k && leb k 19)
          (cond (eqb 2 n) (leb 1 k && leb k 1)
          (cond (eqb 3 n) (leb 1 k && leb k 19)
          (cond (eqb 4 n) (leb 1 k && leb k 1) (cond (eqb 6 n) (leb 2 k && leb k 2) false)))) ≡ true → Allows n k
      one true q e = let (a, b) = between 1 19 e in an-identity (sym (eqb-true 1 n q)) a b
      one false q e = two (eqb 2 n) refl e

  allowed : Allows n k → right_length addressing.table n k ≡ true
  unfolding right_length
  allowed (an-identity q a b) = rw (q, le-leb 1 k a, le-leb k 19 b)
  allowed (an-address q e) = rw (q, e)
  allowed (a-mask q a b) = rw (q, le-leb 1 k a, le-leb k 19 b)
  allowed (a-type q e) = rw (q, e)
  allowed (a-vendor q e) = rw (q, e)

  pub table-exactly : right_length addressing.table n k ≡ true ↔ Allows n k
  table-exactly = (allows, allowed)

-- "Scan: exactly 1 and 3, of equal length."
pub is-scan-exactly : (w : Values) → is_scan w ≡ true
    ↔ ((v : List ℕ) × (k : List ℕ)
    × (w ≡ record { identity = some v; address = none; mask = some k; kind = none; vendor = none })
    × (length v ≡ length k))
unfolding is_scan scan_shape given octets_in
is-scan-exactly w = (
  λ e. let (values, equal) = scan-values w e in (octets_in w.identity, octets_in w.mask, values, equal),
  λ (v, k, values, equal). rw (values, eq-eqb (length v) (length k) equal),
)

-- "Assignment: 2 present, 3 absent"
pub is-assignment-exactly : (w : Values) → is_assignment w ≡ true
    ↔ ((v : List ℕ) × (w.address ≡ some v) × (w.mask ≡ none))
unfolding assignment_shape given
is-assignment-exactly w = (
  λ e.
      let (present, absent) = both_of (given w.address) (not (given w.mask)) e in
      (octets_in w.address, given-some w.address present, given-none w.mask (not-true _ absent)),
  λ (v, present, absent). rw (present, absent),
)
