-- Tilts that are the same: each at most the other exactly if they are equal; the order that is derived; and the range.
-- Assumes nothing.
use mathlib.Core.Path.{◌≡◌, refl, sym, ap}
use mathlib.Core.Bool.{Bool, true, false, cond, ◌&&◌}
use mathlib.Core.Logic.Iff
use mathlib.Core.Logic.{◌↔◌}
use Prim.Native.Nat.{ℕ}
use native.Mathlib.Omega.{arith}
use borrow.Author.Tests.{ltb-true, ltb-false, leb-true, le-leb, lt-leb}
use lib.Dec.{T, ltb, leb}
use lib.IntN.{ℤ, pos, negsuc}
use lib.Signed.{le_z, ◌≤ℤ◌}
use Rattle.std.specs.Ordering.{is_le, int_cmp}
use Rattle.std.specs.declared.cmp.Ordering.TheVariants.{Less, Equal, Greater}
use Rattle.octets.proofs.Words.{true-not-false, and_parts}
use Rattle.antenna.specs.declared.Angle.{Angle}
use Rattle.antenna.specs.declared.Antenna.{Antenna}
use Rattle.antenna.specs.Angles.{at_most, same_as}
use Rattle.antenna.specs.Motions.{in_range}

each-at-most : (m n : ℕ) → (leb m n && leb n m) ≡ true → m ≡ n
each-at-most m n e =
    let w = and_parts (leb m n) (leb n m) e in omega (arith, leb-true m n w.0, leb-true n m w.1)

-- of two whole numbers, by their signs
each-at-most-ℤ : (a b : ℤ) → (le_z a b && le_z b a) ≡ true → a ≡ b
each-at-most-ℤ (pos m) (pos n) e = ap pos (each-at-most m n e)
each-at-most-ℤ (pos m) (negsuc n) e = absurd (true-not-false (sym e))
each-at-most-ℤ (negsuc m) (pos n) e = absurd (true-not-false (sym e))
each-at-most-ℤ (negsuc m) (negsuc n) e = ap negsuc (sym (each-at-most n m e))

at-most-itself : (a : ℤ) → le_z a a ≡ true
at-most-itself (pos m) = le-leb m m (omega arith)
at-most-itself (negsuc m) = le-leb m m (omega arith)

-- the derived test is the order of the integers, and so the definition's
compared : (m n : ℕ) → is_le (cond (ltb m n) Less (cond (ltb n m) Greater Equal)) ≡ leb m n
compared m n = go (ltb m n) refl (ltb n m) refl
  where
    go : (a : Bool) → ltb m n ≡ a → (b : Bool) → ltb n m ≡ b → is_le (cond a Less (cond b Greater Equal)) ≡ leb m n
    go true e b f = sym (le-leb m n (omega (arith, ltb-true m n e)))
    go false e true f = sym (lt-leb m n (ltb-true n m f))
    go false e false f = sym (le-leb m n (ltb-false n m f))

compared-ℤ : (a b : ℤ) → is_le (int_cmp a b) ≡ le_z a b
compared-ℤ (pos m) (pos n) = compared m n
compared-ℤ (pos m) (negsuc n) = refl
compared-ℤ (negsuc m) (pos n) = refl
compared-ℤ (negsuc m) (negsuc n) = compared n m

pub order_at_most : (a b : Angle) → is_le (int_cmp a.tenths b.tenths) ≡ at_most a b
unfolding at_most
order_at_most a b = compared-ℤ a.tenths b.tenths

-- "exactly if t is the tilt asked"
pub same-exactly : (a b : Angle) → same_as a b ≡ true ↔ a ≡ b
unfolding same_as at_most
same-exactly a b = (
  λ e. ap (λ (z : ℤ). record { tenths = z }) (each-at-most-ℤ a.tenths b.tenths e),
  λ e. rw (e, at-most-itself b.tenths),
)

passed : (b : Bool) → b ≡ true ↔ T b
passed true = (λ e. tt, λ h. refl)
passed false = (λ e. absurd (true-not-false (sym e)), λ h. absurd h)

-- the test is the order of the integers
pub at-most-exactly : (a b : Angle) → at_most a b ≡ true ↔ a.tenths ≤ℤ b.tenths
unfolding at_most
at-most-exactly a b = (λ e. record { le = (passed _).0 e }, λ h. (passed _).1 h.le)

pub both-exactly : (a b : Bool) → (a && b) ≡ true ↔ (a ≡ true) × (b ≡ true)
both-exactly a b = (and_parts a b, λ w. rw (w.0, w.1))

-- "lowest ≤ present ≤ highest", and "out of range"
pub range-exactly : (n : Antenna) (t : Angle)
    → in_range n t ≡ true ↔ (n.drive.lowest.tenths ≤ℤ t.tenths) × (t.tenths ≤ℤ n.drive.highest.tenths)
unfolding in_range
range-exactly n t =
    let low = at-most-exactly n.drive.lowest t in
    let high = at-most-exactly t n.drive.highest in
    Iff.trans (both-exactly (at_most n.drive.lowest t) (at_most t n.drive.highest))
    (λ w. (low.0 w.0, high.0 w.1), λ w. (low.1 w.0, high.1 w.1))
