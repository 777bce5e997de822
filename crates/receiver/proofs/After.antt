-- One octet: a flag, and one that is none; a record that is not refused stays so. Assumes nothing.
use mathlib.Core.Path.{◌≡◌, refl, ◌∙◌}
use mathlib.Core.Bool.{Bool, true, false, cond}
use Prim.Native.Nat.{ℕ}
use native.Mathlib.Omega.{arith}
use lib.Dec.{eqb}
use lib.Seq.{length-sets}
use Rattle.frame.specs.Line.{flag}
use Rattle.receiver.specs.Held.{Held, Usable, added_by, taken_in, raw, after_flag, after_octet, closes}

taken-usable : (h : Held) (x : ℕ) → Usable h → Usable (taken_in h x)
unfolding taken_in
taken-usable h x u = (length-sets h.store h.marks.count (added_by h x) ∙ u.0, omega arith)

-- what holds on each side of a test holds by it
pub by-test : {A : Type 0} (P : A → Type 0) (t : Bool) {a b : A}
    → (t ≡ true → P a) → (t ≡ false → P b) → P (cond t a b)
by-test P true p q = p refl
by-test P false p q = q refl

pub after-usable : (h : Held) (x : ℕ) → Usable h → Usable (after_octet h x)
unfolding after_octet after_flag raw
after-usable h x u =
    by-test Usable (eqb x flag) (λ e. (u.0, omega arith))
    (λ e. by-test Usable h.marks.seen (λ f. taken-usable h x u) (λ f. u))

module _ (h : Held) (x : ℕ) where
  pub after-flag : eqb x flag ≡ true → after_octet h x ≡ after_flag h
  unfolding after_octet
  after-flag e = rw e

  pub after-other : eqb x flag ≡ false → after_octet h x ≡ raw h x
  unfolding after_octet
  after-other e = rw e

  pub closes-other : eqb x flag ≡ false → closes h x ≡ false
  unfolding closes
  closes-other e = rw e
