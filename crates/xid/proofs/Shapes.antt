-- What the parts found by the walk say of the values that are given. Assumes nothing.
use mathlib.Core.Path.{◌≡◌, refl}
use mathlib.Core.List.{List}
use Prim.Native.Nat.{ℕ}
use Rattle.params.specs.Field.{given}
use Rattle.std.specs.Prelude.{is_some, Some, None}
use Rattle.params.specs.Walk.{Part, value_at}
use Rattle.xid.specs.declared.Parts.{Parts}
use Rattle.xid.specs.Addressing.{values_at}
use Rattle.xid.specs.Match.{assignment_shape, is_assignment}

pub given_at : (m : List ℕ) (p : Part) → given (value_at m p) ≡ is_some p
unfolding given value_at
given_at m None = refl
given_at m (Some x) = refl

module _ (m : List ℕ) (f : Parts) where
  pub assignment-shaped : assignment_shape (is_some f.address) (is_some f.mask) ≡ is_assignment (values_at m f)
  unfolding values_at
  assignment-shaped = simp given_at
