-- Tilts: "in tenths of a degree, signed 16 bits".
--   at_most a b == a is no larger than b; same_as a b == a and b are the same tilt
-- Assumes nothing.
use Rattle.std.specs.Prelude.{Bool, ◌&&◌}
use Rattle.std.specs.Int.Signed.{le_z}
use Rattle.antenna.specs.declared.Angle.{Angle}

unfoldable pub at_most : Angle → Angle → Bool
at_most a b = le_z a.tenths b.tenths

unfoldable pub same_as : Angle → Angle → Bool
same_as a b = at_most a b && at_most b a
