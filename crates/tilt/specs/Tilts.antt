-- A tilt as two octets. 01: "2 octets, low first, signed"; get tilt: "2 octets".
--   tilt_octets t     == the two octets of the tilt t
--   angle_of low high == the tilt that two octets stand for
-- Assumes nothing.
use Rattle.std.specs.Prelude.{List, [], ◌∷◌, ℕ}
use Rattle.std.proofs.Common.{of_z, to_z}
use Rattle.std.specs.Int.{w16}
use Rattle.octets.specs.Octets.{low_of, high_of, pair_of}
use Rattle.antenna.specs.declared.Angle.{Angle}

unfoldable pub tilt_octets : Angle → List ℕ
tilt_octets t = low_of (of_z w16 t.tenths) ∷ high_of (of_z w16 t.tenths) ∷ []

unfoldable pub angle_of : ℕ → ℕ → Angle
angle_of low high = record { tenths = to_z w16 (pair_of low high) }
