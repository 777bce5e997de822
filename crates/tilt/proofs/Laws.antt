-- What a tilt is as octets, and the rows that 01 spells out. Assumes nothing.
use mathlib.Core.Path.{◌≡◌, refl}
use mathlib.Core.List.{[], ◌∷◌}
use lib.IntN.{pos, negsuc}
use mir.Val.{SFits, of_z}
use mir.Syntax.{w16}
use mir.Facts.{to_z-of_z, Fits-of_z}
use Rattle.octets.specs.Octets.{low_of, high_of}
use Rattle.octets.proofs.Bounds.{pair_parts}
use Rattle.antenna.specs.declared.Angle.{Angle}
use Rattle.payload.specs.Payloads.{message_of, success_of}
use Rattle.tilt.specs.Tilts.{tilt_octets, angle_of}

-- "Tilt -15: get tilt gives 34 03 00 00 F1 FF"
pub tilt-minus-15 : success_of 0x34 (tilt_octets (record { tenths = negsuc 14 }))
    ≡ 0x34 ∷ 0x03 ∷ 0x00 ∷ 0x00 ∷ 0xF1 ∷ 0xFF ∷ []
unfolding success_of message_of tilt_octets
tilt-minus-15 = refl

-- the octets 32 00 ask the tilt 50, and F1 FF the tilt -15
pub angle-50 : angle_of 0x32 0x00 ≡ record { tenths = pos 50 }
unfolding angle_of
angle-50 = refl

pub angle-minus-15 : angle_of 0xF1 0xFF ≡ record { tenths = negsuc 14 }
unfolding angle_of
angle-minus-15 = refl

-- a tilt of 16 bits, told and read back, is that tilt
pub angle-tilt : (t : Angle) → SFits w16 t.tenths
    → angle_of (low_of (of_z w16 t.tenths)) (high_of (of_z w16 t.tenths)) ≡ t
unfolding angle_of
angle-tilt t f =
    let e = pair_parts (of_z w16 t.tenths) (Fits-of_z f).fits in
    rw (e, to_z-of_z f)
