-- What device data must be, written out for a test of its parts. Assumes nothing.
use Rattle.std.proofs.Common.{◌≡◌, ◌&&◌, List, ℕ, leb, length, refl}
use Rattle.identity.specs.Identity.{allowed_identity}
use Rattle.antenna.specs.declared.Antenna.{Antenna}
use Rattle.antenna.specs.Motions.{in_range}
use Rattle.record.specs.Allowed.{product_most, version_most}
use Rattle.record.specs.Fresh.{texts_allowed, data_allowed}

pub texts_are : (i p h s : List ℕ) → texts_allowed i p h s
    ≡ (allowed_identity i
    && (leb (length p) product_most && (leb (length h) version_most && leb (length s) version_most)))
unfolding texts_allowed
texts_are i p h s = refl

pub data_are : (i p h s : List ℕ) (n : Antenna)
    → data_allowed i p h s n ≡ (texts_allowed i p h s && in_range n n.drive.tilt)
unfolding data_allowed
data_are i p h s n = refl
