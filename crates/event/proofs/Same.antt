-- Two tilts are the same exactly if their 16 bits are. Assumes nothing.
use Rattle.std.proofs.Common.{◌≡◌, arith}
use Rattle.std.proofs.lemmas.Int.{ints}
use lib.Dec.{eqb}
use mir.Syntax.{w16}
use mir.Val.{SFits, of_z}
use Rattle.antenna.specs.declared.Angle.{Angle}
use Rattle.antenna.specs.Angles.{at_most, same_as}

pub same-bits : (a b : Angle) → SFits w16 a.tenths → SFits w16 b.tenths
    → eqb (of_z w16 a.tenths) (of_z w16 b.tenths) ≡ same_as a b
unfolding same_as at_most
same-bits a b f g = grind (arith, ints)
