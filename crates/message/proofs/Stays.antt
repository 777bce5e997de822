-- What an allowed record keeps under every message: its tilt is in range, a result is owed only in Connected, where
-- messages are carried out, and the answer has at most 74 octets. Assumes nothing.
use mathlib.Core.Path.{◌≡◌, refl, ◌∙◌}
use mathlib.Core.Bool.{Bool, true}
use mathlib.Core.List.{List}
use Prim.Native.Nat.{ℕ}
use native.Mathlib.Omega.{arith}
use borrow.Author.Tests.{le-leb}
use lib.Dec.{leb}
use Rattle.antenna.specs.declared.Alarms.{Alarms}
use Rattle.antenna.specs.declared.Antenna.{Antenna}
use Rattle.antenna.specs.Motions.{in_range}
use Rattle.record.specs.declared.Plate.{Plate}
use Rattle.record.specs.declared.Session.{Session}
use Rattle.record.specs.declared.Link.TheVariants.{Connected}
use Rattle.record.specs.Allowed.{plates_allowed, owed_allowed, reply_most}
use Rattle.information.proofs.Laws.{information-fits, allowed-short}
use Rattle.message.specs.Carried.{payload_in, carried_of}
use Rattle.message.proofs.Moves.{range-stays, carried-fits}

module _ (p : Plate) (n : Antenna) (told : Alarms) (sub : Bool) (m : List ℕ) where
  pub stays-in-range : in_range n n.drive.tilt ≡ true
      → in_range (carried_of p n told sub m).antenna (carried_of p n told sub m).antenna.drive.tilt ≡ true
  stays-in-range h = range-stays p n told sub m ∙ h

  pub stays_owed : (s : Session) → owed_allowed (Connected s) (carried_of p n told sub m).antenna.motion ≡ true
  unfolding owed_allowed
  stays_owed s = refl

  pub reply-fits : plates_allowed p ≡ true → leb (payload_in (carried_of p n told sub m)).len reply_most ≡ true
  reply-fits h =
      let few = information-fits p (allowed-short p h) in
      le-leb _ _ (carried-fits p n told sub m (omega (arith, few)))
