-- What happens to a drive: the motor stops, an alarm rises or falls.
--   rested_of m t     == the motion after a stop at t
--   tilted v t, marked v a == the drive v at the tilt t; with the alarms a raised
--   can_stop n t      == the motor can stop at t; rested_at n t == the antenna then
--   Runs m            == a movement runs, owed or not
--   is_alarm k        == k is the code of an alarm; with_alarm n k on == the antenna with that alarm raised or cleared
--   stopped_at n t    == the event "stopped at t"
--   alarmed_of n k on == the event "alarm k raised" (on) or "cleared"
-- Assumes nothing.
use Rattle.std.specs.Prelude.{Bool, not, ◌&&◌, [], ◌∷◌, ◌⊎◌, ◌≡◌, ℕ, set}
use Rattle.octets.specs.Octets.{holds, place_of}
use Rattle.refusal.specs.Answer.{Answer, ◌when◌, answered}
use Rattle.antenna.specs.declared.Alarms.{Alarms}
use Rattle.antenna.specs.declared.Angle.{Angle}
use Rattle.antenna.specs.declared.Antenna.{Antenna}
use Rattle.antenna.specs.declared.Drive.{Drive}
use Rattle.antenna.specs.declared.Motion.{Motion}
use Rattle.antenna.specs.declared.Motion.TheVariants.{Still, Moving, Owing, Stopped}
use Rattle.antenna.specs.Angles.{same_as}
use Rattle.antenna.specs.Alarms.{alarm_codes}
use Rattle.antenna.specs.Motions.{in_range, runs}

-- "the waiting result, if still owed, is success exactly if t is the tilt asked"
unfoldable pub rested_of : Motion → Angle → Motion
rested_of Still t = Still
rested_of Moving t = Still
rested_of (Owing asked) t = Stopped (same_as asked t)
rested_of (Stopped reached) t = Stopped reached

-- a drive with one of its fields changed
abbrev pub tilted : Drive → Angle → Drive
tilted v t = record { lowest = v.lowest; highest = v.highest; tilt = t; raised = v.raised }

abbrev pub marked : Drive → Alarms → Drive
marked v a = record { lowest = v.lowest; highest = v.highest; tilt = v.tilt; raised = a }

-- "the tilt is t"
unfoldable pub rested_at : Antenna → Angle → Antenna
rested_at n t = record { motion = rested_of n.motion t; drive = tilted n.drive t }

-- "Refusal 8: a stop with no movement, t outside lowest to highest"
unfoldable pub can_stop : Antenna → Angle → Bool
can_stop n t = runs n.motion && in_range n t

-- "a stop with no movement": what a movement is
abbrev pub Runs : Motion → Type 0
Runs m = (m ≡ Moving) ⊎ ((asked : Angle) × (m ≡ Owing asked))

unfoldable pub stopped_at : Antenna → Angle → Answer Antenna
stopped_at n t = answered (8 when not (can_stop n t) ∷ []) (rested_at n t)

-- "Alarm events raise or clear one"
unfoldable pub with_alarm : Antenna → ℕ → Bool → Antenna
with_alarm n k on =
    record {
      motion = n.motion;
      drive = marked n.drive (record { flags = set n.drive.raised.flags (place_of k alarm_codes) on });
    }

-- "an alarm not among .."
unfoldable pub is_alarm : ℕ → Bool
is_alarm k = holds k alarm_codes

unfoldable pub alarmed_of : Antenna → ℕ → Bool → Answer Antenna
alarmed_of n k on = answered (8 when not (is_alarm k) ∷ []) (with_alarm n k on)
