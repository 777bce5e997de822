-- What an event changes of a device, part by part, and what a fresh device is: the words that the laws about `happened`
-- and `fresh_of` are said in.
--   EventAccount d e b == b is the device d after the event e
--   FreshAccount i p h s w d == d is the fresh device of the identity i, the texts p, h, s and the tilts w
-- Assumes nothing.
use Rattle.std.specs.Prelude.{◌≡◌, Bool, true, false, List, [], ◌∷◌, ◌↔◌, ◌⊎◌, ℕ, length, ◌≤ℤ◌}
use Rattle.octets.specs.Octets.{holds}
use Rattle.antenna.specs.declared.Angle.{Angle}
use Rattle.antenna.specs.declared.Motion.TheVariants.{Still, Moving, Owing}
use Rattle.antenna.specs.declared.Motion.TheVariants as motion
use Rattle.antenna.specs.Alarms.{codes_of}
use Rattle.octets.specs.Octets.{OneOf}
use Rattle.antenna.specs.Events.{Runs}
use Rattle.record.specs.Allowed.{identity_of, product_of, hardware_of, software_of}
use Rattle.record.specs.Desk.{calm, no_reply}
use Rattle.record.specs.declared.Span.{Span}
use Rattle.record.specs.declared.Link.TheVariants.{NoAddress}
use Rattle.record.specs.declared.Device.{Device}
use Rattle.record.specs.declared.Event.{Event}
use Rattle.record.specs.declared.Event.TheVariants.{Stopped, Raised, Cleared}

pub record EventAccount (d : Device) (e : Event) (b : Device) : Type 0 where
  -- fixed data, the side of the cable and the range: no event changes them
  pub plate : b.plate ≡ d.plate
  pub station : b.station ≡ d.station
  pub lowest : b.antenna.drive.lowest ≡ d.antenna.drive.lowest
  pub highest : b.antenna.drive.highest ≡ d.antenna.drive.highest
  -- "Refusal 8: a stop with no movement, t outside lowest to highest"
  pub stop-runs : (t : Angle) → e ≡ Stopped t → Runs d.antenna.motion
  pub stop-inside : (t : Angle) → e ≡ Stopped t
      → (d.antenna.drive.lowest.tenths ≤ℤ t.tenths) × (t.tenths ≤ℤ d.antenna.drive.highest.tenths)
  -- "When the motor event "stopped at t" comes, the tilt is t"
  pub tilt-stopped : (t : Angle) → e ≡ Stopped t → b.antenna.drive.tilt ≡ t
  pub tilt-kept : ((t : Angle) → e ≡ Stopped t → ⊥) → b.antenna.drive.tilt ≡ d.antenna.drive.tilt
  -- "and the waiting result, if still owed, is success exactly if t is the tilt asked"
  pub result : (t asked : Angle) → e ≡ Stopped t → d.antenna.motion ≡ Owing asked
      → (reached : Bool) × (b.antenna.motion ≡ motion.Stopped reached) × (reached ≡ true ↔ asked ≡ t)
  pub unowed : (t : Angle) → e ≡ Stopped t → d.antenna.motion ≡ Moving → b.antenna.motion ≡ Still
  pub motion-kept : ((t : Angle) → e ≡ Stopped t → ⊥) → b.antenna.motion ≡ d.antenna.motion
  -- "an alarm not among 0x02, 0x03, 0x0E, 0x0F, 0x11, 0x27"
  pub raised-known : (k : ℕ) → (e ≡ Raised k) ⊎ (e ≡ Cleared k)
      → OneOf k (0x02 ∷ 0x03 ∷ 0x0E ∷ 0x0F ∷ 0x11 ∷ 0x27 ∷ [])
  -- "Alarm events raise or clear one": of the row of six flags
  pub raised-more : (k : ℕ) → e ≡ Raised k → length d.antenna.drive.raised.flags ≡ 6 → (j : ℕ)
      → holds j (codes_of b.antenna.drive.raised.flags) ≡ true
      ↔ (j ≡ k) ⊎ (holds j (codes_of d.antenna.drive.raised.flags) ≡ true)
  pub raised-less : (k : ℕ) → e ≡ Cleared k → length d.antenna.drive.raised.flags ≡ 6 → (j : ℕ)
      → holds j (codes_of b.antenna.drive.raised.flags) ≡ true
      ↔ (j ≡ k → ⊥) × (holds j (codes_of d.antenna.drive.raised.flags) ≡ true)
  pub raised-row : length b.antenna.drive.raised.flags ≡ length d.antenna.drive.raised.flags
  pub raised-kept : (t : Angle) → e ≡ Stopped t → b.antenna.drive.raised ≡ d.antenna.drive.raised

-- "A fresh device has address 0 and no alarms, subscription or movement."
pub record FreshAccount (i p h s : List ℕ) (w : Span) (d : Device) : Type 0 where
  pub address : d.station.desk.address ≡ 0
  pub link : d.station.link ≡ NoAddress
  -- 02 (iv): the least frame limit
  pub limit : d.station.desk.limit ≡ 78
  pub alarms : codes_of d.antenna.drive.raised.flags ≡ []
  pub raised : d.antenna.drive.raised ≡ calm
  pub told : d.station.desk.told ≡ calm
  pub said : d.station.desk.said ≡ calm
  pub subscribed : d.station.desk.subscribed ≡ false
  pub reply : d.station.desk.reply ≡ no_reply
  pub movement : d.antenna.motion ≡ Still
  -- the device data: what was given
  pub identity : identity_of d.plate ≡ i
  pub product : product_of d.plate ≡ p
  pub hardware : hardware_of d.plate ≡ h
  pub software : software_of d.plate ≡ s
  pub lowest : d.antenna.drive.lowest ≡ w.lowest
  pub highest : d.antenna.drive.highest ≡ w.highest
  pub present : d.antenna.drive.tilt ≡ w.present
