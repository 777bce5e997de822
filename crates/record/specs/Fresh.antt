-- A fresh device. 01: "A fresh device has address 0 and no alarms, subscription or movement."
--   data_allowed ..    == the device data is as "Who the device is" says; AllowedData .. == the same, phrase by phrase
--   identity_from s, product_from s, version_from s == a text with zeros behind it
--   plate_from i p h s == the plate with these texts, zeros behind each
--   fresh_station      == address 0, the frame limit 78, no session, nothing told, nothing subscribed
--   fresh_from ..      == the fresh device; fresh_of .. == what is answered
--   blank_device       == the record of no device
-- Assumes nothing.
use Rattle.std.specs.Prelude.{Bool, false, not, ◌&&◌, List, [], ◌∷◌, ℕ, ◌≤◌, leb, pos, length, ◌≤ℤ◌}
use Rattle.octets.specs.Text.{laid}
use Rattle.octets.specs.declared.Text.{Text}
use Rattle.refusal.specs.Answer.{Answer, ◌when◌, answered}
use Rattle.limits.specs.Limits.{limit_least}
use Rattle.identity.specs.Identity.{width, allowed_identity, AnIdentity}
use Rattle.antenna.specs.declared.Angle.{Angle}
use Rattle.antenna.specs.declared.Antenna.{Antenna}
use Rattle.antenna.specs.declared.Motion.TheVariants.{Still}
use Rattle.antenna.specs.Motions.{in_range}
use Rattle.record.specs.Allowed.{product_most, version_most}
use Rattle.record.specs.Desk.{calm, no_reply}
use Rattle.record.specs.declared.Span.{Span}
use Rattle.record.specs.declared.Plate.{Plate}
use Rattle.record.specs.declared.Link.TheVariants.{NoAddress}
use Rattle.record.specs.declared.Station.{Station}
use Rattle.record.specs.declared.Device.{Device}

abbrev pub identity_from : List ℕ → Text width
identity_from = laid width

abbrev pub product_from : List ℕ → Text product_most
product_from = laid product_most

abbrev pub version_from : List ℕ → Text version_most
version_from = laid version_most

unfoldable pub plate_from : List ℕ → List ℕ → List ℕ → List ℕ → Plate
plate_from i p h s =
    record {
      identity = identity_from i;
      product = product_from p;
      hardware = version_from h;
      software = version_from s;
    }

abbrev pub fresh_station : Station
fresh_station =
    record {
      link = NoAddress;
      desk = record { address = 0; limit = limit_least; subscribed = false; told = calm; said = calm; reply = no_reply };
    }

abbrev pub fresh_antenna : Angle → Angle → Angle → Antenna
fresh_antenna lowest highest present =
    record {
      motion = Still;
      drive = record { lowest = lowest; highest = highest; tilt = present; raised = calm };
    }

unfoldable pub fresh_from : Plate → Antenna → Device
fresh_from p n = record { plate = p; station = fresh_station; antenna = n }

-- the device data: identity, texts, and lowest ≤ present ≤ highest
unfoldable pub texts_allowed : List ℕ → List ℕ → List ℕ → List ℕ → Bool
texts_allowed i p h s =
    allowed_identity i
    && (leb (length p) product_most && (leb (length h) version_most && leb (length s) version_most))

unfoldable pub data_allowed : List ℕ → List ℕ → List ℕ → List ℕ → Antenna → Bool
data_allowed i p h s n = texts_allowed i p h s && in_range n n.drive.tilt

abbrev pub antenna_from : Span → Antenna
antenna_from w = fresh_antenna w.lowest w.highest w.present

pub record AllowedData (i p h s : List ℕ) (w : Span) : Type 0 where
  -- "Identity: 2 vendor octets and 1 to 17 serial octets, all 0x20 to 0x7E, the last not 0x20."
  pub identity : AnIdentity i
  -- "Product, hardware and software texts of at most 20, 14 and 14 octets of any kind."
  pub product : length p ≤ 20
  pub hardware : length h ≤ 14
  pub software : length s ≤ 14
  -- "lowest ≤ present ≤ highest"
  pub lowest : w.lowest.tenths ≤ℤ w.present.tenths
  pub highest : w.present.tenths ≤ℤ w.highest.tenths

unfoldable pub fresh_of : List ℕ → List ℕ → List ℕ → List ℕ → Span → Answer Device
fresh_of i p h s w =
    answered (6 when not (data_allowed i p h s (antenna_from w)) ∷ []) (fresh_from (plate_from i p h s) (antenna_from w))

-- the constant record that stands where there is no device
abbrev pub level : Angle
level = record { tenths = pos 0 }

unfoldable pub blank_device : Device
blank_device = fresh_from (plate_from [] [] [] []) (fresh_antenna level level level)
