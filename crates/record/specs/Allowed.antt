-- Who the device is: which records may be handed in. 01, "Who the device is".
--   identity_of p       == the octets of the identity; product_of p, hardware_of p, software_of p == the texts
--   limit_of d          == the frame limit of the device's link
--   plates_allowed p    == the fixed data is as 01 says
--   numbers_allowed s   == "session numbers of 0 to 7"
--   pending_fits k p    == what is pending at the desk k, p, can be
--   session_allowed k s == numbers and what is pending, of a session
--   link_allowed k l    == address, session numbers and what is pending fit the link state l
--   station_allowed t   == so, and the frame limit is one
--   owed_allowed l m    == "a tilt result owed only in Connected"
--   allowed_device d    == d may be handed in; anything else is refusal 6
--   Owes m              == a tilt result is owed, in words
--   AllowedRecord d     == d may be handed in, phrase by phrase of 01, and 02 (iv) for the frame limit
-- "only alarms named below" holds by type. Assumes nothing.
use Rattle.std.specs.Prelude.{Bool, true, not, ◌&&◌, List, ◌↔◌, ◌⊎◌, ◌≡◌, ℕ, ◌≤◌, ltb, leb, eqb, take, ◌≤ℤ◌}
use Rattle.limits.specs.Limits.{is_limit}
use Rattle.identity.specs.Identity.{width, allowed_identity, AnIdentity}
use Rattle.antenna.specs.declared.Angle.{Angle}
use Rattle.antenna.specs.declared.Motion.{Motion}
use Rattle.antenna.specs.declared.Motion.TheVariants.{Owing, Stopped}
use Rattle.antenna.specs.Alarms.{any_differ}
use Rattle.antenna.specs.Motions.{in_range, owes_of}
use Rattle.record.specs.declared.Plate.{Plate}
use Rattle.record.specs.declared.Pending.{Pending}
use Rattle.record.specs.declared.Pending.TheVariants.{Nothing, Answer, Indication}
use Rattle.record.specs.declared.Session.{Session}
use Rattle.record.specs.declared.Link.{Link}
use Rattle.record.specs.declared.Link.TheVariants.{NoAddress, AddressAssigned, Connected}
use Rattle.record.specs.declared.Desk.{Desk}
use Rattle.record.specs.declared.Station.{Station}
use Rattle.record.specs.declared.Device.{Device}

abbrev pub identity_of : Plate → List ℕ
identity_of p = take p.identity.len p.identity.octets

abbrev pub product_of : Plate → List ℕ
product_of p = take p.product.len p.product.octets

abbrev pub hardware_of : Plate → List ℕ
hardware_of p = take p.hardware.len p.hardware.octets

abbrev pub software_of : Plate → List ℕ
software_of p = take p.software.len p.software.octets

-- 02 (iv): "The frame limit N, one for both ways, is a number of the link"
abbrev pub limit_of : Device → ℕ
limit_of d = d.station.desk.limit

-- "Product, hardware and software texts of at most 20, 14 and 14 octets of any kind"
abbrev pub product_most : ℕ
product_most = 20

abbrev pub version_most : ℕ
version_most = 14

abbrev pub reply_most : ℕ
reply_most = 74

unfoldable pub identity_allowed : List ℕ → ℕ → Bool
identity_allowed octets len = leb len width && allowed_identity (take len octets)

unfoldable pub plates_allowed : Plate → Bool
plates_allowed p =
    identity_allowed p.identity.octets p.identity.len
    && (leb p.product.len product_most
    && (leb p.hardware.len version_most && leb p.software.len version_most))

-- "session numbers of 0 to 7"
unfoldable pub numbers_allowed : Session → Bool
numbers_allowed s = ltb s.r 8 && ltb s.s 8

-- "a pending answer of at most 74 payload octets (an indication: as below)": it says what differs from what was told
unfoldable pub pending_fits : Desk → Pending → Bool
pending_fits k Nothing = true
pending_fits k Answer = leb k.reply.len reply_most
pending_fits k Indication = any_differ k.said.flags k.told.flags

unfoldable pub session_allowed : Desk → Session → Bool
session_allowed k s = numbers_allowed s && pending_fits k s.pending

-- "an address of 0 to 254, 0 exactly in NoAddress"
unfoldable pub addressed : ℕ → Bool
addressed a = ltb 0 a && ltb a 255

unfoldable pub link_allowed : Desk → Link → Bool
link_allowed k NoAddress = eqb k.address 0
link_allowed k AddressAssigned = addressed k.address
link_allowed k (Connected s) = addressed k.address && session_allowed k s

-- 02 (iv): "a number of the link, 78 to 260"
unfoldable pub station_allowed : Station → Bool
station_allowed t = is_limit t.desk.limit && link_allowed t.desk t.link

-- "a tilt result owed only in Connected"
unfoldable pub owed_allowed : Link → Motion → Bool
owed_allowed NoAddress m = not (owes_of m)
owed_allowed AddressAssigned m = not (owes_of m)
owed_allowed (Connected s) m = true

-- "Lowest, highest and present tilt .., lowest ≤ present ≤ highest"
unfoldable pub allowed_device : Device → Bool
allowed_device d =
    plates_allowed d.plate
    && (in_range d.antenna d.antenna.drive.tilt
    && (station_allowed d.station && owed_allowed d.station.link d.antenna.motion))

-- a result is owed: of a movement that runs, or it waits
abbrev pub Owes : Motion → Type 0
Owes m = ((asked : Angle) × (m ≡ Owing asked)) ⊎ ((reached : Bool) × (m ≡ Stopped reached))

pub record AllowedRecord (d : Device) : Type 0 where
  -- "Identity: 2 vendor octets and 1 to 17 serial octets", as many as there is room for
  pub identity : AnIdentity (identity_of d.plate)
  pub identity-held : d.plate.identity.len ≤ 19
  -- "Product, hardware and software texts of at most 20, 14 and 14 octets of any kind"
  pub product : d.plate.product.len ≤ 20
  pub hardware : d.plate.hardware.len ≤ 14
  pub software : d.plate.software.len ≤ 14
  -- "lowest ≤ present ≤ highest"
  pub lowest : d.antenna.drive.lowest.tenths ≤ℤ d.antenna.drive.tilt.tenths
  pub highest : d.antenna.drive.tilt.tenths ≤ℤ d.antenna.drive.highest.tenths
  -- "an address of 0 to 254, 0 exactly in NoAddress"
  pub address : d.station.desk.address ≤ 254
  pub unaddressed : d.station.desk.address ≡ 0 ↔ d.station.link ≡ NoAddress
  -- 02 (iv): "The frame limit N .. is a number of the link, 78 to 260"
  pub limit-least : 78 ≤ d.station.desk.limit
  pub limit-most : d.station.desk.limit ≤ 260
  -- "session numbers of 0 to 7"
  pub numbers : (s : Session) → d.station.link ≡ Connected s → (s.r ≤ 7) × (s.s ≤ 7)
  -- "a pending answer of at most 74 payload octets"
  pub answer : (s : Session) → d.station.link ≡ Connected s → s.pending ≡ Answer → d.station.desk.reply.len ≤ 74
  -- "(an indication: as below)": "for alarms whose present state differs from what was told"
  pub indication : (s : Session) → d.station.link ≡ Connected s → s.pending ≡ Indication
      → d.station.desk.said.flags ≡ d.station.desk.told.flags → ⊥
  -- "a tilt result owed only in Connected"
  pub owed : Owes d.antenna.motion → (s : Session) × (d.station.link ≡ Connected s)
