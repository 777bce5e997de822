-- Scans and assignments, of any device, in the words of 01 and 02: what the theorems of this crate speak of.
--   Allows n k             == there is a parameter n, and it may have k octets
--   ScanOf m v k           == the payload m is a scan for the value v under the mask k: "exactly 1 and 3, of equal
--                             length"
--   AssignmentOf m a x y z == the payload m is an assignment of the address value a: "2 present, 3 absent"; x, y and
--                             z are the identity, type and vendor, where they are given
--   IfGiven x P            == P holds of the value x, if it is given
--   EndOf i v              == v "isn't longer than the unpadded identity and equals its right-most octets"
--   AnyOr any own v        == v is the wild card, or the device's own
--   Meant i a x y z        == such an assignment is for a device with the identity i
--   Answers i m            == the payload m is a scan that the identity i answers
--   Takes i m a            == the payload m is an assignment of the address a, meant for the identity i
-- Assumes nothing.
use Rattle.std.specs.Prelude.{◌≡◌, ◌⊎◌, List, [], ◌∷◌, ℕ, ◌≤◌, length, take}
use Rattle.std.proofs.Math.Option.{Option, none, some}
use Rattle.identity.specs.Bits.{masked}
use Rattle.identity.specs.Identity.{vendor, padded}
use Rattle.params.specs.Field.{Param, WellFormed}
use Rattle.xid.specs.Addressing.{addressing, values_of}
use Rattle.xid.specs.Match.{device_type, rightmost, any_type, any_vendor}

-- "Identifiers 1 (identity, 1 to 19), 2 (address, 1), 3 (mask, 1 to 19), 4 (type, 1), 6 (vendor, 2)"
pub data Allows (n k : ℕ) : Type 0 where
  an-identity : n ≡ 1 → 1 ≤ k → k ≤ 19 → Allows n k
  an-address : n ≡ 2 → k ≡ 1 → Allows n k
  a-mask : n ≡ 3 → 1 ≤ k → k ≤ 19 → Allows n k
  a-type : n ≡ 4 → k ≡ 1 → Allows n k
  a-vendor : n ≡ 6 → k ≡ 2 → Allows n k

pub record ScanOf (m v k : List ℕ) : Type 0 where
  pub params : List Param
  pub formed : WellFormed addressing m params
  pub values : values_of params
      ≡ record { identity = some v; address = none; mask = some k; kind = none; vendor = none }
  pub equal : length v ≡ length k

pub record AssignmentOf (m : List ℕ) (a : ℕ) (x y z : Option (List ℕ)) : Type 0 where
  pub params : List Param
  pub formed : WellFormed addressing m params
  pub values : values_of params ≡ record { identity = x; address = some (a ∷ []); mask = none; kind = y; vendor = z }

abbrev pub IfGiven : Option (List ℕ) → (List ℕ → Type 0) → Type 0
IfGiven none P = Unit {0}
IfGiven (some v) P = P v

abbrev pub EndOf : List ℕ → List ℕ → Type 0
EndOf i v = (length v ≤ length i) × (v ≡ rightmost (length v) i)

-- 02 (ii): "those two values match every device in an assignment"
abbrev pub AnyOr : List ℕ → List ℕ → List ℕ → Type 0
AnyOr any own v = (v ≡ any) ⊎ (v ≡ own)

pub record Meant (i : List ℕ) (a : ℕ) (x y z : Option (List ℕ)) : Type 0 where
  pub least : 1 ≤ a
  pub most : a ≤ 254
  pub own : IfGiven x (EndOf i)
  pub kind : IfGiven y (AnyOr any_type (device_type ∷ []))
  pub maker : IfGiven z (AnyOr any_vendor (take vendor i))

-- "The identity is padded with 0x20 to 19, its left-most octets are masked and must equal the value of 1, which isn't
-- masked."
abbrev pub Answers : List ℕ → List ℕ → Type 0
Answers i m = (v : List ℕ) × (k : List ℕ) × ScanOf m v k × (masked (padded i) k ≡ v)

abbrev pub Takes : List ℕ → List ℕ → ℕ → Type 0
Takes i m a =
    (x : Option (List ℕ)) × (y : Option (List ℕ)) × (z : Option (List ℕ)) × AssignmentOf m a x y z × Meant i a x y z
