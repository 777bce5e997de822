-- What the payload of an XID frame to 0xFF means to a device. 01, "XID: scan and assignment". w are the values given
-- in a well-formed payload, i the octets of the device's identity, unpadded.
--   device_type          == 0x01
--   is_scan w            == w is a scan: "exactly 1 and 3, of equal length"; scan_shape == the first half of it
--   is_assignment w      == w is an assignment: "2 present, 3 absent"; assignment_shape == the same of what is given
--   scan_matches i w     == the scan w is answered by the identity i
--   address_of w         == the address value; `addressed` says whether it is 1 to 254
--   rightmost k s        == the k right-most octets of s
--   ends_with s t        == t isn't longer than s and equals its right-most octets
--   identity_matches i x == "If 1 is given": its value x is the end of the identity i
--   any_type, any_vendor == the wild cards of an assignment, 0xFF and 0xFF 0xFF
--   any_or any own v     == the value v is the wild card, or the device's own
--   kind_matches x       == "If 4 .. is given": its value x matches the device's type
--   vendor_matches i x   == "If .. 6 is given": its value x matches the vendor of the identity i
-- Why a device does not answer is the first that holds of ten conditions, in this order; the number of a row is its
-- place. The first three, of the frame, stand in link/specs/Xids: 1 its size, 2 its address octet, 3 its control.
--   malformed m          == 4: the payload m is not well formed: no_params of what is read in it
--   values_in m          == the values in the payload m, none given where it is malformed
--   neither w            == 5: w is no scan and no assignment
--   bad_address w        == 6: an assignment, and its address value is not 1 to 254
--   other_identity i w   == 7: an assignment, and the identity in it is not the end of i
--   other_type w         == 8: an assignment, of another type
--   other_vendor i w     == 9: an assignment, of another vendor
--   other_scan i w       == 10: a scan, and the masked identity i is not its value
--   value_rows i w       == the rows 5 to 10; payload_rows i m == the rows 4 to 10
--   meaning_of w         == what w is where no row holds
--   or_silence x         == what the answer x means to the device: a number is silence
--   meant_to i w         == what w means to the identity i: the first of its rows that holds
--   payload_answer i m   == the same of the payload m, with the number; read_of i m == what m means
-- Assumes nothing.
use Rattle.std.specs.Prelude.{Bool, true, false, cond, not, ◌&&◌, ◌||◌, List, [], ◌∷◌, ℕ, ◌-◌, eqb, leb, length, get_or, take, drop}
use Rattle.std.proofs.Math.Option
use Rattle.std.proofs.Math.Option.{Option, none, some}
use Rattle.refusal.specs.Answer.{Answer, gives, refuses, TestRow, ◌when◌, answered}
use Rattle.identity.specs.Identity.{vendor, same, answers_scan}
use Rattle.record.specs.Allowed.{addressed}
use Rattle.params.specs.Field.{Param, params_of, given, octets_in}
use Rattle.xid.specs.Addressing.{addressing, Values, values_of}
use Rattle.xid.specs.declared.Xid.{Xid}
use Rattle.xid.specs.declared.Xid.TheVariants.{Silence, Scan, Assignment}

-- 01: "one single-antenna tilt device (type 0x01)"
abbrev pub device_type : ℕ
device_type = 0x01

-- ---- which of the two

-- "Scan: exactly 1 and 3"; which of identity, address, mask, type and vendor are given
unfoldable pub scan_shape : Bool → Bool → Bool → Bool → Bool → Bool
scan_shape identity address mask kind vendor = identity && (mask && (not address && (not kind && not vendor)))

-- ".. of equal length"
unfoldable pub is_scan : Values → Bool
is_scan w =
    scan_shape (given w.identity) (given w.address) (given w.mask) (given w.kind) (given w.vendor)
    && eqb (length (octets_in w.identity)) (length (octets_in w.mask))

-- "Assignment: 2 present, 3 absent"
unfoldable pub assignment_shape : Bool → Bool → Bool
assignment_shape address mask = address && not mask

abbrev pub is_assignment : Values → Bool
is_assignment w = assignment_shape (given w.address) (given w.mask)

-- ---- whether this device is meant

-- "The identity is padded with 0x20 to 19, its left-most octets are masked and must equal the value of 1, which isn't
-- masked."
unfoldable pub scan_matches : List ℕ → Values → Bool
scan_matches i w = answers_scan i (octets_in w.mask) (octets_in w.identity)

-- "2 (address, 1)"
abbrev pub address_of : Values → ℕ
address_of w = get_or (octets_in w.address) 0 0

abbrev pub rightmost : ℕ → List ℕ → List ℕ
rightmost k s = drop (length s - k) s

-- "it isn't longer than the unpadded identity and equals its right-most octets"
unfoldable pub ends_with : List ℕ → List ℕ → Bool
ends_with s t = leb (length t) (length s) && same t (rightmost (length t) s)

-- "If 1 is given": so
unfoldable pub identity_matches : List ℕ → Option (List ℕ) → Bool
identity_matches i none = true
identity_matches i (some v) = ends_with i v

-- 02 (ii): "vendor 0xFF 0xFF and type 0xFF to mean "any""
abbrev pub any_type : List ℕ
any_type = 0xFF ∷ []

abbrev pub any_vendor : List ℕ
any_vendor = 0xFF ∷ 0xFF ∷ []

abbrev pub any_or : List ℕ → List ℕ → List ℕ → Bool
any_or any own v = same v any || same v own

-- "If 4 or 6 is given, it is equal", or the wild card
unfoldable pub kind_matches : Option (List ℕ) → Bool
kind_matches none = true
kind_matches (some v) = any_or any_type (device_type ∷ []) v

unfoldable pub vendor_matches : List ℕ → Option (List ℕ) → Bool
vendor_matches i none = true
vendor_matches i (some v) = any_or any_vendor (take vendor i) v

-- ---- why it is not answered: what the first row that holds says, by the law of refusal/specs/Answer

unfoldable pub no_params : Option (List Param) → Bool
no_params none = true
no_params (some ps) = false

-- "triples of identifier, length, value that fill it exactly"; "A repeat, another identifier, another length: silence"
unfoldable pub malformed : List ℕ → Bool
malformed m = no_params (params_of addressing m)

unfoldable pub values_in : List ℕ → Values
values_in m = values_of (Option.get_or (params_of addressing m) [])

-- "silence; so is a frame that is neither of the two below"
unfoldable pub neither : Values → Bool
neither w = not (is_scan w || is_assignment w)

-- "value 1 to 254"
unfoldable pub bad_address : Values → Bool
bad_address w = is_assignment w && not (addressed (address_of w))

-- "If 1 is given, it isn't longer than the unpadded identity and equals its right-most octets."
unfoldable pub other_identity : List ℕ → Values → Bool
other_identity i w = is_assignment w && not (identity_matches i w.identity)

-- "If 4 .. is given": it does not match
unfoldable pub other_type : Values → Bool
other_type w = is_assignment w && not (kind_matches w.kind)

-- "If .. 6 is given": it does not match
unfoldable pub other_vendor : List ℕ → Values → Bool
other_vendor i w = is_assignment w && not (vendor_matches i w.vendor)

-- "its left-most octets are masked and must equal the value of 1"
unfoldable pub other_scan : List ℕ → Values → Bool
other_scan i w = is_scan w && not (scan_matches i w)

unfoldable pub value_rows : List ℕ → Values → List TestRow
value_rows i w =
    5 when neither w
    ∷ 6 when bad_address w
    ∷ 7 when other_identity i w ∷ 8 when other_type w ∷ 9 when other_vendor i w ∷ 10 when other_scan i w ∷ []

unfoldable pub payload_rows : List ℕ → List ℕ → List TestRow
payload_rows i m = 4 when malformed m ∷ value_rows i (values_in m)

-- no row holds: a scan, or else an assignment
unfoldable pub meaning_of : Values → Xid
meaning_of w = cond (is_scan w) Scan (Assignment (address_of w))

unfoldable pub or_silence : Answer Xid → Xid
or_silence (gives x) = x
or_silence (refuses k) = Silence

unfoldable pub meant_to : List ℕ → Values → Xid
meant_to i w = or_silence (answered (value_rows i w) (meaning_of w))

unfoldable pub payload_answer : List ℕ → List ℕ → Answer Xid
payload_answer i m = answered (payload_rows i m) (meaning_of (values_in m))

unfoldable pub read_of : List ℕ → List ℕ → Xid
read_of i m = or_silence (payload_answer i m)
