-- Computed, for the device of vendor KA with the serial number 0123: an assignment compares from the right and
-- unpadded, a scan from the left and padded; the edges of 01; payloads that are malformed; each of the numbers 4 to
-- 10; the wild cards. Assumes nothing.
use mathlib.Core.Path.{◌≡◌, refl}
use mathlib.Core.List.{List, [], ◌∷◌}
use Prim.Native.Nat.{ℕ}
use Rattle.octets.specs.Octets.{holds}
use Rattle.identity.specs.Bits.{masked}
use Rattle.identity.specs.Identity.{padded, same, answers_scan}
use Rattle.record.specs.Allowed.{addressed}
use Rattle.params.specs.Field.{opened, triples_after, before, checked, all_right, right_length, identifiers}
use Rattle.params.specs.Field.{none_twice, params_of, value_for, given, octets_in}
use Rattle.refusal.specs.Answer.{Answer, gives, refuses, answered}
use Rattle.xid.specs.Addressing.{values_of}
use Rattle.xid.specs.Match.{ends_with}
use Rattle.xid.specs.Match.{is_scan, scan_shape, assignment_shape, scan_matches, identity_matches, kind_matches}
use Rattle.xid.specs.Match.{vendor_matches, no_params, malformed, values_in, neither, bad_address, other_identity}
use Rattle.xid.specs.Match.{other_type, other_vendor, other_scan, value_rows, payload_rows, meaning_of}
use Rattle.xid.specs.Match.{payload_answer}
use Rattle.xid.specs.declared.Xid.{Xid}
use Rattle.xid.specs.declared.Xid.TheVariants.{Scan, Assignment}

infix 70 ◌gets◌
pub data Row : Type 0 where
  ◌gets◌ : List ℕ → Answer Xid → Row

abbrev pub ka : List ℕ
ka = 0x4B ∷ 0x41 ∷ 0x30 ∷ 0x31 ∷ 0x32 ∷ 0x33 ∷ []

-- each payload means that to this device, or gets that number
abbrev pub All : List Row → Type 0
All [] = Unit {0}
All (m gets x ∷ rows) = (payload_answer ka m ≡ x) × All rows

-- an assignment, from the right: the right-most three octets of the identity, and the left-most three
abbrev pub right : List Row
right =
    (0x81 ∷ 0xF0 ∷ 8 ∷ 1 ∷ 3 ∷ 0x31 ∷ 0x32 ∷ 0x33 ∷ 2 ∷ 1 ∷ 7 ∷ []) gets gives (Assignment 7)
    ∷ (0x81 ∷ 0xF0 ∷ 8 ∷ 1 ∷ 3 ∷ 0x4B ∷ 0x41 ∷ 0x30 ∷ 2 ∷ 1 ∷ 7 ∷ []) gets refuses 7 ∷ []

-- and unpadded: all of it, and its end with padding
abbrev pub shorter : List Row
shorter =
    (0x81 ∷ 0xF0 ∷ 11 ∷ 2 ∷ 1 ∷ 7 ∷ 1 ∷ 6 ∷ 0x4B ∷ 0x41 ∷ 0x30 ∷ 0x31 ∷ 0x32 ∷ 0x33 ∷ []) gets gives (Assignment 7)
    ∷ (0x81 ∷ 0xF0 ∷ 7 ∷ 1 ∷ 2 ∷ 0x33 ∷ 0x20 ∷ 2 ∷ 1 ∷ 7 ∷ []) gets refuses 7 ∷ []

-- type and vendor: its own, another type, another vendor
abbrev pub named : List Row
named =
    (0x81 ∷ 0xF0 ∷ 10 ∷ 6 ∷ 2 ∷ 0x4B ∷ 0x41 ∷ 4 ∷ 1 ∷ 1 ∷ 2 ∷ 1 ∷ 254 ∷ []) gets gives (Assignment 254)
    ∷ (0x81 ∷ 0xF0 ∷ 6 ∷ 4 ∷ 1 ∷ 0x11 ∷ 2 ∷ 1 ∷ 7 ∷ []) gets refuses 8
    ∷ (0x81 ∷ 0xF0 ∷ 7 ∷ 6 ∷ 2 ∷ 0x4B ∷ 0x42 ∷ 2 ∷ 1 ∷ 7 ∷ []) gets refuses 9 ∷ []

-- the wild cards, alone and together, with the right end of the identity and with another, and an address value of 255
abbrev pub wild : List Row
wild =
    (0x81 ∷ 0xF0 ∷ 6 ∷ 4 ∷ 1 ∷ 0xFF ∷ 2 ∷ 1 ∷ 7 ∷ []) gets gives (Assignment 7)
    ∷ (0x81 ∷ 0xF0 ∷ 7 ∷ 2 ∷ 1 ∷ 7 ∷ 6 ∷ 2 ∷ 0xFF ∷ 0xFF ∷ []) gets gives (Assignment 7)
    ∷ (0x81 ∷ 0xF0 ∷ 13 ∷ 6 ∷ 2 ∷ 0xFF ∷ 0xFF ∷ 4 ∷ 1 ∷ 0xFF ∷ 1 ∷ 1 ∷ 0x33 ∷ 2 ∷ 1 ∷ 7 ∷ []) gets gives (Assignment 7)
    ∷ (0x81 ∷ 0xF0 ∷ 13 ∷ 6 ∷ 2 ∷ 0xFF ∷ 0xFF ∷ 4 ∷ 1 ∷ 0xFF ∷ 1 ∷ 1 ∷ 0x34 ∷ 2 ∷ 1 ∷ 7 ∷ []) gets refuses 7
    ∷ (0x81 ∷ 0xF0 ∷ 10 ∷ 6 ∷ 2 ∷ 0xFF ∷ 0xFF ∷ 4 ∷ 1 ∷ 0xFF ∷ 2 ∷ 1 ∷ 255 ∷ []) gets refuses 6 ∷ []

-- FF in an identity; one octet FF of two; type 0x00; another type beside the wild vendor, and another vendor beside the wild type
abbrev pub tame : List Row
tame =
    (0x81 ∷ 0xF0 ∷ 6 ∷ 1 ∷ 1 ∷ 0xFF ∷ 2 ∷ 1 ∷ 7 ∷ []) gets refuses 7
    ∷ (0x81 ∷ 0xF0 ∷ 7 ∷ 6 ∷ 2 ∷ 0xFF ∷ 0x41 ∷ 2 ∷ 1 ∷ 7 ∷ []) gets refuses 9
    ∷ (0x81 ∷ 0xF0 ∷ 7 ∷ 6 ∷ 2 ∷ 0x4B ∷ 0xFF ∷ 2 ∷ 1 ∷ 7 ∷ []) gets refuses 9
    ∷ (0x81 ∷ 0xF0 ∷ 6 ∷ 4 ∷ 1 ∷ 0x00 ∷ 2 ∷ 1 ∷ 7 ∷ []) gets refuses 8
    ∷ (0x81 ∷ 0xF0 ∷ 10 ∷ 6 ∷ 2 ∷ 0xFF ∷ 0xFF ∷ 4 ∷ 1 ∷ 0x11 ∷ 2 ∷ 1 ∷ 7 ∷ []) gets refuses 8
    ∷ (0x81 ∷ 0xF0 ∷ 10 ∷ 6 ∷ 2 ∷ 0x4B ∷ 0x42 ∷ 4 ∷ 1 ∷ 0xFF ∷ 2 ∷ 1 ∷ 7 ∷ []) gets refuses 9 ∷ []

-- in a scan they are plain octets, and type or vendor beside the mask are neither
abbrev pub scanned : List Row
scanned =
    (0x81 ∷ 0xF0 ∷ 8 ∷ 1 ∷ 2 ∷ 0xFF ∷ 0xFF ∷ 3 ∷ 2 ∷ 0xFF ∷ 0xFF ∷ []) gets refuses 10
    ∷ (0x81 ∷ 0xF0 ∷ 9 ∷ 1 ∷ 1 ∷ 0x4B ∷ 3 ∷ 1 ∷ 0xFF ∷ 4 ∷ 1 ∷ 0xFF ∷ []) gets refuses 5
    ∷ (0x81 ∷ 0xF0 ∷ 10 ∷ 1 ∷ 1 ∷ 0x4B ∷ 3 ∷ 1 ∷ 0xFF ∷ 6 ∷ 2 ∷ 0xFF ∷ 0xFF ∷ []) gets refuses 5 ∷ []

-- a scan, from the left: the left-most two octets, and the right-most two
abbrev pub left : List Row
left =
    (0x81 ∷ 0xF0 ∷ 8 ∷ 1 ∷ 2 ∷ 0x4B ∷ 0x41 ∷ 3 ∷ 2 ∷ 0xFF ∷ 0xFF ∷ []) gets gives Scan
    ∷ (0x81 ∷ 0xF0 ∷ 8 ∷ 1 ∷ 2 ∷ 0x32 ∷ 0x33 ∷ 3 ∷ 2 ∷ 0xFF ∷ 0xFF ∷ []) gets refuses 10 ∷ []

-- and padded, the mask first: the seventh octet is 0x20, and no zero
abbrev pub padding : List Row
padding =
    (0x81 ∷ 0xF0 ∷ 18 ∷ 3 ∷ 7 ∷ 0 ∷ 0 ∷ 0 ∷ 0 ∷ 0 ∷ 0xFF ∷ 0xFF ∷ 1 ∷ 7 ∷ 0 ∷ 0 ∷ 0 ∷ 0 ∷ 0 ∷ 0x33 ∷ 0x20 ∷ [])
    gets gives Scan
    ∷ (0x81 ∷ 0xF0 ∷ 18 ∷ 3 ∷ 7 ∷ 0 ∷ 0 ∷ 0 ∷ 0 ∷ 0 ∷ 0xFF ∷ 0xFF ∷ 1 ∷ 7 ∷ 0 ∷ 0 ∷ 0 ∷ 0 ∷ 0 ∷ 0x33 ∷ 0 ∷ [])
    gets refuses 10
    ∷ []

-- 01: "Assignment with address value 0 or 255: silence." "Scan value with a bit outside its mask: silence."
abbrev pub edges : List Row
edges =
    (0x81 ∷ 0xF0 ∷ 3 ∷ 2 ∷ 1 ∷ 0 ∷ []) gets refuses 6
    ∷ (0x81 ∷ 0xF0 ∷ 3 ∷ 2 ∷ 1 ∷ 255 ∷ []) gets refuses 6
    ∷ (0x81 ∷ 0xF0 ∷ 6 ∷ 1 ∷ 1 ∷ 0x4B ∷ 3 ∷ 1 ∷ 0x0F ∷ []) gets refuses 10
    ∷ (0x81 ∷ 0xF0 ∷ 6 ∷ 1 ∷ 1 ∷ 0x0B ∷ 3 ∷ 1 ∷ 0x0F ∷ []) gets gives Scan ∷ []

-- a repeat, a last triple that runs past the end, another identifier, another length, a wrong length field
abbrev pub misformed : List Row
misformed =
    (0x81 ∷ 0xF0 ∷ 6 ∷ 2 ∷ 1 ∷ 7 ∷ 2 ∷ 1 ∷ 7 ∷ []) gets refuses 4
    ∷ (0x81 ∷ 0xF0 ∷ 6 ∷ 2 ∷ 1 ∷ 7 ∷ 1 ∷ 2 ∷ 0x33 ∷ []) gets refuses 4
    ∷ (0x81 ∷ 0xF0 ∷ 6 ∷ 2 ∷ 1 ∷ 7 ∷ 5 ∷ 1 ∷ 1 ∷ []) gets refuses 4
    ∷ (0x81 ∷ 0xF0 ∷ 7 ∷ 2 ∷ 1 ∷ 7 ∷ 4 ∷ 2 ∷ 1 ∷ 1 ∷ []) gets refuses 4
    ∷ (0x81 ∷ 0xF0 ∷ 4 ∷ 2 ∷ 1 ∷ 7 ∷ []) gets refuses 4 ∷ []

-- a mask alone, and a scan of unequal lengths; an assignment that is wrong twice gets the first of its numbers
abbrev pub others : List Row
others =
    (0x81 ∷ 0xF0 ∷ 3 ∷ 3 ∷ 1 ∷ 0xFF ∷ []) gets refuses 5
    ∷ (0x81 ∷ 0xF0 ∷ 7 ∷ 1 ∷ 2 ∷ 0x4B ∷ 0x41 ∷ 3 ∷ 1 ∷ 0xFF ∷ []) gets refuses 5
    ∷ (0x81 ∷ 0xF0 ∷ 6 ∷ 4 ∷ 1 ∷ 0x11 ∷ 2 ∷ 1 ∷ 0 ∷ []) gets refuses 6
    ∷ (0x81 ∷ 0xF0 ∷ 9 ∷ 4 ∷ 1 ∷ 0x11 ∷ 1 ∷ 1 ∷ 0x34 ∷ 2 ∷ 1 ∷ 7 ∷ []) gets refuses 7
    ∷ (0x81 ∷ 0xF0 ∷ 10 ∷ 6 ∷ 2 ∷ 0x4B ∷ 0x42 ∷ 4 ∷ 1 ∷ 0x11 ∷ 2 ∷ 1 ∷ 7 ∷ []) gets refuses 8 ∷ []

pub computed : All right × All shorter × All named × All wild × All tame × All scanned × All left × All padding × All edges
    × All misformed × All others
unfolding payload_answer payload_rows value_rows answered meaning_of malformed no_params values_in neither
    bad_address other_identity other_type other_vendor other_scan params_of opened triples_after before checked all_right
    right_length identifiers none_twice holds values_of value_for given octets_in is_scan scan_shape assignment_shape
    scan_matches answers_scan padded masked same ends_with identity_matches kind_matches vendor_matches addressed
computed = (
  (refl, (refl, tt)),
  (refl, (refl, tt)),
  (refl, (refl, (refl, tt))),
  (refl, (refl, (refl, (refl, (refl, tt))))),
  (refl, (refl, (refl, (refl, (refl, (refl, tt)))))),
  (refl, (refl, (refl, tt))),
  (refl, (refl, tt)),
  (refl, (refl, tt)),
  (refl, (refl, (refl, (refl, tt)))),
  (refl, (refl, (refl, (refl, (refl, tt))))),
  (refl, (refl, (refl, (refl, (refl, tt))))),
)
