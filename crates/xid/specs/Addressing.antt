-- The group of scans and assignments: its octet and its five identifiers, and what is given of them, by name. 01, "XID:
-- scan and assignment".
--   group_octet   == 0xF0; identity_id, address_id, mask_id, kind_id, vendor_id == the identifiers 1, 2, 3, 4, 6
--   addressing    == the group: 0xF0, and the table of its identifiers with their lengths
--   values_of ps  == what the parameters ps give, by name: the five `Values`
--   part_for n s  == the part of the identifier n among the parts s that a walk found;
--                    parts_by s == of all five, by name
--   values_at m f == the octets of the parts f, by name
-- Assumes nothing.
use Rattle.std.specs.Prelude.{List, [], ◌∷◌, ℕ}
use Rattle.std.proofs.Math.Option.{Option}
use Rattle.identity.specs.Identity.{vendor, width}
use Rattle.params.specs.declared.Group.{Group}
use Rattle.params.specs.Field.{Param, ◌has◌to◌, value_for}
use Rattle.params.specs.Walk.{place_in, Part, part_in, value_at}
use Rattle.xid.specs.declared.Parts.{Parts}

-- "Identifiers 1 (identity, 1 to 19), 2 (address, 1), 3 (mask, 1 to 19), 4 (type, 1), 6 (vendor, 2)"
abbrev pub identity_id : ℕ
identity_id = 1

abbrev pub address_id : ℕ
address_id = 2

abbrev pub mask_id : ℕ
mask_id = 3

abbrev pub kind_id : ℕ
kind_id = 4

abbrev pub vendor_id : ℕ
vendor_id = 6

abbrev pub group_octet : ℕ
group_octet = 0xF0

abbrev pub addressing : Group
addressing =
    record {
      octet = group_octet;
      table = identity_id has 1 to width
          ∷ address_id has 1 to 1
          ∷ mask_id has 1 to width ∷ kind_id has 1 to 1 ∷ vendor_id has vendor to vendor ∷ [];
    }

pub record Values : Type 0 where
  pub identity : Option (List ℕ)
  pub address : Option (List ℕ)
  pub mask : Option (List ℕ)
  pub kind : Option (List ℕ)
  pub vendor : Option (List ℕ)

-- "1 (identity ..), 2 (address ..), 3 (mask ..), 4 (type ..), 6 (vendor ..)"
unfoldable pub values_of : List Param → Values
values_of ps =
    record {
      identity = value_for identity_id ps;
      address = value_for address_id ps;
      mask = value_for mask_id ps;
      kind = value_for kind_id ps;
      vendor = value_for vendor_id ps;
    }

abbrev pub part_for : ℕ → List Part → Part
part_for n s = part_in s (place_in n addressing.table)

unfoldable pub parts_by : List Part → Parts
parts_by s =
    record {
      identity = part_for identity_id s;
      address = part_for address_id s;
      mask = part_for mask_id s;
      kind = part_for kind_id s;
      vendor = part_for vendor_id s;
    }

unfoldable pub values_at : List ℕ → Parts → Values
values_at m f =
    record {
      identity = value_at m f.identity;
      address = value_at m f.address;
      mask = value_at m f.mask;
      kind = value_at m f.kind;
      vendor = value_at m f.vendor;
    }
