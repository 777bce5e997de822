-- The installer's job after a scan: "assigning to each listed identity in turn its own address 1, 2, 3, .. by an
-- assignment frame with the whole unpadded identity, written and heard by every device".
--   assignment_for i a  == the assignment of the address a to the identity i: address, control and payload
--   assigning a x       == its line, for the listed identity x, which is padded
--   assignments a xs    == the lines for all of xs, the addresses counted from a on
--   assigned_all xs ds  == the row ds after the lines for all of xs, the addresses counted from 1 on
--   NoRightEnd xs       == "no listed identity is the right end of one listed before it"
--   snrm_for d          == SNRM to the address of the device d, as a line
--   Installed xs ds es  == ds has become es: each device holds the address of its place in the list xs, all addresses
--                          differ, and each answers SNRM
--   NoLaterEnd ds       == the same condition, of the row: no identity of it is the right end of a lower one
--   Job limit ds        == the installer's whole job: a scan with the limit, and the assignments after it
-- Assumes nothing.
use Rattle.std.specs.Prelude.{◌≡◌, true, ◌↔◌, ℕ, suc, ◌+◌, ◌*◌, ◌≤◌, ◌<◌, length, get_or}
use mathlib.Core.List.{List, [], ◌∷◌, map, Memᴰ}
use Rattle.std.proofs.Math.Option.{none, some}
use Rattle.refusal.specs.Answer.{gives}
use Rattle.identity.specs.Identity.{unpadded}
use Rattle.identity.specs.Order.{lower, Ascending, Different}
use Rattle.record.specs.declared.Link.TheVariants.{AddressAssigned}
use Rattle.record.specs.declared.Device.{Device}
use Rattle.params.specs.Field.{◌is◌, xid_payload}
use Rattle.xid.specs.Addressing.{identity_id, address_id, addressing}
use Rattle.xid.specs.Meaning.{EndOf}
use Rattle.states.specs.States.{begun}
use Rattle.control.specs.Control.{xid_control}
use Rattle.link.specs.Link.{all_stations}
use Rattle.scan.specs.declared.State.TheVariants.{Complete}
use Rattle.scan.specs.Record.{list_of}
use Rattle.whole_scan.specs.Demand.{probes_each}
use Rattle.bus.specs.Cable.{identity_in, padded_in, line_for, hears, all_after_lines}
use Rattle.bus.specs.Scanning.{scanned}

-- 01: "Assignment: 2 present, 3 absent"; to 0xFF, control 0xBF
unfoldable pub assignment_for : List ℕ → ℕ → List ℕ
assignment_for i a = all_stations ∷ xid_control ∷ xid_payload addressing (identity_id is i ∷ address_id is (a ∷ []) ∷ [])

abbrev pub assigning : ℕ → List ℕ → List ℕ
assigning a x = line_for (assignment_for (unpadded x) a)

-- "to each listed identity in turn its own address 1, 2, 3, .."
unfoldable pub assignments : ℕ → List (List ℕ) → List (List ℕ)
assignments a [] = []
assignments a (x ∷ xs) = assigning a x ∷ assignments (suc a) xs

abbrev pub assigned_all : List (List ℕ) → List Device → List Device
assigned_all xs ds = all_after_lines (assignments 1 xs) ds

-- 01: "it isn't longer than the unpadded identity and equals its right-most octets"
abbrev pub NoRightEnd : List (List ℕ) → Type 0
NoRightEnd [] = Unit {0}
NoRightEnd (x ∷ xs) = ((y : List ℕ) → Memᴰ y xs → EndOf (unpadded x) (unpadded y) → ⊥) × NoRightEnd xs

abbrev pub snrm_for : Device → List ℕ
snrm_for d = line_for (d.station.desk.address ∷ 0x93 ∷ [])

pub record Installed (xs : List (List ℕ)) (ds es : List Device) : Type 0 where
  -- the same devices, in their order, and each is listed
  pub plates : map (λ (d : Device). d.plate) es ≡ map (λ (d : Device). d.plate) ds
  pub listed : (e : Device) → Memᴰ e es → (k : ℕ) × (k < length xs) × (padded_in e ≡ get_or xs k [])
  -- "each device holds exactly its address": the place of its identity in the list, counted from 1
  pub holds : (e : Device) → Memᴰ e es → (k : ℕ) → k < length xs → padded_in e ≡ get_or xs k []
      → (e.station.desk.address ≡ suc k) × (e.station.link ≡ AddressAssigned)
  -- "all addresses differ"
  pub differ : Different (map (λ (e : Device). e.station.desk.address) es)
  -- "each then answers SNRM with UA", and a session begins
  pub answers : (e : Device) → Memᴰ e es
      → hears e (snrm_for e)
      ≡ gives (record { device = begun e; frame = some (e.station.desk.address ∷ 0x73 ∷ []) })
  -- nobody else answers it, or changes
  pub alone : (e o : Device) → Memᴰ e es → Memᴰ o es
      → (o.station.desk.address ≡ e.station.desk.address → ⊥)
      → hears o (snrm_for e) ≡ gives (record { device = o; frame = none })
  -- so that, SNRM written to each address in turn, a session begins in every device
  pub connected : all_after_lines (map snrm_for es) es ≡ map begun es

-- the list is ascending, so that a lower identity is listed before
abbrev pub NoLaterEnd : List Device → Type 0
NoLaterEnd ds =
    (d e : Device) → Memᴰ d ds → Memᴰ e ds → lower (padded_in d) (padded_in e) ≡ true
    → EndOf (identity_in d) (identity_in e) → ⊥

-- "The installer's whole job, as one statement"
pub record Job (limit : ℕ) (ds : List Device) : Type 0 where
  pub complete : (scanned limit ds).scan.state ≡ Complete
  -- the list has the identities of the row, each once, ascending
  pub ascending : Ascending lower (list_of (scanned limit ds).scan)
  pub members : (x : List ℕ) → Memᴰ x (list_of (scanned limit ds).scan) ↔ Memᴰ x (map padded_in ds)
  pub once : Different (list_of (scanned limit ds).scan)
  pub bound : (scanned limit ds).scan.count ≤ 1 + probes_each * length ds
  -- the scan leaves the devices as they were, and the assignments give each its address
  pub unchanged : (scanned limit ds).devices ≡ ds
  pub installed : Installed (list_of (scanned limit ds).scan) ds
      (assigned_all (list_of (scanned limit ds).scan) (scanned limit ds).devices)
