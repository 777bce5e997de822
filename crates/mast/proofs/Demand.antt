-- What the bus's theorems say of a sweep: with allowed devices of different padded identities on the cable, the row is
-- as it was and the scan is demand 3's; with a limit of 1 + 304 for each device it is complete. Assumes nothing.
use mathlib.Core.Path.{◌≡◌, ap, ◌∙◌}
use mathlib.Core.List.{List, [], map, ◌++◌}
use Prim.Native.Nat.{ℕ, ◌+◌, ◌*◌, ◌≤◌}
use native.Mathlib.Omega.{arith}
use lib.ListN.{length, length-take, take-append-drop}
use Rattle.identity.specs.Bits.{Bits}
use Rattle.identity.specs.Identity.{depth}
use Rattle.record.specs.declared.Device.{Device}
use Rattle.walk.specs.Probes.{order}
use Rattle.scan.specs.declared.State.TheVariants.{Complete}
use Rattle.scan.specs.Record.{list_most}
use Rattle.whole_scan.specs.Demand.{probes_each, AnyScan, BusScan}
use Rattle.bus.specs.Cable.{row_most, padded_in, Cabled, heard_on}
use Rattle.bus.specs.Scanning.{probes_asked, lines_sent, scan_begun}
use Rattle.bus.proofs.Scans.{scan-unchanged, scan-row, scan-any, scan-complete}
use Rattle.bus.proofs.Lines.{scan-lines-number}
use Rattle.bus.specs.declared.Row.{Row}
use Rattle.mast.specs.Mast.{on_cable, off_cable, with_devices, swept_by, swept}

-- a row of the code has 32 places, so that no more devices hang on the cable than a scan's list has room for
pub on-cable-fits : (row : Row) → length row.devices ≡ row_most → length (on_cable row) ≤ list_most
on-cable-fits row e = omega (arith, length-take row.count row.devices)

module _ (row : Row) (limit : ℕ) (c : Cabled (on_cable row)) where
  -- "hearing probes changes no device": the row is as it was, with the places that hang on no cable
  pub sweep-unchanged : (swept row limit).row ≡ row
  unfolding swept swept_by with_devices
  sweep-unchanged =
      ap (λ (ds : List Device). record { devices = ds ++ off_cable row; count = row.count })
      (scan-unchanged (on_cable row) c limit)
      ∙ ap (λ (ds : List Device). record { devices = ds; count = row.count })
      (take-append-drop row.count row.devices)

  -- "what demand 3 says, with the list, the count and the bound", of the scan that the code gives
  pub sweep-row : (all : List (List ℕ)) × (shorter : List Bits)
      × BusScan limit (map padded_in (on_cable row)) (swept row limit).scan (order (heard_on (on_cable row)) depth []) all
      shorter
  unfolding swept swept_by
  sweep-row = scan-row (on_cable row) c limit

  -- and what holds by any answers at all: exactly as many probes as it counts, their order, and none twice
  pub sweep-any : AnyScan limit (heard_on (on_cable row)) (swept row limit).scan
      (λ i. (probes_asked i (scan_begun limit (on_cable row))).scan) (order (heard_on (on_cable row)) depth [])
  unfolding swept swept_by
  sweep-any = scan-any (on_cable row) c limit

  -- and as many lines as the scan counts go out on the cable, in the first `limit` turns and in any number more
  pub sweep-lines-number : (n : ℕ) → limit ≤ n
      → length (lines_sent n (scan_begun limit (on_cable row))) ≡ (swept row limit).scan.count
  unfolding swept swept_by
  sweep-lines-number = scan-lines-number (on_cable row) c limit

  -- "up to 32" devices, and a limit of demand 3's bound
  pub sweep-complete : length (on_cable row) ≤ list_most → 1 + probes_each * length (on_cable row) ≤ limit
      → (swept row limit).scan.state ≡ Complete
  unfolding swept swept_by
  sweep-complete = scan-complete (on_cable row) c limit
