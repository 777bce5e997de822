-- Demand 3 with no premise about hearing, and the installer's whole job: a row of our own devices on one cable, each
-- probe and each assignment a written line that every device hears (bus/specs). Proved by citation. Assumes nothing.
use mathlib.Core.Path.{◌≡◌, ap, ◌∙◌}
use mathlib.Core.Bool.{true}
use mathlib.Core.List.{List, [], map, Memᴰ}
use mathlib.Core.Logic.{◌↔◌}
use Prim.Native.Nat.{ℕ, ◌+◌, ◌*◌, ◌≤◌}
use lib.ListN.{length, take}
use Rattle.identity.specs.Bits.{Bits, BeginningOf, bits_of}
use Rattle.identity.specs.Identity.{depth}
use Rattle.walk.specs.Probes.{order, beginnings_of}
use Rattle.walk.specs.Demand.{Shorter}
use Rattle.walk.proofs.Begins.{shorter-number}
use Rattle.scan.specs.Record.{list_most}
use Rattle.whole_scan.specs.Demand.{AnyScan, BusScan}
use Rattle.record.specs.declared.Device.{Device}
use Rattle.bus.specs.Cable.{padded_in, Cabled, heard_on, line_for, all_after}
use Rattle.bus.specs.Scanning.{probes_asked, lines_sent, scan_begun, scanned}
use Rattle.bus.specs.Install.{NoLaterEnd, Job}
use Rattle.bus.proofs.Heard.{heard-exactly, heard-unchanged}
use Rattle.bus.proofs.Scans.{scan-row, scan-any, scan-unchanged}
use Rattle.bus.proofs.Lines.{scan-lines, scan-lines-number}
use Rattle.bus.proofs.Job.{job-done}
use Rattle.scan.specs.Scan.{probe_of}
use Rattle.scan.specs.declared.State.TheVariants.{Complete}

module _ (ds : List Device) (c : Cabled ds) where
  -- "a probe is heard exactly when some device matches it": of our devices, this is so; and no device changes
  pub heard-when : (p : Bits) → length p ≤ depth
      → (heard_on ds p ≡ true) ↔ ((d : Device) × Memᴰ d ds × BeginningOf p (bits_of (padded_in d)))
  heard-when p h = heard-exactly ds c.allowed p h

  pub hearing-changes-nothing : (p : Bits) → all_after ds (line_for (probe_of p)) ≡ ds
  hearing-changes-nothing p = heard-unchanged ds c.allowed p

  -- all that demand 3 says, of the scan of this row
  pub whole_row : (limit : ℕ) → (all : List (List ℕ)) × (shorter : List Bits)
      × BusScan limit (map padded_in ds) (scanned limit ds).scan (order (heard_on ds) depth []) all shorter
  whole_row limit = scan-row ds c limit

  -- and what holds by any answers at all: `count` probes and no other, each the next of the order, none twice
  pub any-row : (limit : ℕ) → AnyScan limit (heard_on ds) (scanned limit ds).scan
      (λ i. (probes_asked i (scan_begun limit ds)).scan) (order (heard_on ds) depth [])
  any-row limit = scan-any ds c limit

  module _ (limit n : ℕ) (long : limit ≤ n) where
    -- the lines that go out in n turns, limit of them or more: those of the first `count` beginnings of the order
    pub row-lines : lines_sent n (scan_begun limit ds)
        ≡ map (λ p. line_for (probe_of p))
        (take (scanned limit ds).scan.count (beginnings_of (order (heard_on ds) depth [])))
    row-lines = scan-lines ds c limit n long

    -- "with exactly that many probes": at every end as many lines as are counted,
    pub row-lines-number : length (lines_sent n (scan_begun limit ds)) ≡ (scanned limit ds).scan.count
    row-lines-number = scan-lines-number ds c limit n long

    -- and at "complete" 1 plus twice the number of different beginnings
    pub complete-lines : (shorter : List Bits) → Shorter depth (map bits_of (map padded_in ds)) shorter
        → (scanned limit ds).scan.state ≡ Complete → length (lines_sent n (scan_begun limit ds)) ≡ 1 + 2 * length shorter
    complete-lines shorter counted e =
        let (all, listed, w) = scan-row ds c limit in
        let same = shorter-number depth (map bits_of (map padded_in ds)) listed shorter w.counted counted in
        row-lines-number ∙ w.complete-count e ∙ ap (λ (k : ℕ). 1 + 2 * k) same

  pub row-unchanged : (limit : ℕ) → (scanned limit ds).devices ≡ ds
  row-unchanged limit = scan-unchanged ds c limit

-- found, addressed, and each answers SNRM
pub installer : (limit : ℕ) (ds : List Device) → Cabled ds → length ds ≤ list_most → 1 + 304 * length ds ≤ limit
    → NoLaterEnd ds → Job limit ds
installer = job-done
