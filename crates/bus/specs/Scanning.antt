-- A scan of a row of devices, each probe a written line: "a scan of that row, run to its end through real written
-- lines".
--   Bus              == the master's scan, and the devices on its cable
--   one_probe b      == one probe: the scanner gives it, the master writes it, all devices hear it, and whether one
--                       answered is reported to the scan; a scan that gives no probe asks none
--   probes_asked n b == n probes, one after the other
--   lines_sent n b   == the lines that go out in these n turns; lines_by x == the line of the probe that x gives
--   scan_begun limit ds == a new scan with the limit, on the cable of ds; scanned limit ds == the same, run to its end
-- Assumes nothing.
use Rattle.std.specs.Prelude.{List, [], ◌∷◌, ◌++◌, ℕ, zero, suc}
use Rattle.refusal.specs.Answer.{Answer, gives, refuses, state_after}
use Rattle.record.specs.declared.Device.{Device}
use Rattle.scan.specs.declared.Scan.{Scan}
use Rattle.scan.specs.Scan.{fresh, probe_length, probed, reported}
use Rattle.bus.specs.Cable.{line_for, any_replies, all_after}

pub record Bus : Type 0 where
  pub scan : Scan
  pub devices : List Device

unfoldable pub one_probe_by : Bus → Answer (List ℕ) → Bus
one_probe_by b (refuses k) = b
one_probe_by b (gives f) =
    record {
      scan = state_after (reported b.scan (any_replies b.devices (line_for f))) b.scan;
      devices = all_after b.devices (line_for f);
    }

-- 01: "47 octets unescaped, go to the start of the lent output": so many are lent
unfoldable pub one_probe : Bus → Bus
one_probe b = one_probe_by b (probed b.scan probe_length)

unfoldable pub probes_asked : ℕ → Bus → Bus
probes_asked zero b = b
probes_asked (suc n) b = probes_asked n (one_probe b)

-- 01: "A probe is the XID scan"; each that is given goes out as one line, and a refusal as none
unfoldable pub lines_by : Answer (List ℕ) → List (List ℕ)
lines_by (refuses k) = []
lines_by (gives f) = line_for f ∷ []

unfoldable pub lines_sent : ℕ → Bus → List (List ℕ)
lines_sent zero b = []
lines_sent (suc n) b = lines_by (probed b.scan probe_length) ++ lines_sent n (one_probe b)

abbrev pub scan_begun : ℕ → List Device → Bus
scan_begun limit ds = record { scan = fresh limit; devices = ds }

-- the limit is reached after so many probes, and a scan that has ended asks no more
unfoldable pub scanned : ℕ → List Device → Bus
scanned limit ds = probes_asked limit (scan_begun limit ds)
