-- How many lines a scan of the row sends: in the first `limit` turns, and in any number from there on, as many as it
-- counts, the lines of the first so many beginnings of the order. Assumes nothing.
use mathlib.Core.Path.{◌≡◌, refl, ap, ◌∙◌}
use mathlib.Core.List.{List, [], ◌∷◌, map}
use Prim.Native.Nat.{ℕ, zero, suc, ◌≤◌, ◌<◌}
use native.Mathlib.Omega.{arith}
use lib.ListN.{length, take, get_or, length-map, length-take}
use Rattle.refusal.specs.Answer.{gives, refuses}
use Rattle.refusal.proofs.Answers.{in-room}
use Rattle.identity.specs.Bits.{Bits}
use Rattle.identity.specs.Identity.{depth}
use Rattle.walk.specs.Probes.{Mark, asked, order, beginnings_of}
use Rattle.walk.proofs.Places.{place-bound}
use Rattle.record.specs.declared.Device.{Device}
use Rattle.scan.specs.Record.{list_most}
use Rattle.scan.specs.Scan.{probe_length, probe_of, probed}
use Rattle.scan.proofs.Probes.{length-probe}
use Rattle.bus.specs.Cable.{Cabled, line_for, heard_on}
use Rattle.bus.specs.Scanning.{Bus, one_probe, probes_asked, lines_by, lines_sent, scan_begun, scanned}
use Rattle.bus.proofs.Scans.{scan-any}

abbrev probe_line : Bits → List ℕ
probe_line p = line_for (probe_of p)

-- where the first c turns give the probes of ps, and no other gives one
lines_are : (n c : ℕ) (ps : List Bits) (b : Bus) → c ≤ n → c ≤ length ps
    → ((i : ℕ) → i < c → probed (probes_asked i b).scan probe_length ≡ gives (probe_of (get_or ps i [])))
    → ((i : ℕ) → c ≤ i → probed (probes_asked i b).scan probe_length ≡ refuses 7)
    → lines_sent n b ≡ map probe_line (take c ps)
unfolding lines_sent lines_by probes_asked
lines_are zero zero ps b h k gave none = refl
lines_are zero (suc c) ps b h k gave none = absurd (omega arith)
lines_are (suc n) zero ps b h k gave none =
    rw (none 0 (omega arith))
    (lines_are n zero ps (one_probe b) (omega arith) (omega arith) (λ i l. absurd (omega arith))
    (λ i l. none (suc i) (omega arith)))
lines_are (suc n) (suc c) [] b h k gave none = absurd (omega arith)
lines_are (suc n) (suc c) (p ∷ ps) b h k gave none =
    rw (gave 0 (omega arith))
    (ap (λ (ls : List (List ℕ)). probe_line p ∷ ls)
    (lines_are n c ps (one_probe b) (omega arith) (omega arith) (λ i l. gave (suc i) (omega arith))
    (λ i l. none (suc i) (omega arith))))

module _ (ds : List Device) (c : Cabled ds) (limit : ℕ) where
  abbrev count : ℕ
  count = (scanned limit ds).scan.count

  abbrev asks : List Bits
  asks = beginnings_of (order (heard_on ds) depth [])

  -- a turn gives a probe exactly if fewer than `count` went before it, and then the one of the next beginning
  pub turn-gives : (i : ℕ) → i < count
      → probed (probes_asked i (scan_begun limit ds)).scan probe_length ≡ gives (probe_of (get_or asks i []))
  turn-gives i h =
      (scan-any ds c limit).sent i h probe_length
      ∙ in-room (probe_of (get_or asks i [])) probe_length (omega (arith, length-probe (get_or asks i [])))

  pub turn-refused : (i : ℕ) → count ≤ i → probed (probes_asked i (scan_begun limit ds)).scan probe_length ≡ refuses 7
  turn-refused i h = (scan-any ds c limit).exactly.refused i h probe_length

  count-asks : count ≤ length asks
  count-asks =
      let ms : List Mark = order (heard_on ds) depth [] in
      omega (arith, (scan-any ds c limit).count, place-bound list_most ms, length-map ms asked)

  -- the lines sent are those of the first `count` beginnings of the order
  pub scan-lines : (n : ℕ) → limit ≤ n → lines_sent n (scan_begun limit ds) ≡ map probe_line (take count asks)
  scan-lines n h =
      lines_are n count asks (scan_begun limit ds) (omega (arith, (scan-any ds c limit).count)) count-asks turn-gives
      turn-refused

  -- and so they are exactly as many as the scan counts
  pub scan-lines-number : (n : ℕ) → limit ≤ n → length (lines_sent n (scan_begun limit ds)) ≡ count
  scan-lines-number n h =
      ap length (scan-lines n h)
      ∙ omega (arith, length-map (take count asks) probe_line, length-take count asks, count-asks)
