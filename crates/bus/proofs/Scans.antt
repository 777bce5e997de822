-- Demand 3 with no premise about hearing: a scan of a row of our devices, run to its end through written lines, lists
-- the identities of the row, in order, with demand 3's count and bound, and leaves every device as it was. With at most
-- 32 devices and a limit of 1 + 304 for each it is complete. Assumes nothing.
use mathlib.Core.Path.{◌≡◌, refl, sym, ap, ◌∙◌, subst, fun_ext}
use mathlib.Core.Bool.{Bool, true, false}
use mathlib.Core.List.{List, [], map, Memᴰ}
use Prim.Native.Nat.{ℕ, zero, suc, ◌+◌, ◌*◌, ◌≤◌}
use native.Mathlib.Omega.{arith}
use lib.ListN.{length, length-map}
use Rattle.octets.specs.Octets.{Octets}
use Rattle.refusal.specs.Answer.{gives, state_after}
use Rattle.refusal.proofs.Answers.{in-room}
use Rattle.identity.specs.Bits.{Bits, bits_of, masked}
use Rattle.identity.specs.Identity.{width, depth, mask_of, answers_scan}
use Rattle.identity.proofs.Identities.{allowed-parts, printable-octets, length-padded, padded-octets}
use Rattle.identity.proofs.Scans.{same-is, is_same}
use Rattle.identity.proofs.Lists.{map-in, map-out}
use Rattle.record.specs.declared.Device.{Device}
use Rattle.walk.specs.Probes.{Mark, order}
use Rattle.walk.proofs.Begins.{begins-shorter, shorter-number}
use Rattle.walk.proofs.Visit.{begins, begins-bound}
use Rattle.scan.specs.declared.Scan.{Scan}
use Rattle.scan.specs.declared.State.TheVariants.{Complete}
use Rattle.scan.specs.Record.{list_most, beginning_of}
use Rattle.scan.specs.Scan.{probe_length, fresh, probe_of, over, probed, reported, driven}
use Rattle.whole_scan.specs.Demand.{probes_each, OctetBus, AnyScan, BusScan}
use Rattle.scan.proofs.Probes.{length-probe, probed-over, probed-open}
use Rattle.scan.proofs.Reports.{report-stays}
use Rattle.whole_scan.proofs.AnyScans.{any-scans}
use Rattle.whole_scan.proofs.Demand.{demand3-octets}
use Rattle.bus.specs.Cable.{identity_in, padded_in, Cabled, line_for, heard_on}
use Rattle.bus.specs.Scanning.{Bus, one_probe_by, one_probe, probes_asked, scan_begun, scanned}
use Rattle.bus.proofs.Hears.{any-exactly}
use Rattle.bus.proofs.Heard.{identity-allowed, probe-replies, heard-unchanged}

module _ (ds : List Device) (c : Cabled ds) where
  -- ---- the premises of demand 3, of this row

  padded-whole : (i : List ℕ) → Memᴰ i (map padded_in ds) → (length i ≡ width) × Octets i
  padded-whole i m =
      let (d, n, e) = map-in padded_in ds i m in
      let a = allowed-parts (identity_in d) (identity-allowed d (c.allowed d n)) in (
        ap length e ∙ length-padded (identity_in d) a.most,
        subst Octets (sym e) (padded-octets (identity_in d) (printable-octets (identity_in d) a.plain)),
      )

  pub row-bus : OctetBus (map padded_in ds) (heard_on ds)
  unfolding answers_scan
  row-bus = record {
    whole = padded-whole;
    apart = c.apart;
    right = λ p h. (
      λ e.
          let (d, m, f) = (any-exactly ds (line_for (probe_of p))).0 e in
          (padded_in d, map-out padded_in ds d m, same-is _ _ (sym (probe-replies d p (c.allowed d m)) ∙ f)),
      λ (i, m, f).
          let (d, n, e) = map-in padded_in ds i m in
          let g = ap (λ (x : List ℕ). masked x (mask_of p)) (sym e) ∙ f in
          (any-exactly ds (line_for (probe_of p))).1 (d, n, probe-replies d p (c.allowed d n) ∙ is_same _ _ g),
    );
  }

  -- ---- the scan through lines is the scan that is told what is heard

  abbrev on : Scan → Bus
  on s = record { scan = s; devices = ds }

  ask-is : (s : Scan) → one_probe (on s) ≡ on (state_after (reported s (heard_on ds (beginning_of s))) s)
  unfolding one_probe one_probe_by
  ask-is s = go (over s) refl
    where
      go : (b : Bool) → over s ≡ b → one_probe (on s) ≡ on (state_after (reported s (heard_on ds (beginning_of s))) s)
      go true e =
          ap (one_probe_by (on s)) (probed-over s probe_length (sym e))
          ∙ ap on (sym (report-stays s (heard_on ds (beginning_of s)) (sym e)))
      go false e =
          let p : Bits = beginning_of s in
          let gave : probed s probe_length ≡ gives (probe_of p) =
          sym (probed-open s probe_length e refl) ∙ in-room (probe_of p) probe_length (omega (arith, length-probe p)) in
          ap (one_probe_by (on s)) gave
          ∙ ap
          (λ (bs : List Device).
          record { scan = state_after (reported s (heard_on ds p)) s; devices = bs })
          (heard-unchanged ds c.allowed p)

  asks-are : (n : ℕ) (s : Scan) → probes_asked n (on s) ≡ on (driven (heard_on ds) n s)
  unfolding probes_asked driven
  asks-are zero s = refl
  asks-are (suc n) s =
      ap (probes_asked n) (ask-is s) ∙ asks-are n (state_after (reported s (heard_on ds (beginning_of s))) s)

  module _ (limit : ℕ) where
    pub scan-told : scanned limit ds ≡ on (driven (heard_on ds) limit (fresh limit))
    unfolding scanned
    scan-told = asks-are limit (fresh limit)

    -- "hearing probes changes no device": not one of a whole scan
    pub scan-unchanged : (scanned limit ds).devices ≡ ds
    scan-unchanged = ap (λ (b : Bus). b.devices) scan-told

    scan-is : driven (heard_on ds) limit (fresh limit) ≡ (scanned limit ds).scan
    scan-is = sym (ap (λ (b : Bus). b.scan) scan-told)

    -- "what demand 3 says, with the list, the count and the bound; no premise about hearing is left"
    pub scan-row : (all : List (List ℕ)) × (shorter : List Bits)
        × BusScan limit (map padded_in ds) (scanned limit ds).scan (order (heard_on ds) depth []) all shorter
    scan-row =
        let (all, shorter, w) = demand3-octets limit (map padded_in ds) (heard_on ds) row-bus in (
          all,
          shorter,
          subst
              (λ (s : Scan). BusScan limit (map padded_in ds) s (order (heard_on ds) depth []) all shorter) scan-is w,
        )

    -- and what holds by any answers at all: exactly as many probes as it counts, their order, and none twice
    pub scan-any : AnyScan limit (heard_on ds) (scanned limit ds).scan
        (λ i. (probes_asked i (scan_begun limit ds)).scan) (order (heard_on ds) depth [])
    scan-any =
        let ms : List Mark = order (heard_on ds) depth [] in
        let told : (ℕ → Scan) = λ i. driven (heard_on ds) i (fresh limit) in
        let asks : (ℕ → Scan) = λ i. (probes_asked i (scan_begun limit ds)).scan in
        let same : told ≡ asks = fun_ext (λ i. sym (ap (λ (b : Bus). b.scan) (asks-are i (fresh limit)))) in
        subst (λ (t : ℕ → Scan). AnyScan limit (heard_on ds) (scanned limit ds).scan t ms) same
        (subst (λ (s : Scan). AnyScan limit (heard_on ds) s told ms) scan-is (any-scans limit (heard_on ds)))

    -- "up to 32" devices, and a limit of demand 3's bound
    pub scan-complete : length ds ≤ list_most → 1 + probes_each * length ds ≤ limit
        → (scanned limit ds).scan.state ≡ Complete
    scan-complete few long =
        let (all, shorter, w) = scan-row in
        let ids : List Bits = map bits_of (map padded_in ds) in
        let same : length shorter ≡ length (begins depth [] ids) =
        shorter-number depth ids shorter (begins depth [] ids) w.counted (begins-shorter depth ids) in
        let number : length (map padded_in ds) ≡ length ds = length-map ds padded_in in
        let number' : length ids ≡ length (map padded_in ds) = length-map (map padded_in ds) bits_of in
        w.completes.1
        (omega (arith, number), omega (arith, same, begins-bound depth [] ids, number, number'))
