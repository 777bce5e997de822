-- A probe is heard exactly if some device's padded identity begins with the probe's beginning, and hearing probes
-- changes no device: what demand 3 assumes of hearing, proved of our own devices. Assumes nothing.
use mathlib.Core.Path.{◌≡◌, refl, ap, ◌∙◌}
use mathlib.Core.Bool.{Bool, true, false, cond}
use mathlib.Core.Logic.{◌↔◌}
use mathlib.Core.List.{List, [], ◌∷◌, ◌++◌, Memᴰ}
use Prim.Native.Nat.{ℕ, ◌≤◌}
use native.Mathlib.Omega.{arith}
use lib.Dec.{leb}
use lib.ListN.{length, length-append}
use Rattle.octets.specs.Octets.{Octets}
use Rattle.octets.proofs.Bounds.{octets-append}
use Rattle.refusal.specs.Answer.{gives}
use Rattle.identity.specs.Bits.{Bits, BeginningOf, bits_of, ones}
use Rattle.identity.specs.Identity.{width, depth, allowed_identity, octets_of, mask_of, answers_scan}
use Rattle.identity.proofs.Words.{length-packed, packed-octets}
use Rattle.octets.proofs.Words.{and_parts}
use Rattle.identity.proofs.Scans.{answers-begins}
use Rattle.record.specs.declared.Device.{Device}
use Rattle.record.specs.Allowed.{identity_allowed, plates_allowed, allowed_device}
use Rattle.record.proofs.Stays.{sound, limited}
use Rattle.xid.specs.declared.Xid.{Xid}
use Rattle.xid.proofs.Probe.{probe_payload, probe-read}
use Rattle.station.specs.declared.Say.{Say}
use Rattle.station.specs.declared.Turn.{Turn}
use Rattle.station.specs.Turns.{saying}
use Rattle.link.specs.Link.{xid_by, judged_frame}
use Rattle.link.proofs.Cases.{everyone-is}
use Rattle.speech.specs.Speech.{frame_by}
use Rattle.device.specs.Judge.{reacts, reaction_of, device_after}
use Rattle.scan.specs.Scan.{probe_of}
use Rattle.bus.specs.Cable.{identity_in, padded_in, line_for, hears, is_frame, with_frame, replies_to, after_line}
use Rattle.bus.specs.Cable.{all_after, heard_on}
use Rattle.bus.proofs.Hears.{hears-written, any-exactly, row_stays}

pub identity-allowed : (d : Device) → allowed_device d ≡ true → allowed_identity (identity_in d) ≡ true
unfolding plates_allowed identity_allowed
identity-allowed d a =
    let i = d.plate.identity in
    let plate = and_parts (identity_allowed i.octets i.len) _ (sound d a).plate in
    (and_parts (leb i.len width) (allowed_identity (identity_in d)) plate.0).1

-- ---- one device

-- the payload of the probe of p
abbrev asking : Bits → List ℕ
asking p = probe_payload (octets_of p) (mask_of p)

probe-octets : (p : Bits) → Octets (0xFF ∷ 0xBF ∷ asking p)
probe-octets p =
    octets-append (0xFF ∷ 0xBF ∷ 0x81 ∷ 0xF0 ∷ 0x2A ∷ 1 ∷ width ∷ []) (octets_of p ++ (3 ∷ width ∷ mask_of p))
    (omega arith)
    (octets-append (octets_of p) (3 ∷ width ∷ mask_of p) (packed-octets width p)
    (omega arith, (omega arith, packed-octets width (ones (length p)))))

probe-long : (p : Bits) → length (asking p) ≡ 45
probe-long p =
    omega (
      arith,
      length-packed width p,
      length-packed width (ones (length p)),
      length-append (octets_of p) (3 ∷ width ∷ mask_of p),
    )

module _ (d : Device) (p : Bits) where
  -- its identity answers the mask and the value of the probe
  abbrev pub asks : Bool
  asks = answers_scan (identity_in d) (mask_of p) (octets_of p)

  probe-judged : allowed_device d ≡ true
      → judged_frame d (0xFF ∷ 0xBF ∷ asking p) ≡ saying d (cond asks Say.Scanned Say.Silence)
  unfolding xid_by
  probe-judged allowed =
      everyone-is d (0xFF ∷ 0xBF ∷ asking p)
      (record {
        least = omega arith;
        most = omega (arith, probe-long p, (limited d allowed).0);
        address = refl;
        control = refl;
      })
      ∙ ap (xid_by d)
      (probe-read (identity_in d) (octets_of p) (mask_of p) (length-packed width p)
      (length-packed width (ones (length p))))
      ∙ go asks
    where
      go : (b : Bool) → xid_by d (cond b Xid.Scan Xid.Silence) ≡ saying d (cond b Say.Scanned Say.Silence)
      go true = refl
      go false = refl

  module _ (allowed : allowed_device d ≡ true) where
    pub probe-heard : hears d (line_for (probe_of p)) ≡ gives (reacts d (cond asks Say.Scanned Say.Silence))
    unfolding probe_of saying
    probe-heard =
        hears-written d 0xFF 0xBF (asking p) allowed (probe-octets p) (omega (arith, probe-long p))
        ∙ ap (λ (t : Turn). gives (reaction_of t)) (probe-judged allowed)

    -- it answers exactly if its identity does, and stays as it was
    pub probe-replies : replies_to d (line_for (probe_of p)) ≡ asks
    unfolding with_frame is_frame reacts frame_by
    probe-replies = ap with_frame probe-heard ∙ go asks
      where
        go : (b : Bool) → is_frame (frame_by d (cond b Say.Scanned Say.Silence)) ≡ b
        go true = refl
        go false = refl

    pub probe-stays : after_line d (line_for (probe_of p)) ≡ d
    unfolding device_after reacts
    probe-stays = rw probe-heard

    pub probe-exactly : length p ≤ depth
        → (replies_to d (line_for (probe_of p)) ≡ true) ↔ BeginningOf p (bits_of (padded_in d))
    probe-exactly h =
        rw probe-replies (answers-begins (identity_in d) width p (identity-allowed d allowed) (omega arith) h)

-- ---- the row

module _ (ds : List Device) (allowed : (d : Device) → Memᴰ d ds → allowed_device d ≡ true) (p : Bits) where
  -- "heard exactly if some device's padded identity begins with the probe's beginning"
  pub heard-exactly : length p ≤ depth
      → (heard_on ds p ≡ true) ↔ ((d : Device) × Memᴰ d ds × BeginningOf p (bits_of (padded_in d)))
  heard-exactly h = (
    λ e.
        let (d, m, f) = (any-exactly ds (line_for (probe_of p))).0 e in
        (d, m, (probe-exactly d p (allowed d m) h).0 f),
    λ (d, m, b).
        (any-exactly ds (line_for (probe_of p))).1 (d, m, (probe-exactly d p (allowed d m) h).1 b),
  )

  -- "hearing probes changes no device"
  pub heard-unchanged : all_after ds (line_for (probe_of p)) ≡ ds
  heard-unchanged = row_stays ds (line_for (probe_of p)) (λ d m. probe-stays d p (allowed d m))
