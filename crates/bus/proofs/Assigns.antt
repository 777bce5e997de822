-- A payload to everyone, written as a line and heard by one device: an assignment to it is taken, and answered from the
-- address; one that means nothing to it leaves it as it was, silent. So one that names an identity is taken exactly if that is
-- the right end of the device's own. Assumes nothing.
use mathlib.Core.Path.{◌≡◌, refl, sym, ap, ◌∙◌}
use mathlib.Core.Bool.{Bool, true, false, cond}
use mathlib.Core.Logic.{◌↔◌}
use mathlib.Core.List.{List, [], ◌∷◌, ◌++◌}
use mathlib.Core.Option.{none, some}
use Prim.Native.Nat.{ℕ, ◌+◌, ◌≤◌}
use native.Mathlib.Omega.{arith}
use borrow.Author.Tests.{le-leb}
use lib.ListN.{length, length-append}
use Rattle.octets.specs.Octets.{Octets, holds}
use Rattle.octets.proofs.Bounds.{octets-append}
use Rattle.octets.proofs.Words.{true-not-false}
use Rattle.refusal.specs.Answer.{gives}
use Rattle.identity.specs.Identity.{width, allowed_identity}
use Rattle.identity.proofs.Identities.{allowed-parts, printable-octets}
use Rattle.record.specs.declared.Device.{Device}
use Rattle.record.specs.declared.Link.TheVariants.{AddressAssigned}
use Rattle.record.specs.Allowed.{allowed_device}
use Rattle.record.proofs.Stays.{limited}
use Rattle.record.specs.Changes.{unsaid_at, emptied_as, ended_as}
use Rattle.params.specs.Field.{◌is◌, triple_of, field_of, xid_payload, right_length, identifiers, none_twice, value_for}
use Rattle.params.proofs.Exact.{once-different}
use Rattle.params.proofs.Kept.{of-both}
use Rattle.xid.specs.Addressing.{identity_id, address_id, addressing, values_of}
use Rattle.xid.specs.Match.{ends_with, read_of}
use Rattle.xid.specs.Meaning.{AssignmentOf, EndOf}
use Rattle.xid.specs.declared.Xid.{Xid}
use Rattle.xid.proofs.Ends.{ends-exactly}
use Rattle.xid.proofs.Exactly.{meant-exactly, meant-silent, assignment-exactly}
use Rattle.xid_answer.specs.Answer.{assignment_answer}
use Rattle.station.specs.declared.Turn.{Turn}
use Rattle.station.specs.Turns.{saying}
use Rattle.link.specs.Link.{judged_frame}
use Rattle.speech.specs.Speech.{control_by, payload_by, frame_by}
use Rattle.device.specs.Judge.{reacts, reaction_of, device_after}
use Rattle.conduct.proofs.Answers.{xid-silent, assignment-taken}
use Rattle.bus.specs.Cable.{identity_in, line_for, hears, after_line}
use Rattle.bus.specs.Install.{assignment_for}
use Rattle.bus.proofs.Hears.{hears-written}

-- ---- any payload

-- an XID frame to everyone with the payload m, as a line: what it means to the device is what comes of it
module _ (m : List ℕ) (octets : Octets m) (fits : length m ≤ 74) (d : Device) (allowed : allowed_device d ≡ true) where
  judged-heard : (t : Turn) → judged_frame d (0xFF ∷ 0xBF ∷ m) ≡ t
      → hears d (line_for (0xFF ∷ 0xBF ∷ m)) ≡ gives (reaction_of t)
  judged-heard t e =
      hears-written d 0xFF 0xBF m allowed (octets-append (0xFF ∷ 0xBF ∷ []) m (omega arith) octets) fits
      ∙ ap (λ (u : Turn). gives (reaction_of u)) e

  -- an assignment: the address is taken, and the answer comes from it
  pub taken-heard : (a : ℕ) → read_of (identity_in d) m ≡ Xid.Assignment a
      → hears d (line_for (0xFF ∷ 0xBF ∷ m))
      ≡ gives (record {
        device = ended_as d a AddressAssigned;
        frame = some (a ∷ 0xBF ∷ assignment_answer (identity_in d));
      })
  unfolding saying reacts frame_by control_by payload_by emptied_as unsaid_at
  taken-heard a e =
      judged-heard _ (assignment-taken d m (omega (arith, (limited d allowed).0)) a ((assignment-exactly (identity_in d) m a).0 e))

  -- nothing: the device stays as it was, and no answer comes
  pub silence-heard : read_of (identity_in d) m ≡ Xid.Silence
      → hears d (line_for (0xFF ∷ 0xBF ∷ m)) ≡ gives (record { device = d; frame = none })
  unfolding saying reacts frame_by
  silence-heard e = judged-heard _ (xid-silent d m (omega (arith, (limited d allowed).0)) e)

-- ---- the frame with an identity

module _ (v : List ℕ) (a : ℕ) (whole : allowed_identity v ≡ true) (least : 1 ≤ a) (most : a ≤ 254) where
  abbrev payload : List ℕ
  payload = xid_payload addressing (identity_id is v ∷ address_id is (a ∷ []) ∷ [])

  payload-long : length payload ≡ length v + 8
  unfolding xid_payload field_of triple_of
  payload-long = omega (arith, length-append v (2 ∷ 1 ∷ a ∷ []))

  payload-octets : Octets payload
  unfolding xid_payload field_of triple_of
  payload-octets =
      let parts = allowed-parts v whole in
      let short = parts.most in
      let value : List ℕ = v ++ 2 ∷ 1 ∷ a ∷ [] in
      let long : length value ≡ length v + 3 = length-append v (2 ∷ 1 ∷ a ∷ []) in
      octets-append (0x81 ∷ 0xF0 ∷ length (1 ∷ length v ∷ value) ∷ 1 ∷ length v ∷ []) value (omega arith)
      (octets-append v (2 ∷ 1 ∷ a ∷ []) (printable-octets v parts.plain) (omega arith))

  assignment-formed : AssignmentOf payload a (some v) none none
  unfolding right_length identifiers none_twice holds values_of value_for
  assignment-formed =
      let parts = allowed-parts v whole in
      record {
        params = identity_id is v ∷ address_id is (a ∷ []) ∷ [];
        formed = record {
          octets = refl;
          right = (
            of-both (le-leb 1 (length v) (omega (arith, parts.least))) (le-leb (length v) width parts.most),
            (refl, tt),
          );
          once = once-different (1 ∷ 2 ∷ []) refl;
        };
        values = refl;
      }

  -- what the line makes of a device: it takes the address if the identity in it is the right end of its own
  pub assignment-heard : (d : Device) → allowed_device d ≡ true
      → after_line d (line_for (assignment_for v a)) ≡ cond (ends_with (identity_in d) v) (ended_as d a AddressAssigned) d
  unfolding assignment_for device_after
  assignment-heard d allowed = go (ends_with (identity_in d) v) (ends-exactly (identity_in d) v)
    where
      fits : length payload ≤ 74
      fits = omega (arith, payload-long, (allowed-parts v whole).most)

      go : (b : Bool) → (b ≡ true ↔ EndOf (identity_in d) v)
          → after_line d (line_for (0xFF ∷ 0xBF ∷ payload)) ≡ cond b (ended_as d a AddressAssigned) d
      go true e =
          ap (λ x. device_after x d)
          (taken-heard payload payload-octets fits d allowed a
          ((meant-exactly (identity_in d) payload a (some v) none none assignment-formed).1
          (record { least = least; most = most; own = e.0 refl; kind = tt; maker = tt })))
      go false e =
          ap (λ x. device_after x d)
          (silence-heard payload payload-octets fits d allowed
          (meant-silent (identity_in d) payload a (some v) none none assignment-formed
          (λ w. true-not-false (sym (e.1 w.own)))))
