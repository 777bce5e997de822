-- How what is said comes to lie in a frame. Assumes nothing.
use mathlib.Core.Path.{◌≡◌, sym, ap, ap₂, ◌∙◌}
use mathlib.Core.Bool.{true, false}
use mathlib.Core.List.{List, ◌∷◌}
use Prim.Native.Nat.{ℕ, suc, ◌+◌, ◌≤◌}
use native.Mathlib.Omega.{arith}
use lib.ListN.{length, set, replicate, length-replicate}
use lib.Seq.{sets}
use Rattle.octets.specs.Octets.{◌at_start_of◌}
use Rattle.octets.proofs.Stores.{sets-start}
use Rattle.record.specs.declared.Pending.{Pending}
use Rattle.record.specs.declared.Pending.TheVariants.{Indication}
use Rattle.record.specs.declared.Desk.{Desk}
use Rattle.record.specs.declared.Device.{Device}
use Rattle.record.specs.Desk.{Payload}
use Rattle.record.specs.Allowed.{identity_of, limit_of, reply_most}
use Rattle.payload.specs.Payloads.{payload_of}
use Rattle.payload.proofs.Laws.{payload-says}
use Rattle.report.specs.Reports.{indication_of}
use Rattle.control.specs.declared.AskedFor.{AskedFor}
use Rattle.xid_answer.specs.Answer.{scan_answer, assignment_answer, negotiation_answer}
use Rattle.station.specs.declared.Say.{Say}
use Rattle.station.specs.declared.Say.TheVariants.{Scanned, Assigned, Negotiated}
use Rattle.std.specs.Prelude as Spoken
use Rattle.octets.specs.Text.{laid}
use Rattle.octets.specs.declared.Text.{Text}
use Rattle.speech.specs.Speech.{octets_held, pending_octets, is_silent, control_by, payload_by, frame_by}
use Rattle.speech.specs.Speech.{spoken_most, spoken_of}

-- a payload that holds a list says it
holds-said : (r : Payload) (b : List ℕ) → r ≡ payload_of b → octets_held r ≡ b
holds-said r b e = ap octets_held e ∙ payload-says b

pub indication-said : (t : Desk) (p : Pending) (r : Payload) → p ≡ Indication
    → r ≡ payload_of (indication_of t.said t.told) → octets_held r ≡ pending_octets t p
unfolding pending_octets
indication-said t p r e h = holds-said r (indication_of t.said t.told) h ∙ sym (ap (pending_octets t) e)

module _ (d : Device) (x : Say) (r : Payload) where
  pub scan-said : x ≡ Scanned → r ≡ payload_of (scan_answer (identity_of d.plate) d.station.desk.address)
      → octets_held r ≡ payload_by d x
  unfolding payload_by
  scan-said e h = holds-said r (scan_answer (identity_of d.plate) d.station.desk.address) h ∙ sym (ap (payload_by d) e)

  pub assignment-said : x ≡ Assigned → r ≡ payload_of (assignment_answer (identity_of d.plate))
      → octets_held r ≡ payload_by d x
  unfolding payload_by
  assignment-said e h = holds-said r (assignment_answer (identity_of d.plate)) h ∙ sym (ap (payload_by d) e)

  pub negotiation-said : (a : AskedFor) → x ≡ Negotiated a → r ≡ payload_of (negotiation_answer a (limit_of d))
      → octets_held r ≡ payload_by d x
  unfolding payload_by
  negotiation-said a e h = holds-said r (negotiation_answer a (limit_of d)) h ∙ sym (ap (payload_by d) e)

-- address and control are stored in front of a payload
module _ (a c : ℕ) (b : List ℕ) (few : length b ≤ reply_most) {o : List ℕ}
    (stored : o ≡ sets (set (set (replicate spoken_most 0) 0 a) 1 c) 2 b) where
  pub laid-is : record { octets = o; len = length b + 2 } ≡ laid spoken_most (a ∷ c ∷ b)
  unfolding laid
  laid-is =
      let zeros : List ℕ = replicate spoken_most 0 in
      let room : length (a ∷ c ∷ b) ≤ length zeros = rw (length-replicate {A = ℕ} spoken_most 0) (omega (arith, few)) in
      let k : length b + 2 ≡ suc (suc (length b)) = omega arith in
      let at : o ≡ (a ∷ c ∷ b) at_start_of zeros = stored ∙ sets-start (a ∷ c ∷ b) zeros room in
      ap₂ (λ (x : List ℕ) (j : ℕ). record { octets = x; len = j }) at k

-- silence, and what is not
module _ (d : Device) (x : Say) where
  pub silent-spoken : is_silent x ≡ true → Spoken.None ≡ spoken_of (frame_by d x)
  unfolding frame_by spoken_of
  silent-spoken e = rw e

  pub laid-spoken : is_silent x ≡ false → {c : ℕ} {b : List ℕ} {r : Text spoken_most} → c ≡ control_by x
      → b ≡ payload_by d x → r ≡ laid spoken_most (d.station.desk.address ∷ c ∷ b)
      → Spoken.Some r ≡ spoken_of (frame_by d x)
  unfolding frame_by spoken_of
  laid-spoken e f g h = ap Spoken.Some h ∙ rw (e, f, g)
