-- Every answer of an allowed device has 2 to 76 octets and carries the device's address, as it is after the frame.
-- Assumes nothing.
use mathlib.Core.Path.{◌≡◌, sym, ap}
use mathlib.Core.Bool.{Bool, true, false, cond}
use mathlib.Core.List.{List, ◌∷◌}
use mathlib.Core.Option.{none, some}
use Prim.Native.Nat.{ℕ, ◌≤◌}
use native.Mathlib.Omega.{arith}
use borrow.Author.Tests.{eqb-true, ltb-true, leb-true}
use lib.Dec.{ltb, leb}
use lib.ListN.{length, get_or, length-take}
use Rattle.identity.specs.Identity.{width, allowed_identity}
use Rattle.octets.proofs.Words.{and_parts}
use Rattle.record.specs.declared.Pending.{Pending}
use Rattle.record.specs.declared.Pending.TheVariants.{Nothing, Answer, Indication}
use Rattle.record.specs.declared.Link.{Link}
use Rattle.record.specs.declared.Link.TheVariants.{NoAddress, AddressAssigned, Connected}
use Rattle.record.specs.declared.Plate.{Plate}
use Rattle.record.specs.declared.Desk.{Desk}
use Rattle.record.specs.declared.Device.{Device}
use Rattle.record.specs.Allowed.{identity_of, limit_of, reply_most, identity_allowed, plates_allowed, pending_fits}
use Rattle.record.specs.Allowed.{session_allowed, numbers_allowed, addressed, link_allowed, allowed_device}
use Rattle.record.proofs.Stays.{sound}
use Rattle.report.proofs.Laws.{indication-fits}
use Rattle.xid_answer.proofs.Lengths.{scan-short, assignment-short, negotiation-short}
use Rattle.station.specs.declared.Say.{Say}
use Rattle.station.specs.declared.Say.TheVariants.{Silence, Bare, Reject, Pend, Scanned, Assigned, Negotiated}
use Rattle.link.specs.Link.{judged_frame}
use Rattle.speech.specs.Speech.{pending_octets, link_octets, is_silent, control_by, payload_by, frame_by, spoken_most}
use Rattle.conduct.proofs.Stays.{stays-allowed}
use Rattle.device.proofs.Only.{none-not-some, some_same}

-- ---- what is pending has at most so many octets as a payload of the record

pending-short : (t : Desk) (p : Pending) → pending_fits t p ≡ true → length (pending_octets t p) ≤ reply_most
unfolding pending_fits pending_octets
pending-short t Nothing e = omega arith
pending-short t Answer e = simp length-take (omega (arith, leb-true t.reply.len reply_most e))
pending-short t Indication e = omega (arith, indication-fits t.said t.told)

link-short : (t : Desk) (l : Link) → link_allowed t l ≡ true → length (link_octets t l) ≤ reply_most
unfolding link_allowed link_octets session_allowed
link-short t NoAddress e = omega arith
link-short t AddressAssigned e = omega arith
link-short t (Connected s) e =
    let session = (and_parts (addressed t.address) (session_allowed t s) e).1 in
    pending-short t s.pending (and_parts (numbers_allowed s) (pending_fits t s.pending) session).1

plate-identity : (p : Plate) → plates_allowed p ≡ true → allowed_identity (identity_of p) ≡ true
unfolding plates_allowed identity_allowed
plate-identity p e =
    let first = (and_parts (identity_allowed p.identity.octets p.identity.len) _ e).0 in
    (and_parts (leb p.identity.len width) (allowed_identity (identity_of p)) first).1

addressed-most : (a : ℕ) → addressed a ≡ true → a ≤ 254
unfolding addressed
addressed-most a e = omega (arith, ltb-true a 255 (and_parts (ltb 0 a) (ltb a 255) e).1)

-- ---- what an allowed device says

module _ (d : Device) (allowed : allowed_device d ≡ true) where
  payload-short : (x : Say) → length (payload_by d x) ≤ reply_most
  unfolding payload_by
  payload-short Silence = omega arith
  payload-short (Bare c) = omega arith
  payload-short (Reject c v w) = omega arith
  payload-short (Pend c) = link-short d.station.desk d.station.link (sound d allowed).link
  payload-short Scanned =
      scan-short (identity_of d.plate) (plate-identity d.plate (sound d allowed).plate) d.station.desk.address
  payload-short Assigned =
      assignment-short (identity_of d.plate) (plate-identity d.plate (sound d allowed).plate)
  payload-short (Negotiated a) = negotiation-short a (limit_of d)

  pub frame-fits : (x : Say) (g : List ℕ) → frame_by d x ≡ some g
      → (2 ≤ length g) × (length g ≤ spoken_most) × (get_or g 0 0 ≡ d.station.desk.address)
  unfolding frame_by
  frame-fits x g e = go (is_silent x) e
    where
      f : List ℕ
      f = d.station.desk.address ∷ control_by x ∷ payload_by d x

      go : (b : Bool) → cond b none (some f) ≡ some g
          → (2 ≤ length g) × (length g ≤ spoken_most) × (get_or g 0 0 ≡ d.station.desk.address)
      go true q = absurd (none-not-some q)
      go false q =
          let same : f ≡ g = some_same q in
          let n : length f ≡ length g = ap length same in
          let short = payload-short x in
          (omega (arith, n), omega (arith, n, short), sym (ap (λ (l : List ℕ). get_or l 0 0) same))

-- ---- its address

-- "an address of 0 to 254"
address-most : (t : Desk) (l : Link) → link_allowed t l ≡ true → t.address ≤ 254
unfolding link_allowed
address-most t NoAddress e = omega (arith, eqb-true t.address 0 e)
address-most t AddressAssigned e = addressed-most t.address e
address-most t (Connected s) e =
    addressed-most t.address (and_parts (addressed t.address) (session_allowed t s) e).0

pub address-fits : (d : Device) → allowed_device d ≡ true → d.station.desk.address ≤ 254
address-fits d allowed = address-most d.station.desk d.station.link (sound d allowed).link

-- ---- after a frame

pub answer-fits : (d : Device) (f g : List ℕ) → allowed_device d ≡ true
    → frame_by (judged_frame d f).device (judged_frame d f).say ≡ some g
    → (2 ≤ length g) × (length g ≤ spoken_most) × (get_or g 0 0 ≡ (judged_frame d f).device.station.desk.address)
answer-fits d f g allowed =
    frame-fits (judged_frame d f).device (stays-allowed d f allowed) (judged_frame d f).say g
