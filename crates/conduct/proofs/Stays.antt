-- An allowed record stays allowed under every frame: the device never makes a record that it would refuse.
-- Assumes nothing.
use Rattle.octets.specs.Text.{laid}
use mathlib.Core.Path.{◌≡◌, refl, ap, ◌∙◌, sym}
use mathlib.Core.Bool.{Bool, true, false, ◌&&◌}
use mathlib.Core.List.{List}
use Prim.Native.Nat.{ℕ}
use native.Mathlib.Omega.{arith}
use borrow.Author.Tests.{lt-ltb}
use lib.Dec.{leb}
use lib.ListN.{drop}
use Rattle.std.specs.Prelude.{Option, unwrap_or}
use Rattle.octets.proofs.Words.{and_parts}
use Rattle.antenna.specs.declared.Motion.TheVariants.{Still}
use Rattle.antenna.specs.Motions.{in_range, moves}
use Rattle.limits.specs.Limits.{is_limit}
use Rattle.record.specs.declared.Pending.{Pending}
use Rattle.record.specs.declared.Pending.TheVariants.{Nothing, Answer, Indication}
use Rattle.record.specs.Desk.{Payload}
use Rattle.record.specs.declared.Session.{Session}
use Rattle.record.specs.declared.Link.{Link}
use Rattle.record.specs.declared.Link.TheVariants.{NoAddress, AddressAssigned, Connected}
use Rattle.record.specs.declared.Desk.{Desk}
use Rattle.record.specs.declared.Device.{Device}
use Rattle.record.specs.Allowed.{identity_of, limit_of, numbers_allowed, pending_fits, session_allowed, addressed}
use Rattle.record.specs.Allowed.{link_allowed, allowed_device, reply_most}
use Rattle.record.specs.Desk.{with_limit, no_reply}
use Rattle.record.specs.Changes.{unsaid_at, emptied_as, ended_as, limited_to}
use Rattle.record.proofs.Stays.{sound, allowed-by, limit-allowed, emptied-stays, end_stays}
use Rattle.control.specs.declared.AskedFor.{AskedFor}
use Rattle.negotiation.specs.Negotiation.{agrees_on, offer_of}
use Rattle.negotiation.proofs.Exactly.{offer-exactly, agreed-least}
use Rattle.session.specs.Session.{taken}
use Rattle.session.proofs.Numbers.{accepts-exactly}
use Rattle.station.specs.Station.{answers_with, awaiting}
use Rattle.poll.specs.Poll.{indicates, to_tell}
use Rattle.inform.specs.Inform.{heeded}
use Rattle.acknowledge.specs.Acknowledge.{session_after}
use Rattle.xid.specs.Match.{read_of}
use Rattle.xid.specs.declared.Xid as xids
use Rattle.xid.proofs.Exactly.{assignment-exactly}
use Rattle.payload.specs.Payloads.{message_of, success_of, failure_of, result_of, payload_of}
use Rattle.message.proofs.Kept.{none_stays, answer-stays}
use Rattle.station.specs.declared.Turn.{Turn}
use Rattle.station.specs.Turns.{saying}
use Rattle.acknowledge.specs.Acknowledge.{acknowledged}
use Rattle.record.specs.Changes.{device_of}
use Rattle.poll.specs.Poll.{poll_of}
use Rattle.inform.specs.Inform.{inform_of, replied_by}
use Rattle.states.specs.States.{informed_by, polled_by, paused_by}
use Rattle.states.specs.States.{begun, renewed, released, rejected}
use Rattle.link.specs.Link.{has_address}
use Rattle.link.proofs.Cases.{judged-cases}
use Rattle.conduct.specs.Conduct.{after}
use Rattle.conduct.proofs.Settles.{nothing-pends}
use Rattle.conduct.proofs.Turns.{poll-cases, inform-cases}
use Rattle.conduct.proofs.Addressed.{link-addressed}
use Rattle.conduct.proofs.Within.{Within, within, allowed-within, taken-numbers, relieved-within}

abbrev Good : Turn → Type 0
Good t = allowed_device t.device ≡ true

-- the address that an assignment gives is one of 1 to 254
assignment-addressed : (i m : List ℕ) (a : ℕ) → read_of i m ≡ xids.Xid.Assignment a → addressed a ≡ true
unfolding addressed
assignment-addressed i m a e =
    let (x, y, z, s, w) = (assignment-exactly i m a).0 e in
    rw (lt-ltb 0 a w.least, lt-ltb a 255 (omega (arith, w.most)))

-- ---- a session's end and a new one

module _ (d : Device) (allowed : allowed_device d ≡ true) where
  assigned-stays : (a : ℕ) → addressed a ≡ true → allowed_device (ended_as d a AddressAssigned) ≡ true
  unfolding link_allowed unsaid_at
  assigned-stays a e = end_stays d a AddressAssigned allowed e

  module _ (has : has_address d.station.link ≡ true) where
    own-address : addressed d.station.desk.address ≡ true
    own-address = link-addressed d.station.desk d.station.link (sound d allowed).link has

    begun-stays : allowed_device (begun d) ≡ true
    unfolding begun link_allowed unsaid_at session_allowed numbers_allowed pending_fits
    begun-stays =
        emptied-stays d d.station.desk.address (limit_of d) _ allowed (limit-allowed d allowed) (rw own-address)

    released-stays : allowed_device (released d) ≡ true
    unfolding released
    released-stays = assigned-stays d.station.desk.address own-address

-- ---- another frame limit

desk-limited : (k : Desk) (n : ℕ) (l : Link) → link_allowed (with_limit k n) l ≡ link_allowed k l
unfolding link_allowed session_allowed pending_fits
desk-limited k n NoAddress = refl
desk-limited k n AddressAssigned = refl
desk-limited k n (Connected s) = ap (λ (b : Bool). addressed k.address && (numbers_allowed s && b)) (fits s.pending)
  where
    fits : (p : Pending) → pending_fits (with_limit k n) p ≡ pending_fits k p
    fits Nothing = refl
    fits Answer = refl
    fits Indication = refl

pub limited-stays : (d : Device) (n : ℕ) → allowed_device d ≡ true → is_limit n ≡ true → allowed_device (limited_to d n) ≡ true
unfolding limited_to device_of
limited-stays d n allowed ok =
    let w = sound d allowed in
    allowed-by (limited_to d n)
    (record {
      plate = w.plate;
      range = w.range;
      limit = ok;
      link = desk-limited d.station.desk n d.station.link ∙ w.link;
      owed = w.owed;
    })

agreed-stays : (d : Device) (m : List ℕ) (n : ℕ) (a : AskedFor) → allowed_device d ≡ true
    → offer_of (limit_of d) m ≡ agrees_on n a → allowed_device (limited_to d n) ≡ true
agreed-stays d m n a allowed e =
    let (ps, formed, is, asked, one) = (offer-exactly (limit_of d) m n a).0 e in
    limited-stays d n allowed (ap is_limit is ∙ agreed-least (limit_of d) ps (limit-allowed d allowed))

-- the end of one session, and the beginning of the next
renewed-stays : (d : Device) → allowed_device d ≡ true → has_address d.station.link ≡ true
    → allowed_device (renewed d) ≡ true
unfolding renewed released emptied_as unsaid_at
renewed-stays d allowed has = begun-stays (released d) (released-stays d allowed has) refl

-- ---- in a session, the acknowledged answer being removed

result_fits : (b : Bool) → leb (payload_of (result_of b)).len reply_most ≡ true
unfolding result_of success_of message_of failure_of laid
result_fits true = refl
result_fits false = refl

module _ (d : Device) (s : Session) (w : Within d s) where
  result-stays : (b : Bool) → allowed_device
      (device_of d (answers_with d.station s (payload_of (result_of b))) (moves d.antenna Still)) ≡ true
  unfolding device_of answers_with awaiting moves in_range pending_fits numbers_allowed
  result-stays b =
      allowed-within (device_of d (answers_with d.station s (payload_of (result_of b))) (moves d.antenna Still))
      (awaiting s Answer)
      (record {
        plate = w.plate;
        range = w.range;
        address = w.address;
        limit = w.limit;
        link = refl;
        numbers = w.numbers;
        fits = result_fits b;
      })

  indication-stays : to_tell d.station.desk d.antenna.drive ≡ true
      → allowed_device (device_of d (indicates d.station s d.antenna.drive.raised) d.antenna) ≡ true
  unfolding device_of indicates awaiting pending_fits numbers_allowed to_tell
  indication-stays e =
      allowed-within (device_of d (indicates d.station s d.antenna.drive.raised) d.antenna) (awaiting s Indication)
      (record {
        plate = w.plate;
        range = w.range;
        address = w.address;
        limit = w.limit;
        link = refl;
        numbers = w.numbers;
        fits = (and_parts d.station.desk.subscribed _ e).1;
      })

  poll-stays : Good (poll_of d s)
  unfolding saying
  poll-stays =
      poll-cases d s Good (λ e. allowed-within d s w) (λ b p e. result-stays b) (λ p q. indication-stays)
      (λ p q e. allowed-within d s w)

  inform-stays : (n : ℕ) (m : List ℕ) → Good (inform_of d s n m)
  unfolding saying replied_by device_of heeded answers_with awaiting taken numbers_allowed
  inform-stays n m =
      let allowed = allowed-within d s w in
      inform-cases d s Good n m
      (λ a e. none_stays d s (taken s) _ m allowed w.link refl refl refl (taken-numbers s w.numbers)
      (nothing-pends s.pending ((accepts-exactly s n).0 a).0))
      (λ a q e. answer-stays d s (awaiting (taken s) Answer) _ m allowed w.link refl refl refl
      (taken-numbers s w.numbers) refl (sym (ap (λ (o : Option Payload). unwrap_or o no_reply) e)))
      (λ e. allowed)

-- ---- every frame

pub stays-allowed : (d : Device) (f : List ℕ) → allowed_device d ≡ true → allowed_device (after d f) ≡ true
unfolding saying rejected informed_by polled_by paused_by
stays-allowed d f allowed =
    judged-cases d f Good (λ u. allowed) (λ w e. allowed)
    (λ a w e. assigned-stays d allowed a (assignment-addressed (identity_of d.plate) (drop 2 f) a e))
    (λ n a w e. agreed-stays d (drop 2 f) n a allowed e)
    (λ w l. begun-stays d allowed (ap has_address l))
    (λ o w n l. allowed)
    (λ s w l. renewed-stays d allowed (ap has_address l))
    (λ s w l. released-stays d allowed (ap has_address l))
    (λ s o r w l n b. released-stays d allowed (ap has_address l))
    (λ s w l. released-stays d allowed (ap has_address l))
    (λ s n r w. inform-stays (acknowledged d s r) (session_after s r) (relieved s r w.link) n (drop 2 f))
    (λ s r w. poll-stays (acknowledged d s r) (session_after s r) (relieved s r w.link))
    (λ s r w. allowed-within (acknowledged d s r) (session_after s r) (relieved s r w.link))
  where
    relieved : (s : Session) (r : ℕ) → d.station.link ≡ Connected s → Within (acknowledged d s r) (session_after s r)
    relieved s r l = relieved-within d s r (within d s allowed l)
