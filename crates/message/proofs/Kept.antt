-- An allowed record stays allowed under every message, in Connected and with nothing pending: the station keeps its
-- address, its frame limit and its session, whose numbers are 0 to 7, and the answer, if there is one, becomes the pending one.
-- Assumes nothing.
use mathlib.Core.Path.{◌≡◌, sym, ap, ◌∙◌}
use mathlib.Core.Bool.{Bool, true}
use mathlib.Core.List.{List}
use mathlib.Core.Logic.{⊎_elim}
use Prim.Native.Nat.{ℕ}
use Rattle.std.specs.Prelude.{Some}
use Rattle.octets.proofs.Words.{and_parts}
use Rattle.limits.specs.Limits.{is_limit}
use Rattle.antenna.specs.Motions.{waiting_of}
use Rattle.antenna.proofs.Movements.{starts-no-result}
use Rattle.record.specs.declared.Pending.TheVariants.{Nothing, Answer}
use Rattle.record.specs.declared.Session.{Session}
use Rattle.record.specs.declared.Link.TheVariants.{Connected}
use Rattle.record.specs.declared.Station.{Station}
use Rattle.record.specs.declared.Device.{Device}
use Rattle.record.specs.Allowed.{limit_of, addressed, numbers_allowed, pending_fits, session_allowed, link_allowed}
use Rattle.record.specs.Allowed.{owed_allowed, allowed_device}
use Rattle.record.proofs.Stays.{sound, allowed-by}
use Rattle.message.specs.Carried.{payload_in, carried_of, unanswered}
use Rattle.message.specs.declared.Carried.{Carried}
use Rattle.message.proofs.Moves.{moved-or-not, due-moves}
use Rattle.message.proofs.Stays.{stays-in-range, reply-fits}

-- what comes of the message m at the device d
abbrev pub carried_at : Device → List ℕ → Carried
carried_at d m = carried_of d.plate d.antenna d.station.desk.told d.station.desk.subscribed m

-- the address of a device in a session is 1 to 254
connected-address : (t : Station) (s : Session) → link_allowed t.desk t.link ≡ true → t.link ≡ Connected s
    → addressed t.desk.address ≡ true
unfolding link_allowed
connected-address t s e l =
    (and_parts (addressed t.desk.address) (session_allowed t.desk s) (sym (ap (link_allowed t.desk) l) ∙ e)).0

-- t is the station after the message, in the session s
module _ (d : Device) (s₀ s : Session) (t : Station) (m : List ℕ) (allowed : allowed_device d ≡ true)
    (here : d.station.link ≡ Connected s₀) (address : t.desk.address ≡ d.station.desk.address)
    (limit : t.desk.limit ≡ limit_of d)
    (there : t.link ≡ Connected s) (numbers : numbers_allowed s ≡ true) where
  kept-link : pending_fits t.desk s.pending ≡ true → link_allowed t.desk t.link ≡ true
  unfolding link_allowed session_allowed
  kept-link p =
      let a : addressed t.desk.address ≡ true =
      ap addressed address ∙ connected-address d.station s₀ (sound d allowed).link here in
      ap (link_allowed t.desk) there ∙ rw (a, numbers, p)

  kept : pending_fits t.desk s.pending ≡ true
      → allowed_device (record { plate = d.plate; station = t; antenna = (carried_at d m).antenna }) ≡ true
  unfolding owed_allowed
  kept p =
      let w = sound d allowed in
      allowed-by (record { plate = d.plate; station = t; antenna = (carried_at d m).antenna })
      (record {
        plate = w.plate;
        range = stays-in-range d.plate d.antenna d.station.desk.told d.station.desk.subscribed m w.range;
        limit = ap is_limit limit ∙ w.limit;
        link = kept-link p;
        owed = rw there;
      })

  -- no answer: nothing is pending
  pub none_stays : s.pending ≡ Nothing
      → allowed_device (record { plate = d.plate; station = t; antenna = (carried_at d m).antenna }) ≡ true
  unfolding pending_fits
  none_stays e = kept (rw e)

  -- an answer: it is the pending one
  pub answer-stays : s.pending ≡ Answer → t.desk.reply ≡ payload_in (carried_at d m)
      → allowed_device (record { plate = d.plate; station = t; antenna = (carried_at d m).antenna }) ≡ true
  unfolding pending_fits
  answer-stays e q =
      let fits =
      reply-fits d.plate d.antenna d.station.desk.told d.station.desk.subscribed m (sound d allowed).plate in
      kept (rw (e, q) fits)

-- no message makes a result that waits
pub message-no-result : (d : Device) (m : List ℕ) (r : Bool)
    → waiting_of (carried_at d m).antenna.motion ≡ Some r → waiting_of d.antenna.motion ≡ Some r
unfolding unanswered
message-no-result d m r e =
    ⊎_elim
    (λ due.
    absurd
    (starts-no-result d.antenna _ r
    (sym (ap (λ (x : Carried). waiting_of x.antenna.motion)
    (due-moves d.plate d.antenna d.station.desk.told d.station.desk.subscribed m due)) ∙ e)))
    (λ same. sym (ap waiting_of same) ∙ e)
    (moved-or-not d.plate d.antenna d.station.desk.told d.station.desk.subscribed m)
