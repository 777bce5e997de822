-- What a frame leaves of a device is one of twelve things, each with the frame that leaves it (`after-cases`). This
-- holds of any record, allowed or not. Assumes nothing.
use mathlib.Core.Path.{◌≡◌, refl, ap}
use mathlib.Core.Bool.{Bool, true}
use mathlib.Core.List.{List, []}
use mathlib.Core.Logic.{inl, inr}
use mathlib.Core.Option.{some}
use Prim.Native.Nat.{ℕ}
use lib.ListN.{drop}
use Rattle.limits.specs.Limits.{limit_least}
use Rattle.antenna.specs.declared.Alarms.{Alarms}
use Rattle.antenna.specs.declared.Motion.TheVariants.{Still, Owing}
use Rattle.antenna.specs.Motions.{moves}
use Rattle.control.specs.declared.Order.{Order}
use Rattle.control.specs.declared.Order.TheVariants.{Info, Rr, Rnr}
use Rattle.record.specs.declared.Session.{Session}
use Rattle.record.specs.declared.Link.{Link}
use Rattle.record.specs.declared.Link.TheVariants.{AddressAssigned, Connected}
use Rattle.record.specs.declared.Station.{Station}
use Rattle.record.specs.declared.Device.{Device}
use Rattle.record.specs.Allowed.{limit_of}
use Rattle.record.specs.Desk.{calm}
use Rattle.params.specs.Field.{Param, WellFormed}
use Rattle.negotiation.specs.Negotiation.{negotiating, agreed_limit}
use Rattle.record.specs.Changes.{device_of, emptied_as, ended_as, limited_to}
use Rattle.payload.specs.Payloads.{payload_of, success_of, result_of}
use Rattle.message.specs.Messages.{asked_of}
use Rattle.message.specs.Carried.{replies, quieted}
use Rattle.message.specs.declared.Carried.{Carried}
use Rattle.message.proofs.Moves.{clear-clears, subscribe-subscribes}
use Rattle.station.specs.Station.{answers_with}
use Rattle.acknowledge.specs.Acknowledge.{session_after, station_after, acknowledged}
use Rattle.poll.specs.Poll as poll
use Rattle.states.specs.States.{new_session, begun, released}
use Rattle.states.proofs.Renews.{renewed-ends}
use Rattle.link.specs.Frames.{number_in, Numbered, OwnXid}
use Rattle.conduct.specs.Conduct.{after, Accepted, TiltDue}
use Rattle.conduct.specs.Endings.{Assigns, Ends, Drops}
use Rattle.conduct.specs.Alarms.{Clears, Subscribes}
use Rattle.conduct.specs.Comes.{Comes, left, unanswered_as, answered_as}
use Rattle.conduct.specs.Account.{Answered, Delivers, Tells}
use Rattle.conduct.proofs.Comes.{comes, comes-leaves}

module _ (d : Device) (f : List ℕ) where
  -- clear alarms and subscribe are answered at once
  pub clears-answered : Clears d f → Answered d f
  unfolding replies
  clears-answered w =
      record {
        session = w.session;
        ns = w.ns;
        nr = w.nr;
        frame = w.frame;
        payload = payload_of (success_of 0x06 []);
        answers = ap (λ (c : Carried). c.reply) (clear-clears _ _ _ _ (drop 2 f) w.message);
      }

  pub subscribes-answered : Subscribes d f → Answered d f
  unfolding replies
  subscribes-answered w =
      record {
        session = w.session;
        ns = w.ns;
        nr = w.nr;
        frame = w.frame;
        payload = payload_of (success_of 0x12 []);
        answers = ap (λ (c : Carried). c.reply) (subscribe-subscribes _ _ _ _ (drop 2 f) w.message);
      }

  -- the station, and what was told, after a good N(R) = r
  abbrev there : Session → ℕ → Station
  there s r = station_after d.station s r

  abbrev told : Session → ℕ → Alarms
  told s r = (there s r).desk.told

  -- the device as it was; another frame limit; a session ended, or begun; a good N(R) read, and no more; then what an
  -- accepted message or RR adds
  module _ (P : Device → Type 0)
      (same : P d)
      (assigned : (a : ℕ) → Assigns d f a → P (ended_as d a AddressAssigned))
      (limited : (ps : List Param) → OwnXid d f → WellFormed negotiating (drop 2 f) ps
      → P (limited_to d (agreed_limit (limit_of d) ps)))
      (ended : Drops d f → (n : ℕ) (l : Link) → P (emptied_as d d.station.desk.address n l))
      (relieved : (o : Order) (r : ℕ) (s : Session) → number_in o ≡ some r → Numbered d f o r s → P (acknowledged d s r))
      (heeded : (s : Session) (n r : ℕ) → Accepted d f s n r
      → P (unanswered_as d s r d.antenna (told s r) d.station.desk.subscribed))
      (started : (w : TiltDue d f)
      → P (unanswered_as d w.session w.nr (moves d.antenna (Owing (asked_of (drop 2 f)))) (told w.session w.nr)
      d.station.desk.subscribed))
      (cleared : (w : Clears d f)
      → P (answered_as d w.session w.nr (quieted d.antenna) calm d.station.desk.subscribed (success_of 0x06 [])))
      (subscribed : (w : Subscribes d f)
      → P (answered_as d w.session w.nr d.antenna (told w.session w.nr) true (success_of 0x12 [])))
      (answered : (w : Answered d f) (b : List ℕ)
      → P (answered_as d w.session w.nr d.antenna (told w.session w.nr) d.station.desk.subscribed b))
      (delivered : (b : Bool) (w : Delivers d f b)
      → let s = w.collects.session in let r = w.collects.nr in
      P (device_of d (answers_with (there s r) (session_after s r) (payload_of (result_of b))) (moves d.antenna Still)))
      (indicated : (w : Tells d f)
      → let s = w.collects.session in let r = w.collects.nr in
      P (device_of d (poll.indicates (there s r) (session_after s r) d.antenna.drive.raised) d.antenna)) where
    left-cases : (c : Comes d f) → P (left d f c)
    unfolding left begun released replies
    left-cases (Comes.unread w) = same
    left-cases (Comes.scans w a) = same
    left-cases (Comes.assigns a w) = assigned a w
    left-cases (Comes.negotiates ps w m) = limited ps w m
    left-cases (Comes.begins w l) = ended (inr (inl (record { own = w; link = l }))) (limit_of d) (Connected new_session)
    left-cases (Comes.declines o w n l) = same
    left-cases (Comes.renews s w l) = rw (renewed-ends d) (ended (inl (Ends.renews s w l)) limit_least (Connected new_session))
    left-cases (Comes.leaves s w l) = ended (inl (Ends.leaves s w l)) limit_least AddressAssigned
    left-cases (Comes.miscounts s o r w l n b) = ended (inl (Ends.miscounts s o r w l n b)) limit_least AddressAssigned
    left-cases (Comes.unknown s w l) = ended (inl (Ends.unknown s w l)) limit_least AddressAssigned
    left-cases (Comes.starts s n r w m) =
        started (record { session = s; ns = n; nr = r; frame = w; message = m })
    left-cases (Comes.clears s n r w m) =
        cleared (record { session = s; ns = n; nr = r; frame = w; message = m })
    left-cases (Comes.subscribes s n r w m) =
        subscribed (record { session = s; ns = n; nr = r; frame = w; message = m })
    left-cases (Comes.answers s n r b w e) =
        answered (record { session = s; ns = n; nr = r; frame = w; payload = payload_of b; answers = ap (λ (c : Carried). c.reply) e }) b
    left-cases (Comes.murmurs s n r w h) = heeded s n r w
    left-cases (Comes.repeats s n r w a) = relieved (Info n r) r s refl w
    left-cases (Comes.resends s r w p) = relieved (Rr r) r s refl w
    left-cases (Comes.delivers s r b w p q) =
        delivered b (record { collects = record { session = s; nr = r; numbered = w; free = p }; waits = q })
    left-cases (Comes.indicates s r w p q t) =
        indicated (record { collects = record { session = s; nr = r; numbered = w; free = p }; idle = q; news = t })
    left-cases (Comes.rests s r w p q t) = relieved (Rr r) r s refl w
    left-cases (Comes.pauses s r w) = relieved (Rnr r) r s refl w

    pub after-cases : P (after d f)
    after-cases = rw (comes-leaves d f (comes d f)) (left-cases (comes d f))
