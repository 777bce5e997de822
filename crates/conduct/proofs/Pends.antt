-- What a frame does to what is pending, with its reply and what it said: an answer, a result and an indication that
-- are sent become pending, an acknowledgement and an end remove it, and no other frame changes it. This holds of any
-- record, allowed or not. Assumes nothing.
use mathlib.Core.Path.{◌≡◌, refl, sym, ap, subst, ◌∙◌}
use mathlib.Core.Bool.{Bool, true, false}
use mathlib.Core.List.{List}
use mathlib.Core.Logic.{inr}
use mathlib.Core.Option.{some}
use Prim.Native.Nat.{ℕ}
use lib.ListN.{drop}
use Rattle.antenna.specs.declared.Alarms.{Alarms}
use Rattle.antenna.specs.declared.Antenna.{Antenna}
use Rattle.std.specs.Prelude.{Option, Some, None, unwrap_or}
use Rattle.antenna.specs.Motions.{waiting_of}
use Rattle.control.specs.declared.Order.{Order}
use Rattle.control.specs.declared.Order.TheVariants.{Info, Rr, Rnr}
use Rattle.record.specs.Desk.{Payload}
use Rattle.record.specs.declared.Pending.{Pending}
use Rattle.record.specs.declared.Pending.TheVariants.{Answer, Indication}
use Rattle.record.specs.declared.Session.{Session}
use Rattle.record.specs.declared.Device.{Device}
use Rattle.record.specs.Desk.{calm, no_reply}
use Rattle.record.specs.Changes.{unsaid_at, device_of, limited_to}
use Rattle.session.specs.Session.{pends, acknowledges, taken}
use Rattle.payload.specs.Payloads.{payload_of, result_of}
use Rattle.message.specs.Carried.{payload_in}
use Rattle.station.specs.declared.Turn.{Turn}
use Rattle.station.specs.Station.{awaiting, answers_with}
use Rattle.station.specs.Turns.{saying}
use Rattle.acknowledge.specs.Acknowledge.{emptied, relieved, session_after, station_after, acknowledged}
use Rattle.acknowledge.proofs.Settled.{station-kept, session-kept, session-moved}
use Rattle.poll.specs.Poll as poll
use Rattle.poll.specs.Poll.{to_tell}
use Rattle.inform.specs.Inform.{heeded, carried_here, replied_by, carried_by, inform_of}
use Rattle.states.specs.States.{informed_by}
use Rattle.link.specs.Link.{judged_frame}
use Rattle.link.specs.Frames.{number_in, Numbered}
use Rattle.link.proofs.Cases.{order-cases}
use Rattle.conduct.specs.Conduct.{after, Accepted}
use Rattle.conduct.specs.Endings.{pending_in, Drops, Collects}
use Rattle.conduct.specs.Comes.{Comes, left, unanswered_as}
use Rattle.conduct.specs.Account.{Answered, Delivers, Tells, Acknowledges}
use Rattle.conduct.proofs.Settles.{device-kept, info-is}
use Rattle.conduct.proofs.Turns.{inform-cases}
use Rattle.conduct.proofs.Comes.{comes-leaves}
use Rattle.conduct.proofs.Leaves.{after-cases, clears-answered, subscribes-answered}

module _ (d : Device) (f : List ℕ) where
  -- ---- sent

  pub answered-pends : (w : Answered d f) → (pending_in (after d f).station.link ≡ Answer)
      × ((after d f).station.desk.reply ≡ payload_in (carried_here (acknowledged d w.session w.nr) (drop 2 f)))
      × ((after d f).station.desk.said ≡ (station_after d.station w.session w.nr).desk.said)
  unfolding informed_by inform_of carried_by replied_by saying acknowledged device_of answers_with awaiting heeded
  answered-pends w =
      let s = w.session in
      let e = acknowledged d s w.nr in
      let is : judged_frame d f
      ≡ replied_by e (taken (session_after s w.nr)) (carried_here e (drop 2 f)) (Some w.payload) =
      info-is d f s w.ns w.nr w.frame.numbered ∙ rw (w.frame.accepted, w.answers) in (
        ap (λ (t : Turn). pending_in t.device.station.link) is,
        ap (λ (t : Turn). t.device.station.desk.reply) is
            ∙ sym (ap (λ (q : Option Payload). unwrap_or q no_reply) w.answers),
        ap (λ (t : Turn). t.device.station.desk.said) is,
      )

  pub delivered-pends : (reached : Bool) (w : Delivers d f reached) → (pending_in (after d f).station.link ≡ Answer)
      × ((after d f).station.desk.reply ≡ payload_of (result_of reached))
      × ((after d f).station.desk.said ≡ (station_after d.station w.collects.session w.collects.nr).desk.said)
  unfolding left device_of answers_with awaiting
  delivered-pends reached w =
      let c = w.collects in
      let is =
      comes-leaves d f (Comes.delivers c.session c.nr reached c.numbered c.free w.waits) in (
        ap (λ (e : Device). pending_in e.station.link) is,
        ap (λ (e : Device). e.station.desk.reply) is,
        ap (λ (e : Device). e.station.desk.said) is,
      )

  pub tells-pends : (w : Tells d f) → (pending_in (after d f).station.link ≡ Indication)
      × ((after d f).station.desk.said ≡ d.antenna.drive.raised)
      × ((after d f).station.desk.reply ≡ (station_after d.station w.collects.session w.collects.nr).desk.reply)
  unfolding left device_of poll.indicates awaiting
  tells-pends w =
      let c = w.collects in
      let is =
      comes-leaves d f (Comes.indicates c.session c.nr c.numbered c.free w.idle w.news) in (
        ap (λ (e : Device). pending_in e.station.link) is,
        ap (λ (e : Device). e.station.desk.said) is,
        ap (λ (e : Device). e.station.desk.reply) is,
      )

  module _ (unanswered : Answered d f → ⊥) (undelivered : (reached : Bool) → Delivers d f reached → ⊥)
      (untold : Tells d f → ⊥) where
    -- ---- removed

    abbrev Empty : Device → Type 0
    Empty e =
        (pending_in e.station.link ≡ Pending.Nothing) × (e.station.desk.reply ≡ no_reply) × (e.station.desk.said ≡ calm)

    module _ (s : Session) (r : ℕ) (removes : acknowledges s r ≡ true) where
      -- nothing is left of it, whatever else the message changes
      heard-empty : (n : Antenna) (told : Alarms) (sub : Bool) → Empty (unanswered_as d s r n told sub)
      unfolding device_of heeded taken session_after station_after emptied relieved unsaid_at
      heard-empty n told sub = rw removes (refl, refl, refl)

      relieved-empty : Empty (acknowledged d s r)
      unfolding acknowledged device_of station_after emptied relieved unsaid_at
      relieved-empty = rw removes (refl, refl, refl)

      info-empty : (n : ℕ) → Numbered d f (Info n r) r s → Empty (after d f)
      unfolding informed_by saying replied_by acknowledged device_of
      info-empty n w =
          let c = carried_here (acknowledged d s r) (drop 2 f) in
          subst (λ (t : Turn). Empty t.device) (sym (info-is d f s n r w))
          (inform-cases (acknowledged d s r) (session_after s r) (λ (t : Turn). Empty t.device) n (drop 2 f)
          (λ a e. heard-empty c.antenna c.told c.subscribed)
          (λ a q e. absurd
          (unanswered
          (record { session = s; ns = n; nr = r; frame = record { numbered = w; accepted = a }; payload = q; answers = e })))
          (λ a. relieved-empty))

      rr-empty : Numbered d f (Rr r) r s → Empty (after d f)
      unfolding left
      rr-empty w = waits (waiting_of d.antenna.motion) refl
        where
          free : pends (session_after s r).pending ≡ false
          free = rw (session-moved d.station s r removes).1

          collects : Collects d f
          collects = record { session = s; nr = r; numbered = w; free = free }

          rests : (b : Bool) → to_tell (station_after d.station s r).desk d.antenna.drive ≡ b
              → waiting_of d.antenna.motion ≡ None → Empty (after d f)
          rests true t e = absurd (untold (record { collects = collects; idle = e; news = t }))
          rests false t e = rw (comes-leaves d f (Comes.rests s r w free e t)) relieved-empty

          waits : (q : Option Bool) → waiting_of d.antenna.motion ≡ q → Empty (after d f)
          waits (Some b) e = absurd (undelivered b (record { collects = collects; waits = e }))
          waits None e = rests (to_tell (station_after d.station s r).desk d.antenna.drive) refl e

      rnr-empty : Numbered d f (Rnr r) r s → Empty (after d f)
      unfolding left
      rnr-empty w = rw (comes-leaves d f (Comes.pauses s r w)) relieved-empty

    pub removed-empty : Acknowledges d f → Empty (after d f)
    removed-empty (s, w) =
        let r = w.nr in
        order-cases (λ o. Numbered d f o r s → Empty (after d f)) r (info-empty s r w.behind) (rr-empty s r w.behind)
        (rnr-empty s r w.behind) w.order w.number w.numbered

    -- ---- kept

    module _ (unacknowledged : Acknowledges d f → ⊥) (undropped : Drops d f → ⊥) where
      abbrev Kept : Device → Type 0
      Kept e =
          (pending_in e.station.link ≡ pending_in d.station.link) × (e.station.desk.reply ≡ d.station.desk.reply)
          × (e.station.desk.said ≡ d.station.desk.said)

      behind : (o : Order) (r : ℕ) (s : Session) → number_in o ≡ some r → Numbered d f o r s
          → acknowledges s r ≡ false
      behind o r s e w = go (acknowledges s r) refl
        where
          go : (b : Bool) → acknowledges s r ≡ b → acknowledges s r ≡ false
          go true b =
              absurd (unacknowledged (s, record { order = o; nr = r; number = e; numbered = w; behind = b }))
          go false b = b

      heard-kept : (s : Session) (n r : ℕ) → Accepted d f s n r → (a : Antenna) (told : Alarms) (sub : Bool)
          → Kept (unanswered_as d s r a told sub)
      unfolding device_of heeded taken
      heard-kept s n r w a told sub =
          let same = behind (Info n r) r s refl w.numbered in
          rw (session-kept d.station s r same, station-kept d.station s r same)
          (ap pending_in (sym w.numbered.link), refl, refl)

      limited-kept : (n : ℕ) → Kept (limited_to d n)
      unfolding limited_to device_of
      limited-kept n = (refl, refl, refl)

      pub pending-kept : Kept (after d f)
      pending-kept =
          after-cases d f Kept (refl, refl, refl) (λ a w. absurd (undropped (inr (inr (a, w)))))
          (λ ps w m. limited-kept _) (λ w n l. absurd (undropped w))
          (λ o r s e w. rw (device-kept d s r (behind o r s e w)) (refl, refl, refl))
          (λ s n r w. heard-kept s n r w _ _ _)
          (λ w. heard-kept w.session w.ns w.nr w.frame _ _ _)
          (λ w. absurd (unanswered (clears-answered d f w))) (λ w. absurd (unanswered (subscribes-answered d f w)))
          (λ w b. absurd (unanswered w)) (λ b w. absurd (undelivered b w)) (λ w. absurd (untold w))
