-- What is raised changes under a frame only at clear alarms, to none; what was told only there, to none, and where an
-- indication is acknowledged, to what it said. Assumes nothing.
use mathlib.Core.Path.{◌≡◌, refl, ap, ◌∙◌}
use mathlib.Core.Bool.{Bool, true, false}
use mathlib.Core.List.{List}
use mathlib.Core.Logic.{◌⊎◌, inl, inr, ⊎_elim}
use mathlib.Core.Option.{some}
use Prim.Native.Nat.{ℕ}
use lib.ListN.{drop}
use Rattle.control.specs.declared.Order.{Order}
use Rattle.control.specs.declared.Order.TheVariants.{Info, Rr, Rnr}
use Rattle.antenna.specs.Motions.{moves}
use Rattle.record.specs.declared.Pending.{Pending}
use Rattle.record.specs.declared.Pending.TheVariants.{Nothing, Answer, Indication}
use Rattle.record.specs.declared.Session.{Session}
use Rattle.record.specs.declared.Station.{Station}
use Rattle.record.specs.declared.Device.{Device}
use Rattle.record.specs.Desk.{calm}
use Rattle.record.specs.Changes.{unsaid_at, device_of, emptied_as, limited_to}
use Rattle.session.specs.Session.{acknowledges, accepts}
use Rattle.acknowledge.specs.Acknowledge.{session_after, station_after, relieved, told_after}
use Rattle.acknowledge.proofs.Settled.{station-kept, told-said}
use Rattle.station.specs.declared.Turn.{Turn}
use Rattle.station.specs.Station.{answers_with}
use Rattle.station.specs.Turns.{saying}
use Rattle.acknowledge.specs.Acknowledge.{acknowledged}
use Rattle.message.specs.Carried.{quieted}
use Rattle.message.proofs.Moves.{cleared-or-not}
use Rattle.poll.specs.Poll.{indicates}
use Rattle.inform.specs.Inform.{heeded, carried_here, replied_by}
use Rattle.states.specs.States.{informed_by, polled_by, paused_by}
use Rattle.states.specs.States.{begun, released, rejected}
use Rattle.states.proofs.Renews.{renewed-ends}
use Rattle.link.specs.Link.{judged_frame}
use Rattle.link.specs.Frames.{number_in, Numbered}
use Rattle.link.proofs.Cases.{order-cases, judged-cases}
use Rattle.conduct.specs.Conduct.{after}
use Rattle.conduct.specs.Alarms.{Clears, Indicated}
use Rattle.conduct.specs.Comes.{left}
use Rattle.conduct.specs.Comes as come
use Rattle.conduct.proofs.Settles.{info-is, rr-is, rnr-is}
use Rattle.conduct.proofs.Turns.{poll-cases, inform-cases}
use Rattle.conduct.proofs.Comes.{comes-leaves}

-- ---- a good N(R)

module _ (t : Station) (s : Session) (r : ℕ) where
  removed-told : acknowledges s r ≡ true → (p : Pending) → s.pending ≡ p
      → ((station_after t s r).desk.told ≡ t.desk.told) ⊎ (s.pending ≡ Indication)
  unfolding station_after relieved unsaid_at told_after
  removed-told e Nothing q = inl (rw (e, q))
  removed-told e Answer q = inl (rw (e, q))
  removed-told e Indication q = inr q

  -- an acknowledged indication, or told stays
  station-told : ((station_after t s r).desk.told ≡ t.desk.told) ⊎ ((s.pending ≡ Indication) × (acknowledges s r ≡ true))
  station-told = go (acknowledges s r) refl
    where
      go : (b : Bool) → acknowledges s r ≡ b
          → ((station_after t s r).desk.told ≡ t.desk.told) ⊎ ((s.pending ≡ Indication) × (acknowledges s r ≡ true))
      go true e = ⊎_elim inl (λ q. inr (q, e)) (removed-told e s.pending refl)
      go false e = inl (ap (λ (x : Station). x.desk.told) (station-kept t s r e))

module _ (d : Device) (f : List ℕ) where
  -- what becomes of raised and told
  abbrev Changed : Type 0
  Changed =
      Clears d f
      ⊎ (((after d f).antenna.drive.raised ≡ d.antenna.drive.raised)
      × (((after d f).station.desk.told ≡ d.station.desk.told)
      ⊎ (Indicated d f × ((after d f).station.desk.told ≡ d.station.desk.said))))

  -- the turn t leaves both
  stay : (t : Turn) → t.device.antenna.drive.raised ≡ d.antenna.drive.raised → t.device.station.desk.told ≡ d.station.desk.told
      → judged_frame d f ≡ t → Changed
  stay t raised told e =
      inr (
        ap (λ (x : Turn). x.device.antenna.drive.raised) e ∙ raised,
        inl (ap (λ (x : Turn). x.device.station.desk.told) e ∙ told),
      )

  -- raised is as it was, and told as the good N(R) = r of the session s leaves it
  abbrev Settled : Session → ℕ → Turn → Type 0
  Settled s r t =
      (t.device.antenna.drive.raised ≡ d.antenna.drive.raised)
      × (t.device.station.desk.told ≡ (station_after d.station s r).desk.told)

  -- nothing but the acknowledgement changes them
  settles : (o : Order) (r : ℕ) (s : Session) → number_in o ≡ some r → Numbered d f o r s
      → Settled s r (judged_frame d f) → Changed
  settles o r s number w k =
      inr (k.0, ⊎_elim (λ same. inl (k.1 ∙ same)) (λ i. inr (indicated i)) (station-told d.station s r))
    where
      indicated : (s.pending ≡ Indication) × (acknowledges s r ≡ true)
          → Indicated d f × ((after d f).station.desk.told ≡ d.station.desk.said)
      indicated i = (
        record {
          session = s;
          order = o;
          nr = r;
          number = number;
          numbered = w;
          pending = i.0;
          removes = i.1;
        },
        k.1 ∙ told-said d.station s r i.1 i.0,
      )

  module _ (s : Session) (r : ℕ) where
    poll-settles : Settled s r (polled_by d s r)
    unfolding polled_by saying device_of acknowledged answers_with indicates moves
    poll-settles =
        poll-cases (acknowledged d s r) (session_after s r) (Settled s r) (λ e. (refl, refl)) (λ b p e. (refl, refl))
        (λ p q e. (refl, refl)) (λ p q e. (refl, refl))

    pause-settles : Settled s r (paused_by d s r)
    unfolding paused_by saying device_of acknowledged
    pause-settles = (refl, refl)

    info-settles : (n : ℕ) → Numbered d f (Info n r) r s → Clears d f ⊎ Settled s r (informed_by d s n r (drop 2 f))
    unfolding informed_by replied_by saying device_of acknowledged heeded answers_with
    info-settles n w =
        inform-cases (acknowledged d s r) (session_after s r) (λ t. Clears d f ⊎ Settled s r t) n (drop 2 f)
        (λ a e. carried a) (λ a q e. carried a) (λ a. inr (refl, refl))
      where
        carried : accepts (session_after s r) n ≡ true
            → Clears d f
            ⊎ (((carried_here (acknowledged d s r) (drop 2 f)).antenna.drive.raised ≡ d.antenna.drive.raised)
            × ((carried_here (acknowledged d s r) (drop 2 f)).told ≡ (station_after d.station s r).desk.told))
        carried a =
            ⊎_elim
            (λ m.
            inl
            (record { session = s; ns = n; nr = r; frame = record { numbered = w; accepted = a }; message = m }))
            inr
            (cleared-or-not d.plate d.antenna _ _ (drop 2 f))

  numbered-settles : (o : Order) (r : ℕ) (s : Session) → number_in o ≡ some r → Numbered d f o r s
      → Clears d f ⊎ Settled s r (judged_frame d f)
  numbered-settles o r s e =
      order-cases (λ o. Numbered d f o r s → Clears d f ⊎ Settled s r (judged_frame d f)) r
      (λ n w. rw (info-is d f s n r w) (info-settles s r n w)) (λ w. rw (rr-is d f s r w) (inr (poll-settles s r)))
      (λ w. rw (rnr-is d f s r w) (inr (pause-settles s r))) o e

  numbered-changes : (o : Order) (r : ℕ) (s : Session) → number_in o ≡ some r → Numbered d f o r s → Changed
  numbered-changes o r s e w = ⊎_elim inl (settles o r s e w) (numbered-settles o r s e w)

  -- clear alarms; or raised stays, and told does too but where an indication is acknowledged
  pub alarms-cases : Clears d f
      ⊎ (((after d f).antenna.drive.raised ≡ d.antenna.drive.raised)
      × (((after d f).station.desk.told ≡ d.station.desk.told)
      ⊎ (Indicated d f × ((after d f).station.desk.told ≡ d.station.desk.said))))
  unfolding saying emptied_as unsaid_at moves begun released rejected limited_to device_of
  alarms-cases =
      judged-cases d f (λ t. judged_frame d f ≡ t → Changed) (λ u. stay _ refl refl) (λ w x. stay _ refl refl)
      (λ a w x. stay _ refl refl) (λ n a w x. stay _ refl refl) (λ w l. stay _ refl refl) (λ o w n l. stay _ refl refl)
      (λ s w l. rw (renewed-ends d) (stay _ refl refl)) (λ s w l. stay _ refl refl) (λ s o r w l n b. stay _ refl refl)
      (λ s w l. stay _ refl refl) (λ s n r w e. numbered-changes (Info n r) r s refl w)
      (λ s r w e. numbered-changes (Rr r) r s refl w) (λ s r w e. numbered-changes (Rnr r) r s refl w) refl

  -- "clear alarms: raised and told become empty"
  pub clears-both : Clears d f → ((after d f).antenna.drive.raised ≡ calm) × ((after d f).station.desk.told ≡ calm)
  unfolding left device_of answers_with heeded quieted
  clears-both c =
      let e = comes-leaves d f (come.clears c.session c.ns c.nr c.frame c.message) in
      (ap (λ (x : Device). x.antenna.drive.raised) e, ap (λ (x : Device). x.station.desk.told) e)

  pub raised-cases : ((after d f).antenna.drive.raised ≡ d.antenna.drive.raised)
      ⊎ (Clears d f × ((after d f).antenna.drive.raised ≡ calm))
  raised-cases = ⊎_elim (λ c. inr (c, (clears-both c).0)) (λ k. inl k.0) alarms-cases

  pub told-cases : ((after d f).station.desk.told ≡ d.station.desk.told)
      ⊎ ((Clears d f × ((after d f).station.desk.told ≡ calm))
      ⊎ (Indicated d f × ((after d f).station.desk.told ≡ d.station.desk.said)))
  told-cases =
      ⊎_elim (λ c. inr (inl (c, (clears-both c).1))) (λ k. ⊎_elim inl (λ i. inr (inr i)) k.1) alarms-cases

  -- "Told is updated when the indication is acknowledged, to what it said."
  pub indicated-tells : Indicated d f → (Clears d f → ⊥) → (after d f).station.desk.told ≡ d.station.desk.said
  indicated-tells i other =
      ⊎_elim (λ c. absurd (other c))
      (λ k. k.1 ∙ told-said d.station i.session i.nr i.removes i.pending)
      (numbered-settles i.order i.nr i.session i.number i.numbered)
