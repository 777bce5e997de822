-- What a frame changes, part by part, and when exactly (`account`). This holds of any record, allowed or not. Assumes
-- nothing.
use mathlib.Core.Path.{◌≡◌, refl, sym, ap, ◌∙◌}
use mathlib.Core.Bool.{true}
use mathlib.Core.List.{List}
use mathlib.Core.Logic.{◌⊎◌, inl, inr, ⊎_elim}
use Prim.Native.Nat.{ℕ}
use lib.ListN.{drop}
use Rattle.antenna.specs.declared.Angle.{Angle}
use Rattle.antenna.specs.Motions.{moves}
use Rattle.control.specs.declared.Order.TheVariants.{Snrm}
use Rattle.record.specs.declared.Plate.{Plate}
use Rattle.record.specs.declared.Session.{Session}
use Rattle.record.specs.declared.Link.TheVariants.{AddressAssigned, Connected}
use Rattle.record.specs.declared.Device.{Device}
use Rattle.record.specs.Allowed.{limit_of}
use Rattle.record.specs.Changes.{unsaid_at, device_of, emptied_as, limited_to}
use Rattle.params.specs.Field.{Param, WellFormed}
use Rattle.negotiation.specs.Negotiation.{negotiating, agreed_limit}
use Rattle.message.specs.Carried.{quieted}
use Rattle.station.specs.Station.{answers_with}
use Rattle.acknowledge.specs.Acknowledge.{session_after, acknowledged}
use Rattle.poll.specs.Poll as poll
use Rattle.inform.specs.Inform.{heeded}
use Rattle.states.specs.States.{new_session, begun, renewed, released}
use Rattle.link.specs.Frames.{Own, OwnXid}
use Rattle.conduct.specs.Conduct.{after}
use Rattle.conduct.specs.Endings.{Assigns, Ends, Drops, ended_by}
use Rattle.conduct.specs.Alarms.{Subscribes}
use Rattle.conduct.specs.Comes.{Comes, left}
use Rattle.conduct.specs.Account.{Continues, Account}
use Rattle.conduct.proofs.Settles.{address_kept, limit-kept, subscribed-kept, relieved-link, assigned-apart}
use Rattle.conduct.proofs.Numbers.{r-moves-exactly, r-stays-exactly, s-moves-exactly, s-stays-exactly}
use Rattle.conduct.proofs.Told.{raised-cases, told-cases, clears-both, indicated-tells}
use Rattle.conduct.proofs.Comes.{comes, comes-leaves, ends-leaves}
use Rattle.conduct.proofs.Ends.{drops-drop}
use Rattle.conduct.proofs.Leaves.{after-cases}
use Rattle.conduct.proofs.Motions.{motion-cases, motion-started, motion-delivered, motion-dropped}
use Rattle.conduct.proofs.Pends.{answered-pends, delivered-pends, tells-pends, removed-empty}
use Rattle.conduct.proofs.Pends.{pending-kept}

-- what no frame changes
abbrev parts : Device → Plate × Angle × Angle × Angle
parts e = (e.plate, e.antenna.drive.lowest, e.antenna.drive.highest, e.antenna.drive.tilt)

module _ (d : Device) (f : List ℕ) where
  parts-kept : parts (after d f) ≡ parts d
  unfolding device_of emptied_as limited_to acknowledged moves quieted
  parts-kept =
      after-cases d f (λ (e : Device). parts e ≡ parts d) refl (λ a w. refl) (λ ps w m. refl) (λ w n l. refl)
      (λ o r s e w. refl)
      (λ s n r w. refl) (λ w. refl) (λ w. refl) (λ w. refl) (λ w b. refl) (λ b w. refl) (λ w. refl)

  -- ---- the address and the subscription

  address-cases : ((a : ℕ) × Assigns d f a) ⊎ ((after d f).station.desk.address ≡ d.station.desk.address)
  unfolding device_of emptied_as unsaid_at limited_to acknowledged heeded answers_with poll.indicates
  address-cases =
      let kept = address_kept d in
      after-cases d f (λ (e : Device). ((a : ℕ) × Assigns d f a) ⊎ (e.station.desk.address ≡ d.station.desk.address))
      (inr refl) (λ a w. inl (a, w)) (λ ps w m. inr refl) (λ w n l. inr refl) (λ o r s e w. inr (kept s r))
      (λ s n r w. inr (kept s r))
      (λ w. inr (kept w.session w.nr)) (λ w. inr (kept w.session w.nr))
      (λ w. inr (kept w.session w.nr)) (λ w b. inr (kept w.session w.nr))
      (λ b w. inr (kept w.collects.session w.collects.nr))
      (λ w. inr (kept w.collects.session w.collects.nr))

  subscribed-cases : Subscribes d f ⊎ ((after d f).station.desk.subscribed ≡ d.station.desk.subscribed)
  unfolding device_of emptied_as unsaid_at limited_to acknowledged heeded answers_with poll.indicates
  subscribed-cases =
      let kept = subscribed-kept d in
      after-cases d f (λ (e : Device). Subscribes d f ⊎ (e.station.desk.subscribed ≡ d.station.desk.subscribed))
      (inr refl) (λ a w. inr refl) (λ ps w m. inr refl) (λ w n l. inr refl) (λ o r s e w. inr (kept s r))
      (λ s n r w. inr refl) (λ w. inr refl) (λ w. inr refl) inl (λ w b. inr refl)
      (λ b w. inr (kept w.collects.session w.collects.nr))
      (λ w. inr (kept w.collects.session w.collects.nr))

  assigned : (a : ℕ) → Assigns d f a
      → ((after d f).station.desk.address ≡ a) × ((after d f).station.link ≡ AddressAssigned)
  unfolding left emptied_as unsaid_at
  assigned a w =
      let is = comes-leaves d f (Comes.assigns a w) in
      (ap (λ (e : Device). e.station.desk.address) is, ap (λ (e : Device). e.station.link) is)

  subscribes : Subscribes d f → (after d f).station.desk.subscribed ≡ true
  unfolding left device_of answers_with heeded
  subscribes w =
      ap (λ (e : Device). e.station.desk.subscribed)
      (comes-leaves d f (Comes.subscribes w.session w.ns w.nr w.frame w.message))

  -- ---- the frame limit

  -- an end, an assignment or a negotiation changes it, or else nothing does
  abbrev pub Limits : Type 0
  Limits = ((a : ℕ) × Assigns d f a)
      ⊎ (Ends d f ⊎ ((ps : List Param) × OwnXid d f × WellFormed negotiating (drop 2 f) ps))

  limit-by : (c : Comes d f) → Limits ⊎ (limit_of (left d f c) ≡ limit_of d)
  unfolding left begun emptied_as unsaid_at device_of acknowledged heeded answers_with poll.indicates
  limit-by (Comes.unread w) = inr refl
  limit-by (Comes.scans w a) = inr refl
  limit-by (Comes.assigns a w) = inl (inl (a, w))
  limit-by (Comes.negotiates ps w m) = inl (inr (inr (ps, w, m)))
  limit-by (Comes.begins w l) = inr refl
  limit-by (Comes.declines o w n l) = inr refl
  limit-by (Comes.renews s w l) = inl (inr (inl (Ends.renews s w l)))
  limit-by (Comes.leaves s w l) = inl (inr (inl (Ends.leaves s w l)))
  limit-by (Comes.miscounts s o r w l n b) = inl (inr (inl (Ends.miscounts s o r w l n b)))
  limit-by (Comes.unknown s w l) = inl (inr (inl (Ends.unknown s w l)))
  limit-by (Comes.starts s n r w due) = inr (limit-kept d s r)
  limit-by (Comes.clears s n r w m) = inr (limit-kept d s r)
  limit-by (Comes.subscribes s n r w m) = inr (limit-kept d s r)
  limit-by (Comes.answers s n r b w e) = inr (limit-kept d s r)
  limit-by (Comes.murmurs s n r w few) = inr (limit-kept d s r)
  limit-by (Comes.repeats s n r w a) = inr (limit-kept d s r)
  limit-by (Comes.resends s r w p) = inr (limit-kept d s r)
  limit-by (Comes.delivers s r b w p q) = inr (limit-kept d s r)
  limit-by (Comes.indicates s r w p q t) = inr (limit-kept d s r)
  limit-by (Comes.rests s r w p q t) = inr (limit-kept d s r)
  limit-by (Comes.pauses s r w) = inr (limit-kept d s r)

  pub limit-cases : Limits ⊎ (limit_of (after d f) ≡ limit_of d)
  limit-cases =
      ⊎_elim inl (λ e. inr (ap limit_of (comes-leaves d f (comes d f)) ∙ e)) (limit-by (comes d f))

  limit-assigned : (a : ℕ) → Assigns d f a → limit_of (after d f) ≡ 78
  unfolding left emptied_as unsaid_at
  limit-assigned a w = ap limit_of (comes-leaves d f (Comes.assigns a w))

  limit-ended : Ends d f → limit_of (after d f) ≡ 78
  unfolding ended_by renewed begun released emptied_as unsaid_at
  limit-ended (Ends.renews s w l) = ap limit_of (ends-leaves d f (Ends.renews s w l))
  limit-ended (Ends.leaves s w l) = ap limit_of (ends-leaves d f (Ends.leaves s w l))
  limit-ended (Ends.miscounts s o r w l n b) = ap limit_of (ends-leaves d f (Ends.miscounts s o r w l n b))
  limit-ended (Ends.unknown s w l) = ap limit_of (ends-leaves d f (Ends.unknown s w l))
  limit-ended (Ends.assigns s a w l) = ap limit_of (ends-leaves d f (Ends.assigns s a w l))

  limit-agreed : (ps : List Param) → OwnXid d f → WellFormed negotiating (drop 2 f) ps
      → limit_of (after d f) ≡ agreed_limit (limit_of d) ps
  unfolding left limited_to device_of
  limit-agreed ps w m = ap limit_of (comes-leaves d f (Comes.negotiates ps w m))

  -- ---- the link state

  begun-link : (c : Comes d f) → left d f c ≡ begun d → (after d f).station.link ≡ Connected new_session
  unfolding begun emptied_as unsaid_at
  begun-link c e = ap (λ (x : Device). x.station.link) (comes-leaves d f c ∙ e)

  renewed-link : (c : Comes d f) → left d f c ≡ renewed d → (after d f).station.link ≡ Connected new_session
  unfolding renewed begun emptied_as unsaid_at
  renewed-link c e = ap (λ (x : Device). x.station.link) (comes-leaves d f c ∙ e)

  released-link : (c : Comes d f) → left d f c ≡ released d → (after d f).station.link ≡ AddressAssigned
  unfolding released emptied_as unsaid_at
  released-link c e = ap (λ (x : Device). x.station.link) (comes-leaves d f c ∙ e)

  ended-link : Ends d f → (Own d f Snrm → ⊥) → (after d f).station.link ≡ AddressAssigned
  unfolding left
  ended-link (Ends.renews s w l) new = absurd (new w)
  ended-link (Ends.leaves s w l) new = released-link (Comes.leaves s w l) refl
  ended-link (Ends.miscounts s o r w l n b) new = released-link (Comes.miscounts s o r w l n b) refl
  ended-link (Ends.unknown s w l) new = released-link (Comes.unknown s w l) refl
  ended-link (Ends.assigns s a w l) new = (assigned a w).1

  -- the session that was, and the one that is
  abbrev Goes : Device → Type 0
  Goes e = (s : Session) × (t : Session) × (d.station.link ≡ Connected s) × (e.station.link ≡ Connected t)

  link-cases : Drops d f ⊎ (((after d f).station.link ≡ d.station.link) ⊎ Goes (after d f))
  unfolding device_of limited_to acknowledged heeded answers_with poll.indicates
  link-cases =
      after-cases d f (λ (e : Device). Drops d f ⊎ ((e.station.link ≡ d.station.link) ⊎ Goes e))
      (inr (inl refl)) (λ a w. inl (inr (inr (a, w)))) (λ ps w m. inr (inl refl)) (λ w n l. inl w)
      (λ o r s e w. inr (inr (s, session_after s r, w.link, relieved-link d s r w.link)))
      (λ s n r w. inr (inr (s, _, w.numbered.link, refl)))
      (λ w. inr (inr (w.session, _, w.frame.numbered.link, refl)))
      (λ w. inr (inr (w.session, _, w.frame.numbered.link, refl)))
      (λ w. inr (inr (w.session, _, w.frame.numbered.link, refl)))
      (λ w b. inr (inr (w.session, _, w.frame.numbered.link, refl)))
      (λ b w. inr (inr (w.collects.session, _, w.collects.numbered.link, refl)))
      (λ w. inr (inr (w.collects.session, _, w.collects.numbered.link, refl)))

  module _ (s : Session) (here : d.station.link ≡ Connected s) where
    drops-end : Drops d f → Ends d f
    drops-end (inl e) = e
    drops-end (inr (inl w)) = absurd (assigned-apart (sym w.link ∙ here))
    drops-end (inr (inr (a, w))) = Ends.assigns s a w here

    module _ (lasts : Ends d f → ⊥) where
      counted : (t : Session) → (after d f).station.link ≡ Connected t → Continues d f s t
      counted t there =
          let new : Own d f Snrm → ⊥ = λ w. lasts (Ends.renews s w here) in
          record {
            accepted = (r-moves-exactly d f s t here there new).1;
            unaccepted = (r-stays-exactly d f s t here there new).1;
            acknowledged = (s-moves-exactly d f s t here there new).1;
            unacknowledged = (s-stays-exactly d f s t here there new).1;
          }

      goes_on : Drops d f ⊎ (((after d f).station.link ≡ d.station.link) ⊎ Goes (after d f))
          → (t : Session) × ((after d f).station.link ≡ Connected t) × Continues d f s t
      goes_on (inl w) = absurd (lasts (drops-end w))
      goes_on (inr (inl same)) = (s, same ∙ here, counted s (same ∙ here))
      goes_on (inr (inr (k, t, was, is))) = (t, is, counted t is)

      -- a session that does not end goes on, and its numbers are known
      pub session-kept : (t : Session) × ((after d f).station.link ≡ Connected t) × Continues d f s t
      session-kept = goes_on link-cases

  link-kept : ((s : Session) → d.station.link ≡ Connected s → ⊥) → (Drops d f → ⊥)
      → (after d f).station.link ≡ d.station.link
  link-kept none undropped =
      ⊎_elim (λ w. absurd (undropped w)) (λ k. ⊎_elim (λ same. same) (λ (s, t, was, is). absurd (none s was)) k)
      link-cases

  -- ---- all of it

  pub account : Account d f
  unfolding left
  account =
      record {
        plate = ap (λ x. x.0) parts-kept;
        lowest = ap (λ x. x.1) parts-kept;
        highest = ap (λ x. x.2) parts-kept;
        tilt = ap (λ x. x.3) parts-kept;
        address-taken = λ a w. (assigned a w).0;
        address_kept = λ none. ⊎_elim (λ w. absurd (none w.0 w.1)) (λ same. same) address-cases;
        limit-assigned = limit-assigned;
        limit-ended = limit-ended;
        limit-agreed = limit-agreed;
        limit-kept = λ unassigned unended unagreed.
            ⊎_elim
            (⊎_elim (λ w. absurd (unassigned w.0 w.1))
            (⊎_elim (λ w. absurd (unended w)) (λ w. absurd (unagreed w.1 w.0 w.2))))
            (λ same. same) limit-cases;
        link-assigned = λ a w. (assigned a w).1;
        link-begun = λ w. begun-link (Comes.begins w.own w.link) refl;
        link-renewed = λ s l w. renewed-link (Comes.renews s w l) refl;
        link-ended = ended-link;
        link-counted = session-kept;
        link-kept = link-kept;
        raised-cleared = λ w. (clears-both d f w).0;
        raised-kept = λ not. ⊎_elim (λ same. same) (λ w. absurd (not w.0)) (raised-cases d f);
        told-cleared = λ w. (clears-both d f w).1;
        told-updated = λ not w. indicated-tells d f w not;
        told-kept = λ not none.
            ⊎_elim (λ same. same) (⊎_elim (λ w. absurd (not w.0)) (λ w. absurd (none w.0))) (told-cases d f);
        subscribed-on = subscribes;
        subscribed-kept = λ not. ⊎_elim (λ w. absurd (not w)) (λ same. same) subscribed-cases;
        motion-started = motion-started d f;
        motion-delivered = motion-delivered d f;
        motion-dropped = motion-dropped d f;
        motion-kept = λ undue undelivered undropped.
            ⊎_elim (λ same. same)
            (⊎_elim (λ w. absurd (undue w))
            (⊎_elim (λ w. absurd (undelivered w.0 w.1)) (λ w. absurd (undropped w))))
            (motion-cases d f);
        dropped = drops-drop d f;
        answered = answered-pends d f;
        delivered = delivered-pends d f;
        told_of = tells-pends d f;
        removed = λ w unanswered undelivered untold. removed-empty d f unanswered undelivered untold w;
        pending-kept = λ unacknowledged unanswered undelivered untold.
            pending-kept d f unanswered undelivered untold unacknowledged;
      }
