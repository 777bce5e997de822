-- Every frame is one of the cases of specs/Comes to a device, and leaves and says what its case has. This holds of any
-- record, allowed or not. Assumes nothing.
use mathlib.Core.Path.{◌≡◌, refl, sym, ap, ◌∙◌}
use mathlib.Core.Bool.{Bool, true, false, cond}
use mathlib.Core.List.{List}
use mathlib.Core.Logic.{◌↔◌}
use Prim.Native.Nat.{ℕ}
use lib.ListN.{drop}
use Rattle.octets.proofs.Words.{true-not-false}
use Rattle.control.specs.declared.Order.TheVariants.{Info, Rr}
use Rattle.record.specs.declared.Session.{Session}
use Rattle.record.specs.declared.Device.{Device}
use Rattle.record.specs.Allowed.{identity_of, limit_of}
use Rattle.negotiation.proofs.Exactly.{offer-agreed, offer-exactly}
use Rattle.record.specs.Changes.{device_of}
use Rattle.antenna.specs.Motions.{started}
use Rattle.session.specs.Session.{pends, accepts, taken}
use Rattle.xid.proofs.Exactly.{scan-exactly, assignment-exactly}
use Rattle.message.specs.declared.Carried.{Carried}
use Rattle.message.specs.Carried.{replies, unanswered}
use Rattle.message.proofs.Judged.{carried_none}
use Rattle.message.proofs.Moves.{carried-cases, due-moves, clear-clears, subscribe-subscribes}
use Rattle.station.specs.declared.Say.{Say}
use Rattle.station.specs.declared.Turn.{Turn}
use Rattle.station.specs.Station.{resent}
use Rattle.station.specs.Turns.{saying, pend, ready}
use Rattle.acknowledge.specs.Acknowledge.{session_after, station_after, acknowledged}
use Rattle.poll.specs.Poll.{idle_poll, waiting_poll, poll_of}
use Rattle.inform.specs.Inform.{carried_here, replied_by, carried_by, inform_of}
use Rattle.states.specs.States.{rejected, informed_by, polled_by, paused_by, on_snrm}
use Rattle.link.specs.Link.{has_address, agreed_by, judged_frame}
use Rattle.link.specs.Frames.{Numbered, Unread}
use Rattle.link.proofs.Cases.{own-xid-is, judged-cases, unread-silent}
use Rattle.conduct.specs.Conduct.{after, Accepted}
use Rattle.conduct.specs.Endings.{Ends, ended_by}
use Rattle.conduct.specs.Endings as end
use Rattle.conduct.specs.Comes.{Comes, unread, scans, assigns, negotiates, begins, declines, renews, leaves}
use Rattle.conduct.specs.Comes.{miscounts, unknown, starts, clears, subscribes, answers, murmurs, repeats, resends}
use Rattle.conduct.specs.Comes.{delivers, indicates, rests, pauses, left, says}
use Rattle.conduct.proofs.Settles.{carried-kept, info-is, rr-is, rnr-is, accepted-is}
use Rattle.conduct.proofs.Turns.{poll-cases}
use Rattle.conduct.proofs.Refusing.{bad-rejected, unknown-rejected, disc-releases, other-declined}
use Rattle.conduct.proofs.Answers.{snrm-begins, snrm-in, scan-answers, assignment-ends}

-- what is no silence
abbrev spoken : Say → Bool
spoken Say.Silence = false
spoken (Say.Bare c) = true
spoken (Say.Reject c n why) = true
spoken (Say.Pend c) = true
spoken Say.Scanned = true
spoken Say.Assigned = true
spoken (Say.Negotiated a) = true

said : {A : Type 0} {x : Say} → spoken x ≡ true → x ≡ Say.Silence → A
said e h = absurd (true-not-false (sym e ∙ ap spoken h))

resent-said : (s : Session) → spoken (resent s) ≡ true
unfolding resent
resent-said s = go (pends s.pending)
  where
    go : (b : Bool) → spoken (cond b (pend s) (ready s)) ≡ true
    go true = refl
    go false = refl

module _ (d : Device) (f : List ℕ) where
  -- ---- every frame is one of them

  accepted-comes : (s : Session) (n r : ℕ) → Accepted d f s n r → Comes d f
  accepted-comes s n r w =
      carried-cases d.plate d.antenna (station_after d.station s r).desk.told d.station.desk.subscribed (drop 2 f)
      (λ x. carried_here (acknowledged d s r) (drop 2 f) ≡ x → Comes d f)
      (λ few e. murmurs s n r w few) (λ b h e. answers s n r b w e) (λ m e. clears s n r w m)
      (λ m e. subscribes s n r w m) (λ due e. starts s n r w due) (carried-kept d s r (drop 2 f))

  info-comes : (s : Session) (n r : ℕ) → Numbered d f (Info n r) r s → Comes d f
  info-comes s n r w = go (accepts (session_after s r) n) refl
    where
      go : (b : Bool) → accepts (session_after s r) n ≡ b → Comes d f
      go true e = accepted-comes s n r (record { numbered = w; accepted = e })
      go false e = repeats s n r w e

  rr-comes : (s : Session) (r : ℕ) → Numbered d f (Rr r) r s → Comes d f
  unfolding acknowledged device_of
  rr-comes s r w =
      poll-cases (acknowledged d s r) (session_after s r) (λ t. Comes d f) (resends s r w)
      (λ b. delivers s r b w) (indicates s r w) (rests s r w)

  pub comes : Comes d f
  comes =
      judged-cases d f (λ t. Comes d f) unread
      (λ w e. scans w ((scan-exactly (identity_of d.plate) (drop 2 f)).0 e))
      (λ a w e.
      assigns a (record { everyone = w; takes = (assignment-exactly (identity_of d.plate) (drop 2 f) a).0 e }))
      (λ n a w e. let (ps, formed, limit, asked, one) = (offer-exactly (limit_of d) (drop 2 f) n a).0 e in negotiates ps w formed)
      begins declines renews leaves miscounts unknown info-comes rr-comes pauses

  -- ---- what comes of it

  -- an accepted I-frame whose message comes to x
  carried-so : (s : Session) (n r : ℕ) → Accepted d f s n r → (x : Carried)
      → carried_here (acknowledged d s r) (drop 2 f) ≡ x
      → judged_frame d f ≡ carried_by (acknowledged d s r) (taken (session_after s r)) x
  carried-so s n r w x e =
      accepted-is d f s n r w ∙ ap (carried_by (acknowledged d s r) (taken (session_after s r))) e

  pub comes-so : (c : Comes d f) → judged_frame d f ≡ saying (left d f c) (says d f c)
  unfolding left says on_snrm rejected acknowledged device_of carried_by replied_by replies unanswered started informed_by inform_of
      polled_by poll_of waiting_poll idle_poll resent paused_by agreed_by
  comes-so (unread w) = unread-silent d f w
  comes-so (scans w a) = scan-answers d f w a
  comes-so (assigns a w) = assignment-ends d f a w.everyone w.takes
  comes-so (negotiates ps w m) =
      own-xid-is d f w ∙ ap (agreed_by d) (offer-agreed (limit_of d) (drop 2 f) ps m)
  comes-so (begins w l) = snrm-begins d f w (ap has_address l) ∙ snrm-in d f l
  comes-so (declines o w n l) = other-declined d f o w n l
  comes-so (renews s w l) = snrm-begins d f w (ap has_address l) ∙ snrm-in d f l
  comes-so (leaves s w l) = disc-releases d f s w l
  comes-so (miscounts s o r w l n b) = bad-rejected d f s o r w l n b
  comes-so (unknown s w l) = unknown-rejected d f s w l
  comes-so (starts s n r w due) =
      carried-so s n r w _ (carried-kept d s r (drop 2 f) ∙ due-moves d.plate d.antenna _ _ (drop 2 f) due)
  comes-so (clears s n r w m) =
      carried-so s n r w _ (carried-kept d s r (drop 2 f) ∙ clear-clears d.plate d.antenna _ _ (drop 2 f) m)
  comes-so (subscribes s n r w m) =
      carried-so s n r w _
      (carried-kept d s r (drop 2 f) ∙ subscribe-subscribes d.plate d.antenna _ _ (drop 2 f) m)
  comes-so (answers s n r b w e) = carried-so s n r w _ e
  comes-so (murmurs s n r w few) =
      carried-so s n r w _ (carried-kept d s r (drop 2 f) ∙ carried_none d.antenna _ _ d.plate (drop 2 f) few)
  comes-so (repeats s n r w a) = info-is d f s n r w ∙ rw a
  comes-so (resends s r w p) = rr-is d f s r w ∙ rw p
  comes-so (delivers s r reached w p q) = rr-is d f s r w ∙ rw (p, q)
  comes-so (indicates s r w p q t) = rr-is d f s r w ∙ rw (p, q, t)
  comes-so (rests s r w p q t) = rr-is d f s r w ∙ rw (p, q, t)
  comes-so (pauses s r w) = rnr-is d f s r w

  pub comes-leaves : (c : Comes d f) → after d f ≡ left d f c
  unfolding saying
  comes-leaves c = ap (λ (t : Turn). t.device) (comes-so c)

  pub comes-says : (c : Comes d f) → (judged_frame d f).say ≡ says d f c
  unfolding saying
  comes-says c = ap (λ (t : Turn). t.say) (comes-so c)

  -- ---- silence

  silence-unread : (c : Comes d f) → says d f c ≡ Say.Silence → Unread d f
  unfolding says
  silence-unread (unread w) e = w
  silence-unread (scans w a) e = said refl e
  silence-unread (assigns a w) e = said refl e
  silence-unread (negotiates ps w m) e = said refl e
  silence-unread (begins w l) e = said refl e
  silence-unread (declines o w n l) e = said refl e
  silence-unread (renews s w l) e = said refl e
  silence-unread (leaves s w l) e = said refl e
  silence-unread (miscounts s o r w l n b) e = said refl e
  silence-unread (unknown s w l) e = said refl e
  silence-unread (starts s n r w due) e = said refl e
  silence-unread (clears s n r w m) e = said refl e
  silence-unread (subscribes s n r w m) e = said refl e
  silence-unread (answers s n r b w q) e = said refl e
  silence-unread (murmurs s n r w few) e = said refl e
  silence-unread (repeats s n r w a) e = said (resent-said (session_after s r)) e
  silence-unread (resends s r w p) e = said refl e
  silence-unread (delivers s r reached w p q) e = said refl e
  silence-unread (indicates s r w p q t) e = said refl e
  silence-unread (rests s r w p q t) e = said refl e
  silence-unread (pauses s r w) e = said refl e

  -- silence is for what is not read, and for nothing else
  pub silence-exactly : (judged_frame d f).say ≡ Say.Silence ↔ Unread d f
  unfolding saying
  silence-exactly = (
    λ e. silence-unread comes (sym (comes-says comes) ∙ e),
    λ w. ap (λ (t : Turn). t.say) (unread-silent d f w),
  )

  pub silence-keeps : (judged_frame d f).say ≡ Say.Silence → after d f ≡ d
  unfolding left
  silence-keeps e = comes-leaves (unread (silence-exactly.0 e))

  -- ---- "Any other isn't carried out and moves nothing"

  pub unaccepted-leaves : (s : Session) (n r : ℕ) → Numbered d f (Info n r) r s
      → accepts (session_after s r) n ≡ false → after d f ≡ acknowledged d s r
  unfolding left
  unaccepted-leaves s n r w e = comes-leaves (repeats s n r w e)

  -- ---- a session's end

  pub ends-leaves : (e : Ends d f) → after d f ≡ ended_by d f e
  unfolding left ended_by
  ends-leaves (end.renews s w l) = comes-leaves (renews s w l)
  ends-leaves (end.leaves s w l) = comes-leaves (leaves s w l)
  ends-leaves (end.miscounts s o r w l n b) = comes-leaves (miscounts s o r w l n b)
  ends-leaves (end.unknown s w l) = comes-leaves (unknown s w l)
  ends-leaves (end.assigns s a w l) = comes-leaves (assigns a w)
