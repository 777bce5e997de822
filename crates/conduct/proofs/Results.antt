-- A result that waits is sent to the first RR with a good N(R) that leaves nothing pending, and is then the pending
-- answer; every other frame keeps it waiting, unless it ends the session, is a first SNRM or an assignment, which
-- drops it. Assumes nothing.
use mathlib.Core.Path.{◌≡◌, refl, sym, ap, ◌∙◌}
use mathlib.Core.Bool.{Bool, true, false}
use mathlib.Core.List.{List}
use mathlib.Core.Logic.{◌⊎◌, inl, inr}
use Prim.Native.Nat.{ℕ}
use Rattle.std.specs.Prelude.{Some, None}
use Rattle.control.specs.declared.Order.TheVariants.{Rr}
use Rattle.octets.proofs.Words.{true-not-false}
use Rattle.antenna.specs.declared.Motion.{Motion}
use Rattle.antenna.specs.declared.Motion.TheVariants.{Still, Moving, Owing, Stopped}
use Rattle.antenna.specs.Motions.{busy_of, owes_of, waiting_of, moves}
use Rattle.record.specs.declared.Pending.TheVariants.{Answer}
use Rattle.record.specs.declared.Session.{Session}
use Rattle.record.specs.declared.Link.TheVariants.{Connected}
use Rattle.record.specs.declared.Device.{Device}
use Rattle.record.specs.Changes.{device_of, limited_to}
use Rattle.session.specs.Session.{pends}
use Rattle.station.specs.Station.{awaiting, answers_with}
use Rattle.station.specs.declared.Turn.{Turn}
use Rattle.station.specs.Turns.{saying, pend}
use Rattle.acknowledge.specs.Acknowledge.{session_after, station_after, acknowledged}
use Rattle.payload.specs.Payloads.{payload_of, result_of}
use Rattle.message.specs.Carried.{quieted}
use Rattle.link.specs.Link.{judged_frame}
use Rattle.link.specs.Frames.{Numbered}
use Rattle.conduct.specs.Conduct.{after}
use Rattle.conduct.specs.Endings.{Ends, Drops, Collects}
use Rattle.conduct.specs.Endings as end
use Rattle.conduct.specs.Comes.{Comes, unread, scans, assigns, negotiates, begins, declines, renews, leaves}
use Rattle.conduct.specs.Comes.{miscounts, unknown, starts, clears, subscribes, answers, murmurs, repeats, resends}
use Rattle.conduct.specs.Comes.{delivers, indicates, rests, pauses, left, says}
use Rattle.conduct.proofs.Comes.{comes, comes-so, comes-leaves}
use Rattle.conduct.proofs.Ends.{drops-drop}

-- ---- sent

module _ (d : Device) (f : List ℕ) (r : ℕ) (s : Session) (reached : Bool) (w : Numbered d f (Rr r) r s)
    (free : pends (session_after s r).pending ≡ false) (waits : waiting_of d.antenna.motion ≡ Some reached) where
  pub result-sent : judged_frame d f
      ≡ saying
      (device_of d (answers_with (station_after d.station s r) (session_after s r) (payload_of (result_of reached)))
      (moves d.antenna Still))
      (pend (session_after s r))
  unfolding left says
  result-sent = comes-so d f (delivers s r reached w free waits)

  -- it is the pending answer, and nothing waits any more
  pub result-pends : ((after d f).station.link ≡ Connected (awaiting (session_after s r) Answer))
      × ((after d f).station.desk.reply ≡ payload_of (result_of reached)) × ((after d f).antenna.motion ≡ Still)
  unfolding saying device_of answers_with moves
  result-pends = (
    ap (λ (t : Turn). t.device.station.link) result-sent,
    ap (λ (t : Turn). t.device.station.desk.reply) result-sent,
    ap (λ (t : Turn). t.device.antenna.motion) result-sent,
  )

-- ---- dropped

owes-waits : (m : Motion) → owes_of m ≡ false → waiting_of m ≡ None
unfolding waiting_of
owes-waits Still e = refl
owes-waits Moving e = refl
owes-waits (Owing asked) e = refl
owes-waits (Stopped reached) e = absurd (true-not-false e)

-- a session's end drops it, and so do a first SNRM and an assignment
pub result-dropped : (d : Device) (f : List ℕ) → Drops d f → waiting_of (after d f).antenna.motion ≡ None
result-dropped d f w = owes-waits (after d f).antenna.motion (drops-drop d f w).owed

-- ---- kept

waiting-busy : (m : Motion) (reached : Bool) → waiting_of m ≡ Some reached → busy_of m ≡ true
unfolding waiting_of
waiting-busy Still reached e = cc
waiting-busy Moving reached e = refl
waiting-busy (Owing asked) reached e = refl
waiting-busy (Stopped by) reached e = refl

module _ (d : Device) (f : List ℕ) (reached : Bool) (waits : waiting_of d.antenna.motion ≡ Some reached) where
  abbrev Kept : Type 0
  Kept = (waiting_of (after d f).antenna.motion ≡ Some reached) ⊎ (Collects d f ⊎ Drops d f)

  -- the motion is as it was
  stands : (c : Comes d f) → (left d f c).antenna.motion ≡ d.antenna.motion → Kept
  stands c same =
      inl (ap (λ (x : Device). waiting_of x.antenna.motion) (comes-leaves d f c) ∙ ap waiting_of same ∙ waits)

  collects : (s : Session) (r : ℕ) → Numbered d f (Rr r) r s → pends (session_after s r).pending ≡ false → Kept
  collects s r w free = inr (inl (record { session = s; nr = r; numbered = w; free = free }))

  ends : Ends d f → Kept
  ends e = inr (inr (inl e))

  kept_by : Comes d f → Kept
  unfolding left device_of limited_to acknowledged quieted
  kept_by (unread w) = stands (unread w) refl
  kept_by (scans w a) = stands (scans w a) refl
  kept_by (assigns a w) = inr (inr (inr (inr (a, w))))
  kept_by (negotiates ps w m) = stands (negotiates ps w m) refl
  kept_by (begins w l) = inr (inr (inr (inl (record { own = w; link = l }))))
  kept_by (declines o w n l) = stands (declines o w n l) refl
  kept_by (renews s w l) = ends (end.renews s w l)
  kept_by (leaves s w l) = ends (end.leaves s w l)
  kept_by (miscounts s o r w l n b) = ends (end.miscounts s o r w l n b)
  kept_by (unknown s w l) = ends (end.unknown s w l)
  -- no movement starts while a result waits
  kept_by (starts s n r w due) =
      absurd (true-not-false (sym (waiting-busy d.antenna.motion reached waits) ∙ due.idle))
  kept_by (clears s n r w m) = stands (clears s n r w m) refl
  kept_by (subscribes s n r w m) = stands (subscribes s n r w m) refl
  kept_by (answers s n r b w e) = stands (answers s n r b w e) refl
  kept_by (murmurs s n r w few) = stands (murmurs s n r w few) refl
  kept_by (repeats s n r w a) = stands (repeats s n r w a) refl
  kept_by (resends s r w p) = stands (resends s r w p) refl
  kept_by (delivers s r b w p q) = collects s r w p
  kept_by (indicates s r w p q t) = collects s r w p
  kept_by (rests s r w p q t) = collects s r w p
  kept_by (pauses s r w) = stands (pauses s r w) refl

  -- the result waits on, or f collects it, or f drops it
  pub result-cases : (waiting_of (after d f).antenna.motion ≡ Some reached) ⊎ (Collects d f ⊎ Drops d f)
  result-cases = kept_by (comes d f)
