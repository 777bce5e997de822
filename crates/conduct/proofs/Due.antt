-- Judging a frame starts a movement exactly where a tilt is due, and then the device after it is exactly known: RR is
-- said, R moves on, nothing is pending. This holds of any record, allowed or not. Assumes nothing.
use mathlib.Core.Path.{◌≡◌, refl, sym, ap, ◌∙◌}
use mathlib.Core.Bool.{true, false, not, ◌&&◌}
use mathlib.Core.List.{List}
use mathlib.Core.Logic.{◌↔◌}
use Prim.Native.Nat.{ℕ}
use borrow.Author.Tests.{not-true}
use Rattle.octets.proofs.Words.{true-not-false, and_parts}
use Rattle.antenna.specs.declared.Motion.{Motion}
use Rattle.antenna.specs.declared.Motion.TheVariants.{Still}
use Rattle.antenna.specs.Motions.{runs, started, moves, unowed_of}
use Rattle.antenna.proofs.Movements.{unowed-runs, idle}
use Rattle.record.specs.declared.Link.TheVariants.{Connected}
use Rattle.record.specs.declared.Device.{Device}
use Rattle.record.specs.Changes.{device_of, emptied_as, limited_to}
use Rattle.session.specs.Session.{taken}
use Rattle.session.proofs.Numbers.{accepts-exactly}
use Rattle.message.specs.Carried.{quieted}
use Rattle.station.specs.Turns.{ready}
use Rattle.acknowledge.specs.Acknowledge.{session_after, acknowledged}
use Rattle.inform.specs.Inform.{heeded}
use Rattle.states.specs.States.{begun, released}
use Rattle.states.proofs.Renews.{renewed-ends}
use Rattle.conduct.specs.Conduct.{starts, TiltDue, moved_on, TiltStarted}
use Rattle.conduct.specs.Comes.{Comes, unread, scans, assigns, negotiates, begins, declines, renews, leaves}
use Rattle.conduct.specs.Comes.{miscounts, unknown, clears, subscribes, answers, murmurs, repeats, resends, delivers}
use Rattle.conduct.specs.Comes.{indicates, rests, pauses, left, says}
use Rattle.conduct.specs.Comes as come
use Rattle.conduct.proofs.Settles.{nothing-pends, r-kept}
use Rattle.conduct.proofs.Comes.{comes, comes-leaves, comes-says}

-- the motion k runs and m did not
abbrev Begins : Motion → Motion → Type 0
Begins m k = not (runs m) && runs k ≡ true

not-begun : {A : Type 0} (m k : Motion) → runs k ≡ runs m → Begins m k → A
not-begun m k same e =
    let parts = and_parts (not (runs m)) (runs k) e in
    absurd (true-not-false (sym parts.1 ∙ same ∙ not-true _ parts.0))

stood : {A : Type 0} (m : Motion) → Begins m Still → A
stood m e = absurd (true-not-false (sym (and_parts (not (runs m)) false e).1))

-- ---- only where a tilt is due

module _ (d : Device) (f : List ℕ) where
  -- the motion is as it was, or is owed no longer and runs as it did
  kept : Begins d.antenna.motion d.antenna.motion → TiltDue d f
  kept = not-begun d.antenna.motion d.antenna.motion refl

  ended : Begins d.antenna.motion (unowed_of d.antenna.motion) → TiltDue d f
  ended = not-begun d.antenna.motion (unowed_of d.antenna.motion) (unowed-runs d.antenna.motion)

  due-by : (c : Comes d f) → Begins d.antenna.motion (left d f c).antenna.motion → TiltDue d f
  unfolding left begun released emptied_as moves limited_to device_of acknowledged quieted
  due-by (unread w) = kept
  due-by (scans w a) = kept
  due-by (assigns a w) = ended
  due-by (negotiates ps w m) = kept
  due-by (begins w l) = ended
  due-by (declines o w n l) = kept
  due-by (renews s w l) = rw (renewed-ends d) ended
  due-by (leaves s w l) = ended
  due-by (miscounts s o r w l n b) = ended
  due-by (unknown s w l) = ended
  due-by (come.starts s n r w due) = λ e. record { session = s; ns = n; nr = r; frame = w; message = due }
  due-by (clears s n r w m) = kept
  due-by (subscribes s n r w m) = kept
  due-by (answers s n r b w e) = kept
  due-by (murmurs s n r w few) = kept
  due-by (repeats s n r w a) = kept
  due-by (resends s r w p) = kept
  due-by (delivers s r b w p q) = stood d.antenna.motion
  due-by (indicates s r w p q t) = kept
  due-by (rests s r w p q t) = kept
  due-by (pauses s r w) = kept

  starts-only : starts d f ≡ true → TiltDue d f
  unfolding starts
  starts-only e = due-by (comes d f) (rw (comes-leaves d f (comes d f)) at e)

-- ---- where a tilt is due

module _ (d : Device) (f : List ℕ) (w : TiltDue d f) where
  abbrev here : Comes d f
  here = come.starts w.session w.ns w.nr w.frame w.message

  due-session : taken (session_after w.session w.nr) ≡ moved_on w.session w.nr
  unfolding taken
  due-session =
      let relieved = session_after w.session w.nr in
      let none = nothing-pends relieved.pending ((accepts-exactly relieved w.ns).0 w.frame.accepted).0 in
      rw (none, r-kept w.session w.nr)

  pub due-moves-on : TiltStarted d f w.session w.nr
  unfolding left says device_of heeded started
  due-moves-on =
      record {
        plate = ap (λ (x : Device). x.plate) (comes-leaves d f here);
        antenna = ap (λ (x : Device). x.antenna) (comes-leaves d f here);
        link = ap (λ (x : Device). x.station.link) (comes-leaves d f here) ∙ ap Connected due-session;
        station = ap (λ (x : Device). x.station) (comes-leaves d f here) ∙ rw due-session;
        said = comes-says d f here ∙ ap ready due-session;
      }

  starts-due : starts d f ≡ true
  unfolding starts started moves
  starts-due =
      rw (due-moves-on.antenna, idle d.antenna.motion w.message.idle)

pub starts-exactly : (d : Device) (f : List ℕ) → starts d f ≡ true ↔ TiltDue d f
starts-exactly d f = (starts-only d f, starts-due d f)
