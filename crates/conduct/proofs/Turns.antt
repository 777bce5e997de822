-- All that a session does with a frame that has a good N(R): RR does one of four things (`poll-cases`), an I-frame one
-- of three (`inform-cases`). Assumes nothing.
use mathlib.Core.Path.{◌≡◌, refl}
use mathlib.Core.Bool.{Bool, true, false, cond}
use mathlib.Core.List.{List}
use Prim.Native.Nat.{ℕ}
use Rattle.std.specs.Prelude.{Option, Some, None}
use Rattle.antenna.specs.declared.Motion.TheVariants.{Still}
use Rattle.antenna.specs.Motions.{waiting_of, moves}
use Rattle.record.specs.Desk.{Payload}
use Rattle.record.specs.declared.Session.{Session}
use Rattle.record.specs.declared.Device.{Device}
use Rattle.session.specs.Session.{pends, accepts, taken}
use Rattle.station.specs.Station.{resent, answers_with}
use Rattle.poll.specs.Poll.{indicates, to_tell}
use Rattle.payload.specs.Payloads.{payload_of, result_of}
use Rattle.station.specs.declared.Turn.{Turn}
use Rattle.station.specs.Turns.{saying}
use Rattle.record.specs.Changes.{device_of}
use Rattle.station.specs.Turns.{pend, ready}
use Rattle.poll.specs.Poll.{idle_poll, waiting_poll, poll_of}
use Rattle.inform.specs.Inform.{carried_here, replied_by, carried_by}
use Rattle.inform.specs.Inform.{inform_of}

-- the device d in its session s, the acknowledged answer being removed
module _ (d : Device) (s : Session) (P : Turn → Type 0) where
  module _ (resends : pends s.pending ≡ true → P (saying d (resent s)))
      (results : (b : Bool) → pends s.pending ≡ false → waiting_of d.antenna.motion ≡ Some b → P
      (saying (device_of d (answers_with d.station s (payload_of (result_of b))) (moves d.antenna Still)) (pend s)))
      (tells : pends s.pending ≡ false → waiting_of d.antenna.motion ≡ None
      → to_tell d.station.desk d.antenna.drive ≡ true → P
      (saying (device_of d (indicates d.station s d.antenna.drive.raised) d.antenna) (pend s)))
      (rests : pends s.pending ≡ false → waiting_of d.antenna.motion ≡ None
      → to_tell d.station.desk d.antenna.drive ≡ false → P (saying d (ready s))) where
    pub poll-cases : P (poll_of d s)
    unfolding poll_of waiting_poll idle_poll
    poll-cases = go (pends s.pending) refl
      where
        told : pends s.pending ≡ false → waiting_of d.antenna.motion ≡ None → (b : Bool)
            → to_tell d.station.desk d.antenna.drive ≡ b → P
            (cond b (saying (device_of d (indicates d.station s d.antenna.drive.raised) d.antenna) (pend s))
            (saying d (ready s)))
        told p w true e = tells p w e
        told p w false e = rests p w e

        waits : pends s.pending ≡ false → (w : Option Bool) → waiting_of d.antenna.motion ≡ w
            → P (waiting_poll d s w)
        waits p None e = told p e (to_tell d.station.desk d.antenna.drive) refl
        waits p (Some b) e = results b p e

        go : (b : Bool) → pends s.pending ≡ b → P
            (cond b (saying d (resent s)) (waiting_poll d s (waiting_of d.antenna.motion)))
        go true e = resends e
        go false e = waits e (waiting_of d.antenna.motion) refl

  module _ (n : ℕ) (m : List ℕ)
      (none : accepts s n ≡ true → (carried_here d m).reply ≡ None → P
      (replied_by d (taken s) (carried_here d m) None))
      (answers : accepts s n ≡ true → (q : Payload) → (carried_here d m).reply ≡ Some q → P
      (replied_by d (taken s) (carried_here d m) (Some q)))
      (again : accepts s n ≡ false → P (saying d (resent s))) where
    pub inform-cases : P (inform_of d s n m)
    unfolding inform_of carried_by
    inform-cases = go (accepts s n) refl
      where
        replied : accepts s n ≡ true → (r : Option Payload) → (carried_here d m).reply ≡ r
            → P (replied_by d (taken s) (carried_here d m) r)
        replied a None e = none a e
        replied a (Some q) e = answers a q e

        go : (b : Bool) → accepts s n ≡ b → P
            (cond b (replied_by d (taken s) (carried_here d m) (carried_here d m).reply) (saying d (resent s)))
        go true e = replied e (carried_here d m).reply refl
        go false e = again e
