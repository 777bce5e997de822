-- When what was told or what is raised changes under a frame. 01, "Messages": "raised and told become empty"; "Told is
-- updated when the indication is acknowledged, to what it said."
--   Clears d f    == f is an accepted I-frame with the message 06 00 00, clear alarms
--   Subscribes d f == f is an accepted I-frame with the message 12 00 00, subscribe
--   Indicated d f == f is I, RR or RNR, and its N(R) acknowledges the pending indication of d
-- Assumes nothing.
use Rattle.std.specs.Prelude.{◌≡◌, true, List, [], ◌∷◌, ℕ, drop}
use Rattle.std.proofs.Math.Option.{some}
use Rattle.control.specs.declared.Order.{Order}
use Rattle.record.specs.declared.Pending.TheVariants.{Indication}
use Rattle.record.specs.declared.Session.{Session}
use Rattle.record.specs.declared.Device.{Device}
use Rattle.session.specs.Session.{acknowledges}
use Rattle.link.specs.Frames.{number_in, Numbered}
use Rattle.conduct.specs.Conduct.{Accepted}

pub record Clears (d : Device) (f : List ℕ) : Type 0 where
  pub session : Session
  pub ns : ℕ
  pub nr : ℕ
  pub frame : Accepted d f session ns nr
  pub message : drop 2 f ≡ 0x06 ∷ 0 ∷ 0 ∷ []

pub record Subscribes (d : Device) (f : List ℕ) : Type 0 where
  pub session : Session
  pub ns : ℕ
  pub nr : ℕ
  pub frame : Accepted d f session ns nr
  pub message : drop 2 f ≡ 0x12 ∷ 0 ∷ 0 ∷ []

pub record Indicated (d : Device) (f : List ℕ) : Type 0 where
  pub session : Session
  pub order : Order
  pub nr : ℕ
  pub number : number_in order ≡ some nr
  pub numbered : Numbered d f order nr session
  pub pending : session.pending ≡ Indication
  pub removes : acknowledges session nr ≡ true
