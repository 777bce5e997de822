-- An RR gets the indication where nothing pends, no result waits and there is something to tell. Assumes nothing.
use mathlib.Core.Path.{◌≡◌, ap}
use mathlib.Core.Bool.{true, false}
use mathlib.Core.List.{List}
use Prim.Native.Nat.{ℕ}
use Rattle.std.specs.Prelude.{None}
use Rattle.control.specs.declared.Order.TheVariants.{Rr}
use Rattle.antenna.specs.Motions.{waiting_of}
use Rattle.record.specs.declared.Pending.TheVariants.{Indication}
use Rattle.record.specs.declared.Session.{Session}
use Rattle.record.specs.declared.Link.TheVariants.{Connected}
use Rattle.record.specs.declared.Device.{Device}
use Rattle.session.specs.Session.{pends}
use Rattle.station.specs.Station.{awaiting}
use Rattle.poll.specs.Poll.{indicates, to_tell}
use Rattle.acknowledge.specs.Acknowledge.{session_after, station_after}
use Rattle.station.specs.declared.Turn.{Turn}
use Rattle.station.specs.Turns.{saying, pend}
use Rattle.record.specs.Changes.{device_of}
use Rattle.link.specs.Link.{judged_frame}
use Rattle.link.specs.Frames.{Numbered}
use Rattle.conduct.specs.Conduct.{after}
use Rattle.conduct.specs.Comes.{left, says}
use Rattle.conduct.specs.Comes as come
use Rattle.conduct.proofs.Comes.{comes-so}

module _ (d : Device) (f : List ℕ) (r : ℕ) (s : Session) (w : Numbered d f (Rr r) r s)
    (free : pends (session_after s r).pending ≡ false) (none : waiting_of d.antenna.motion ≡ None)
    (news : to_tell (station_after d.station s r).desk d.antenna.drive ≡ true) where
  pub indication-sent : judged_frame d f
      ≡ saying
      (device_of d (indicates (station_after d.station s r) (session_after s r) d.antenna.drive.raised) d.antenna)
      (pend (session_after s r))
  unfolding left says
  indication-sent = comes-so d f (come.indicates s r w free none news)

  -- it pends, it says what is raised, and told is not yet changed by it
  pub indication-pends : ((after d f).station.link ≡ Connected (awaiting (session_after s r) Indication))
      × ((after d f).station.desk.said ≡ d.antenna.drive.raised)
      × ((after d f).station.desk.told ≡ (station_after d.station s r).desk.told)
  unfolding saying device_of indicates
  indication-pends = (
    ap (λ (t : Turn). t.device.station.link) indication-sent,
    ap (λ (t : Turn). t.device.station.desk.said) indication-sent,
    ap (λ (t : Turn). t.device.station.desk.told) indication-sent,
  )
