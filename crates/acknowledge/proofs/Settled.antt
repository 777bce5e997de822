-- What an acknowledgement leaves: nothing pending, S moved on by one, told as the indication said. Assumes nothing.
use mathlib.Core.Path.{◌≡◌, refl}
use mathlib.Core.Bool.{true, false}
use Prim.Native.Nat.{ℕ}
use Rattle.control.specs.Control.{next_of}
use Rattle.record.specs.declared.Pending.TheVariants.{Nothing, Answer, Indication}
use Rattle.record.specs.declared.Session.{Session}
use Rattle.record.specs.declared.Station.{Station}
use Rattle.session.specs.Session.{acknowledges}
use Rattle.acknowledge.specs.Acknowledge.{emptied, told_after, relieved, session_after, station_after}

module _ (t : Station) (s : Session) (n : ℕ) where
  -- a number that acknowledges nothing changes nothing
  pub station-kept : acknowledges s n ≡ false → station_after t s n ≡ t
  unfolding station_after
  station-kept e = rw e

  pub session-kept : acknowledges s n ≡ false → session_after s n ≡ s
  unfolding session_after
  session-kept e = rw e

  module _ (e : acknowledges s n ≡ true) where
    pub session-moved : ((session_after s n).s ≡ next_of s.s) × ((session_after s n).pending ≡ Nothing)
    unfolding session_after emptied
    session-moved = rw e (refl, refl)

    -- told: "to what it said", where an indication was pending
    pub told-said : s.pending ≡ Indication → (station_after t s n).desk.told ≡ t.desk.said
    unfolding station_after relieved told_after
    told-said q = rw (e, q)

    pub told-stays : s.pending ≡ Answer → (station_after t s n).desk.told ≡ t.desk.told
    unfolding station_after relieved told_after
    told-stays q = rw (e, q)

    pub subscription-stays : (station_after t s n).desk.subscribed ≡ t.desk.subscribed
    unfolding station_after relieved
    subscription-stays = rw e
