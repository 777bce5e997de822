-- A session's end, by SNRM, DISC, FRMR or an assignment, drops the pending answer and a tilt result that is owed;
-- alarms, what was told, subscription, range, tilt and a running movement stay, so no change is lost. A first SNRM and
-- an assignment without a session do the same. Assumes nothing.
use mathlib.Core.Path.{◌≡◌, refl, ◌∙◌}
use mathlib.Core.List.{List}
use mathlib.Core.Logic.{inl, inr}
use Prim.Native.Nat.{ℕ}
use Rattle.antenna.specs.Motions.{moves}
use Rattle.antenna.proofs.Movements.{unowed-owes, unowed-runs}
use Rattle.record.specs.declared.Pending.TheVariants.{Nothing}
use Rattle.record.specs.declared.Link.{Link}
use Rattle.record.specs.declared.Link.TheVariants.{AddressAssigned, Connected}
use Rattle.record.specs.declared.Device.{Device}
use Rattle.limits.specs.Limits.{limit_least}
use Rattle.record.specs.Allowed.{limit_of}
use Rattle.record.specs.Changes.{unsaid_at, emptied_as}
use Rattle.poll.specs.Poll.{to_tell}
use Rattle.states.specs.States.{new_session, begun, released}
use Rattle.states.proofs.Renews.{renewed-ends}
use Rattle.conduct.specs.Conduct.{after}
use Rattle.conduct.specs.Endings.{pending_in, Ends, renews, leaves, miscounts, unknown, assigns, ended_by}
use Rattle.conduct.specs.Endings.{Drops, Dropped, Survives}
use Rattle.conduct.specs.Comes.{left}
use Rattle.conduct.specs.Comes as come
use Rattle.conduct.proofs.Comes.{comes-leaves, ends-leaves}

module _ (d : Device) where
  pub emptied-drops : (a n : ℕ) (l : Link) → pending_in l ≡ Nothing → Dropped (emptied_as d a n l)
  unfolding emptied_as unsaid_at moves
  emptied-drops a n l e = record { pending = e; reply = refl; said = refl; owed = unowed-owes d.antenna.motion }

  pub emptied-survives : (a n : ℕ) (l : Link) → Survives d (emptied_as d a n l)
  unfolding emptied_as unsaid_at moves
  emptied-survives a n l =
      record {
        raised = refl;
        told = refl;
        subscribed = refl;
        lowest = refl;
        highest = refl;
        tilt = refl;
        running = unowed-runs d.antenna.motion;
      }

  module _ (f : List ℕ) where
    -- each of them leaves a device with nothing pending and nothing owed
    pub drops-as : Drops d f
        → (a : ℕ) × (n : ℕ) × (l : Link) × (pending_in l ≡ Nothing) × (after d f ≡ emptied_as d a n l)
    unfolding ended_by begun released left
    drops-as (inl (renews s w l)) =
        (d.station.desk.address, limit_least, Connected new_session, refl, ends-leaves d f (renews s w l) ∙ renewed-ends d)
    drops-as (inl (leaves s w l)) =
        (d.station.desk.address, limit_least, AddressAssigned, refl, ends-leaves d f (leaves s w l))
    drops-as (inl (miscounts s o r w l n b)) =
        (d.station.desk.address, limit_least, AddressAssigned, refl, ends-leaves d f (miscounts s o r w l n b))
    drops-as (inl (unknown s w l)) =
        (d.station.desk.address, limit_least, AddressAssigned, refl, ends-leaves d f (unknown s w l))
    drops-as (inl (assigns s a w l)) = (a, limit_least, AddressAssigned, refl, ends-leaves d f (assigns s a w l))
    drops-as (inr (inl w)) =
        (d.station.desk.address, limit_of d, Connected new_session, refl, comes-leaves d f (come.begins w.own w.link))
    drops-as (inr (inr (a, w))) = (a, limit_least, AddressAssigned, refl, comes-leaves d f (come.assigns a w))

    pub drops-drop : Drops d f → Dropped (after d f)
    drops-drop e = let (a, n, l, idle, is) = drops-as e in rw is (emptied-drops a n l idle)

    pub drops-survive : Drops d f → Survives d (after d f)
    drops-survive e = let (a, n, l, idle, is) = drops-as e in rw is (emptied-survives a n l)

    -- what there was to tell is still to be told
    pub drops-tell : Drops d f → to_tell (after d f).station.desk (after d f).antenna.drive ≡ to_tell d.station.desk d.antenna.drive
    unfolding to_tell
    drops-tell e = let k = drops-survive e in rw (k.subscribed, k.raised, k.told)

    -- so the end of a session
    pub ends-drop : Ends d f → Dropped (after d f)
    ends-drop e = drops-drop (inl e)

    pub ends-survive : Ends d f → Survives d (after d f)
    ends-survive e = drops-survive (inl e)

    pub ends-tell : Ends d f → to_tell (after d f).station.desk (after d f).antenna.drive ≡ to_tell d.station.desk d.antenna.drive
    ends-tell e = drops-tell (inl e)
