-- What ends a session by a frame in it: a bad N(R) or an unknown control, which gets FRMR; DISC. What is not SNRM gets
-- DM where there is no session. Assumes nothing.
use mathlib.Core.Path.{◌≡◌, ◌∙◌}
use mathlib.Core.Bool.{false}
use mathlib.Core.List.{List}
use mathlib.Core.Option.{some}
use Prim.Native.Nat.{ℕ}
use lib.ListN.{drop}
use Rattle.control.specs.declared.Order.{Order}
use Rattle.control.specs.declared.Order.TheVariants.{Disc, Unknown}
use Rattle.record.specs.declared.Session.{Session}
use Rattle.record.specs.declared.Link.TheVariants.{AddressAssigned, Connected}
use Rattle.record.specs.declared.Device.{Device}
use Rattle.session.specs.Session.{good_number}
use Rattle.station.specs.Turns.{saying}
use Rattle.states.specs.States.{released, ua, dm, rejected, info_by, rr_by, rnr_by, connected_by}
use Rattle.states.specs.States.{is_snrm, assigned_by, linked_by}
use Rattle.link.specs.Link.{judged_frame}
use Rattle.link.specs.Frames.{control_of, Own, number_in}
use Rattle.link.proofs.Cases.{own_is, order-cases}
use Rattle.conduct.proofs.Settles.{session-is}

-- "Any other N(R) .. gets FRMR .. 8 for a bad N(R)"
miscounted : (d : Device) (s : Session) (r c : ℕ) (p : List ℕ) → good_number s r ≡ false → (o : Order)
    → number_in o ≡ some r → connected_by d s o c p ≡ rejected d s c 8
unfolding connected_by info_by rr_by rnr_by
miscounted d s r c p b =
    order-cases (λ o. connected_by d s o c p ≡ rejected d s c 8) r (λ n. rw b) (rw b) (rw b)

module _ (d : Device) (f : List ℕ) (s : Session) where
  pub bad-rejected : (o : Order) (r : ℕ) → Own d f o → d.station.link ≡ Connected s → number_in o ≡ some r
      → good_number s r ≡ false → judged_frame d f ≡ rejected d s (control_of f) 8
  bad-rejected o r w l e b = session-is d f s o w l ∙ miscounted d s r (control_of f) (drop 2 f) b o e

  -- "1 for an unknown control"
  pub unknown-rejected : Own d f Unknown → d.station.link ≡ Connected s
      → judged_frame d f ≡ rejected d s (control_of f) 1
  unfolding connected_by
  unknown-rejected w l = session-is d f s Unknown w l

  -- "DISC 0x53 gets UA and AddressAssigned"
  pub disc-releases : Own d f Disc → d.station.link ≡ Connected s → judged_frame d f ≡ saying (released d) ua
  unfolding connected_by
  disc-releases w l = session-is d f s Disc w l

-- "AddressAssigned: .. anything else gets DM 0x1F."
pub other-declined : (d : Device) (f : List ℕ) (o : Order) → Own d f o → is_snrm o ≡ false
    → d.station.link ≡ AddressAssigned → judged_frame d f ≡ saying d dm
unfolding linked_by assigned_by
other-declined d f o w e l = own_is d f o w ∙ rw (l, e)
