-- What a good N(R) leaves as it was: the antenna, the address, the subscription and R; the session after it; and what
-- an I-frame, accepted or not, RR or RNR with a good N(R) comes to. Assumes nothing.
use mathlib.Core.Path.{◌≡◌, refl, ap, ◌∙◌}
use mathlib.Core.Bool.{Bool, true, false, cond}
use mathlib.Core.List.{List}
use Prim.Native.Nat.{ℕ}
use native.Mathlib.Omega.{arith}
use lib.ListN.{drop}
use Rattle.octets.proofs.Words.{true-not-false}
use Rattle.control.specs.Control.{next_of}
use Rattle.control.specs.declared.Order.{Order}
use Rattle.control.specs.declared.Order.TheVariants.{Info, Rr, Rnr}
use Rattle.record.specs.declared.Pending.{Pending}
use Rattle.record.specs.declared.Pending.TheVariants.{Nothing, Answer, Indication}
use Rattle.record.specs.declared.Session.{Session}
use Rattle.record.specs.declared.Link.{Link}
use Rattle.record.specs.declared.Link.TheVariants.{AddressAssigned, Connected}
use Rattle.record.specs.declared.Station.{Station}
use Rattle.record.specs.declared.Device.{Device}
use Rattle.record.specs.Allowed.{limit_of}
use Rattle.record.specs.Changes.{unsaid_at, device_of}
use Rattle.session.specs.Session.{pends, acknowledges, taken}
use Rattle.acknowledge.specs.Acknowledge.{emptied, relieved, session_after, station_after}
use Rattle.acknowledge.specs.Acknowledge.{acknowledged}
use Rattle.message.specs.Carried.{carried_of}
use Rattle.inform.specs.Inform.{carried_here, carried_by, inform_of}
use Rattle.states.specs.States.{informed_by, polled_by, paused_by}
use Rattle.states.specs.States.{info_by, rr_by, rnr_by, connected_by, linked_by}
use Rattle.link.specs.Link.{judged_frame}
use Rattle.link.specs.Frames.{control_of, Own, Numbered}
use Rattle.link.proofs.Cases.{own_is}
use Rattle.conduct.specs.Conduct.{Accepted}

-- no number is its own next one
pub next-apart : (n : ℕ) → next_of n ≡ n → ⊥
unfolding next_of
next-apart n e = omega arith

-- a device is in one session at most
pub same-session : {s t : Session} → Connected s ≡ Connected t → s ≡ t
same-session e = cc

pub assigned-apart : {s : Session} → AddressAssigned ≡ Connected s → ⊥
assigned-apart e = let z : ◌≡◌ {A = ℕ} 0 1 = cc in omega arith

-- what is not pending is nothing
pub nothing-pends : (p : Pending) → pends p ≡ false → p ≡ Nothing
nothing-pends Nothing e = refl
nothing-pends Answer e = absurd (true-not-false e)
nothing-pends Indication e = absurd (true-not-false e)

module _ (d : Device) (s : Session) (r : ℕ) where
  -- what an acknowledged answer does not touch
  part-kept : {A : Type 0} (part : Station → A) → part (relieved d.station s) ≡ part d.station
      → part (acknowledged d s r).station ≡ part d.station
  unfolding acknowledged device_of station_after
  part-kept part e = go (acknowledges s r)
    where
      go : (b : Bool) → part (cond b (relieved d.station s) d.station) ≡ part d.station
      go true = e
      go false = refl

  pub address_kept : (acknowledged d s r).station.desk.address ≡ d.station.desk.address
  unfolding relieved
  address_kept = part-kept (λ (t : Station). t.desk.address) refl

  pub limit-kept : limit_of (acknowledged d s r) ≡ limit_of d
  unfolding relieved
  limit-kept = part-kept (λ (t : Station). t.desk.limit) refl

  pub subscribed-kept : (acknowledged d s r).station.desk.subscribed ≡ d.station.desk.subscribed
  unfolding relieved
  subscribed-kept = part-kept (λ (t : Station). t.desk.subscribed) refl

  -- the device is in the session after it
  pub relieved-link : d.station.link ≡ Connected s → (acknowledged d s r).station.link ≡ Connected (session_after s r)
  unfolding acknowledged device_of station_after session_after relieved unsaid_at
  relieved-link l = go (acknowledges s r)
    where
      go : (b : Bool) → (cond b (relieved d.station s) d.station).link ≡ Connected (cond b (emptied s) s)
      go true = refl
      go false = l

  -- a number that acknowledges nothing changes nothing
  pub device-kept : acknowledges s r ≡ false → acknowledged d s r ≡ d
  unfolding acknowledged device_of station_after
  device-kept e = rw e

module _ (d : Device) (s : Session) (r : ℕ) (m : List ℕ) where
  -- so a message is carried out as by d, but for what is told
  pub carried-kept : carried_here (acknowledged d s r) m
      ≡ carried_of d.plate d.antenna (station_after d.station s r).desk.told d.station.desk.subscribed m
  unfolding acknowledged device_of
  carried-kept =
      ap (λ b. carried_of d.plate d.antenna (station_after d.station s r).desk.told b m) (subscribed-kept d s r)

pub r-kept : (s : Session) (r : ℕ) → (session_after s r).r ≡ s.r
unfolding session_after emptied
r-kept s r = go (acknowledges s r)
  where
    go : (b : Bool) → (cond b (emptied s) s).r ≡ s.r
    go true = refl
    go false = refl

-- what a frame that is read in the session s comes to
module _ (d : Device) (f : List ℕ) (s : Session) where
  pub session-is : (o : Order) → Own d f o → d.station.link ≡ Connected s
      → judged_frame d f ≡ connected_by d s o (control_of f) (drop 2 f)
  unfolding linked_by
  session-is o w l =
      own_is d f o w ∙ ap (λ (k : Link). linked_by d k o (control_of f) (drop 2 f)) l

  pub info-is : (n r : ℕ) → Numbered d f (Info n r) r s → judged_frame d f ≡ informed_by d s n r (drop 2 f)
  unfolding connected_by info_by
  info-is n r w = session-is (Info n r) w.own w.link ∙ rw w.good

  pub rr-is : (r : ℕ) → Numbered d f (Rr r) r s → judged_frame d f ≡ polled_by d s r
  unfolding connected_by rr_by
  rr-is r w = session-is (Rr r) w.own w.link ∙ rw w.good

  pub rnr-is : (r : ℕ) → Numbered d f (Rnr r) r s → judged_frame d f ≡ paused_by d s r
  unfolding connected_by rnr_by
  rnr-is r w = session-is (Rnr r) w.own w.link ∙ rw w.good

  pub accepted-is : (n r : ℕ) → Accepted d f s n r
      → judged_frame d f
      ≡ carried_by (acknowledged d s r) (taken (session_after s r)) (carried_here (acknowledged d s r) (drop 2 f))
  unfolding informed_by inform_of
  accepted-is n r w = info-is n r w.numbered ∙ rw w.accepted
