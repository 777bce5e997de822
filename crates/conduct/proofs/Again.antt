-- An accepted I-frame that comes again with no other frame between, whatever events come between, isn't carried out:
-- it starts nothing, changes nothing and gets the pending answer, else RR. This holds of any record, allowed or not.
-- Assumes nothing.
use mathlib.Core.Path.{◌≡◌, refl, sym, ap, ◌∙◌}
use mathlib.Core.Bool.{Bool, true, false, not, ◌&&◌, and-false}
use mathlib.Core.List.{List}
use Prim.Native.Nat.{ℕ}
use borrow.Author.Tests.{eq-eqb, ne_eqb}
use lib.ListN.{drop}
use Rattle.control.specs.Control.{next_of}
use Rattle.control.specs.declared.Order.TheVariants.{Info}
use Rattle.antenna.specs.declared.Antenna.{Antenna}
use Rattle.antenna.specs.Motions.{runs}
use Rattle.record.specs.declared.Session.{Session}
use Rattle.record.specs.declared.Link.TheVariants.{Connected}
use Rattle.record.specs.declared.Device.{Device}
use Rattle.record.specs.Allowed.{limit_of}
use Rattle.record.specs.declared.Event.{Event}
use Rattle.record.specs.Changes.{with_antenna}
use Rattle.session.specs.Session.{pends, acknowledges, good_number, accepts}
use Rattle.session.proofs.Numbers.{accepts-exactly}
use Rattle.station.specs.Station.{resent}
use Rattle.acknowledge.specs.Acknowledge.{session_after}
use Rattle.acknowledge.proofs.Settled.{session-kept}
use Rattle.station.specs.declared.Turn.{Turn}
use Rattle.station.specs.Turns.{saying}
use Rattle.inform.specs.Inform.{inform_of}
use Rattle.states.specs.States.{informed_by}
use Rattle.link.specs.Link.{is_own, judged_frame}
use Rattle.link.specs.Frames.{Own}
use Rattle.conduct.specs.Conduct.{after, starts, Accepted, occur_all}
use Rattle.conduct.proofs.Settles.{next-apart, same-session, device-kept, r-kept, info-is}
use Rattle.conduct.proofs.Sessions.{Counted, relieved-number, info-counted, inform-keeps}
use Rattle.conduct.proofs.Runs.{events-antenna}
use Rattle.conduct.proofs.Due.{starts-exactly}

-- a frame read at the own address is read so by every device of that address and that frame limit
own_at : (d e : Device) (f : List ℕ) (n r : ℕ) → e.station.desk.address ≡ d.station.desk.address
    → limit_of e ≡ limit_of d → Own d f (Info n r) → Own e f (Info n r)
unfolding is_own
own_at d e f n r a l w =
    record {
      least = w.least;
      most = rw l w.most;
      poll = w.poll;
      all = w.all;
      own = rw a w.own;
      order = w.order;
      read = w.read;
    }

-- a session that has already taken this frame
module _ (s : Session) (n r : ℕ) (number : s.s ≡ r) (due : s.r ≡ next_of n) where
  again-good : good_number s r ≡ true
  unfolding good_number
  again-good = rw (eq-eqb r s.s (sym number))

  again-acknowledges : acknowledges s r ≡ false
  unfolding acknowledges
  again-acknowledges =
      rw (ne_eqb r (next_of s.s) (λ e. next-apart s.s (sym e ∙ sym number))) (and-false (pends s.pending))

  again-accepts : accepts s n ≡ false
  unfolding accepts
  again-accepts =
      rw (ne_eqb n s.r (λ e. next-apart n (sym due ∙ sym e))) (and-false (not (pends s.pending)))

module _ (d : Device) (f : List ℕ) (s : Session) (n r : ℕ) (w : Accepted d f s n r) where
  -- there is a session after the first
  pub accepted-counted : Counted (judged_frame d f) (next_of s.r) (session_after s r).s
  accepted-counted = rw w.accepted at (info-counted d f s n r w.numbered)

  module _ (t : Session) (there : (after d f).station.link ≡ Connected t) where
    -- by any device in that session and at that address
    judged-again : (e : Device) → e.station ≡ (after d f).station → judged_frame e f ≡ saying e (resent t)
    unfolding informed_by inform_of
    judged-again e same =
        let counted = accepted-counted in
        let one = same-session (sym counted.link ∙ there) in
        let number : t.s ≡ r = ap (λ (x : Session). x.s) (sym one) ∙ counted.number
        ∙ relieved-number s r w.numbered.good in
        let sent : n ≡ s.r = ((accepts-exactly (session_after s r) n).0 w.accepted).1 ∙ r-kept s r in
        let due : t.r ≡ next_of n = ap (λ (x : Session). x.r) (sym one) ∙ counted.due ∙ ap next_of (sym sent) in
        let none = again-acknowledges t n r number due in
        let turn = info-is d f s n r w.numbered in
        let keeps = inform-keeps d s r w.numbered.link n (drop 2 f) in
        let address = ap (λ (x : Turn). x.device.station.desk.address) turn ∙ keeps.0 in
        let limit = ap (λ (x : Turn). limit_of x.device) turn ∙ keeps.1 in
        info-is e f t n r
        (record {
          own = own_at d e f n r (ap (λ x. x.desk.address) same ∙ address) (ap (λ x. x.desk.limit) same ∙ limit)
              w.numbered.own;
          link = ap (λ x. x.link) same ∙ there;
          good = again-good t n r number due;
        })
        ∙ rw (device-kept e t r none, session-kept e.station t r none, again-accepts t n r number due)

    -- with any other antenna
    pub accepted-again : (a : Antenna)
        → judged_frame (with_antenna (after d f) a) f ≡ saying (with_antenna (after d f) a) (resent t)
    accepted-again a = judged-again (with_antenna (after d f) a) refl

    -- after any events
    pub accepted-again-after : (es : List Event)
        → judged_frame (occur_all (after d f) es) f ≡ saying (occur_all (after d f) es) (resent t)
    accepted-again-after es =
        judged-again (occur_all (after d f) es) (ap (λ (x : Device). x.station) (events-antenna (after d f) es))

-- a turn that changes nothing starts nothing
nothing-starts : (e : Device) (f : List ℕ) → after e f ≡ e → starts e f ≡ false
unfolding starts
nothing-starts e f same =
    ap (λ (x : Device). not (runs e.antenna.motion) && runs x.antenna.motion) same
    ∙ go (runs e.antenna.motion)
  where
    go : (b : Bool) → not b && b ≡ false
    go true = refl
    go false = refl

module _ (d : Device) (f : List ℕ) (s : Session) (n r : ℕ) (w : Accepted d f s n r) where
  pub never-starts-again-after : (es : List Event) → starts (occur_all (after d f) es) f ≡ false
  unfolding saying
  never-starts-again-after es =
      let counted = accepted-counted d f s n r w in
      nothing-starts (occur_all (after d f) es) f
      (ap (λ (x : Turn). x.device) (accepted-again-after d f s n r w counted.session counted.link es))

-- a frame that starts a movement does not start one again
pub starts-once : (d : Device) (f : List ℕ) (es : List Event) → starts d f ≡ true
    → starts (occur_all (after d f) es) f ≡ false
starts-once d f es e =
    let w = (starts-exactly d f).0 e in
    never-starts-again-after d f w.session w.ns w.nr w.frame es
