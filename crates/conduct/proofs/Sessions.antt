-- The session and the address after a frame with a good N(R): S is N(R), R is moved on by an accepted I-frame alone.
-- Assumes nothing.
use mathlib.Core.Path.{◌≡◌, refl, sym, ap, ◌∙◌}
use mathlib.Core.Bool.{Bool, true, false, cond, ◌||◌, or-false}
use mathlib.Core.List.{List}
use Prim.Native.Nat.{ℕ}
use borrow.Author.Tests.{eqb-true}
use lib.Dec.{eqb}
use lib.ListN.{drop}
use Rattle.control.specs.Control.{next_of}
use Rattle.control.specs.declared.Order.TheVariants.{Info, Rr, Rnr}
use Rattle.record.specs.declared.Session.{Session}
use Rattle.record.specs.declared.Link.TheVariants.{Connected}
use Rattle.record.specs.declared.Device.{Device}
use Rattle.record.specs.Allowed.{limit_of}
use Rattle.session.specs.Session.{acknowledges, good_number, accepts, taken}
use Rattle.session.proofs.Numbers.{acknowledges-exactly}
use Rattle.station.specs.Station.{answers_with, awaiting}
use Rattle.poll.specs.Poll.{indicates}
use Rattle.inform.specs.Inform.{heeded}
use Rattle.acknowledge.specs.Acknowledge.{emptied, session_after}
use Rattle.station.specs.declared.Turn.{Turn}
use Rattle.station.specs.Turns.{saying}
use Rattle.acknowledge.specs.Acknowledge.{acknowledged}
use Rattle.record.specs.Changes.{device_of}
use Rattle.inform.specs.Inform.{replied_by}
use Rattle.states.specs.States.{informed_by, polled_by, paused_by}
use Rattle.link.specs.Link.{judged_frame}
use Rattle.link.specs.Frames.{Numbered}
use Rattle.conduct.proofs.Settles.{relieved-link, address_kept, limit-kept, r-kept, info-is, rr-is, rnr-is}
use Rattle.conduct.proofs.Turns.{poll-cases, inform-cases}

-- S after a good N(R) is N(R)
pub relieved-number : (s : Session) (r : ℕ) → good_number s r ≡ true → (session_after s r).s ≡ r
unfolding good_number session_after emptied
relieved-number s r g = go (acknowledges s r) refl g
  where
    go : (b : Bool) → acknowledges s r ≡ b → (eqb r s.s || b) ≡ true → (cond b (emptied s) s).s ≡ r
    go true e h = sym ((acknowledges-exactly s r).0 e).1
    go false e h = sym (eqb-true r s.s (sym (or-false (eqb r s.s)) ∙ h))

-- the turn t leaves a session with these numbers
pub record Counted (t : Turn) (r s : ℕ) : Type 0 where
  pub session : Session
  pub link : t.device.station.link ≡ Connected session
  pub due : session.r ≡ r
  pub number : session.s ≡ s

module _ (d : Device) (s : Session) (r : ℕ) (l : d.station.link ≡ Connected s) where
  kept-counted : (t : Turn) → t.device ≡ acknowledged d s r → Counted t s.r (session_after s r).s
  kept-counted t e =
      record {
        session = session_after s r;
        link = ap (λ (x : Device). x.station.link) e ∙ relieved-link d s r l;
        due = r-kept s r;
        number = refl;
      }

  pause-counted : Counted (paused_by d s r) s.r (session_after s r).s
  unfolding paused_by saying
  pause-counted = kept-counted (paused_by d s r) refl

  poll-counted : Counted (polled_by d s r) s.r (session_after s r).s
  unfolding polled_by saying device_of answers_with indicates awaiting
  poll-counted =
      poll-cases (acknowledged d s r) (session_after s r) (λ (t : Turn). Counted t s.r (session_after s r).s)
      (λ e. kept-counted _ refl)
      (λ b p e. record { session = _; link = refl; due = r-kept s r; number = refl })
      (λ p q e. record { session = _; link = refl; due = r-kept s r; number = refl })
      (λ p q e. kept-counted _ refl)

  module _ (n : ℕ) (m : List ℕ) where
    inform-counted : Counted (informed_by d s n r m) (cond (accepts (session_after s r) n) (next_of s.r) s.r)
        (session_after s r).s
    unfolding informed_by saying replied_by device_of heeded answers_with awaiting taken
    inform-counted =
        inform-cases (acknowledged d s r) (session_after s r)
        (λ (t : Turn).
        Counted t (cond (accepts (session_after s r) n) (next_of s.r) s.r) (session_after s r).s) n m
        (λ a e. record { session = _; link = refl; due = rw (a, r-kept s r); number = refl })
        (λ a q e. record { session = _; link = refl; due = rw (a, r-kept s r); number = refl })
        (λ a. rw a (kept-counted _ refl))

    -- an I-frame leaves the address and the frame limit
    pub inform-keeps : ((informed_by d s n r m).device.station.desk.address ≡ d.station.desk.address)
        × (limit_of (informed_by d s n r m).device ≡ limit_of d)
    unfolding informed_by saying replied_by device_of heeded answers_with
    inform-keeps =
        let kept : ((acknowledged d s r).station.desk.address ≡ d.station.desk.address)
        × (limit_of (acknowledged d s r) ≡ limit_of d) = (address_kept d s r, limit-kept d s r) in
        inform-cases (acknowledged d s r) (session_after s r)
        (λ (t : Turn). (t.device.station.desk.address ≡ d.station.desk.address) × (limit_of t.device ≡ limit_of d)) n m
        (λ a e. kept) (λ a q e. kept) (λ a. kept)

-- the session after a frame that is read in the session s with a good N(R)
module _ (d : Device) (f : List ℕ) (s : Session) where
  pub info-counted : (n r : ℕ) → Numbered d f (Info n r) r s
      → Counted (judged_frame d f) (cond (accepts (session_after s r) n) (next_of s.r) s.r) (session_after s r).s
  info-counted n r w = rw (info-is d f s n r w) (inform-counted d s r w.link n (drop 2 f))

  pub rr-counted : (r : ℕ) → Numbered d f (Rr r) r s → Counted (judged_frame d f) s.r (session_after s r).s
  rr-counted r w = rw (rr-is d f s r w) (poll-counted d s r w.link)

  pub rnr-counted : (r : ℕ) → Numbered d f (Rnr r) r s → Counted (judged_frame d f) s.r (session_after s r).s
  rnr-counted r w = rw (rnr-is d f s r w) (pause-counted d s r w.link)
