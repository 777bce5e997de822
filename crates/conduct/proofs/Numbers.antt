-- Where a frame neither begins nor ends a session, R moves on by one exactly if the frame is accepted, S exactly if it
-- acknowledges the pending answer; else they stay. This holds of any record, allowed or not. Assumes nothing.
use mathlib.Core.Path.{◌≡◌, refl, sym, ap, ◌∙◌}
use mathlib.Core.Bool.{Bool, true, false, cond}
use mathlib.Core.List.{List}
use mathlib.Core.Logic.{◌↔◌, ◌⊎◌, inl, inr, ⊎_elim}
use mathlib.Core.Option.{some}
use Prim.Native.Nat.{ℕ}
use Rattle.control.specs.Control.{next_of}
use Rattle.control.specs.declared.Order.{Order}
use Rattle.control.specs.declared.Order.TheVariants.{Snrm, Info, Rr, Rnr}
use Rattle.record.specs.declared.Session.{Session}
use Rattle.record.specs.declared.Link.TheVariants.{Connected}
use Rattle.record.specs.declared.Device.{Device}
use Rattle.record.specs.Changes.{unsaid_at, device_of, emptied_as, limited_to}
use Rattle.session.specs.Session.{acknowledges, accepts}
use Rattle.acknowledge.specs.Acknowledge.{emptied, session_after}
use Rattle.station.specs.declared.Turn.{Turn}
use Rattle.station.specs.Turns.{saying}
use Rattle.states.specs.States.{released, rejected}
use Rattle.link.specs.Link.{judged_frame}
use Rattle.link.specs.Frames.{Own, number_in, Numbered}
use Rattle.link.proofs.Cases.{order-cases, judged-cases}
use Rattle.conduct.specs.Conduct.{after, AnyAccepted, Acknowledging}
use Rattle.conduct.proofs.Settles.{next-apart, same-session, assigned-apart}
use Rattle.conduct.proofs.Sessions.{Counted, info-counted, rr-counted, rnr-counted}

-- S moves on where the number acknowledges, and stays where it does not
number-moved : (s : Session) (r : ℕ) → acknowledges s r ≡ true → (session_after s r).s ≡ next_of s.s
unfolding session_after emptied
number-moved s r e = rw e

number-kept : (s : Session) (r : ℕ) → acknowledges s r ≡ false → (session_after s r).s ≡ s.s
unfolding session_after
number-kept s r e = rw e

-- s is the session before the frame, t the one after it
module _ (d : Device) (f : List ℕ) (s t : Session) (here : d.station.link ≡ Connected s)
    (there : (after d f).station.link ≡ Connected t) where
  numbers-are : {a b : ℕ} → Counted (judged_frame d f) a b → (t.r ≡ a) × (t.s ≡ b)
  numbers-are c =
      let one = same-session (sym there ∙ c.link) in
      (ap (λ (x : Session). x.r) one ∙ c.due, ap (λ (x : Session). x.s) one ∙ c.number)

  accepted-moves : AnyAccepted d f s → t.r ≡ next_of s.r
  accepted-moves (n, r, w) = (numbers-are (rw w.accepted at (info-counted d f s n r w.numbered))).0

  acknowledged-moves : Acknowledging d f s → t.s ≡ next_of s.s
  acknowledged-moves w =
      order-cases (λ o. Numbered d f o w.nr s → t.s ≡ (session_after s w.nr).s) w.nr
      (λ n v. (numbers-are (info-counted d f s n w.nr v)).1) (λ v. (numbers-are (rr-counted d f s w.nr v)).1)
      (λ v. (numbers-are (rnr-counted d f s w.nr v)).1) w.order w.number w.numbered
      ∙ number-moved s w.nr w.behind

  module _ (new : Own d f Snrm → ⊥) where
    -- what can come of the numbers
    abbrev Either : Type 0
    Either = (AnyAccepted d f s ⊎ (t.r ≡ s.r)) × (Acknowledging d f s ⊎ (t.s ≡ s.s))

    abbrev Told : Turn → Type 0
    Told x = x.device.station.link ≡ Connected t → Either

    same-told : d.station.link ≡ Connected t → Either
    same-told l =
        let one = same-session (sym l ∙ here) in
        (inr (ap (λ (x : Session). x.r) one), inr (ap (λ (x : Session). x.s) one))

    -- the S of a frame whose number is r
    s-told : (o : Order) (r : ℕ) → number_in o ≡ some r → Numbered d f o r s → t.s ≡ (session_after s r).s
        → Acknowledging d f s ⊎ (t.s ≡ s.s)
    s-told o r e w q = go (acknowledges s r) refl
      where
        go : (b : Bool) → acknowledges s r ≡ b → Acknowledging d f s ⊎ (t.s ≡ s.s)
        go true a = inl (record { order = o; nr = r; number = e; numbered = w; behind = a })
        go false a = inr (q ∙ number-kept s r a)

    -- in whichever session the frame is read, it is s
    at : {o : Order} {r : ℕ} {k : Session} → Numbered d f o r k → Numbered d f o r s
    at w = rw (same-session (sym w.link ∙ here)) at w

    info-told : (n r : ℕ) → Numbered d f (Info n r) r s → Either
    info-told n r w =
        let numbers = numbers-are (info-counted d f s n r w) in
        (go (accepts (session_after s r) n) refl numbers.0, s-told (Info n r) r refl w numbers.1)
      where
        go : (b : Bool) → accepts (session_after s r) n ≡ b → t.r ≡ cond b (next_of s.r) s.r
            → AnyAccepted d f s ⊎ (t.r ≡ s.r)
        go true a e = inl (n, r, record { numbered = w; accepted = a })
        go false a e = inr e

    rr-told : (r : ℕ) → Numbered d f (Rr r) r s → Either
    rr-told r w =
        let numbers = numbers-are (rr-counted d f s r w) in
        (inr numbers.0, s-told (Rr r) r refl w numbers.1)

    rnr-told : (r : ℕ) → Numbered d f (Rnr r) r s → Either
    rnr-told r w =
        let numbers = numbers-are (rnr-counted d f s r w) in
        (inr numbers.0, s-told (Rnr r) r refl w numbers.1)

    either_way : Either
    unfolding saying released rejected emptied_as unsaid_at limited_to device_of
    either_way =
        judged-cases d f Told (λ u. same-told) (λ w e. same-told) (λ a w e l. absurd (assigned-apart l))
        (λ n a w e. same-told) (λ w e l. absurd (new w)) (λ o w n e. same-told) (λ k w e l. absurd (new w))
        (λ k w e l. absurd (assigned-apart l)) (λ k o r w e n b l. absurd (assigned-apart l))
        (λ k w e l. absurd (assigned-apart l)) (λ k n r w l. info-told n r (at w)) (λ k r w l. rr-told r (at w))
        (λ k r w l. rnr-told r (at w)) there

    pub r-moves-exactly : t.r ≡ next_of s.r ↔ AnyAccepted d f s
    r-moves-exactly = (
      λ e. ⊎_elim (λ a. a) (λ same. absurd (next-apart s.r (sym e ∙ same))) either_way.0,
      accepted-moves,
    )

    pub r-stays-exactly : t.r ≡ s.r ↔ (AnyAccepted d f s → ⊥)
    r-stays-exactly = (
      λ e a. next-apart s.r (sym (accepted-moves a) ∙ e),
      λ not. ⊎_elim (λ a. absurd (not a)) (λ same. same) either_way.0,
    )

    pub s-moves-exactly : t.s ≡ next_of s.s ↔ Acknowledging d f s
    s-moves-exactly = (
      λ e. ⊎_elim (λ a. a) (λ same. absurd (next-apart s.s (sym e ∙ same))) either_way.1,
      acknowledged-moves,
    )

    pub s-stays-exactly : t.s ≡ s.s ↔ (Acknowledging d f s → ⊥)
    s-stays-exactly = (
      λ e a. next-apart s.s (sym (acknowledged-moves a) ∙ e),
      λ not. ⊎_elim (λ a. absurd (not a)) (λ same. same) either_way.1,
    )
