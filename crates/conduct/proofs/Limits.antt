-- The frame limit of a link over its frames: what a negotiation comes to, that it changes the limit and nothing else, and
-- all that changes it; over a run in which no length is asked of the device it stays 78, and what is said with N is said with
-- 78. This holds of any record, allowed or not. Assumes nothing.
use mathlib.Core.Path.{◌≡◌, refl, ap, ◌∙◌}
use mathlib.Core.Bool.{false}
use mathlib.Core.List.{List, [], ◌∷◌}
use mathlib.Core.Logic.{◌⊎◌, inl, inr, ⊎_elim}
use mathlib.Core.Option.{Option, none, some}
use Prim.Native.Nat.{ℕ}
use lib.ListN.{get_or, drop}
use Rattle.control.specs.Control.{xid_control}
use Rattle.control.specs.declared.Order.{Order}
use Rattle.record.specs.declared.Link.TheVariants.{AddressAssigned}
use Rattle.record.specs.declared.Device.{Device}
use Rattle.record.specs.declared.Event.{Event}
use Rattle.record.specs.Allowed.{limit_of}
use Rattle.record.specs.Changes.{unsaid_at, device_of, emptied_as, limited_to}
use Rattle.params.specs.Field.{Param, WellFormed, value_for}
use Rattle.negotiation.specs.Negotiation.{negotiating, agreed_limit, asked_in}
use Rattle.negotiation.proofs.Exactly.{limit-kept}
use Rattle.station.specs.declared.Say.{Say}
use Rattle.station.specs.Turns.{saying, mute}
use Rattle.states.specs.States.{begun, is_snrm}
use Rattle.link.specs.Link.{all_stations, judged_frame}
use Rattle.link.specs.Frames.{control_of, Own, OwnXid, unagreed}
use Rattle.link.proofs.Cases.{unread-silent}
use Rattle.conduct.specs.Conduct.{after, occurs, Meeting, frame, event, meets, run}
use Rattle.conduct.specs.Endings.{Assigns, Begins, Ends}
use Rattle.conduct.specs.Comes.{Comes, left, says}
use Rattle.conduct.proofs.Comes.{comes-so, comes-leaves}
use Rattle.conduct.proofs.Account.{limit-cases, account}
use Rattle.conduct.proofs.Runs.{event-antenna}

-- the device d but for its frame limit
pub record ButLimit (d e : Device) : Type 0 where
  pub plate : e.plate ≡ d.plate
  pub antenna : e.antenna ≡ d.antenna
  pub link : e.station.link ≡ d.station.link
  pub address : e.station.desk.address ≡ d.station.desk.address
  pub subscribed : e.station.desk.subscribed ≡ d.station.desk.subscribed
  pub told : e.station.desk.told ≡ d.station.desk.told
  pub said : e.station.desk.said ≡ d.station.desk.said
  pub reply : e.station.desk.reply ≡ d.station.desk.reply

but-limit : (d : Device) (n : ℕ) → ButLimit d (limited_to d n)
unfolding limited_to device_of
but-limit d n =
    record {
      plate = refl;
      antenna = refl;
      link = refl;
      address = refl;
      subscribed = refl;
      told = refl;
      said = refl;
      reply = refl;
    }

-- a length is given: 5, or 6
abbrev pub Lengthy : List Param → Type 0
Lengthy ps = ((v : List ℕ) × (value_for 5 ps ≡ some v)) ⊎ ((v : List ℕ) × (value_for 6 ps ≡ some v))

lengthy-or-not : (ps : List Param) → Lengthy ps ⊎ ((value_for 5 ps ≡ none) × (value_for 6 ps ≡ none))
lengthy-or-not ps = go (value_for 5 ps) (value_for 6 ps) refl refl
  where
    go : (x y : Option (List ℕ)) → value_for 5 ps ≡ x → value_for 6 ps ≡ y
        → Lengthy ps ⊎ ((value_for 5 ps ≡ none) × (value_for 6 ps ≡ none))
    go (some v) y p q = inl (inl (v, p))
    go none (some v) p q = inl (inr (v, q))
    go none none p q = inr (p, q)

module _ (d : Device) (f : List ℕ) where
  -- a negotiation is answered by what it asked, with the limit that is agreed on
  module _ (ps : List Param) (w : OwnXid d f) (m : WellFormed negotiating (drop 2 f) ps) where
    pub negotiation-comes : judged_frame d f
        ≡ saying (limited_to d (agreed_limit (limit_of d) ps)) (Say.Negotiated (asked_in ps))
    unfolding left says
    negotiation-comes = comes-so d f (Comes.negotiates ps w m)

    -- "session numbers, the pending answer and all else stay"
    pub negotiation-alone : ButLimit d (after d f)
    unfolding left
    negotiation-alone =
        rw (comes-leaves d f (Comes.negotiates ps w m)) (but-limit d (agreed_limit (limit_of d) ps))

  -- "'own address, XID: silence' now holds for other groups and malformed ones"
  pub malformed-silent : (get_or f 0 0 ≡ all_stations → ⊥) → control_of f ≡ xid_control
      → ((ps : List Param) → WellFormed negotiating (drop 2 f) ps → ⊥) → judged_frame d f ≡ mute d
  malformed-silent a c n = unread-silent d f (unagreed a c n)

  -- an SNRM in AddressAssigned ends nothing and keeps the limit, and so does whatever gets DM there
  pub first-keeps : Begins d f → limit_of (after d f) ≡ limit_of d
  unfolding left begun emptied_as unsaid_at
  first-keeps w = ap limit_of (comes-leaves d f (Comes.begins w.own w.link))

  pub declined-keeps : (o : Order) → Own d f o → is_snrm o ≡ false → d.station.link ≡ AddressAssigned → after d f ≡ d
  unfolding left
  declined-keeps o w n l = comes-leaves d f (Comes.declines o w n l)

  -- the limit changes by an assignment, a session's end, or a negotiation that gives a length, and by nothing else
  pub limit-changes : (limit_of (after d f) ≡ limit_of d → ⊥)
      → ((a : ℕ) × Assigns d f a)
      ⊎ (Ends d f ⊎ ((ps : List Param) × OwnXid d f × WellFormed negotiating (drop 2 f) ps × Lengthy ps))
  unfolding left limited_to device_of
  limit-changes new =
      ⊎_elim
      (⊎_elim inl
      (⊎_elim (λ e. inr (inl e))
      (λ (ps, w, m).
      ⊎_elim (λ long. inr (inr (ps, w, m, long)))
      (λ (p, q).
      absurd (new (ap limit_of (comes-leaves d f (Comes.negotiates ps w m)) ∙ limit-kept (limit_of d) ps p q)))
      (lengthy-or-not ps))))
      (λ same. absurd (new same))
      (limit-cases d f)

-- no event changes it
pub limit-happens : (d : Device) (e : Event) → limit_of (occurs d e) ≡ limit_of d
limit-happens d e = ap limit_of (event-antenna d e)

-- ---- over a run

-- the frame f is no negotiation that asks a length of the device d; another device may be asked
abbrev pub Unasked : Device → List ℕ → Type 0
Unasked d f = OwnXid d f → (ps : List Param) → WellFormed negotiating (drop 2 f) ps → Lengthy ps → ⊥

-- nor is any of a run, to the device as each finds it
unfoldable pub NoneAsks : Device → List Meeting → Type 0
NoneAsks d [] = Unit {0}
NoneAsks d (frame f ∷ ms) = Unasked d f × NoneAsks (after d f) ms
NoneAsks d (event e ∷ ms) = NoneAsks (occurs d e) ms

-- 78 stays 78 over such a frame
least-frame : (d : Device) (f : List ℕ) → Unasked d f → limit_of d ≡ 78 → limit_of (after d f) ≡ 78
least-frame d f unasked is =
    ⊎_elim
    (⊎_elim (λ (a, w). (account d f).limit-assigned a w)
    (⊎_elim (account d f).limit-ended
    (λ (ps, w, m).
    ⊎_elim (λ long. absurd (unasked w ps m long))
    (λ (p, q). (account d f).limit-agreed ps w m ∙ limit-kept (limit_of d) ps p q ∙ is)
    (lengthy-or-not ps))))
    (λ same. same ∙ is)
    (limit-cases d f)

-- where no length is asked of it, the limit is 78 throughout
pub unasked-least : (d : Device) (ms : List Meeting) → NoneAsks d ms → limit_of d ≡ 78 → limit_of (run d ms) ≡ 78
unfolding run meets NoneAsks
unasked-least d [] u is = is
unasked-least d (frame f ∷ ms) (unasked, more) is =
    unasked-least (after d f) ms more (least-frame d f unasked is)
unasked-least d (event e ∷ ms) more is = unasked-least (occurs d e) ms more (limit-happens d e ∙ is)
