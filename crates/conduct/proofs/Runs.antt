-- Whatever frames and events a fresh device meets, in any order, its record stays allowed: no run from a fresh device
-- meets refusal 6. An event leaves the plate and the station. Assumes nothing.
use mathlib.Core.Path.{◌≡◌, refl, sym, ap, ◌∙◌}
use mathlib.Core.Bool.{true, not}
use mathlib.Core.List.{List, [], ◌∷◌}
use Prim.Native.Nat.{ℕ}
use borrow.Author.Tests.{not-false}
use Rattle.octets.proofs.Words.{true-not-false}
use Rattle.refusal.specs.Answer.{Answer, gives, refuses, ◌when◌, Clear, state_after}
use Rattle.refusal.proofs.Exactly.{exactly-given}
use Rattle.record.specs.declared.Span.{Span}
use Rattle.record.specs.declared.Device.{Device}
use Rattle.record.specs.declared.Event.{Event}
use Rattle.record.specs.Allowed.{allowed_device}
use Rattle.record.specs.Fresh.{data_allowed, plate_from, antenna_from, fresh_from, fresh_of}
use Rattle.record.specs.Changes.{after_event, with_antenna, event_rows, happened}
use Rattle.record.proofs.Stays.{event-stays, fresh-allowed}
use Rattle.record.proofs.Only.{happen-6}
use Rattle.conduct.specs.Conduct.{occurs, occur_all, Meeting, frame, event, meets, run}
use Rattle.conduct.proofs.Stays.{stays-allowed}

-- what an answer leaves is what was there, or what it gives
module _ {S : Type 0} (P : S → Type 0) (s : S) (same : P s) where
  state-cases : (x : Answer S) → ((t : S) → x ≡ gives t → P t) → P (state_after x s)
  unfolding state_after
  state-cases (gives t) given = given t refl
  state-cases (refuses k) given = same

pub event-allowed : (d : Device) (e : Event) → allowed_device d ≡ true → allowed_device (occurs d e) ≡ true
event-allowed d e a =
    state-cases (λ (b : Device). allowed_device b ≡ true) d a (happened d e) (λ b g. event-stays d b e a g)

-- an event changes the antenna alone
pub event-antenna : (d : Device) (e : Event) → occurs d e ≡ with_antenna d (occurs d e).antenna
unfolding happened
event-antenna d e =
    state-cases (λ (b : Device). b ≡ with_antenna d b.antenna) d refl (happened d e)
    (λ b g. rw (← ((exactly-given (event_rows d e) (with_antenna d (after_event d.antenna e)) b).0 g).1))

pub events-antenna : (d : Device) (es : List Event) → occur_all d es ≡ with_antenna d (occur_all d es).antenna
unfolding occur_all
events-antenna d [] = refl
events-antenna d (e ∷ es) =
    events-antenna (occurs d e) es
    ∙ ap (λ (b : Device). with_antenna b (occur_all (occurs d e) es).antenna) (event-antenna d e)

meeting-allowed : (d : Device) (m : Meeting) → allowed_device d ≡ true → allowed_device (meets d m) ≡ true
unfolding meets
meeting-allowed d (frame f) a = stays-allowed d f a
meeting-allowed d (event e) a = event-allowed d e a

pub run-allowed : (d : Device) (ms : List Meeting) → allowed_device d ≡ true → allowed_device (run d ms) ≡ true
unfolding run
run-allowed d [] a = a
run-allowed d (m ∷ ms) a = run-allowed (meets d m) ms (meeting-allowed d m a)

-- from a fresh device
module _ (i p h s : List ℕ) (w : Span) (d : Device) (fresh : fresh_of i p h s w ≡ gives d) where
  pub never-refused : (ms : List Meeting) → allowed_device (run d ms) ≡ true
  unfolding fresh_of Clear
  never-refused ms =
      let told = (exactly-given (6 when not (data_allowed i p h s (antenna_from w)) ∷ [])
      (fresh_from (plate_from i p h s) (antenna_from w)) d).0 fresh in
      run-allowed d ms
      (rw (← told.1) (fresh-allowed i p h s (antenna_from w) (not-false _ told.0.0) refl))

  pub event-never-refused : (ms : List Meeting) (e : Event) → happened (run d ms) e ≡ refuses 6 → ⊥
  event-never-refused ms e q = true-not-false (sym (never-refused ms) ∙ (happen-6 (run d ms) e).0 q)
