-- Each promise of this crate allows one result, and one content of the lent output. Assumes nothing.
use Rattle.std.proofs.Common.{Result, Ok, Err}
use mathlib.Core.Path.{◌≡◌, refl, sym, ap, ◌∙◌}
use mathlib.Core.Bool.{cond}
use mathlib.Core.List.{List}
use Prim.Native.Nat.{ℕ}
use lib.Dec.{eqb}
use Rattle.octets.proofs.Only.{only}
use Rattle.refusal.specs.Numbers.{number_of}
use Rattle.refusal.specs.Answer.{Answer, answer_of, Hands}
use Rattle.refusal.specs.declared.Refusal.{Refusal}
use Rattle.refusal.specs.declared.Refusal.TheVariants.{TooShort, TooLong, WrongCheck, Broken, NoRoom}
use Rattle.refusal.specs.declared.Refusal.TheVariants.{NotAllowed, ScanOver, CannotBe, PayloadTooLong}
use Rattle.refusal.specs.Answer.{outcome_of, made_of, Changes}
use Rattle.refusal.proofs.Answers.{gives-not-refuses, refuses-same, gives_same}
use Rattle.octets.proofs.Only.{AsksNothing, Settles, SettlesAll}
use Rattle.refusal.proofs.number.Reads as number-reads
use Rattle.refusal.proofs.hand_out.Reads as hand-out-reads

-- the refusal of a number; of any other number, the last
named : ℕ → Refusal
named k =
    cond (eqb k 1) TooShort
    (cond (eqb k 2) TooLong
    (cond (eqb k 3) WrongCheck
    (cond (eqb k 4) Broken
    (cond (eqb k 5) NoRoom
    (cond (eqb k 6) NotAllowed (cond (eqb k 7) ScanOver (cond (eqb k 8) CannotBe PayloadTooLong)))))))

named-number : (r : Refusal) → named (number_of r) ≡ r
unfolding named
named-number TooShort = refl
named-number TooLong = refl
named-number WrongCheck = refl
named-number Broken = refl
named-number NoRoom = refl
named-number NotAllowed = refl
named-number ScanOver = refl
named-number CannotBe = refl
named-number PayloadTooLong = refl

-- no two refusals have the same number
pub number-apart : (r q : Refusal) → number_of r ≡ number_of q → r ≡ q
number-apart r q e = sym (named-number r) ∙ ap named e ∙ named-number q

pub answer-apart : (r q : Result ℕ Refusal) → answer_of r ≡ answer_of q → r ≡ q
unfolding answer_of
answer-apart (Ok n) (Ok m) e = ap Ok (gives_same e)
answer-apart (Ok n) (Err k) e = absurd (gives-not-refuses e)
answer-apart (Err k) (Ok n) e = absurd (gives-not-refuses (sym e))
answer-apart (Err k) (Err j) e = ap Err (number-apart k j (refuses-same e))

-- every promise by `Hands` allows one answer and one output
pub hands-only : {right : Answer (List ℕ)} {o p q : List ℕ} {r s : Result ℕ Refusal}
    → Hands right o r p → Hands right o s q → (r ≡ s) × (p ≡ q)
hands-only {r = r} {s = s} a b = (answer-apart r s (only a.answer b.answer), only a.octets b.octets)

pub outcome-apart : (r q : Result (Unit {0}) Refusal) → outcome_of r ≡ outcome_of q → r ≡ q
unfolding outcome_of
outcome-apart (Ok _) (Ok _) e = refl
outcome-apart (Ok _) (Err k) e = absurd (gives-not-refuses e)
outcome-apart (Err k) (Ok _) e = absurd (gives-not-refuses (sym e))
outcome-apart (Err k) (Err j) e = ap Err (number-apart k j (refuses-same e))

-- every promise by `Changes` allows one outcome and one state
pub changes-only : {S : Type 0} {right : Answer S} {s t u : S} {r q : Result (Unit {0}) Refusal}
    → Changes right s r t → Changes right s q u → (r ≡ q) × (t ≡ u)
changes-only {r = r} {q = q} a b = (outcome-apart r q (only a.outcome b.outcome), only a.state b.state)

pub number-only : Settles number-reads.Learnt
number-only κs a r q s t = only

pub hand-out-only : SettlesAll hand-out-reads.Learnt (λ κs s. s.1.0.now)
hand-out-only κs a r q s t = hands-only

pub number-asks : AsksNothing number-reads.Asked
number-asks κs a = tt

pub hand-out-asks : AsksNothing hand-out-reads.Asked
hand-out-asks κs a = tt

-- so does one that hands over what was made
pub made-only : {S : Type 0} {right : Answer S} (r q : Result S Refusal) → made_of r ≡ right → made_of q ≡ right → r ≡ q
unfolding made_of
made-only (Ok s) (Ok t) e f = ap Ok (gives_same (e ∙ sym f))
made-only (Ok s) (Err k) e f = absurd (gives-not-refuses (e ∙ sym f))
made-only (Err k) (Ok s) e f = absurd (gives-not-refuses (f ∙ sym e))
made-only (Err k) (Err j) e f = ap Err (number-apart k j (refuses-same (e ∙ sym f)))
