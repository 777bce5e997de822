-- What comes of a message, by what its checks say. Assumes nothing.
use mathlib.Core.Path.{◌≡◌, refl, sym, ap, ◌∙◌}
use mathlib.Core.Bool.{Bool, true, false}
use mathlib.Core.List.{List, [], ◌∷◌, ◌++◌}
use Prim.Native.Nat.{ℕ, ◌<◌}
use borrow.Author.Tests.{lt-ltb}
use lib.ListN.{length}
use Rattle.std.specs.Prelude.{Result, Ok, Err, IsErrAnd}
use Rattle.refusal.specs.Answer.{Answer, gives, refuses, TestRow, ◌when◌, answered}
use Rattle.refusal.proofs.Answers.{gives-not-refuses, refuses-same}
use Rattle.refusal.proofs.Exactly.{exactly}
use Rattle.antenna.specs.declared.Alarms.{Alarms}
use Rattle.antenna.specs.declared.Angle.{Angle}
use Rattle.antenna.specs.declared.Antenna.{Antenna}
use Rattle.antenna.specs.declared.Unaimed.{Unaimed}
use Rattle.antenna.specs.Motions.{aimed_at, aim_number, Aims, started}
use Rattle.antenna.proofs.Aims.{refused-told, started-told}
use Rattle.antenna.proofs.Movements.{starts}
use Rattle.record.specs.declared.Plate.{Plate}
use Rattle.message.specs.declared.Procedure.{Procedure}
use Rattle.message.specs.declared.ReturnCode.{ReturnCode}
use Rattle.message.specs.declared.Carried.{Carried}
use Rattle.message.specs.Messages.{code_of, asked_of, own_checks, drive_checks, checks, check_number, code_for, code_number}
use Rattle.message.specs.Carried.{unanswered, carried_answer, done_by, carried_of}

-- rows before others: where none of them holds the others decide, and where one does its number is given
module _ {A : Type 0} (more : List TestRow) (a : A) where
  passed_on : (rows : List TestRow) → answered {A = Unit {0}} rows tt ≡ gives tt
      → answered (rows ++ more) a ≡ answered more a
  unfolding answered
  passed_on [] e = refl
  passed_on (k when true ∷ rows) e = absurd (gives-not-refuses (sym e))
  passed_on (k when false ∷ rows) e = passed_on rows e

  failed-on : (rows : List TestRow) {why : ℕ} → answered {A = Unit {0}} rows tt ≡ refuses why
      → answered (rows ++ more) a ≡ refuses why
  unfolding answered
  failed-on [] e = absurd (gives-not-refuses e)
  failed-on (k when true ∷ rows) e = ap refuses (refuses-same e)
  failed-on (k when false ∷ rows) e = failed-on rows e

-- set tilt: what becomes of the aim is what the two checks of the drive say
module _ (n : Antenna) (told : Alarms) (sub : Bool) (p : Plate) (t : Angle) where
  pub set-refused : {why : ℕ} → aimed_at n t ≡ refuses why
      → answered (drive_checks n 0x33 t) (done_by p n told sub 0x33 t) ≡ refuses why
  unfolding drive_checks done_by aimed_at
  set-refused {why} e = (exactly why _ _).1 ((exactly why _ _).0 e)

  pub set-started : {x : Antenna} → aimed_at n t ≡ gives x
      → answered (drive_checks n 0x33 t) (done_by p n told sub 0x33 t) ≡ gives (unanswered x told sub)
  unfolding drive_checks done_by answered started
  set-started {x} e = let (idle, reach, is) = (starts n t x).0 e in rw (idle, reach, is)

  -- in the words of the code: a refusal is told by its return code, and a movement that starts has none
  pub refused-is : {why : Unaimed} {x : Antenna} (r : Result Carried ReturnCode) → Aims (aimed_at n t) n (Err why) x
      → IsErrAnd r (λ e. aim_number (Err why) ≡ refuses (code_number e))
      → carried_answer r ≡ answered (drive_checks n 0x33 t) (done_by p n told sub 0x33 t)
  unfolding carried_answer
  refused-is (Ok d) a w = absurd w
  refused-is (Err e) a w = sym (set-refused (refused-told a refl w))

  pub started-is : {u : Unit {0}} {x : Antenna} {d : Carried} → Aims (aimed_at n t) n (Ok u) x → d ≡ unanswered x told sub
      → carried_answer (Ok d) ≡ answered (drive_checks n 0x33 t) (done_by p n told sub 0x33 t)
  unfolding carried_answer
  started-is a e = ap gives e ∙ sym (set-started (started-told a refl))

-- a message's own checks, by what the code says of them, and then the drive's
module _ (n : Antenna) (told : Alarms) (sub : Bool) (p : Plate) (m : List ℕ) where
  pub attempt-failed : (why : ReturnCode) (r : Result Carried ReturnCode)
      → check_number (Err why) ≡ answered (own_checks m) tt → IsErrAnd r (λ e. e ≡ why)
      → carried_answer r ≡ answered (checks n m) (done_by p n told sub (code_of m) (asked_of m))
  unfolding checks check_number carried_answer
  attempt-failed why (Ok d) own w = absurd w
  attempt-failed why (Err e) own w = rw w (sym (failed-on _ _ (own_checks m) (sym own)))

  pub attempt-passed : (q : Procedure) {t : Angle} {x : Answer Carried} → check_number (Ok q) ≡ answered (own_checks m) tt
      → code_for q ≡ code_of m → t ≡ asked_of m
      → x ≡ answered (drive_checks n (code_for q) t) (done_by p n told sub (code_for q) t)
      → x ≡ answered (checks n m) (done_by p n told sub (code_of m) (asked_of m))
  unfolding checks check_number
  attempt-passed q own e a h = h ∙ rw (e, a) (sym (passed_on _ _ (own_checks m) (sym own)))

pub carried_none : (n : Antenna) (told : Alarms) (sub : Bool) (p : Plate) (m : List ℕ) → length m < 3
    → carried_of p n told sub m ≡ unanswered n told sub
unfolding carried_of
carried_none n told sub p m h = rw (lt-ltb (length m) 3 h)
