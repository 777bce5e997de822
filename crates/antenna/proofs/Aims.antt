-- What a promise by `Aims` is shown from, what its caller learns, and that it allows one result. Assumes nothing.
use mathlib.Core.Path.{◌≡◌, refl, sym, ap, ap₂, ◌∙◌}
use mathlib.Core.Bool.{cond}
use Prim.Native.Nat.{ℕ}
use lib.Dec.{eqb}
use Rattle.std.specs.Prelude.{Result, Ok, Err}
use Rattle.octets.proofs.Only.{only}
use Rattle.refusal.specs.Answer.{Answer, gives, refuses, settled, state_after}
use Rattle.antenna.specs.declared.Angle.{Angle}
use Rattle.antenna.specs.declared.Antenna.{Antenna}
use Rattle.antenna.specs.declared.Unaimed.{Unaimed}
use Rattle.antenna.specs.declared.Unaimed.TheVariants.{Busy, Outside}
use Rattle.antenna.specs.Motions.{aimed_at, aim_number, Aims, started}
use Rattle.antenna.proofs.Movements.{starts}

-- the case of an answer; of any other number, Outside
named : Answer (Unit {0}) → Result (Unit {0}) Unaimed
named (gives u) = Ok tt
named (refuses k) = Err (cond (eqb k 0x05) Busy Outside)

named-number : (a : Result (Unit {0}) Unaimed) → named (aim_number a) ≡ a
unfolding named aim_number
named-number (Err Busy) = refl
named-number (Err Outside) = refl
named-number (Ok u) = refl

-- no two cases have the same number
pub aim-apart : (a b : Result (Unit {0}) Unaimed) → aim_number a ≡ aim_number b → a ≡ b
aim-apart a b e = sym (named-number a) ∙ ap named e ∙ named-number b

-- an answer, by what is settled of it and the state after it
filled : Answer (Unit {0}) → Antenna → Answer Antenna
filled (gives u) m = gives m
filled (refuses k) m = refuses k

filled-back : (x : Answer Antenna) (n : Antenna) → x ≡ filled (settled x) (state_after x n)
unfolding filled settled state_after
filled-back (gives m) n = refl
filled-back (refuses k) n = refl

module _ {x : Answer Antenna} {n : Antenna} where
  -- a number, and the antenna as it was
  pub refused-aims : (why : Unaimed) {k : ℕ} → aim_number (Err why) ≡ refuses k → x ≡ refuses k → Aims x n (Err why) n
  unfolding settled state_after
  refused-aims why q e =
      record { aim = q ∙ sym (ap settled e); antenna = sym (ap (λ (y : Answer Antenna). state_after y n) e) }

  -- or the antenna with its movement
  pub started-aims : {m : Antenna} → x ≡ gives m → Aims x n (Ok tt) m
  unfolding aim_number settled state_after
  started-aims e = record { aim = sym (ap settled e); antenna = sym (ap (λ (y : Answer Antenna). state_after y n) e) }

  pub aims-only : {r q : Result (Unit {0}) Unaimed} {m o : Antenna} → Aims x n r m → Aims x n q o → (r ≡ q) × (m ≡ o)
  aims-only {r} {q} a b = (aim-apart r q (only a.aim b.aim), only a.antenna b.antenna)

  module _ {r : Result (Unit {0}) Unaimed} {m : Antenna} (w : Aims x n r m) where
    -- what is told of the answer by each case
    told : {a : Result (Unit {0}) Unaimed} → r ≡ a → x ≡ filled (aim_number a) m
    told e = filled-back x n ∙ ap₂ filled (sym w.aim ∙ ap aim_number e) (sym w.antenna)

    -- a refusal, by its number
    pub refused-told : {why : Unaimed} {k : ℕ} → r ≡ Err why → aim_number (Err why) ≡ refuses k → x ≡ refuses k
    unfolding filled
    refused-told e q = told e ∙ ap (λ (y : Answer (Unit {0})). filled y m) q

    pub busy-told : r ≡ Err Busy → x ≡ refuses 0x05
    unfolding filled aim_number
    busy-told = told

    pub outside_told : r ≡ Err Outside → x ≡ refuses 0x13
    unfolding filled aim_number
    outside_told = told

    pub started-told : {u : Unit {0}} → r ≡ Ok u → x ≡ gives m
    unfolding filled aim_number
    started-told = told

-- the antenna after each case
pub aims-started : (n : Antenna) (t : Angle) (r : Result (Unit {0}) Unaimed) (m : Antenna)
    → Aims (aimed_at n t) n r m → m ≡ started n t r
unfolding started state_after
aims-started n t r m w = go r refl
  where
    kept : {y : Answer Antenna} → aimed_at n t ≡ y → m ≡ state_after y n
    kept e = w.antenna ∙ ap (λ (z : Answer Antenna). state_after z n) e

    go : (a : Result (Unit {0}) Unaimed) → r ≡ a → m ≡ started n t a
    go (Err Busy) e = kept (busy-told w e)
    go (Err Outside) e = kept (outside_told w e)
    go (Ok u) e = sym ((starts n t m).0 (started-told w e)).2
