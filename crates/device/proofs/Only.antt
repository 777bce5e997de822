-- The promise of judging and of hearing allows one result, one device after it and one content of the answer buffer.
-- Assumes nothing.
use Rattle.std.proofs.Common.{Ok, Err, Some, None}
use mathlib.Core.Path.{◌≡◌, refl, sym, ap, ap₂}
use mathlib.Core.List.{List}
use mathlib.Core.Option.{none, some}
use Prim.Native.Nat.{ℕ}
use native.Mathlib.Omega.{arith}
use Rattle.octets.proofs.Only.{only}
use Rattle.refusal.specs.Answer.{Answer}
use Rattle.refusal.proofs.Answers.{gives-not-refuses, refuses-same, gives_same}
use Rattle.refusal.proofs.Only.{number-apart}
use Rattle.record.specs.declared.Device.{Device}
use Rattle.device.specs.Judge.{Reaction, Said, said_of, Judges}
use Rattle.octets.proofs.Only.{AsksNothing, SettlesAll}
use Rattle.device.proofs.judge.Reads as judge-reads
use Rattle.device.proofs.hear.Reads as hear-reads

pub none-not-some : {A : Type 0} {a : A} → none ≡ some a → ⊥
none-not-some e = let z : ◌≡◌ {A = ℕ} 0 1 = cc in omega arith

pub some_same : {A : Type 0} {a b : A} → some a ≡ some b → a ≡ b
some_same e = cc

-- silence, each number of octets and each number for "no" are told apart
pub said-apart : (r q : Said) → said_of r ≡ said_of q → r ≡ q
unfolding said_of
said-apart (Ok None) (Ok None) e = refl
said-apart (Ok None) (Ok (Some n)) e = absurd (none-not-some (gives_same e))
said-apart (Ok None) (Err k) e = absurd (gives-not-refuses e)
said-apart (Ok (Some n)) (Ok None) e = absurd (none-not-some (sym (gives_same e)))
said-apart (Ok (Some n)) (Ok (Some m)) e = ap (λ (i : ℕ). Ok (Some i)) (some_same (gives_same e))
said-apart (Ok (Some n)) (Err k) e = absurd (gives-not-refuses e)
said-apart (Err k) (Ok None) e = absurd (gives-not-refuses (sym e))
said-apart (Err k) (Ok (Some n)) e = absurd (gives-not-refuses (sym e))
said-apart (Err k) (Err j) e = ap Err (number-apart k j (refuses-same e))

-- every promise by `Judges` allows one result, one device and one buffer
pub judges-only : {x : Answer Reaction} {d a b : Device} {o p q : List ℕ} {r s : Said}
    → Judges x d o r a p → Judges x d o s b q → (r ≡ s) × ((a ≡ b) × (p ≡ q))
judges-only {r = r} {s = s} a b = (
  said-apart r s (only a.said b.said),
  (only a.device b.device, only a.buffer b.buffer),
)

pub judge-only : SettlesAll {O = Device × List ℕ} judge-reads.Learnt (λ κs s. (s.0.now, s.1.1.0.now))
judge-only κs a r q s t x y =
    let e = judges-only x y in (e.0, ap₂ (λ (d : Device) (o : List ℕ). (d, o)) e.1.0 e.1.1)

pub hear-only : SettlesAll {O = Device × List ℕ} hear-reads.Learnt (λ κs s. (s.0.now, s.1.1.0.now))
hear-only κs a r q s t x y =
    let e = judges-only x y in (e.0, ap₂ (λ (d : Device) (o : List ℕ). (d, o)) e.1.0 e.1.1)

pub judge-asks : AsksNothing judge-reads.Asked
judge-asks κs a = tt

pub hear-asks : AsksNothing hear-reads.Asked
hear-asks κs a = tt
