-- Each promise of this crate allows one result, one content of the lent store and one of the lent output. Assumes nothing.
use Rattle.std.proofs.Common.{Option, Some, None, Result, Ok, Err}
use mathlib.Core.Path.{◌≡◌, refl, sym, ap, ap₂}
use mathlib.Core.List.{List}
use Prim.Native.Nat.{ℕ}
use native.Mathlib.Omega.{arith}
use Rattle.octets.proofs.Only.{only, AsksNothing, Settles, SettlesAll}
use Rattle.refusal.specs.Answer.{Answer}
use Rattle.refusal.proofs.Answers.{gives_same, gives-not-refuses, refuses-same}
use Rattle.refusal.proofs.Only.{number-apart, answer-apart}
use Rattle.receiver.specs.Held.{Held, held_of}
use Rattle.receiver.specs.Call.{nothing, handed, Took, handed_of, heard_of, code_took, Receives}
use Rattle.receiver.specs.declared.Received.{Received}
use Rattle.refusal.specs.declared.Refusal.{Refusal}
use Rattle.receiver.proofs.new.Reads as new-reads
use Rattle.receiver.proofs.receive_in.Reads as receive-in-reads
use Rattle.receiver.proofs.receive.Reads as receive-reads

pub nothing-not-handed : {A : Type 0} {a : Answer A} → nothing ≡ handed a → ⊥
nothing-not-handed e = let z : ◌≡◌ {A = ℕ} 0 1 = cc in omega arith

handed-same : {A : Type 0} {a b : Answer A} → handed a ≡ handed b → a ≡ b
handed-same e = cc

pub handed-apart : (p q : Option (Result ℕ Refusal)) → handed_of p ≡ handed_of q → p ≡ q
unfolding handed_of
handed-apart None None e = refl
handed-apart None (Some b) e = absurd (nothing-not-handed e)
handed-apart (Some a) None e = absurd (nothing-not-handed (sym e))
handed-apart (Some a) (Some b) e = ap Some (answer-apart a b (handed-same e))

-- what was heard and how many octets were taken is the whole answer
pub heard-apart : (r q : Result Received Refusal) → heard_of r ≡ heard_of q → code_took r ≡ code_took q → r ≡ q
unfolding heard_of code_took
heard-apart (Ok c) (Ok d) e f =
    ap₂ (λ (k : ℕ) (a : Option (Result ℕ Refusal)). Ok (record { taken = k; handed = a })) f
    (handed-apart c.handed d.handed (gives_same e))
heard-apart (Ok c) (Err j) e f = absurd (gives-not-refuses e)
heard-apart (Err k) (Ok d) e f = absurd (gives-not-refuses (sym e))
heard-apart (Err k) (Err j) e f = ap Err (number-apart k j (refuses-same e))

-- every promise by `Receives` allows one answer, one record and one output
pub receives-only : {right : Answer Took} {h g f : Held} {o p q : List ℕ} {r s : Result Received Refusal}
    → Receives right h o r g p → Receives right h o s f q → (r ≡ s) × (g ≡ f) × (p ≡ q)
receives-only {r = r} {s = s} a b = (
  heard-apart r s (only a.answer b.answer) (only a.count b.count),
  only a.held b.held,
  only a.octets b.octets,
)

pub new-only : Settles new-reads.Learnt
new-only κs a r q s t = only

pub receive-in-only : SettlesAll {O = Held × List ℕ} receive-in-reads.Learnt (λ κs s. (held_of s.0.now s.1.1.1.0.now, s.1.1.1.1.0.now))
receive-in-only κs a r q s t x y = let z = receives-only x y in (z.0, ap₂ (λ (g : Held) (p : List ℕ). (g, p)) z.1 z.2)

pub receive-only : SettlesAll {O = Held × List ℕ} receive-reads.Learnt (λ κs s. (held_of s.0.now s.1.1.1.0.now, s.1.1.1.1.0.now))
receive-only κs a r q s t x y = let z = receives-only x y in (z.0, ap₂ (λ (g : Held) (p : List ℕ). (g, p)) z.1 z.2)

pub new-asks : AsksNothing new-reads.Asked
new-asks κs a = tt

pub receive-in-asks : AsksNothing receive-in-reads.Asked
receive-in-asks κs a = tt

pub receive-asks : AsksNothing receive-reads.Asked
receive-asks κs a = tt
