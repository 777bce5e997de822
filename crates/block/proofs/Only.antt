-- The promise of `receive` allows one answer, one content of the lent block and one of the lent output. Assumes nothing.
use Rattle.std.proofs.Common.{Result}
use mathlib.Core.Path.{◌≡◌, ap₂}
use mathlib.Core.List.{List}
use Prim.Native.Nat.{ℕ}
use Rattle.octets.proofs.Only.{only, AsksNothing, SettlesAll}
use Rattle.refusal.specs.Answer.{Answer}
use Rattle.receiver.specs.Call.{Took}
use Rattle.refusal.specs.declared.Refusal.{Refusal}
use Rattle.receiver.specs.declared.Received.{Received}
use Rattle.receiver.proofs.Only.{heard-apart}
use Rattle.block.specs.Block.{Blocks}
use Rattle.block.proofs.receive.Reads as receive-reads

-- every promise by `Blocks` allows one answer, one block and one output
pub blocks-only : {right : Answer Took} {b o c d p q : List ℕ} {r s : Result Received Refusal}
    → Blocks right b o r c p → Blocks right b o s d q → (r ≡ s) × (c ≡ d) × (p ≡ q)
blocks-only {r = r} {s = s} a b = (
  heard-apart r s (only a.answer b.answer) (only a.count b.count),
  only a.block b.block,
  only a.octets b.octets,
)

pub receive-only : SettlesAll {O = List ℕ × List ℕ} receive-reads.Learnt (λ κs s. (s.0.now, s.1.1.1.0.now))
receive-only κs a r q s t x y = let z = blocks-only x y in (z.0, ap₂ (λ (m p : List ℕ). (m, p)) z.1 z.2)

pub receive-asks : AsksNothing receive-reads.Asked
receive-asks κs a = tt
