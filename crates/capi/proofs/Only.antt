-- Each promise of this crate allows one number and one content of the lent output. Assumes nothing.
use mathlib.Core.Path.{◌≡◌}
use mathlib.Core.List.{List}
use Prim.Native.Nat.{ℕ}
use Rattle.octets.proofs.Only.{only}
use Rattle.refusal.specs.Answer.{Answer}
use Rattle.receiver.specs.Call.{Took}
use Rattle.capi.specs.Crossing.{Crosses, Hears}
use Rattle.octets.proofs.Only.{AsksNothing, Settles, SettlesAll}
use Rattle.capi.proofs.gorittaem_check.Reads as gorittaem-check-reads
use Rattle.capi.proofs.gorittaem_decode.Reads as gorittaem-decode-reads
use Rattle.capi.proofs.gorittaem_decode_n.Reads as gorittaem-decode-n-reads
use Rattle.capi.proofs.gorittaem_receive.Reads as gorittaem-receive-reads
use Rattle.capi.proofs.gorittaem_write.Reads as gorittaem-write-reads
use Rattle.capi.proofs.gorittaem_write_n.Reads as gorittaem-write-n-reads

-- every promise by `Crosses` allows one number and one output
pub crosses-only : {right : Answer (List ℕ)} {o p q : List ℕ} {r s : ℕ}
    → Crosses right o r p → Crosses right o s q → (r ≡ s) × (p ≡ q)
crosses-only a b = (only a.number b.number, only a.octets b.octets)

-- every promise by `Hears` one number, one block, one output and one count
pub hears-only : {right : Answer Took} {b o c d p q : List ℕ} {r s t u v : ℕ}
    → Hears right b o t r c p u → Hears right b o t s d q v → (r ≡ s) × (c ≡ d) × (p ≡ q) × (u ≡ v)
hears-only a b =
    (only a.number b.number, only a.block b.block, only a.octets b.octets, only a.taken b.taken)

pub gorittaem-check-only : Settles gorittaem-check-reads.Learnt
gorittaem-check-only κs a r q s t = only

pub gorittaem-decode-only : SettlesAll gorittaem-decode-reads.Learnt (λ κs s. s.1.0.now)
gorittaem-decode-only κs a r q s t = crosses-only

pub gorittaem-decode-n-only : SettlesAll gorittaem-decode-n-reads.Learnt (λ κs s. s.1.1.0.now)
gorittaem-decode-n-only κs a r q s t = crosses-only

pub gorittaem-write-only : SettlesAll gorittaem-write-reads.Learnt (λ κs s. s.1.1.1.0.now)
gorittaem-write-only κs a r q s t = crosses-only

pub gorittaem-write-n-only : SettlesAll gorittaem-write-n-reads.Learnt (λ κs s. s.1.1.1.1.0.now)
gorittaem-write-n-only κs a r q s t = crosses-only

pub gorittaem-receive-only : SettlesAll {O = List ℕ × List ℕ × ℕ} gorittaem-receive-reads.Learnt
    (λ κs s. (s.0.now, s.1.1.1.0.now, s.1.1.1.1.0.now))
gorittaem-receive-only κs a r q s t x y =
    let z = hears-only x y in (z.0, rw (z.1, z.2, z.3))

pub gorittaem-check-asks : AsksNothing gorittaem-check-reads.Asked
gorittaem-check-asks κs a = tt

pub gorittaem-decode-asks : AsksNothing gorittaem-decode-reads.Asked
gorittaem-decode-asks κs a = tt

pub gorittaem-decode-n-asks : AsksNothing gorittaem-decode-n-reads.Asked
gorittaem-decode-n-asks κs a = tt

pub gorittaem-write-asks : AsksNothing gorittaem-write-reads.Asked
gorittaem-write-asks κs a = tt

pub gorittaem-write-n-asks : AsksNothing gorittaem-write-n-reads.Asked
gorittaem-write-n-asks κs a = tt

pub gorittaem-receive-asks : AsksNothing gorittaem-receive-reads.Asked
gorittaem-receive-asks κs a = tt
