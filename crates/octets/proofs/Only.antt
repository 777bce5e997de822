-- Each promise of this crate allows one result, and one content of the lent buffer. Assumes nothing.
use mathlib.Core.Path.{◌≡◌, sym, ◌∙◌}
use mathlib.Core.Path.{refl}
use Rattle.std.proofs.Common.{arith, ◌+◌, ◌*◌, ◌<◌, ◌^◌}
use mathlib.Core.List.{not-mem-nil}
use prog.Memory.{up}
use Prim.Native.Nat.{ℕ}
use Rattle.octets.proofs.fewer.Reads as fewer_reads
use Rattle.octets.proofs.find.Reads as find-reads
use Rattle.octets.proofs.pair.Reads as Pair-reads
use Rattle.octets.proofs.part.Reads as part-reads
use Rattle.octets.proofs.put.Reads as put_reads
use Rattle.octets.proofs.put_all.Reads as put-all-reads
use Rattle.octets.proofs.wide.Reads as wide-reads
use Rattle.octets.proofs.Text.of.Reads as of_reads
use Rattle.octets.proofs.Text.octets.Reads as octets_reads

-- what equals the same is equal: every promise that is an equation allows one result
pub only {ℓ} : {A : Type ℓ} {a b right : A} → a ≡ right → b ≡ right → a ≡ b
only p q = p ∙ sym q

-- A promise settles the result: for the same arguments a, any two results r, q that it allows, at any exits s, t, are
-- equal. P is what a caller learns of the promise, as the source states it: the `Learnt` of a function's `Reads`.
abbrev pub Settles : {K : Type 0} {A R S : K → Type 0} → ((κs : K) → A κs → R κs → S κs → Type 0) → Type 0
Settles {K} {A} {R} {S} P = (κs : K) (a : A κs) (r q : R κs) (s t : S κs) → P κs a r s → P κs a q t → r ≡ q

-- and so is what `out` shows of the exits: every octet of the lent output
abbrev pub SettlesAll : {K O : Type 0} {A R S : K → Type 0} → ((κs : K) → A κs → R κs → S κs → Type 0)
    → ((κs : K) → S κs → O) → Type 0
SettlesAll {K} {O} {A} {R} {S} P out =
    (κs : K) (a : A κs) (r q : R κs) (s t : S κs) → P κs a r s → P κs a q t → (r ≡ q) × (out κs s ≡ out κs t)

-- nothing is asked of the caller: the `Asked` of a function's `Reads`
abbrev pub AsksNothing : {K : Type 0} {A : K → Type 0} → ((κs : K) → A κs → Type 0) → Type 0
AsksNothing {K} {A} P = (κs : K) (a : A κs) → P κs a

pub fewer-only : Settles fewer_reads.Learnt
fewer-only κs a r q s t = only

pub find-only : Settles find-reads.Learnt
find-only κs a r q s t = only

pub pair-only : Settles Pair-reads.Learnt
pair-only κs a r q s t = only

pub put_only : SettlesAll put_reads.Learnt (λ κs s. s.0.now)
put_only κs a r q s t x y = (refl, only x y)

pub put-all-only : SettlesAll put-all-reads.Learnt (λ κs s. s.0.now)
put-all-only κs a r q s t x y = (refl, only x y)

pub wide-only : Settles wide-reads.Learnt
wide-only κs a r q s t = only

pub fewer-asks : AsksNothing fewer_reads.Asked
fewer-asks κs a = tt

pub find-asks : AsksNothing find-reads.Asked
find-asks κs a = tt

pub pair-asks : AsksNothing Pair-reads.Asked
pair-asks κs a = tt

pub put-asks : AsksNothing put_reads.Asked
put-asks κs a = tt

pub put-all-asks : AsksNothing put-all-reads.Asked
put-all-asks κs a = tt

pub wide-asks : AsksNothing wide-reads.Asked
wide-asks κs a = tt

-- what the part refers to, and not where it lies
pub part-only : (κs : _) (a : _) (r q : _) (s t : _) → part-reads.Learnt κs a r s → part-reads.Learnt κs a q t
    → r.now ≡ q.now
part-only κs a r q s t = only

pub part-asks : AsksNothing part-reads.Asked
part-asks κs a = tt

-- of texts, whatever their row's length
pub of-only : (n : ℕ) (f : _) → Settles (of_reads.Learnt n f)
of-only n f κs a r q s t = only

pub octets-only : (n : ℕ) (f : _) (κs : _) (a : _) (r q : _) (s t : _)
    → octets_reads.Learnt n f κs a r s → octets_reads.Learnt n f κs a q t → r.now ≡ q.now
octets-only n f κs a r q s t x y = only x.0 y.0

-- a row of so many octets and its length fit into memory
row-fits : (n : ℕ) → n < 2 ^ 62 → up 8 (up 8 (0 + n * 1) + 8) < 2 ^ 63
row-fits n h = omega arith

-- and nothing else is asked of whoever calls them
pub of-asks : (n : ℕ) (f : _) → n < 2 ^ 62 → AsksNothing (of_reads.Asked n f)
of-asks n f h κs a = (λ x m. absurd (not-mem-nil m), row-fits n h)

pub octets-asks : (n : ℕ) (f : _) → n < 2 ^ 62 → AsksNothing (octets_reads.Asked n f)
octets-asks n f h κs a = (λ x m. absurd (not-mem-nil m), row-fits n h)
