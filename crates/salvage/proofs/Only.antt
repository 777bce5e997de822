-- Each promise of this crate allows one result, one content of the two lent stores and one of the lent output. Assumes nothing.
use Rattle.std.proofs.Common.{Option, Some, None, Result, Ok, Err, ◌≡◌, ℕ, List, sym, refl, ap, ap₂, arith}
use Rattle.octets.proofs.Only.{only, AsksNothing, Settles, SettlesAll}
use Rattle.refusal.specs.Answer.{Answer}
use Rattle.refusal.specs.declared.Refusal.{Refusal}
use Rattle.refusal.proofs.Answers.{gives_same, gives-not-refuses, refuses-same}
use Rattle.refusal.proofs.Only.{number-apart}
use Rattle.salvage.specs.Holding.{Holding, holding_of}
use Rattle.salvage.specs.Work.{no_stretch, a_stretch, Progress, AtEnd, dropping_of, listing_of, taken_of, written_of, ending_of, Salvages, Finishes}
use Rattle.salvage.specs.declared.Salvage.{Salvage}
use Rattle.salvage.specs.declared.Stretch.{Stretch}
use Rattle.salvage.specs.declared.Salvaged.{Salvaged}
use Rattle.salvage.proofs.new.Reads as new-reads
use Rattle.salvage.proofs.read.Reads as read-reads
use Rattle.salvage.proofs.finish.Reads as finish-reads

pub none-not-one : {s : Stretch} → no_stretch ≡ a_stretch s → ⊥
none-not-one e = let z : ◌≡◌ {A = ℕ} 0 1 = cc in omega arith

stretch-same : {s t : Stretch} → a_stretch s ≡ a_stretch t → s ≡ t
stretch-same e = cc

pub dropping-apart : (p q : Option Stretch) → dropping_of p ≡ dropping_of q → p ≡ q
unfolding dropping_of
dropping-apart None None e = refl
dropping-apart None (Some t) e = absurd (none-not-one e)
dropping-apart (Some s) None e = absurd (none-not-one (sym e))
dropping-apart (Some s) (Some t) e = ap Some (stretch-same e)

made : {k j a b : ℕ} {l m : Option Stretch} → k ≡ j → a ≡ b → l ≡ m
    → ◌≡◌ {A = Salvaged} (record { taken = k; written = a; left_out = l }) (record { taken = j; written = b; left_out = m })
made e f g = rw (e, f, g)

-- what is told, taken and written is the whole answer
pub listing-apart : (r q : Result Salvaged Refusal) → listing_of r ≡ listing_of q → taken_of r ≡ taken_of q
    → written_of r ≡ written_of q → r ≡ q
unfolding listing_of taken_of written_of
listing-apart (Ok r) (Ok q) e f g = ap Ok (made f g (dropping-apart r.left_out q.left_out (gives_same e)))
listing-apart (Ok r) (Err j) e f g = absurd (gives-not-refuses e)
listing-apart (Err k) (Ok q) e f g = absurd (gives-not-refuses (sym e))
listing-apart (Err k) (Err j) e f g = ap Err (number-apart k j (refuses-same e))

pub ending-apart : (r q : Result (Option Stretch) Refusal) → ending_of r ≡ ending_of q → r ≡ q
unfolding ending_of
ending-apart (Ok r) (Ok q) e = ap Ok (dropping-apart r q (gives_same e))
ending-apart (Ok r) (Err j) e = absurd (gives-not-refuses e)
ending-apart (Err k) (Ok q) e = absurd (gives-not-refuses (sym e))
ending-apart (Err k) (Err j) e = ap Err (number-apart k j (refuses-same e))

pub salvages-only : {right : Answer Progress} {c d e : Holding} {o p q : List ℕ} {r s : Result Salvaged Refusal}
    → Salvages right c o r d p → Salvages right c o s e q → (r ≡ s) × (d ≡ e) × (p ≡ q)
salvages-only {r = r} {s = s} a b = (
  listing-apart r s (only a.answer b.answer) (only a.count b.count) (only a.written b.written),
  only a.holding b.holding,
  only a.octets b.octets,
)

pub finishes-only : {right : Answer AtEnd} {v u w : Salvage} {r q : Result (Option Stretch) Refusal}
    → Finishes right v r u → Finishes right v q w → (r ≡ q) × (u ≡ w)
finishes-only {r = r} {q = q} a b = (ending-apart r q (only a.answer b.answer), only a.salvage b.salvage)

pub new-only : Settles new-reads.Learnt
new-only κs a r q s t = only

pub read-only : SettlesAll {O = Holding × List ℕ} read-reads.Learnt
    (λ κs s. (holding_of s.0.now s.1.1.1.0.now s.1.1.1.1.0.now, s.1.1.1.1.1.0.now))
read-only κs a r q s t x y = let z = salvages-only x y in (z.0, ap₂ (λ (d : Holding) (p : List ℕ). (d, p)) z.1 z.2)

pub finish-only : SettlesAll {O = Salvage} finish-reads.Learnt (λ κs s. s.0.now)
finish-only κs a r q s t = finishes-only

pub new-asks : AsksNothing new-reads.Asked
new-asks κs a = tt

pub read-asks : AsksNothing read-reads.Asked
read-asks κs a = tt

pub finish-asks : AsksNothing finish-reads.Asked
finish-asks κs a = tt
