-- Each promise of this crate allows one result. Assumes nothing.
use mathlib.Core.Path.{◌≡◌, refl}
use Rattle.octets.proofs.Only.{only}
use Rattle.octets.proofs.Only.{AsksNothing, Settles}
use Rattle.reader.proofs.next_at.Reads as next-at-reads
use seplogic.Ra.Ura.{Ura}
use base.Logic.{ent, emp}
use contract.Monad.{conj, conj_l, conj_r, fact, fact_i, fact_use}
use borrow.Fn.World.{World}
use Rattle.reader.specs.contracts.Reader.new as new
use Rattle.reader.specs.contracts.Reader.next as next

pub next-at-only : Settles next-at-reads.Learnt
next-at-only κs a r q s t = only

pub next-at-asks : AsksNothing next-at-reads.Asked
next-at-asks κs a = tt

-- in the logic: whoever has two facts has what follows of them
facts-tell : {M : Type 1} (𝓤 : Ura M) {φ ψ χ : Type 0} → (φ → ψ → χ) → ent 𝓤 (conj 𝓤 (fact 𝓤 φ) (fact 𝓤 ψ)) (fact 𝓤 χ)
facts-tell 𝓤 {φ} {ψ} {χ} f =
    fact_use 𝓤 φ (conj_l 𝓤 (fact 𝓤 φ) (fact 𝓤 ψ))
    (λ x. fact_use 𝓤 ψ (conj_r 𝓤 (fact 𝓤 φ) (fact 𝓤 ψ)) (λ y. fact_i 𝓤 χ _ (f x y)))

-- the promises of `new` and `next`, as their clauses say them: of whoever holds two of them, at any model
pub new-only : (w : World) (κs : _) (a : _) (r q : _) (s t : _) →
    let says = (new.clauses w.𝓛 w.𝓜.mem w.𝓡.run κs a).ensures tt in
    ent w.𝓤 (conj w.𝓤 (says r s) (says q t)) (fact w.𝓤 (r ≡ q))
new-only w κs a r q s t = facts-tell w.𝓤 only

pub next-only : (w : World) (κs : _) (a : _) (r q : _) (s t : _) →
    let says = (next.clauses w.𝓛 w.𝓜.mem w.𝓡.run κs a).ensures tt in
    ent w.𝓤 (conj w.𝓤 (says r s) (says q t)) (fact w.𝓤 ((r ≡ q) × (s.0.now ≡ t.0.now)))
next-only w κs a r q s t = facts-tell w.𝓤 (λ x y. (only x.0 y.0, only x.1 y.1))

-- and nothing is asked of whoever calls them, at any model
pub new-asks : (w : World) (κs : _) (a : _) →
    (new.clauses w.𝓛 w.𝓜.mem w.𝓡.run κs a).requires tt ≡ emp w.𝓤
new-asks w κs a = refl

pub next-asks : (w : World) (κs : _) (a : _) →
    (next.clauses w.𝓛 w.𝓜.mem w.𝓡.run κs a).requires tt ≡ emp w.𝓤
next-asks w κs a = refl
