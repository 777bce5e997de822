-- Texts: octets laid into a row. Assumes nothing.
use Rattle.std.proofs.Common.{◌≡◌, ℕ, ◌≤◌, List, min, ap, ◌∙◌, arith}
use Rattle.std.proofs.lemmas.List.{length-take}
use lib.ListN.{length, take, replicate, length-replicate}
use lib.Seq.{sets, take_all}
use Rattle.octets.specs.Octets.{◌at_start_of◌}
use Rattle.octets.specs.Text.{laid}
use Rattle.octets.proofs.Stores.{sets-start}
use Rattle.octets.proofs.Takes.{take-room}

-- stored from the start of n zeros: the first n, as many as there are
pub stored-laid : (n : ℕ) (s : List ℕ) {o : List ℕ} {m : ℕ} → m ≡ min (length s) n
    → o ≡ sets (replicate n 0) 0 (take m s) → record { octets = o; len = m } ≡ laid n (take n s)
unfolding laid
stored-laid n s {o} {m} e w =
    let t : take m s ≡ take n s = ap (λ (k : ℕ). take k s) e ∙ take-room s n in
    let l : m ≡ length (take n s) = omega (arith, length-take n s) in
    let h : length (take n s) ≤ length (replicate n 0) = rw length-replicate (omega (arith, length-take n s)) in
    let r : o ≡ take n s at_start_of replicate n 0 = w ∙ ap (sets (replicate n 0) 0) t ∙ sets-start (take n s) (replicate n 0) h in
    rw (r, l)

-- of no more than n octets, all
pub laid-all : (n : ℕ) (s : List ℕ) → length s ≤ n → laid n (take n s) ≡ laid n s
laid-all n s h = ap (laid n) (take_all n s h)
