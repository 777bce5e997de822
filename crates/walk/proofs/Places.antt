-- Places in a list of probes: what is heard before a place, and where the identity stands that has n before it.
-- Assumes nothing.
use mathlib.Core.Path.{◌≡◌, refl, ap}
use mathlib.Core.List.{List, [], ◌∷◌, ◌++◌}
use Prim.Native.Nat.{ℕ, zero, suc, ◌≤◌, ◌<◌}
use native.Mathlib.Omega.{arith}
use lib.ListN.{length, get_or, length-append}
use lib.Seq.{get_or_at}
use Rattle.identity.specs.Bits.{Bits}
use Rattle.walk.specs.Probes.{Mark, pass, hit, asked, beginnings_of, hits, place}

pub hits-append : (xs ys : List Mark) → hits (xs ++ ys) ≡ hits xs ++ hits ys
unfolding hits
hits-append [] ys = refl
hits-append (pass p ∷ xs) ys = hits-append xs ys
hits-append (hit p ∷ xs) ys = ap (λ (x : List Bits). p ∷ x) (hits-append xs ys)

-- the identity that has n before it, and stands behind ys
pub place-hit : (n : ℕ) (ys : List Mark) (p : Bits) (zs : List Mark) → length (hits ys) ≡ n
    → place n (ys ++ hit p ∷ zs) ≡ suc (length ys)
unfolding place hits
place-hit zero [] p zs e = refl
place-hit (suc n) [] p zs e = absurd (omega arith)
place-hit zero (pass y ∷ ys) p zs e = ap suc (place-hit zero ys p zs e)
place-hit (suc n) (pass y ∷ ys) p zs e = ap suc (place-hit (suc n) ys p zs e)
place-hit zero (hit y ∷ ys) p zs e = absurd (omega arith)
place-hit (suc n) (hit y ∷ ys) p zs e = ap suc (place-hit n ys p zs (omega arith))

-- where no more than n stand before a probe, the identity with n before it is not before that probe
pub place-late : (n : ℕ) (ys : List Mark) (m : Mark) (zs : List Mark) → length (hits ys) ≤ n
    → length ys < place n (ys ++ m ∷ zs)
unfolding place hits
place-late n [] (pass p) zs a = omega arith
place-late zero [] (hit p) zs a = omega arith
place-late (suc n) [] (hit p) zs a = omega arith
place-late n (pass y ∷ ys) m zs a = omega (arith, place-late n ys m zs a)
place-late zero (hit y ∷ ys) m zs a = absurd (omega arith)
place-late (suc n) (hit y ∷ ys) m zs a = omega (arith, place-late n ys m zs (omega arith))

-- where there is no such identity, it is the number of all
pub place-all : (n : ℕ) (ms : List Mark) → length (hits ms) ≤ n → place n ms ≡ length ms
unfolding place hits
place-all n [] a = refl
place-all n (pass p ∷ ms) a = ap suc (place-all n ms a)
place-all zero (hit p ∷ ms) a = absurd (omega arith)
place-all (suc n) (hit p ∷ ms) a = ap suc (place-all n ms (omega arith))

pub place-bound : (n : ℕ) (ms : List Mark) → place n ms ≤ length ms
unfolding place
place-bound n [] = omega arith
place-bound n (pass p ∷ ms) = omega (arith, place-bound n ms)
place-bound zero (hit p ∷ ms) = omega arith
place-bound (suc n) (hit p ∷ ms) = omega (arith, place-bound n ms)

-- the beginning behind ys
pub asked-at : (ys : List Mark) (m : Mark) (zs : List Mark) (i : ℕ) → length ys ≡ i
    → get_or (beginnings_of (ys ++ m ∷ zs)) i [] ≡ asked m
asked-at [] m zs zero e = refl
asked-at [] m zs (suc i) e = absurd (omega arith)
asked-at (y ∷ ys) m zs zero e = absurd (omega arith)
asked-at (y ∷ ys) m zs (suc i) e = asked-at ys m zs i (omega arith)

-- the identity behind ys
pub heard-at : (ys : List Mark) (p : Bits) (zs : List Mark) (n : ℕ) → length (hits ys) ≡ n
    → get_or (hits (ys ++ hit p ∷ zs)) n [] ≡ p
unfolding hits
heard-at ys p zs n e = rw (hits-append ys (hit p ∷ zs)) (get_or_at (hits ys) p (hits zs) [] n e)

-- how many identities there are, if one stands behind ys
pub hits_more : (ys : List Mark) (p : Bits) (zs : List Mark) → length (hits ys) < length (hits (ys ++ hit p ∷ zs))
unfolding hits
hits_more ys p zs =
    rw (hits-append ys (hit p ∷ zs)) (omega (arith, length-append (hits ys) (hits (hit p ∷ zs))))
