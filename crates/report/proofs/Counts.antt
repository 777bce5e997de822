-- How many octets the alarms take that are told. Assumes nothing.
use mathlib.Core.Bool.{Bool, true, false, cond}
use mathlib.Core.List.{List, [], ◌∷◌}
use Prim.Native.Nat.{ℕ, suc, ◌*◌, ◌≤◌}
use native.Mathlib.Omega.{arith}
use lib.ListN.{length}
use Rattle.antenna.specs.Alarms.{codes_among, changes_among, differs, flag_octet}

-- at most as many codes as there are
pub length-codes : (cs : List ℕ) (fs : List Bool) → length (codes_among cs fs) ≤ length cs
unfolding codes_among
length-codes [] fs = omega arith
length-codes (c ∷ cs) [] = omega arith
length-codes (c ∷ cs) (true ∷ fs) = omega (arith, length-codes cs fs)
length-codes (c ∷ cs) (false ∷ fs) = omega (arith, length-codes cs fs)

-- at most a pair for each
pub length-changes : (cs : List ℕ) (ps ts : List Bool) → length (changes_among cs ps ts) ≤ 2 * length cs
unfolding changes_among
length-changes [] ps ts = omega arith
length-changes (c ∷ cs) [] ts = omega arith
length-changes (c ∷ cs) (p ∷ ps) [] = omega arith
length-changes (c ∷ cs) (p ∷ ps) (t ∷ ts) = go (differs p t) (length-changes cs ps ts)
  where
    go : (b : Bool) → length (changes_among cs ps ts) ≤ 2 * length cs
        → length (cond b (c ∷ flag_octet p ∷ changes_among cs ps ts) (changes_among cs ps ts)) ≤ 2 * suc (length cs)
    go true h = omega (arith, h)
    go false h = omega (arith, h)
