-- The codes and the pairs that are left to tell, for a loop that goes through the flags by i. Assumes nothing.
use mathlib.Core.Path.{◌≡◌, refl, sym}
use mathlib.Core.Bool.{Bool, true, false, beq}
use mathlib.Core.List.{List, [], ◌∷◌}
use Prim.Native.Nat.{ℕ, ◌+◌, ◌<◌, ◌≤◌}
use native.Mathlib.Numerals.{add-one}
use lib.ListN.{length, get_or, drop, drop_of_length-le}
use lib.Seq.{drop-cons}
use mir.Val.{bool_byte}
use Rattle.octets.proofs.Rest.{rest}
use Rattle.antenna.specs.Alarms.{codes_among, changes_among, differs, flag_octet}

-- the code's test of two flags, and a flag as an octet
pub told-same : (a b : Bool) → beq a b ≡ true → differs a b ≡ false
told-same true true e = refl
told-same true false e = sym e
told-same false true e = sym e
told-same false false e = refl

pub told-apart : (a b : Bool) → beq a b ≡ false → differs a b ≡ true
told-apart true true e = sym e
told-apart true false e = refl
told-apart false true e = refl
told-apart false false e = sym e

pub flag-number : (b : Bool) → bool_byte b ≡ flag_octet b
flag-number true = refl
flag-number false = refl

flag-rest : (f : List Bool) (i : ℕ) → i < length f → drop i f ≡ get_or f i false ∷ drop (i + 1) f
flag-rest f i h = rw (add-one, drop-cons f i false)

module _ (cs : List ℕ) (fs : List Bool) (i : ℕ) where
  pub codes-on : i < length cs → i < length fs → get_or fs i false ≡ true
      → codes_among (drop i cs) (drop i fs) ≡ get_or cs i 0 ∷ codes_among (drop (i + 1) cs) (drop (i + 1) fs)
  unfolding codes_among
  codes-on h k e = rw (rest cs i h, flag-rest fs i k, e)

  pub codes-off : i < length cs → i < length fs → get_or fs i false ≡ false
      → codes_among (drop i cs) (drop i fs) ≡ codes_among (drop (i + 1) cs) (drop (i + 1) fs)
  unfolding codes_among
  codes-off h k e = rw (rest cs i h, flag-rest fs i k, e)

  pub codes-done : length cs ≤ i → codes_among (drop i cs) (drop i fs) ≡ []
  unfolding codes_among
  codes-done h = rw (drop_of_length-le cs h)

module _ (cs : List ℕ) (ps ts : List Bool) (i : ℕ) where
  module _ (h : i < length cs) (k : i < length ps) (l : i < length ts) where
    pub changes-here : differs (get_or ps i false) (get_or ts i false) ≡ true
        → changes_among (drop i cs) (drop i ps) (drop i ts)
        ≡ get_or cs i 0 ∷ flag_octet (get_or ps i false) ∷ changes_among (drop (i + 1) cs) (drop (i + 1) ps) (drop (i + 1) ts)
    unfolding changes_among
    changes-here e = rw (rest cs i h, flag-rest ps i k, flag-rest ts i l, e)

    pub changes-none : differs (get_or ps i false) (get_or ts i false) ≡ false
        → changes_among (drop i cs) (drop i ps) (drop i ts)
        ≡ changes_among (drop (i + 1) cs) (drop (i + 1) ps) (drop (i + 1) ts)
    unfolding changes_among
    changes-none e = rw (rest cs i h, flag-rest ps i k, flag-rest ts i l, e)

  pub changes-done : length cs ≤ i → changes_among (drop i cs) (drop i ps) (drop i ts) ≡ []
  unfolding changes_among
  changes-done h = rw (drop_of_length-le cs h)
