-- A walk stays in its bounds: the list, the beginning, and where it asks, the count. Assumes nothing.
use mathlib.Core.Path.{◌≡◌, refl}
use mathlib.Core.Bool.{Bool, true, false, cond, ◌||◌}
use mathlib.Core.List.{List, [], ◌∷◌, ◌++◌}
use mathlib.Core.Option.{Option, none, some}
use Prim.Native.Nat.{ℕ, suc, ◌≤◌, ◌<◌}
use native.Mathlib.Omega.{arith}
use borrow.Author.Tests.{ltb-true}
use lib.Dec.{ltb}
use lib.ListN.{length, length-append}
use Rattle.identity.specs.Bits.{Bits}
use Rattle.identity.specs.Identity.{depth, octets_of}
use Rattle.walk.specs.Beginnings.{then}
use Rattle.walk.specs.Machine.{next, carry, zero_half, Phase, asking, complete, doubtful, limited, full, named}
use Rattle.walk.specs.Machine.{Walk, go_on, settle, listing, noted}
use Rattle.scan.specs.Record.{list_most, state_of, record_of}
use Rattle.scan.specs.Scan.{ended}
use Rattle.scan.specs.declared.Scan.{Scan}
use Rattle.scan.proofs.Overs.{Open}

-- a walk in its bounds: the list, the beginning, and where it asks, the count
abbrev pub Counts : ℕ → ℕ → Phase → Type 0
Counts l c (asking p q w) = c < l
Counts l c complete = Unit {0}
Counts l c doubtful = Unit {0}
Counts l c (limited p) = Unit {0}
Counts l c (full p) = Unit {0}

pub record Bounded (v : Walk (List ℕ)) : Type 0 where
  pub lists : length v.listed ≤ list_most
  pub begins : length (named v.phase) ≤ depth
  pub counts : Counts v.limit v.count v.phase

abbrev Within : ℕ → Option Bits → Type 0
Within n none = Unit {0}
Within n (some p) = length p ≤ n

carry-within : (b : Bool) (n : ℕ) (x : Option Bits) → Within n x → Within (suc n) (carry b x)
unfolding carry
carry-within true n none h = tt
carry-within false n none h = omega arith
carry-within true n (some q) h = omega arith
carry-within false n (some q) h = omega arith

next-within : (p : Bits) → Within (length p) (next p)
unfolding next
next-within [] = tt
next-within (b ∷ p) = carry-within b (length p) (next p) (next-within p)

within_more : (n m : ℕ) (x : Option Bits) → n ≤ m → Within n x → Within m x
within_more n m none h k = tt
within_more n m (some p) h k = omega arith

pub settle-bounded : (l c : ℕ) (f : List (List ℕ)) (q w : Bool) (x : Option Bits) → length f ≤ list_most → Within depth x
    → Bounded (settle l c f q w x)
unfolding go_on named
settle-bounded l c f q true none h k = record { lists = h; begins = omega arith; counts = tt }
settle-bounded l c f q false none h k = record { lists = h; begins = omega arith; counts = tt }
settle-bounded l c f q w (some p) h k = by-test (ltb c l) refl
  where
    by-test : (t : Bool) → ltb c l ≡ t
        → Bounded (record { limit = l; count = c; listed = f; phase = cond t (asking p q w) (limited p) })
    by-test true e = record { lists = h; begins = k; counts = ltb-true c l e }
    by-test false e = record { lists = h; begins = k; counts = tt }

pub noted-bounded : (l c : ℕ) (f : List (List ℕ)) (p : Bits) (q w a : Bool) → length f ≤ list_most → length p ≤ depth
    → Bounded (noted octets_of depth list_most l c f p q w a)
unfolding noted named listing
noted-bounded l c f p q w false h k =
    settle-bounded l (suc c) f (zero_half p) (w || q) (next p) h
    (within_more (length p) depth (next p) k (next-within p))
noted-bounded l c f p q w true h k = by_tests (ltb (length p) depth) (ltb (length f) list_most) refl refl
  where
    by_tests : (t u : Bool) → ltb (length p) depth ≡ t → ltb (length f) list_most ≡ u
        → Bounded (cond t (settle l (suc c) f false w (some (then p false)))
        (cond u (settle l (suc c) (f ++ (octets_of p ∷ [])) false w (next p))
        (record { limit = l; count = suc c; listed = f; phase = full p })))
    by_tests true u e g =
        settle-bounded l (suc c) f false w (some (then p false)) h
        (omega (arith, length-append p (false ∷ []), ltb-true (length p) depth e))
    by_tests false true e g =
        settle-bounded l (suc c) (f ++ (octets_of p ∷ [])) false w (next p)
        (omega (arith, length-append f (octets_of p ∷ []), ltb-true (length f) list_most g))
        (within_more (length p) depth (next p) k (next-within p))
    by_tests false false e g = record { lists = h; begins = k; counts = tt }

-- where such a walk asks, its record takes a probe and an answer
pub asking-open : (s : Scan) (l c : ℕ) (f : List (List ℕ)) (p : Bits) (q w : Bool)
    → Bounded (record { limit = l; count = c; listed = f; phase = asking p q w })
    → Open (record_of s (record { limit = l; count = c; listed = f; phase = asking p q w }))
unfolding ended state_of
asking-open s l c f p q w b =
    record { asks = refl; counts = b.counts; lists = b.lists; begins = b.begins }
