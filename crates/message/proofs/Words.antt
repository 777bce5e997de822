-- What is read in a message, and the tests of it, in 01's words: which octets, which codes, which lengths. So each return
-- code (Exact) is given exactly where 01 says. Assumes nothing.
use mathlib.Core.Path.{◌≡◌, refl, sym, ap, ◌∙◌}
use mathlib.Core.Bool.{Bool, true, false, cond, not}
use mathlib.Core.List.{List, [], ◌∷◌}
use mathlib.Core.Logic.Iff
use mathlib.Core.Logic.{◌↔◌, ◌⊎◌, inl, inr, ⊎_elim}
use Prim.Native.Nat.{ℕ, ◌+◌, ◌*◌}
use borrow.Author.Tests.{eqb-true, eq-eqb, ne_eqb, not-true, not-false}
use lib.Dec.{eqb}
use lib.ListN.{length, get_or, drop}
use mir.Syntax.{w16}
use mir.Val.{to_z}
use Rattle.octets.specs.Octets.{OneOf}
use Rattle.octets.proofs.Words.{true-not-false, holds-exactly}
use Rattle.antenna.specs.declared.Angle.{Angle}
use Rattle.antenna.specs.declared.Antenna.{Antenna}
use Rattle.antenna.specs.Motions.{in_range, busy_of}
use Rattle.tilt.specs.Tilts.{angle_of}
use Rattle.message.specs.Messages.{Entry, ◌takes◌, code_of, declared_of, asked_of, table, in_table, taken_by}
use Rattle.message.specs.Messages.{misdeclared, barred, unknown, misfit, busied, outside}

-- "Code, data length (two octets, low first), data": the code is the first octet
pub code_is : (c : ℕ) (m : List ℕ) → code_of (c ∷ m) ≡ c
code_is c m = refl

-- "0x33 set tilt: 2 octets, low first, signed": the data's two octets, read as a signed number of 16 bits
pub asked_is : (c l h low high : ℕ) → (asked_of (c ∷ l ∷ h ∷ low ∷ high ∷ [])).tenths ≡ to_z w16 (low + high * 256)
unfolding angle_of
asked_is c l h low high = refl

-- a test that two numbers differ
pub differs-exactly : (a b : ℕ) → not (eqb a b) ≡ false ↔ (a ≡ b)
differs-exactly a b = (λ e. eqb-true a b (not-false (eqb a b) e), λ e. rw (eq-eqb a b e))

-- "length field wrong": two octets, low first, that are not the length of the data
pub declared-exactly : (m : List ℕ) → misdeclared m ≡ false ↔ (get_or m 1 0 + get_or m 2 0 * 256 ≡ length (drop 3 m))
declared-exactly m = differs-exactly (declared_of m) (length (drop 3 m))

-- "code one of 0x03, 0x0A, 0x0E, 0x0F, 0x10, 0x11, 0x31, 0x32, 0x40, 0x41, 0x42, 0x90"
pub barred-exactly : (m : List ℕ) → barred m ≡ true
    ↔ OneOf (code_of m)
    (0x03 ∷ 0x0A ∷ 0x0E ∷ 0x0F ∷ 0x10 ∷ 0x11 ∷ 0x31 ∷ 0x32 ∷ 0x40 ∷ 0x41 ∷ 0x42 ∷ 0x90 ∷ [])
barred-exactly m = holds-exactly (code_of m) _

-- the codes of a table
codes : List Entry → List ℕ
codes [] = []
codes (k takes n ∷ rows) = k ∷ codes rows

in-table : (rows : List Entry) (c : ℕ) → in_table rows c ≡ true ↔ OneOf c (codes rows)
unfolding in_table codes
in-table [] c = (λ e. absurd (true-not-false (sym e)), λ w. absurd w)
in-table (k takes n ∷ rows) c = go (eqb k c) refl (in-table rows c)
  where
    go : (t : Bool) → eqb k c ≡ t → (in_table rows c ≡ true ↔ OneOf c (codes rows))
        → cond t true (in_table rows c) ≡ true ↔ OneOf c (k ∷ codes rows)
    go true e less = (λ h. inl (sym (eqb-true k c e)), λ w. refl)
    go false e less = (
      λ h. inr (less.0 h),
      ⊎_elim (λ q. absurd (true-not-false (sym (eq-eqb k c (sym q)) ∙ e))) less.1,
    )

-- "code not in the table below": 0x04, 0x05, 0x06, 0x12, 0x33, 0x34 are
pub known-exactly : (m : List ℕ) → unknown m ≡ false
    ↔ OneOf (code_of m) (0x04 ∷ 0x05 ∷ 0x06 ∷ 0x12 ∷ 0x33 ∷ 0x34 ∷ [])
unfolding codes
known-exactly m =
    Iff.trans (λ e. not-false (in_table table (code_of m)) e, λ e. ap not e) (in-table table (code_of m))

-- "Data in": two octets for set tilt, none for any other
nothing-else : (t : Bool) {n : ℕ} → n ≡ 0 → cond t 0 n ≡ 0
nothing-else true e = refl
nothing-else false e = e

takes-set : (c : ℕ) → c ≡ 0x33 → taken_by table c ≡ 2
unfolding taken_by
takes-set c e = rw e

takes_none : (c : ℕ) → (c ≡ 0x33 → ⊥) → taken_by table c ≡ 0
unfolding taken_by
takes_none c e =
    let other : eqb 0x33 c ≡ false = ne_eqb 0x33 c (λ q. e (sym q)) in
    nothing-else (eqb 0x04 c) (nothing-else (eqb 0x05 c) (nothing-else (eqb 0x06 c) (nothing-else (eqb 0x12 c)
    (rw other (nothing-else (eqb 0x34 c) refl)))))

-- "data length not the defined one"
pub fits-set : (m : List ℕ) → code_of m ≡ 0x33 → misfit m ≡ false ↔ (length (drop 3 m) ≡ 2)
fits-set m e = rw (takes-set (code_of m) e) (differs-exactly (length (drop 3 m)) 2)

pub fits-other : (m : List ℕ) → (code_of m ≡ 0x33 → ⊥) → misfit m ≡ false ↔ (length (drop 3 m) ≡ 0)
fits-other m e = rw (takes_none (code_of m) e) (differs-exactly (length (drop 3 m)) 0)

-- "Set and get tilt are busy while moving or while a result waits"; "out of range" is set tilt's alone
pub busied-exactly : (n : Antenna) (c : ℕ) → busied n c ≡ true
    ↔ ((c ≡ 0x33) ⊎ (c ≡ 0x34)) × (busy_of n.motion ≡ true)
busied-exactly n c = go (eqb c 0x33) refl (eqb c 0x34) refl (busy_of n.motion) refl
  where
    go : (a : Bool) → eqb c 0x33 ≡ a → (b : Bool) → eqb c 0x34 ≡ b → (d : Bool) → busy_of n.motion ≡ d
        → busied n c ≡ true ↔ ((c ≡ 0x33) ⊎ (c ≡ 0x34)) × (busy_of n.motion ≡ true)
    go true e b f d g = rw e (λ h. (inl (eqb-true c 0x33 e), h), λ w. w.1)
    go false e true f d g = rw (e, f) (λ h. (inr (eqb-true c 0x34 f), h), λ w. w.1)
    go false e false f d g =
        rw (e, f) (
          λ h. absurd (true-not-false (sym h)),
          λ w. ⊎_elim (λ q. absurd (true-not-false (sym (eq-eqb c 0x33 q) ∙ e)))
              (λ q. absurd (true-not-false (sym (eq-eqb c 0x34 q) ∙ f))) w.0,
        )

pub outside-exactly : (n : Antenna) (c : ℕ) (t : Angle) → outside n c t ≡ true
    ↔ (c ≡ 0x33) × (in_range n t ≡ false)
outside-exactly n c t = go (eqb c 0x33) refl
  where
    go : (a : Bool) → eqb c 0x33 ≡ a → outside n c t ≡ true ↔ (c ≡ 0x33) × (in_range n t ≡ false)
    go true e = rw e (λ h. (eqb-true c 0x33 e, not-true (in_range n t) h), λ w. ap not w.1)
    go false e =
        rw e (
          λ h. absurd (true-not-false (sym h)),
          λ w. absurd (true-not-false (sym (eq-eqb c 0x33 w.0) ∙ e)),
        )
