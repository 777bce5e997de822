-- A number is given exactly if a row of it holds and none before it, and what is asked for exactly if no row holds.
-- One law for every table of rows, also where two rows have one number.
--   TestsFor k rows == what the tests say where k is given: that of a row of k yes, those before it no
-- Assumes nothing.
use mathlib.Core.Path.{◌≡◌, refl, sym, ap, ◌∙◌}
use mathlib.Core.Bool.{Bool, true, false, cond}
use mathlib.Core.List.{List, [], ◌∷◌}
use mathlib.Core.Logic.Iff
use mathlib.Core.Logic.{◌↔◌, ◌⊎◌, inl, inr, ⊎_elim}
use Prim.Native.Nat.{ℕ}
use borrow.Author.Tests.{eqb-true, eqb-false, eq-eqb}
use lib.Dec.{eqb}
use Rattle.octets.specs.Octets.{holds}
use Rattle.octets.proofs.Words.{true-not-false}
use Rattle.refusal.specs.Answer.{gives, refuses, TestRow, ◌when◌, answered, Given, Clear, numbers_of}
use Rattle.refusal.specs.Answer.{shorter, handed_out}
use Rattle.refusal.proofs.Answers.{gives-not-refuses, refuses-same, gives_same}

cond_same : (t b : Bool) → cond t b b ≡ b
cond_same true b = refl
cond_same false b = refl

-- it compares the numbers, so that for rows with known numbers it computes to the plain statement
unfoldable pub TestsFor : ℕ → List TestRow → Type 0
TestsFor k [] = ⊥
TestsFor k (n when t ∷ rows) =
    cond (eqb n k) (cond (holds k (numbers_of rows)) ((t ≡ true) ⊎ ((t ≡ false) × TestsFor k rows)) (t ≡ true))
    ((t ≡ false) × TestsFor k rows)

-- a number that is given is among those of the rows
given-among : (k : ℕ) (rows : List TestRow) → Given k rows → holds k (numbers_of rows) ≡ true
unfolding Given numbers_of holds
given-among k [] g = absurd g
given-among k (n when t ∷ rows) (inl (e, q)) = rw (eq-eqb n k e)
given-among k (n when t ∷ rows) (inr (q, g)) = rw (given-among k rows g) (cond_same (eqb n k) true)

pub given-tests : (k : ℕ) (rows : List TestRow) → Given k rows ↔ TestsFor k rows
unfolding Given TestsFor
given-tests k [] = (λ g. g, λ g. g)
given-tests k (n when t ∷ rows) = go (eqb n k) (holds k (numbers_of rows)) refl refl (given-tests k rows)
  where
    go : (b c : Bool) → eqb n k ≡ b → holds k (numbers_of rows) ≡ c → Given k rows ↔ TestsFor k rows
        → ((n ≡ k) × (t ≡ true)) ⊎ ((t ≡ false) × Given k rows)
        ↔ cond b (cond c ((t ≡ true) ⊎ ((t ≡ false) × TestsFor k rows)) (t ≡ true)) ((t ≡ false) × TestsFor k rows)
    go true true e h ih = (
      ⊎_elim (λ w. inl w.1) (λ w. inr (w.0, ih.0 w.1)),
      ⊎_elim (λ q. inl (eqb-true n k e, q)) (λ w. inr (w.0, ih.1 w.1)),
    )
    go true false e h ih = (
      ⊎_elim (λ w. w.1) (λ w. absurd (true-not-false (sym (given-among k rows w.1) ∙ h))),
      λ q. inl (eqb-true n k e, q),
    )
    go false c e h ih = (
      ⊎_elim (λ w. absurd (eqb-false n k e w.0)) (λ w. (w.0, ih.0 w.1)),
      λ w. inr (w.0, ih.1 w.1),
    )

module _ {A : Type 0} where
  given : (k : ℕ) (rows : List TestRow) (a : A) → answered rows a ≡ refuses k → Given k rows
  unfolding answered Given
  given k [] a e = gives-not-refuses e
  given k (n when true ∷ rows) a e = inl (refuses-same e, refl)
  given k (n when false ∷ rows) a e = inr (refl, given k rows a e)

  answered-by : (k : ℕ) (rows : List TestRow) (a : A) → Given k rows → answered rows a ≡ refuses k
  unfolding answered Given
  answered-by k [] a g = absurd g
  answered-by k (n when t ∷ rows) a (inl (e, q)) = rw (q, e)
  answered-by k (n when t ∷ rows) a (inr (q, g)) = rw q (answered-by k rows a g)

  -- a number: a row of it holds, and none before it
  pub exactly : (k : ℕ) (rows : List TestRow) (a : A) → answered rows a ≡ refuses k ↔ Given k rows
  exactly k rows a = (given k rows a, answered-by k rows a)

  -- the same, said by the tests alone
  pub exactly-tests : (k : ℕ) (rows : List TestRow) (a : A) → answered rows a ≡ refuses k ↔ TestsFor k rows
  exactly-tests k rows a = Iff.trans (exactly k rows a) (given-tests k rows)

  clear : (rows : List TestRow) (a b : A) → answered rows a ≡ gives b → Clear rows × (a ≡ b)
  unfolding answered Clear
  clear [] a b e = (tt, gives_same e)
  clear (n when true ∷ rows) a b e = absurd (gives-not-refuses (sym e))
  clear (n when false ∷ rows) a b e = let c = clear rows a b e in ((refl, c.0), c.1)

  unrefused : (rows : List TestRow) (a b : A) → Clear rows × (a ≡ b) → answered rows a ≡ gives b
  unfolding answered Clear
  unrefused [] a b c = ap gives c.1
  unrefused (n when t ∷ rows) a b c = rw c.0.0 (unrefused rows a b (c.0.1, c.1))

  -- what is asked for: no row holds
  pub exactly-given : (rows : List TestRow) (a b : A) → answered rows a ≡ gives b ↔ Clear rows × (a ≡ b)
  exactly-given rows a b = (clear rows a b, unrefused rows a b)

  -- any call gets what it asks for, or the number of one of the rows
  pub answered-all : (rows : List TestRow) (a : A)
      → (answered rows a ≡ gives a) ⊎ ((k : ℕ) × (holds k (numbers_of rows) ≡ true) × (answered rows a ≡ refuses k))
  unfolding answered numbers_of holds
  answered-all [] a = inl refl
  answered-all (n when true ∷ rows) a = inr (n, rw (eq-eqb n n refl), refl)
  answered-all (n when false ∷ rows) a =
      ⊎_elim inl (λ q. inr (q.0, rw q.1 (cond_same (eqb n q.0) true), q.2)) (answered-all rows a)

-- octets that are handed out are those that were to be
pub handed-out-told : (b : List ℕ) (room : ℕ) {d : List ℕ} → handed_out b room ≡ gives d → b ≡ d
unfolding handed_out
handed-out-told b room {d} e = ((exactly-given (5 when shorter room b ∷ []) b d).0 e).1
