-- What it says that something stands at a place; one step of the reader: what it finds, and where its cursor goes. Assumes nothing.
use mathlib.Core.Path.{◌≡◌, refl, sym, ap, ◌∙◌, subst}
use mathlib.Core.Bool.{Bool, true, false, cond}
use mathlib.Core.List.{List, [], ◌∷◌}
use mathlib.Core.Logic.{◌⊎◌, inl, inr}
use Prim.Native.Nat.{ℕ, ◌+◌, ◌-◌, ◌<◌, ◌≤◌}
use native.Mathlib.Nat.{add-zero}
use native.Mathlib.Omega.{arith}
use borrow.Author.Tests.{leb-true, leb-false, le-leb, lt-leb}
use lib.Dec.{leb}
use lib.ListN.{length, get_or, drop, drop_of_length-le, length-drop}
use lib.Seq.{get_or-drop}
use Rattle.octets.proofs.Rest.{rest}
use Rattle.std.specs.Prelude.{Some, None, Ok, Err}
use Rattle.reader.specs.Read.{Stands, end, cut_short, triple, stands_in, stands_at, behind, step_at}
use Rattle.reader.specs.Read.{reader_of, next_in, reader_after}
use Rattle.reader.specs.declared.Reader.{Reader}
use Rattle.reader.specs.declared.Step.{Step}

-- what stands at a place, by the number of octets from there on
module _ (s : List ℕ) (at : ℕ) where
  pub stands-end : length s ≤ at → end ≡ stands_at s at
  unfolding stands_at stands_in
  stands-end h = rw (drop_of_length-le s h)

  pub stands_one : at < length s → length s - at < 2 → cut_short ≡ stands_at s at
  unfolding stands_at stands_in
  stands_one h k = rw (rest s at h, drop_of_length-le s {i = at + 1} (omega arith))

  pub next-two : at + 2 ≤ length s → drop at s ≡ get_or s at 0 ∷ get_or s (at + 1) 0 ∷ drop (at + 2) s
  next-two h =
      let n : at + 1 + 1 ≡ at + 2 = omega arith in
      rest s at (omega arith)
      ∙ ap (λ (l : List ℕ). get_or s at 0 ∷ l)
      (rest s (at + 1) (omega arith) ∙ ap (λ (j : ℕ). get_or s (at + 1) 0 ∷ drop j s) n)

  module _ (inside : at < length s) (two : 2 ≤ length s - at) (n : ℕ) (e : n ≡ get_or s (at + 1) 0) where
    pub stands-short : length s - at - 2 < n → cut_short ≡ stands_at s at
    unfolding stands_at stands_in
    stands-short h =
        let past = lt-leb n (length (drop (at + 2) s)) (rw length-drop (omega arith)) in
        rw (next-two (omega arith), ← e, past)

    pub stands-whole : n ≤ length s - at - 2 → triple (get_or s at 0) (at + 2) n ≡ stands_at s at
    unfolding stands_at stands_in
    stands-whole h =
        let whole = le-leb n (length (drop (at + 2) s)) (rw length-drop (omega arith)) in
        rw (next-two (omega arith), ← e, whole)

-- what it says that this stands at a place
abbrev pub Means : List ℕ → ℕ → Stands → Type 0
Means m at (Ok None) = length m ≤ at
Means m at (Err e) =
    (at < length m) × ((length m < at + 2) ⊎ ((at + 2 ≤ length m) × (length m < at + 2 + get_or m (at + 1) 0)))
Means m at (Ok (Some t)) =
    (at + 2 + t.len ≤ length m) × (t.id ≡ get_or m at 0) × (t.from ≡ at + 2) × (t.len ≡ get_or m (at + 1) 0)

pub means : (m : List ℕ) (at : ℕ) → Means m at (stands_at m at)
unfolding stands_at stands_in
means m at = go (drop at m) refl
  where
    go : (l : List ℕ) → drop at m ≡ l → Means m at (stands_in at l)
    go [] e = let long = sym (length-drop at m) ∙ ap length e in omega (arith, long)
    go (n ∷ []) e =
        let long = sym (length-drop at m) ∙ ap length e in
        (omega (arith, long), inl (omega (arith, long)))
    go (n ∷ k ∷ xs) e = fits (leb k (length xs)) refl
      where
        long : length m - at ≡ length (n ∷ k ∷ xs)
        long = sym (length-drop at m) ∙ ap length e

        first : n ≡ get_or m at 0
        first = sym (ap (λ (l : List ℕ). get_or l 0 0) e) ∙ (rw add-zero at (get_or-drop at m 0 0))

        second : k ≡ get_or m (at + 1) 0
        second = sym (ap (λ (l : List ℕ). get_or l 1 0) e) ∙ get_or-drop at m 1 0

        fits : (b : Bool) → leb k (length xs) ≡ b → Means m at (cond b (triple n (at + 2) k) cut_short)
        fits true f =
            let h = leb-true k (length xs) f in
            (omega (arith, long), first, refl, second)
        fits false f =
            let h = leb-false k (length xs) f in
            (omega (arith, long), inr (omega (arith, long), omega (arith, long, second)))

pub told : (m : List ℕ) (at : ℕ) {r x : Stands} → r ≡ stands_at m at → r ≡ x → Means m at x
told m at e f = subst (Means m at) (sym e ∙ f) (means m at)

abbrev pub step_to : Stands → ℕ → Step
step_to x k = record { found = x; cursor = k }

module _ (m : List ℕ) (at : ℕ) where
  -- a step is made: what stands there is x
  pub step_is : {r x : Stands} → r ≡ stands_at m at → r ≡ x → step_to r (behind at x) ≡ step_at m at
  step_is e f = λ i. step_to (e i) (behind at ((sym f ∙ e) i))

  -- a caller learns: what stands there, that the cursor is behind a triple, and that it stays where there is none
  module _ {r : Step} (e : r ≡ step_at m at) where
    pub step-found : r.found ≡ stands_at m at
    step-found = ap (λ (x : Step). x.found) e

    pub step-behind : {n from len : ℕ} → r.found ≡ triple n from len → r.cursor ≡ from + len
    unfolding behind
    step-behind f = ap (λ (x : Step). x.cursor) e ∙ ap (behind at) (sym step-found ∙ f)

    -- the end, or less than an identifier, a length and as many octets
    pub step_stays : length m < at + 2 + get_or m (at + 1) 0 → r.cursor ≡ at
    unfolding behind
    step_stays h = ap (λ (x : Step). x.cursor) e ∙ go (stands_at m at) (means m at)
      where
        go : (x : Stands) → Means m at x → behind at x ≡ at
        go (Ok None) w = refl
        go (Err e) w = refl
        go (Ok (Some t)) w = let none : ⊥ = omega (arith, h, w.0, w.3) in absurd none

-- a caller of the reader learns: behind a triple its cursor goes on, in the same frame
pub next-behind : (d : Reader) {e : Reader} → e ≡ reader_after d → {n from len : ℕ} → next_in d ≡ triple n from len
    → e ≡ reader_of d.frame (from + len)
unfolding behind
next-behind d moved f = moved ∙ ap (λ (x : Stands). reader_of d.frame (behind d.cursor x)) f
