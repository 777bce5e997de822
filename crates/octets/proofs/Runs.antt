-- A run of stores: what is left to store, into the buffer as it is, comes to the same as all of it, into the buffer
-- as it was. The one relation for every loop that fills a buffer. Assumes nothing.
use mathlib.Core.Path.{◌≡◌, refl, sym, ap, ◌∙◌}
use mathlib.Core.List.{List, [], ◌∷◌, ◌++◌}
use Prim.Native.Nat.{ℕ, ◌+◌, ◌≤◌}
use native.Mathlib.Nat.{add-zero}
use native.Mathlib.Numerals.{add-one}
use native.Mathlib.Omega.{arith}
use lib.ListN.{length, set, take, length-append}
use lib.Seq.{sets}
use Rattle.octets.specs.Puts.{Puts}
use Rattle.octets.proofs.Stores.{sets-append, take-stored}

-- xs are left to store into o from k on; xs₀ were, into o₀ from k₀ on
pub record Run (o : List ℕ) (k : ℕ) (xs o₀ : List ℕ) (k₀ : ℕ) (xs₀ : List ℕ) : Type 0 where
  pub count : k + length xs ≡ k₀ + length xs₀
  pub octets : sets o k xs ≡ sets o₀ k₀ xs₀

pub run-all : {o xs : List ℕ} {k : ℕ} → Run o k xs o k xs
run-all = record { count = refl; octets = refl }

-- one octet is stored
pub run-one : {o o' o₀ xs ys xs₀ : List ℕ} {k k₀ : ℕ} (x : ℕ)
    → o' ≡ set o k x → xs ≡ x ∷ ys → Run o k xs o₀ k₀ xs₀ → Run o' (k + 1) ys o₀ k₀ xs₀
run-one {o} {k = k} x s e r =
    record {
      count = omega (arith, r.count, ap length e);
      octets = rw (s, add-one) (sym (ap (sets o k) e) ∙ r.octets);
    }

-- two are stored
pub run-two : {o o' o'' o₀ xs ys xs₀ : List ℕ} {k k₀ : ℕ} (x y : ℕ)
    → o' ≡ set o k x → o'' ≡ set o' (k + 1) y → xs ≡ x ∷ y ∷ ys → Run o k xs o₀ k₀ xs₀ → Run o'' (k + 2) ys o₀ k₀ xs₀
run-two {k = k} x y s t e r =
    let n : k + 1 + 1 ≡ k + 2 = omega arith in
    rw n at (run-one y t refl (run-one x s e r))

-- a list of them is stored
pub run-some : {o o' o₀ xs ys xs₀ : List ℕ} {k k₀ q : ℕ} (vs : List ℕ)
    → o' ≡ sets o k vs → q ≡ k + length vs → xs ≡ vs ++ ys → Run o k xs o₀ k₀ xs₀ → Run o' q ys o₀ k₀ xs₀
run-some {o} {ys = ys} {k = k} vs s n e r =
    record {
      count = rw n (omega (arith, r.count, simp length-append at (ap length e)));
      octets = rw (s, n) (sym (sets-append vs ys o k) ∙ ap (sets o k) (sym e) ∙ r.octets);
    }

-- what is left is written otherwise
pub run_is : {o o₀ xs ys xs₀ : List ℕ} {k k₀ : ℕ} → xs ≡ ys → Run o k xs o₀ k₀ xs₀ → Run o k ys o₀ k₀ xs₀
run_is e r = record { count = rw (← e) r.count; octets = rw (← e) r.octets }

-- a function puts a list of them
pub run-put : {o o' o₀ xs ys xs₀ : List ℕ} {k k₀ q : ℕ} (vs : List ℕ)
    → Puts o k vs q o' → xs ≡ vs ++ ys → Run o k xs o₀ k₀ xs₀ → Run o' q ys o₀ k₀ xs₀
run-put vs p e r = run-some vs p.octets p.count e r

-- nothing is left: all of them are put
pub run-done : {o o₀ xs xs₀ : List ℕ} {k k₀ : ℕ} → xs ≡ [] → Run o k xs o₀ k₀ xs₀ → Puts o₀ k₀ xs₀ k o
run-done {k = k} e r = record { count = sym (add-zero k) ∙ (rw e at r.count); octets = rw e at r.octets }

-- what is put at the start, read back
pub put_back : {o b o' : List ℕ} {n : ℕ} → Puts o 0 b n o' → n ≤ length o → take n o' ≡ b
put_back {o} {b} {n = n} p h =
    let e : n ≡ length b = omega (arith, p.count) in
    rw (e, p.octets) (take-stored b o (omega arith))
