-- A slice as chunks of n octets, which a loop goes through in order: the chunk at i, and what is left behind it.
-- Assumes nothing.
use mathlib.Core.Path.{◌≡◌, sym, ap, ◌∙◌}
use mathlib.Core.List.{List, [], ◌++◌}
use Prim.Native.Nat.{ℕ, zero, suc, ◌+◌, ◌*◌, ◌<◌, ◌≤◌}
use native.Mathlib.Nat.{zero-mul, suc-mul, le_of_suc-le-suc, not-suc-le-zero}
use native.Mathlib.Omega.{arith}
use lib.ListN.{length, get_or, take, drop, length-take, length-drop}
use Rattle.std.proofs.lemmas.List.{drop-drop, take-append-drop}
use Rattle.std.specs.Simd.{first_chunks}

chunk-at : (n k i : ℕ) (s : List ℕ) → i < k → get_or (first_chunks n k s) i [] ≡ take n (drop (i * n) s)
chunk-at n zero i s h = absurd (not-suc-le-zero h)
chunk-at n (suc k) zero s h = rw zero-mul
chunk-at n (suc k) (suc i) s h =
    let m : n + i * n ≡ suc i * n = omega (arith, suc-mul i n) in
    chunk-at n k i (drop n s) (le_of_suc-le-suc h)
    ∙ ap (take n) (drop-drop (i * n) n s ∙ ap (λ (j : ℕ). drop j s) m)

module _ (n i : ℕ) (s : List ℕ) {k : ℕ} {p : List (List ℕ)} (e : p ≡ first_chunks n k s) (f : length p ≡ k) (h : i < length p) where
  chunk-is : get_or p i [] ≡ take n (drop (i * n) s)
  chunk-is = rw e (chunk-at n k i s (omega arith))

  pub chunk-left : drop (i * n) s ≡ get_or p i [] ++ drop ((i + 1) * n) s
  chunk-left =
      let m : i * n + n ≡ (i + 1) * n = omega (arith, suc-mul i n) in
      sym (take-append-drop n (drop (i * n) s))
      ∙ rw chunk-is (ap (λ (l : List ℕ). take n (drop (i * n) s) ++ l) (drop-drop n (i * n) s ∙ ap (λ (j : ℕ). drop j s) m))

  pub chunk-length : i * n + n ≤ length s → length (get_or p i []) ≡ n
  chunk-length b = rw chunk-is (omega (arith, length-take n (drop (i * n) s), length-drop (i * n) s))
