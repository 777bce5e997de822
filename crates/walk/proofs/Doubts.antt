-- The doubt as a flag that is worked out along the walk, and that it says what `Doubt` says. Assumes nothing.
use mathlib.Core.Path.{◌≡◌, refl, sym, ap, ◌∙◌}
use mathlib.Core.Bool.{Bool, true, false, cond, not, ◌&&◌, ◌||◌, true≢false, false≢true, or-true}
use mathlib.Core.List.Memᴰ
use mathlib.Core.List.{[], ◌++◌}
use mathlib.Core.List.{Memᴰ}
use mathlib.Core.Logic.{◌⊎◌, inl, inr, ⊎_elim}
use Prim.Native.Nat.{ℕ, zero, suc}
use native.Mathlib.Omega.{arith}
use borrow.Author.Tests.{not-true}
use Rattle.identity.specs.Bits.{Bits}
use Rattle.octets.proofs.Words.{or_parts, and_parts}
use Rattle.walk.specs.Beginnings.{then}
use Rattle.walk.specs.Probes.{pass, hit, order, Doubt}

module _ (heard : Bits → Bool) where
  -- both halves of p are silent
  abbrev pub silent : Bits → Bool
  silent p = not (heard (then p false)) && not (heard (then p true))

  unfoldable pub doubts : ℕ → Bits → Bool
  doubts zero p = false
  doubts (suc d) p = heard p && (silent p || (doubts d (then p false) || doubts d (then p true)))

  -- the probes below a heard beginning are those of its halves
  deeper : (d : ℕ) (p : Bits) → heard p ≡ true → (x : Bits)
      → Memᴰ (pass x) (order heard d (then p false)) ⊎ Memᴰ (pass x) (order heard d (then p true))
      → Memᴰ (pass x) (order heard (suc d) p)
  unfolding order
  deeper d p e x (inl m) = rw e (Memᴰ.tail (Memᴰ.append_left (order heard d (then p true)) m))
  deeper d p e x (inr m) = rw e (Memᴰ.tail (Memᴰ.append_right (order heard d (then p false)) m))

  pub doubts-in : (d : ℕ) (p : Bits) → doubts d p ≡ true → Doubt heard d p
  unfolding doubts order
  doubts-in zero p e = absurd (false≢true e)
  doubts-in (suc d) p e = go (and_parts (heard p) _ e) (doubts-in d (then p false)) (doubts-in d (then p true))
    where
      go : (heard p ≡ true) × ((silent p || (doubts d (then p false) || doubts d (then p true))) ≡ true)
          → (doubts d (then p false) ≡ true → Doubt heard d (then p false))
          → (doubts d (then p true) ≡ true → Doubt heard d (then p true)) → Doubt heard (suc d) p
      go (h, k) f g =
          ⊎_elim
          (λ n.
          let (a, b) = and_parts (not (heard (then p false))) (not (heard (then p true))) n in
          (p, Memᴰ.head refl, h, not-true (heard (then p false)) a, not-true (heard (then p true)) b))
          (λ n.
          ⊎_elim (λ a. let (x, m, r, s, t) = f a in (x, deeper d p h x (inl m), r, s, t))
          (λ b. let (x, m, r, s, t) = g b in (x, deeper d p h x (inr m), r, s, t))
          (or_parts (doubts d (then p false)) (doubts d (then p true)) n))
          (or_parts (silent p) (doubts d (then p false) || doubts d (then p true)) k)

  pub doubts-out : (d : ℕ) (p : Bits) → Doubt heard d p → doubts d p ≡ true
  unfolding order doubts
  doubts-out zero p (x, m, r, s, t) = absurd (by_said (heard p) refl (Memᴰ.eq_of_singleton m))
    where
      by_said : (a : Bool) → heard p ≡ a → pass x ≡ cond a (hit p) (pass p) → ⊥
      by_said true e h = let z : ◌≡◌ {A = ℕ} 0 1 = cc h in omega arith
      by_said false e h = let g : x ≡ p = cc h in true≢false (sym r ∙ ap heard g ∙ e)
  doubts-out (suc d) p (x, m, r, s, t) =
      by_said (heard p) refl (Memᴰ.cases_cons m) (λ n. doubts-out d (then p false) (x, n, r, s, t))
      (λ n. doubts-out d (then p true) (x, n, r, s, t))
    where
      by_said : (a : Bool) → heard p ≡ a
          → (pass x ≡ pass p)
          ⊎ Memᴰ (pass x) (cond a (order heard d (then p false) ++ order heard d (then p true)) [])
          → (Memᴰ (pass x) (order heard d (then p false)) → doubts d (then p false) ≡ true)
          → (Memᴰ (pass x) (order heard d (then p true)) → doubts d (then p true) ≡ true)
          → (a && (silent p || (doubts d (then p false) || doubts d (then p true)))) ≡ true
      by_said true e (inl h) f g =
          let k : x ≡ p = cc h in
          rw (sym (ap (λ (y : Bits). heard (then y false)) k) ∙ s, sym (ap (λ (y : Bits). heard (then y true)) k) ∙ t)
      by_said false e (inl h) f g = let k : x ≡ p = cc h in absurd (true≢false (sym r ∙ ap heard k ∙ e))
      by_said true e (inr n) f g =
          ⊎_elim (λ a. rw (f a) (or-true (silent p)))
          (λ b. rw (g b, or-true (doubts d (then p false))) (or-true (silent p)))
          (Memᴰ.append_cases (order heard d (then p false)) n)
      by_said false e (inr n) f g = absurd (Memᴰ.not-nil n)
