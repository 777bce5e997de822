-- No beginning is asked twice. Assumes nothing.
use mathlib.Core.Path.{◌≡◌, refl, sym, ap, ◌∙◌}
use mathlib.Core.Bool.{Bool, true, false, cond, true≢false}
use mathlib.Core.List.Memᴰ
use mathlib.Core.List.{List, [], ◌∷◌, ◌++◌, append_assoc, append-nil, Memᴰ}
use mathlib.Core.Logic.{⊎_elim}
use Prim.Native.Nat.{ℕ, zero, suc}
use native.Mathlib.Omega.{arith}
use lib.ListN.{length, length-append}
use Rattle.identity.specs.Bits.{Bits, BeginningOf}
use Rattle.identity.specs.Order.{below, Different}
use Rattle.identity.proofs.Orders.{below_self, below-fork}
use Rattle.walk.specs.Beginnings.{then}
use Rattle.walk.specs.Probes.{Mark, pass, hit, asked, beginnings_of, order}

pub different-append : (xs ys : List Bits) → Different xs → Different ys
    → ((x : Bits) → Memᴰ x xs → Memᴰ x ys → ⊥) → Different (xs ++ ys)
different-append [] ys a b f = b
different-append (x ∷ xs) ys a b f = (
  λ m. ⊎_elim a.0 (f x (Memᴰ.head refl)) (Memᴰ.append_cases xs m),
  different-append xs ys a.1 b (λ y m. f y (Memᴰ.tail m)),
)

-- a half is longer than the whole, and the halves have nothing in common
pub longer : (p : Bits) (b : Bool) → BeginningOf (then p b) p → ⊥
longer p b (q, e) = omega (arith, ap length e, length-append (then p b) q, length-append p (b ∷ []))

pub forked : (p x : Bits) → BeginningOf (then p false) x → BeginningOf (then p true) x → ⊥
forked p x (q, e) (r, g) =
    let s : Bits = p ++ true ∷ r in
    let u : p ++ false ∷ q ≡ s =
    sym (append_assoc p (false ∷ []) q) ∙ e ∙ sym g ∙ append_assoc p (true ∷ []) r in
    true≢false (sym (below-fork p q r) ∙ ap (λ (y : Bits). below y s) u ∙ below_self s)

-- what begins with a half begins with the whole
pub begins-then : (p : Bits) (b : Bool) (x : Bits) → BeginningOf (then p b) x → BeginningOf p x
begins-then p b x (q, e) = (b ∷ q, sym (append_assoc p (b ∷ []) q) ∙ e)

asked-append : (xs ys : List Mark) → beginnings_of (xs ++ ys) ≡ beginnings_of xs ++ beginnings_of ys
asked-append [] ys = refl
asked-append (m ∷ xs) ys = ap (λ (x : List Bits). asked m ∷ x) (asked-append xs ys)

-- the beginnings asked below p, if p is heard
abbrev Halves : (Bits → Bool) → ℕ → Bits → List Bits
Halves heard d p = beginnings_of (order heard d (then p false)) ++ beginnings_of (order heard d (then p true))

module _ (heard : Bits → Bool) where
  both_halves : (d : ℕ) (p : Bits)
      → beginnings_of (order heard d (then p false) ++ order heard d (then p true)) ≡ Halves heard d p
  both_halves d p = asked-append (order heard d (then p false)) (order heard d (then p true))

  asked-below : (d : ℕ) (p x : Bits) → Memᴰ x (beginnings_of (order heard d p)) → BeginningOf p x
  unfolding order
  asked-below zero p x m = by_said (heard p) (Memᴰ.eq_of_singleton m)
    where
      by_said : (a : Bool) → x ≡ asked (cond a (hit p) (pass p)) → BeginningOf p x
      by_said true e = ([], append-nil p ∙ sym e)
      by_said false e = ([], append-nil p ∙ sym e)
  asked-below (suc d) p x m =
      ⊎_elim (λ e. ([], append-nil p ∙ sym e))
      (λ t. by_said (heard p) t (asked-below d (then p false) x) (asked-below d (then p true) x))
      (Memᴰ.cases_cons m)
    where
      by_said : (a : Bool)
          → Memᴰ x (beginnings_of (cond a (order heard d (then p false) ++ order heard d (then p true)) []))
          → (Memᴰ x (beginnings_of (order heard d (then p false))) → BeginningOf (then p false) x)
          → (Memᴰ x (beginnings_of (order heard d (then p true))) → BeginningOf (then p true) x) → BeginningOf p x
      by_said true n f g =
          ⊎_elim (λ a. begins-then p false x (f a)) (λ b. begins-then p true x (g b))
          (Memᴰ.append_cases (beginnings_of (order heard d (then p false))) (rw (both_halves d p) at n))
      by_said false n f g = absurd (Memᴰ.not-nil n)

  pub asked-once : (d : ℕ) (p : Bits) → Different (beginnings_of (order heard d p))
  unfolding order
  asked-once zero p = (λ m. Memᴰ.not-nil m, tt)
  asked-once (suc d) p = by_said (heard p) (asked-once d (then p false)) (asked-once d (then p true))
    where
      by_said : (a : Bool) → Different (beginnings_of (order heard d (then p false)))
          → Different (beginnings_of (order heard d (then p true)))
          → Different (p ∷ beginnings_of (cond a (order heard d (then p false) ++ order heard d (then p true)) []))
      by_said false f g = (λ m. Memᴰ.not-nil m, tt)
      by_said true f g =
          let zeros = beginnings_of (order heard d (then p false)) in
          let ones = beginnings_of (order heard d (then p true)) in
          rw (both_halves d p) (
            λ m. ⊎_elim (λ a. longer p false (asked-below d (then p false) p a))
                (λ b. longer p true (asked-below d (then p true) p b)) (Memᴰ.append_cases zeros m),
            different-append zeros ones f g
                (λ x a b. forked p x (asked-below d (then p false) x a) (asked-below d (then p true) x b)),
          )
