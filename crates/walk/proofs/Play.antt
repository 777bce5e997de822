-- The machine by recursion on the probes that are left, and that it is the same machine. Assumes nothing.
use mathlib.Core.Path.{◌≡◌, refl, sym, ap, ◌∙◌}
use mathlib.Core.Bool.{Bool, true, false, cond, ◌||◌}
use mathlib.Core.Option.{Option, none, some}
use mathlib.Core.List.{List, [], ◌∷◌, ◌++◌}
use Prim.Native.Nat.{ℕ, zero, suc, ◌+◌}
use native.Mathlib.Omega.{arith}
use borrow.Author.Tests.{lt-ltb, le-ltb}
use lib.Dec.{ltb}
use lib.ListN.{length}
use Rattle.identity.specs.Bits.{Bits}
use Rattle.walk.specs.Beginnings.{then}
use Rattle.walk.specs.Machine.{next, zero_half, Phase, complete, doubtful, limited, full, named, Walk}
use Rattle.walk.specs.Machine.{go_on, settle, listing, noted, step_in, step, run}

abbrev pub ended : {A : Type 0} → ℕ → ℕ → List A → Phase → Walk A
ended l c f e = record { limit = l; count = c; listed = f; phase = e }

-- the phase of a walk that is known
pub phase-is : {A : Type 0} {s : Walk A} {l c : ℕ} {f : List A} {x y : Phase}
    → s ≡ ended l c f x → s.phase ≡ y → x ≡ y
phase-is {A} e h = sym (ap (λ (s : Walk A). s.phase) e) ∙ h

module _ {A : Type 0} (name : Bits → A) (depth cap : ℕ) where
  -- an answer to p, where `go` goes on
  unfoldable pub replied : (List A → Bool → Bool → Option Bits → Walk A)
      → ℕ → ℕ → List A → Bits → Bool → Bool → Bool → Walk A
  replied go l c f p q w true =
      cond (ltb (length p) depth)
      (go f false w (some (then p false)))
      (cond (ltb (length f) cap) (go (f ++ (name p ∷ [])) false w (next p)) (ended l (suc c) f (full p)))
  replied go l c f p q w false = go f (zero_half p) (w || q) (next p)

  -- the machine by recursion on the probes that are left
  unfoldable pub play : (Bits → Bool) → ℕ → ℕ → ℕ → List A → Bool → Bool → Option Bits → Walk A
  play heard l zero c f q w none = ended l c f (cond w doubtful complete)
  play heard l zero c f q w (some p) = ended l c f (limited p)
  play heard l (suc k) c f q w none = ended l c f (cond w doubtful complete)
  play heard l (suc k) c f q w (some p) = replied (play heard l k (suc c)) l c f p q w (heard p)

  module _ (heard : Bits → Bool) where
    abbrev go : ℕ → Walk A → Walk A
    go n s = run name depth cap heard n s

    pub stays : (n : ℕ) (s : Walk A) → step name depth cap s (heard (named s.phase)) ≡ s → go n s ≡ s
    unfolding run
    stays zero s e = refl
    stays (suc n) s e = ap (go n) e ∙ stays n s e

    cond_both : (k : ℕ) (b : Bool) (x y : Walk A) {u v : Walk A} → go k x ≡ u → go k y ≡ v
        → go k (cond b x y) ≡ cond b u v
    cond_both k true x y e g = e
    cond_both k false x y e g = g

    reply-eq : (l k c : ℕ)
        → ((f : List A) (q w : Bool) (at : Option Bits)
        → go k (settle l (suc c) f q w at) ≡ play heard l k (suc c) f q w at)
        → (f : List A) (q w : Bool) (p : Bits) (a : Bool)
        → go k (noted name depth cap l c f p q w a) ≡ replied (play heard l k (suc c)) l c f p q w a
    unfolding noted replied play step step_in listing
    reply-eq l k c ih f q w p true =
        cond_both k (ltb (length p) depth) _ _ (ih f false w (some (then p false)))
        (cond_both k (ltb (length f) cap) _ _ (ih (f ++ (name p ∷ [])) false w (next p))
        (stays k (ended l (suc c) f (full p)) refl))
    reply-eq l k c ih f q w p false = ih f (zero_half p) (w || q) (next p)

    pub run-play : (l k c : ℕ) → l ≡ c + k → (f : List A) (q w : Bool) (at : Option Bits)
        → run name depth cap heard k (settle l c f q w at) ≡ play heard l k c f q w at
    unfolding play run go_on step step_in named replied
    run-play l zero c h f q w none = refl
    run-play l zero c h f q w (some p) = rw (le-ltb c l (omega arith))
    run-play l (suc k) c h f q true none = stays (suc k) (ended l c f doubtful) refl
    run-play l (suc k) c h f q false none = stays (suc k) (ended l c f complete) refl
    run-play l (suc k) c h f q w (some p) =
        rw (lt-ltb c l (omega arith)) (reply-eq l k c (run-play l k (suc c) (omega arith)) f q w p (heard p))
