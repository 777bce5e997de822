-- The machine goes through the probes in their order, by any answers at all. Assumes nothing.
use mathlib.Core.Path.{◌≡◌, refl, sym, ap, ◌∙◌}
use mathlib.Core.Bool.{Bool, true, false, cond, not, ◌&&◌, ◌||◌, and-false, and-true, or-false, or-true}
use mathlib.Core.List.{List, [], ◌∷◌, ◌++◌, append_assoc, append-nil}
use mathlib.Core.Option.{Option, some}
use Prim.Native.Nat.{ℕ, zero, suc, ◌+◌}
use native.Mathlib.Omega.{arith}
use borrow.Author.Tests.{lt-ltb, le-ltb}
use lib.Dec.{ltb}
use lib.ListN.{length, length-append}
use Rattle.identity.specs.Bits.{Bits}
use Rattle.walk.specs.Beginnings.{then}
use Rattle.walk.specs.Probes.{Mark, pass, hit, order}
use Rattle.walk.specs.Machine.{next, zero_half, limited, full, Walk, start, run}
use Rattle.walk.proofs.Halves.{next-zero, next_one, zero_half-then}
use Rattle.walk.proofs.Play.{ended, play, run-play}
use Rattle.walk.proofs.Feed.{feed}
use Rattle.walk.proofs.Doubts.{silent, doubts}

-- the flag of a heard beginning, from those of its halves
flags : (w b d0 d1 : Bool) → ((w || d0) || (b || d1)) ≡ (w || (b || (d0 || d1)))
flags true b d0 d1 = refl
flags false b true d1 = sym (or-true b)
flags false b false d1 = refl

module _ {A : Type 0} (name : Bits → A) (depth cap l : ℕ) (W : Bool) (heard : Bits → Bool) where
  abbrev Play : ℕ → ℕ → List A → Bool → Bool → Option Bits → Walk A
  Play k c f q w at = play name depth cap heard l k c f q w at

  abbrev Feed : ℕ → ℕ → List A → List Mark → Walk A
  Feed k c f ms = feed name cap l W k c f ms

  -- once all below p is done, the walk goes through `rest`
  abbrev Done : ℕ → Bits → List Mark → Bool → Bool → Type 0
  Done d p rest q w =
      (k c : ℕ) (f : List A)
      → Play k c f (not (heard p) && zero_half p) (w || ((q && not (heard p)) || doubts heard d p)) (next p)
      ≡ Feed k c f rest

  -- at p, the walk goes through all below p and then through `rest`
  abbrev Goes : ℕ → Bits → List Mark → Bool → Bool → Type 0
  Goes d p rest q w = (k c : ℕ) (f : List A) → Play k c f q w (some p) ≡ Feed k c f (order heard d p ++ rest)

  silent-turn : (d : ℕ) (p : Bits) (rest : List Mark) (q w : Bool) → heard p ≡ false → doubts heard d p ≡ false
      → Done d p rest q w → (k c : ℕ) (f : List A) → Play (suc k) c f q w (some p) ≡ Feed k (suc c) f rest
  unfolding play feed Rattle.walk.proofs.Play.replied
  silent-turn d p rest q w e g K k c f =
      let h : ((q && true) || false) ≡ q = or-false (q && true) ∙ and-true q in
      rw e (rw (e, g, h) at (K k (suc c) f))

  hit-turn : (p : Bits) (rest : List Mark) (q w : Bool) → length p ≡ depth → heard p ≡ true
      → Done zero p rest q w
      → (k c : ℕ) (f : List A) → Play (suc k) c f q w (some p) ≡ Feed (suc k) c f (hit p ∷ rest)
  unfolding play feed Rattle.walk.proofs.Play.replied doubts next
  hit-turn p rest q w n e K k c f =
      let h : ((q && false) || false) ≡ false = or-false (q && false) ∙ and-false q in
      rw (e, le-ltb (length p) depth (omega arith))
      (ap (λ (x : Walk A). cond (ltb (length f) cap) x (ended l (suc c) f (full p)))
      (rw (e, h, or-false w) at (K k (suc c) (f ++ (name p ∷ [])))))

  through : (d : ℕ) (p : Bits) → length p + d ≡ depth → (rest : List Mark) (q w : Bool)
      → Done d p rest q w → Goes d p rest q w
  unfolding feed play order doubts Rattle.walk.proofs.Play.replied
  through zero p n rest q w K zero c f = by_said (heard p)
    where
      by_said : (a : Bool) → ended l c f (limited p) ≡ Feed zero c f ((cond a (hit p) (pass p) ∷ []) ++ rest)
      by_said true = refl
      by_said false = refl
  through (suc d) p n rest q w K zero c f = refl
  through zero p n rest q w K (suc k) c f = by_said (heard p) refl
    where
      by_said : (a : Bool) → heard p ≡ a
          → Play (suc k) c f q w (some p) ≡ Feed (suc k) c f ((cond a (hit p) (pass p) ∷ []) ++ rest)
      by_said true e = hit-turn p rest q w (omega arith) e K k c f
      by_said false e = silent-turn zero p rest q w e refl K k c f
  through (suc d) p n rest q w K (suc k) c f =
      by_said (heard p) refl (through d (then p false)) (through d (then p true))
    where
      by_said : (a : Bool) → heard p ≡ a
          → (length (then p false) + d ≡ depth → (rest : List Mark) (q w : Bool)
          → Done d (then p false) rest q w → Goes d (then p false) rest q w)
          → (length (then p true) + d ≡ depth → (rest : List Mark) (q w : Bool)
          → Done d (then p true) rest q w → Goes d (then p true) rest q w)
          → Play (suc k) c f q w (some p)
          ≡ Feed k (suc c) f (cond a (order heard d (then p false) ++ order heard d (then p true)) [] ++ rest)
      by_said false e left right = silent-turn (suc d) p rest q w e (rw e) K k c f
      by_said true e left right =
          let s0 : Bool = heard (then p false) in
          let s1 : Bool = heard (then p true) in
          let d0 : Bool = doubts heard d (then p false) in
          let d1 : Bool = doubts heard d (then p true) in
          let ones : List Mark = order heard d (then p true) in
          rw (e, lt-ltb (length p) depth (omega arith), append_assoc (order heard d (then p false)) ones rest)
          (left (omega (arith, length-append p (false ∷ []))) (ones ++ rest) false w
          (λ k c f. rw (next-zero p, zero_half-then p false, and-true (not s0))
          (right (omega (arith, length-append p (true ∷ []))) rest (not s0) (w || d0)
          (λ k c f. rw (next_one p, zero_half-then p true, and-false (not s1), flags w (silent heard p) d0 d1)
          (rw (e, and-false q) at (K k c f)))
          k c f))
          k (suc c) f)

-- a walk of any answers, run to its end
pub through-run : {A : Type 0} (name : Bits → A) (depth cap limit : ℕ) (heard : Bits → Bool)
    → run name depth cap heard limit (start limit)
    ≡ feed name cap limit (doubts heard depth []) limit 0 [] (order heard depth [])
unfolding feed play next
through-run name depth cap limit heard =
    run-play name depth cap heard limit limit 0 (omega arith) [] false false (some [])
    ∙ through name depth cap limit (doubts heard depth []) heard depth [] (omega arith) [] false false last limit 0 []
    ∙ ap (feed name cap limit (doubts heard depth []) limit 0 []) (append-nil (order heard depth []))
  where
    last : Done name depth cap limit (doubts heard depth []) heard depth [] [] false false
    last zero c f = refl
    last (suc k) c f = refl
