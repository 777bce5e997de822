-- What becomes of a walk that goes through a list of probes: one of three, whatever the list and the limit.
-- Assumes nothing.
use mathlib.Core.Path.{◌≡◌, refl, ap}
use mathlib.Core.Bool.{Bool, cond}
use mathlib.Core.List.{List, [], ◌∷◌, ◌++◌, append_assoc, append-nil, map}
use Prim.Native.Nat.{ℕ, zero, suc, ◌+◌, ◌≤◌, ◌<◌}
use native.Mathlib.Nat.{add-zero}
use native.Mathlib.Omega.{arith}
use borrow.Author.Tests.{lt-ltb, le-ltb}
use lib.Dec.{ltb}
use lib.ListN.{length, length-append}
use Rattle.identity.specs.Bits.{Bits}
use Rattle.walk.specs.Probes.{Mark, pass, hit, asked, hits}
use Rattle.walk.specs.Machine.{complete, doubtful, limited, full, Walk}
use Rattle.walk.proofs.Play.{ended}

-- k probes may still be asked, c are answered, f is listed; W is the flag that the end has
module _ {A : Type 0} (name : Bits → A) (cap l : ℕ) (W : Bool) where
  unfoldable pub feed : ℕ → ℕ → List A → List Mark → Walk A
  feed zero c f [] = ended l c f (cond W doubtful complete)
  feed zero c f (m ∷ ms) = ended l c f (limited (asked m))
  feed (suc k) c f [] = ended l c f (cond W doubtful complete)
  feed (suc k) c f (pass p ∷ ms) = feed k (suc c) f ms
  feed (suc k) c f (hit p ∷ ms) =
      cond (ltb (length f) cap) (feed k (suc c) (f ++ (name p ∷ [])) ms) (ended l (suc c) f (full p))

  pub feed-whole : (ms : List Mark) (k c : ℕ) (f : List A) → length ms ≤ k → length f + length (hits ms) ≤ cap
      → feed k c f ms ≡ ended l (c + length ms) (f ++ map (name) (hits ms)) (cond W doubtful complete)
  unfolding feed hits
  feed-whole [] zero c f h n = rw (add-zero c, append-nil f)
  feed-whole [] (suc k) c f h n = rw (add-zero c, append-nil f)
  feed-whole (m ∷ ms) zero c f h n = absurd (omega arith)
  feed-whole (pass p ∷ ms) (suc k) c f h n =
      let e : c + suc (length ms) ≡ suc c + length ms = omega arith in
      rw e (feed-whole ms k (suc c) f (omega arith) n)
  feed-whole (hit p ∷ ms) (suc k) c f h n =
      let e : c + suc (length ms) ≡ suc c + length ms = omega arith in
      rw (e, lt-ltb (length f) cap (omega arith), ← append_assoc f (name p ∷ []) (map (name) (hits ms)))
      (feed-whole ms k (suc c) (f ++ (name p ∷ [])) (omega arith) (omega (arith, length-append f (name p ∷ []))))

  pub feed-stop : (ys : List Mark) (m : Mark) (zs : List Mark) (k c : ℕ) (f : List A)
      → length ys ≡ k → length f + length (hits ys) ≤ cap
      → feed k c f (ys ++ m ∷ zs) ≡ ended l (c + k) (f ++ map (name) (hits ys)) (limited (asked m))
  unfolding feed hits
  feed-stop [] m zs zero c f h n = rw (add-zero c, append-nil f)
  feed-stop [] m zs (suc k) c f h n = absurd (omega arith)
  feed-stop (y ∷ ys) m zs zero c f h n = absurd (omega arith)
  feed-stop (pass p ∷ ys) m zs (suc k) c f h n =
      let e : c + suc k ≡ suc c + k = omega arith in
      rw e (feed-stop ys m zs k (suc c) f (omega arith) n)
  feed-stop (hit p ∷ ys) m zs (suc k) c f h n =
      let e : c + suc k ≡ suc c + k = omega arith in
      rw (e, lt-ltb (length f) cap (omega arith), ← append_assoc f (name p ∷ []) (map (name) (hits ys)))
      (feed-stop ys m zs k (suc c) (f ++ (name p ∷ [])) (omega arith) (omega (arith, length-append f (name p ∷ []))))

  pub feed-over : (ys : List Mark) (p : Bits) (zs : List Mark) (k c : ℕ) (f : List A)
      → length ys < k → length f + length (hits ys) ≡ cap
      → feed k c f (ys ++ hit p ∷ zs) ≡ ended l (c + suc (length ys)) (f ++ map (name) (hits ys)) (full p)
  unfolding feed hits
  feed-over ys r zs zero c f h n = absurd (omega arith)
  feed-over [] r zs (suc k) c f h n =
      let e : c + 1 ≡ suc c = omega arith in
      rw (le-ltb (length f) cap (omega arith), e, append-nil f)
  feed-over (pass p ∷ ys) r zs (suc k) c f h n =
      let e : c + suc (suc (length ys)) ≡ suc c + suc (length ys) = omega arith in
      rw e (feed-over ys r zs k (suc c) f (omega arith) n)
  feed-over (hit p ∷ ys) r zs (suc k) c f h n =
      let e : c + suc (suc (length ys)) ≡ suc c + suc (length ys) = omega arith in
      rw (e, lt-ltb (length f) cap (omega arith), ← append_assoc f (name p ∷ []) (map (name) (hits ys)))
      (feed-over ys r zs k (suc c) (f ++ (name p ∷ [])) (omega arith) (omega (arith, length-append f (name p ∷ []))))

-- every list of probes, at every limit, goes one of three ways
pub data Fate (cap k : ℕ) (ms : List Mark) : Type 0 where
  whole : length ms ≤ k → length (hits ms) ≤ cap → Fate cap k ms
  stopped : (ys : List Mark) (m : Mark) (zs : List Mark)
      → ms ≡ ys ++ m ∷ zs → length ys ≡ k → length (hits ys) ≤ cap → Fate cap k ms
  over : (ys : List Mark) (p : Bits) (zs : List Mark)
      → ms ≡ ys ++ hit p ∷ zs → length ys < k → length (hits ys) ≡ cap → Fate cap k ms

pub fate : (cap k : ℕ) (ms : List Mark) → Fate cap k ms
unfolding hits
fate cap k [] = whole (omega arith) (omega arith)
fate cap zero (m ∷ ms) = stopped [] m ms refl refl (omega arith)
fate cap (suc k) (pass p ∷ ms) = more (fate cap k ms)
  where
    more : Fate cap k ms → Fate cap (suc k) (pass p ∷ ms)
    more (whole a b) = whole (omega arith) b
    more (stopped ys m zs e a b) =
        stopped (pass p ∷ ys) m zs (ap (λ (x : List Mark). pass p ∷ x) e) (omega arith) b
    more (over ys r zs e a b) = over (pass p ∷ ys) r zs (ap (λ (x : List Mark). pass p ∷ x) e) (omega arith) b
fate zero (suc k) (hit p ∷ ms) = over [] p ms refl (omega arith) refl
fate (suc cap) (suc k) (hit p ∷ ms) = more (fate cap k ms)
  where
    more : Fate cap k ms → Fate (suc cap) (suc k) (hit p ∷ ms)
    more (whole a b) = whole (omega arith) (omega arith)
    more (stopped ys m zs e a b) =
        stopped (hit p ∷ ys) m zs (ap (λ (x : List Mark). hit p ∷ x) e) (omega arith) (omega arith)
    more (over ys r zs e a b) =
        over (hit p ∷ ys) r zs (ap (λ (x : List Mark). hit p ∷ x) e) (omega arith) (omega arith)
