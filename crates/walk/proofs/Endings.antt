-- How a walk ends, by any answers at all, and that it has one end. Assumes nothing.
use mathlib.Core.Path.{◌≡◌, refl, ap, ◌∙◌}
use mathlib.Core.Bool.{Bool, cond}
use mathlib.Core.List.{List, [], ◌∷◌, ◌++◌, map}
use Prim.Native.Nat.{ℕ, suc, ◌≤◌, ◌<◌}
use native.Mathlib.Omega.{arith}
use lib.ListN.{length}
use Rattle.identity.specs.Bits.{Bits}
use Rattle.walk.specs.Probes.{Mark, hit, asked, hits, order}
use Rattle.walk.specs.Machine.{Phase, complete, doubtful, limited, full, Walk, start, run}
use Rattle.walk.proofs.Play.{ended}
use Rattle.walk.proofs.Feed.{feed, feed-whole, feed-stop, feed-over, Fate, whole, stopped, over, fate}
use Rattle.walk.proofs.Doubts.{doubts}
use Rattle.walk.proofs.Through.{through-run}

module _ {A : Type 0} (name : Bits → A) (d cap limit : ℕ) (heard : Bits → Bool) where
  abbrev pub last : Walk A
  last = run name d cap heard limit (start limit)

  abbrev pub probes : List Mark
  probes = order heard d []

  -- all probes answered; stopped at the limit, before m; stopped at the identity p, which finds the list full
  pub data Ending : Type 0 where
    all_asked : length probes ≤ limit → length (hits probes) ≤ cap
        → last ≡ ended limit (length probes) (map name (hits probes)) (cond (doubts heard d []) doubtful complete)
        → Ending
    at-limit : (ys : List Mark) (m : Mark) (zs : List Mark)
        → probes ≡ ys ++ m ∷ zs → length ys ≡ limit → length (hits ys) ≤ cap
        → last ≡ ended limit limit (map name (hits ys)) (limited (asked m)) → Ending
    at-full : (ys : List Mark) (p : Bits) (zs : List Mark)
        → probes ≡ ys ++ hit p ∷ zs → length ys < limit → length (hits ys) ≡ cap
        → last ≡ ended limit (suc (length ys)) (map name (hits ys)) (full p) → Ending

  fed : {ms : List Mark} → probes ≡ ms → last ≡ feed name cap limit (doubts heard d []) limit 0 [] ms
  fed e = through-run name d cap limit heard ∙ ap (feed name cap limit (doubts heard d []) limit 0 []) e

  pub ending : Ending
  ending = go (fate cap limit probes)
    where
      counts : {n m : ℕ} (f : List A) (p : Phase) → n ≡ m → ended limit n f p ≡ ended limit m f p
      counts f p e = ap (λ (n : ℕ). ended limit n f p) e

      go : Fate cap limit probes → Ending
      go (whole a b) =
          all_asked a b (fed refl ∙ feed-whole name cap limit (doubts heard d []) probes limit 0 [] a (omega arith)
          ∙ counts (map name (hits probes)) (cond (doubts heard d []) doubtful complete) (omega arith))
      go (stopped ys m zs e a b) =
          at-limit ys m zs e a b
          (fed e ∙ feed-stop name cap limit (doubts heard d []) ys m zs limit 0 [] a (omega arith)
          ∙ counts (map name (hits ys)) (limited (asked m)) (omega arith))
      go (over ys p zs e a b) =
          at-full ys p zs e a b
          (fed e ∙ feed-over name cap limit (doubts heard d []) ys p zs limit 0 [] a (omega arith)
          ∙ counts (map name (hits ys)) (full p) (omega arith))
