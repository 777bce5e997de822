-- Which numbers are frame limits, both ways. Assumes nothing.
use mathlib.Core.Path.{◌≡◌, refl}
use mathlib.Core.Bool.{true}
use mathlib.Core.Logic.{◌↔◌}
use Prim.Native.Nat.{ℕ}
use borrow.Author.Tests.{leb-true, le-leb}
use Rattle.octets.proofs.Words.{and_parts}
use Rattle.limits.specs.Limits.{limit_least, is_limit, Limited}

-- "78 to 260"
pub is-limit-exactly : (N : ℕ) → is_limit N ≡ true ↔ Limited N
unfolding is_limit
is-limit-exactly N = (
  λ e. let both = and_parts _ _ e in (leb-true _ _ both.0, leb-true _ _ both.1),
  λ h. rw (le-leb 78 N h.0, le-leb N 260 h.1),
)

-- 01's limit is one
pub limit-least : is_limit limit_least ≡ true
unfolding is_limit
limit-least = refl
