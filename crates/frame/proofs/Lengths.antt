-- How long a written line is, where its flags stand, and which room it needs, over the frame limit N. Assumes nothing.
use mathlib.Core.Bool.{true}
use mathlib.Core.Path.{◌≡◌, sym, ◌∙◌}
use mathlib.Core.List.{List, [], ◌∷◌}
use Prim.Native.Nat.{ℕ, zero, suc, ◌+◌, ◌*◌, ◌<◌, ◌≤◌}
use native.Mathlib.Nat.{not-suc-le-zero}
use native.Mathlib.Omega.{arith}
use lib.ListN.{length, get_or, get_or-append}
use Rattle.octets.proofs.Words.{holds-nowhere}
use Rattle.refusal.specs.Answer.{gives, refuses}
use Rattle.refusal.proofs.Answers.{no_room, in-room}
use Rattle.fcs.specs.Check.{with_check}
use Rattle.limits.specs.Limits.{is_limit, payload_most, line_most}
use Rattle.frame.specs.Line.{flag, on_line, between}
use Rattle.frame.specs.Write.{line_of, written}
use Rattle.frame.proofs.Assembled.{length-with_check}
use Rattle.frame.proofs.Escapes.{length-between, on_line-short}
use Rattle.frame.proofs.Judge.{payload-fits}
use Rattle.frame.proofs.Trip.{no_flag}

-- each octet, the two of the check too, takes at most two, and each flag one
pub line-short : (b : List ℕ) → length (line_of b) ≤ 2 * length b + 6
unfolding line_of
line-short b =
    omega (arith, length-between (with_check b), on_line-short (with_check b), length-with_check b)

-- "It needs exactly the octets it writes, at most 158": at most `line_most N`
pub line-most : (N a c : ℕ) (p : List ℕ) → 4 ≤ N → length p ≤ payload_most N → length (line_of (a ∷ c ∷ p)) ≤ line_most N
line-most N a c p m h = omega (arith, line-short (a ∷ c ∷ p))

-- 0x7E stands only at its two ends
pub flag-at-ends : (b : List ℕ) (i : ℕ) → 0 < i → i + 1 < length (line_of b) → get_or (line_of b) i 0 ≡ 0x7E → ⊥
unfolding line_of between
flag-at-ends b zero h k e = not-suc-le-zero h
flag-at-ends b (suc i) h k e =
    let d : List ℕ = with_check b in
    let short : i < length (on_line d) = omega (arith, length-between d) in
    holds-nowhere flag (on_line d) (no_flag d) i short (sym (get_or-append (on_line d) (flag ∷ []) 0 i short) ∙ e)

-- the writer needs exactly the octets that it writes
module _ (N : ℕ) (l : is_limit N ≡ true) (a c : ℕ) (p : List ℕ) (room : ℕ) (h : length p ≤ payload_most N) where
  pub write-fits : length (line_of (a ∷ c ∷ p)) ≤ room → written N a c p room ≡ gives (line_of (a ∷ c ∷ p))
  write-fits k = payload-fits N l a c p room h ∙ in-room (line_of (a ∷ c ∷ p)) room k

  pub write-one-less : room < length (line_of (a ∷ c ∷ p)) → written N a c p room ≡ refuses 5
  write-one-less k = payload-fits N l a c p room h ∙ no_room (line_of (a ∷ c ∷ p)) room k
