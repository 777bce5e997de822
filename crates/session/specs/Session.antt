-- A session. 01, "The link": "A session has R (next number due from the master), S (number of the next unacknowledged
-- answer) and at most one pending answer."
--   pends p          == something is pending
--   acknowledges s n == n is S+1 and an answer is pending: it "removes it and moves S on"
--   good_number s n  == "N(R) must be S, or S+1 where an answer is pending"
--   accepts s n      == an I-frame with N(S) = n is accepted, after a good N(R)
--   taken s          == s with R moved on
--   counts_of s      == 2·V(S) + 32·R
-- Assumes nothing.
use Rattle.std.specs.Prelude.{Bool, true, false, cond, not, ◌&&◌, ◌||◌, ℕ, ◌+◌, ◌*◌, ◌%◌, eqb}
use Rattle.control.specs.Control.{next_of}
use Rattle.record.specs.declared.Pending.{Pending}
use Rattle.record.specs.declared.Pending.TheVariants.{Nothing, Answer, Indication}
use Rattle.record.specs.declared.Session.{Session}

abbrev pub pends : Pending → Bool
pends Nothing = false
pends Answer = true
pends Indication = true

unfoldable pub acknowledges : Session → ℕ → Bool
acknowledges s n = pends s.pending && eqb n (next_of s.s)

unfoldable pub good_number : Session → ℕ → Bool
good_number s n = eqb n s.s || acknowledges s n

-- "After a good N(R): an I-frame with N(S) = R and nothing pending is accepted: R moves on"
unfoldable pub accepts : Session → ℕ → Bool
accepts s n = not (pends s.pending) && eqb n s.r

unfoldable pub taken : Session → Session
taken s = record { r = next_of s.r; s = s.s; pending = s.pending }

-- "V(S) is S, or S+1 with an answer pending"
unfoldable pub vs_of : Session → ℕ
vs_of s = cond (pends s.pending) (next_of s.s) (s.s % 8)

unfoldable pub counts_of : Session → ℕ
counts_of s = vs_of s * 2 + s.r % 8 * 32
