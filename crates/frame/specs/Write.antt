-- What the writer answers. N is the frame limit.
--   frame_of a c p        == address a, control c and payload p with their check
--   line_of b             == the line of address, control and payload b: their check behind them, between flags
--   write_rows N p l room == the rows of the table of numbers, for the payload p, the line l and a lent output
--   written N a c p room  == the answer to address a, control c and payload p: 6 where N is no frame limit, then those
--                            rows
-- Assumes nothing.
use Rattle.std.specs.Prelude.{not, List, [], ◌∷◌, ℕ, ltb, length}
use Rattle.refusal.specs.Answer.{Answer, TestRow, ◌when◌, answered, shorter}
use Rattle.fcs.specs.Check.{with_check}
use Rattle.limits.specs.Limits.{is_limit, payload_most}
use Rattle.frame.specs.Line.{between}

-- "address, control, payload, and two check octets"
abbrev pub frame_of : ℕ → ℕ → List ℕ → List ℕ
frame_of a c p = with_check (a ∷ c ∷ p)

-- "flag, frame, flag, .. check octets included"
unfoldable pub line_of : List ℕ → List ℕ
line_of b = between (with_check b)

-- "the writer 9, then 5": "payload to be written longer than 74 octets", which becomes N - 4, "It needs exactly the octets
-- it writes"
unfoldable pub write_rows : ℕ → List ℕ → List ℕ → ℕ → List TestRow
write_rows N p l room = 9 when ltb (payload_most N) (length p) ∷ 5 when shorter room l ∷ []

-- 02 (iv): "outside 78 to 260: refusal 6 first"
unfoldable pub written : ℕ → ℕ → ℕ → List ℕ → ℕ → Answer (List ℕ)
written N a c p room =
    answered (6 when not (is_limit N) ∷ write_rows N p (line_of (a ∷ c ∷ p)) room) (line_of (a ∷ c ∷ p))
