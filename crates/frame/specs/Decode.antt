-- What the decoder answers to what lies between two flags. N is the frame limit.
--   body d             == the decoded octets d without their two check octets: address, control and payload
--   right_check d      == the last two of d are the check of those before them
--   decode_rows N is_broken d room == the rows of the table of numbers, for a line that is broken or not and has the
--                         decoded octets d, and a lent output of so many octets
--   decoded N s room   == the answer to the octets s between two flags: 6 where N is no frame limit, then those rows
--   framed N d room    == what those rows say of a line that is not broken and has the decoded octets d
-- Assumes nothing.
use Rattle.std.specs.Prelude.{Bool, false, not, List, [], ◌∷◌, ℕ, ◌-◌, eqb, ltb, length, get_or, take}
use Rattle.octets.specs.Octets.{pair_of}
use Rattle.refusal.specs.Answer.{Answer, TestRow, ◌when◌, answered, shorter}
use Rattle.fcs.specs.Check.{check_of}
use Rattle.limits.specs.Limits.{is_limit}
use Rattle.frame.specs.Line.{broken, plain}

-- "address, control, payload, and two check octets, low one first"
unfoldable pub body : List ℕ → List ℕ
body d = take (length d - 2) d

unfoldable pub right_check : List ℕ → Bool
right_check d = eqb (check_of (body d)) (pair_of (get_or d (length d - 2) 0) (get_or d (length d - 1) 0))

-- "The decoder tests 4, 1, 2, 3, 5": "0x7E inside, or 0x7D as the last octet", "decoded octets fewer than 4", "more
-- than N", "frame check wrong", "the lent output is too short"
unfoldable pub decode_rows : ℕ → Bool → List ℕ → ℕ → List TestRow
decode_rows N is_broken d room =
    4 when is_broken
    ∷ 1 when ltb (length d) 4
    ∷ 2 when ltb N (length d)
    ∷ 3 when not (right_check d)
    ∷ 5 when shorter room (body d)
    ∷ []

-- 02 (iv): "outside 78 to 260: refusal 6 first"; "On success address, control and payload stand at the start of the lent
-- output"
unfoldable pub decoded : ℕ → List ℕ → ℕ → Answer (List ℕ)
decoded N s room =
    answered (6 when not (is_limit N) ∷ decode_rows N (broken s) (plain s) room) (body (plain s))

abbrev pub framed : ℕ → List ℕ → ℕ → Answer (List ℕ)
framed N d room = answered (decode_rows N false d room) (body d)
