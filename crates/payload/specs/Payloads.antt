-- The payloads that layer 7 sends, as lists of octets, and how such a list lies in a payload.
--   message_of c d    == code, length, data: every message and every answer to one is such a list
--   success_of c out  == the answer of success to the code c, with the data out
--   failure_of c why  == the answer of failure to the code c, with its return code
--   result_of reached == the answer to a set tilt once its movement has ended
--   body_most         == how many octets of data a payload has room for
--   payload_of b      == the octets b, laid into a payload
-- Assumes nothing.
use Rattle.std.specs.Prelude.{Bool, cond, List, [], ◌∷◌, ℕ, length}
use Rattle.octets.specs.Octets.{low_of, high_of}
use Rattle.octets.specs.Text.{laid}
use Rattle.antenna.specs.Motions.{result_code}
use Rattle.record.specs.Allowed.{reply_most}
use Rattle.record.specs.Desk.{Payload}

-- "Code, data length (two octets, low first), data."
unfoldable pub message_of : ℕ → List ℕ → List ℕ
message_of code d = code ∷ low_of (length d) ∷ high_of (length d) ∷ d

-- "Data out after 0x00"
unfoldable pub success_of : ℕ → List ℕ → List ℕ
success_of code out = message_of code (0x00 ∷ out)

-- "A failure answers code, 2, 0, 0x0B, return code."
unfoldable pub failure_of : ℕ → ℕ → List ℕ
failure_of code why = code ∷ 2 ∷ 0 ∷ 0x0B ∷ why ∷ []

-- "set tilt: none, sent when the movement ends"; "success exactly if t is the tilt asked, else failure 0x02"
unfoldable pub result_of : Bool → List ℕ
result_of reached = cond reached (success_of 0x33 []) (failure_of 0x33 (result_code reached))

abbrev pub body_most : ℕ
body_most = 71

-- as many octets as there are, at the start of the 74 places, zeros behind them
abbrev pub payload_of : List ℕ → Payload
payload_of = laid reply_most
