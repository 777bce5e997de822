-- One call of the receiver: a record, the frame limit N, a run of octets, a lent output. 02 (i): "It stops after each closing
-- flag that hands something out and tells how many octets it took".
--   Told A           == what a call tells: nothing, or what was handed out
--   Took             == a call that is not refused: the record after it, how many octets it took, and what it tells
--   further t        == the same, with one octet more in front
--   takes N room h s == what is taken of the octets s: up to and with the first flag that hands something out, or all
--   receive_rows N h room == the rows of the numbers for a call that takes nothing
--   received N h s room == the answer to the call
--   handed_of q, heard_of r == what the code tells, in the paper's numbers; told_counted, told_by == what it should tell
--   code_took r       == how many octets the code took: of a refused call none
--   took_by x, held_by x h, out_told, out_by x o == how many octets are taken, the record and the output after the
--                                                   answer x
--   Receives x h o r g o' == the code's answer r, the record g and the output o', of a call with the record h and the output
--                       o, are the answer x
-- Assumes nothing.
use Rattle.std.specs.Prelude.{Option, Some, None, Result, Ok, Err}
use Rattle.std.specs.Prelude.{◌≡◌, cond, not, List, [], ◌∷◌, ℕ, suc, eqb, ltb, length}
use Rattle.refusal.specs.declared.Refusal.{Refusal}
use Rattle.refusal.specs.Numbers.{number_of}
use Rattle.refusal.specs.Answer.{Answer, gives, refuses, TestRow, ◌when◌, answered, answer_of, counted, out_after}
use Rattle.limits.specs.Limits.{is_limit, frame_most}
use Rattle.receiver.specs.Held.{Held, places, after_octet, closes, stretch_says}
use Rattle.receiver.specs.declared.Received.{Received}

pub data Told (A : Type 0) : Type 0 where
  nothing : Told A
  handed : Answer A → Told A

pub record Took : Type 0 where
  pub held : Held
  pub count : ℕ
  pub told : Told (List ℕ)

-- one octet more was taken in front
unfoldable pub further : Took → Took
further t = record { held = t.held; count = suc t.count; told = t.told }

unfoldable pub takes : ℕ → ℕ → Held → List ℕ → Took
takes N room h [] = record { held = h; count = 0; told = nothing }
takes N room h (x ∷ xs) =
    cond (closes h x) (record { held = after_octet h x; count = 1; told = handed (stretch_says N room h) })
    (further (takes N room (after_octet h x) xs))

-- 02 (iv): "outside 78 to 260: refusal 6 first"; (i): "A record holding more octets than its store gets 6, then an output
-- shorter than 76 gets 5", which (iv) makes N - 2. A lent store of other than 260 places is no receiver's
unfoldable pub receive_rows : ℕ → Held → ℕ → List TestRow
receive_rows N h room =
    6 when not (is_limit N)
    ∷ 6 when not (eqb (length h.store) places)
    ∷ 6 when ltb places h.marks.count
    ∷ 5 when ltb room (frame_most N)
    ∷ []

unfoldable pub received : ℕ → Held → List ℕ → ℕ → Answer Took
received N h s room = answered (receive_rows N h room) (takes N room h s)

-- what the code tells, in the paper's numbers
unfoldable pub handed_of : Option (Result ℕ Refusal) → Told ℕ
handed_of None = nothing
handed_of (Some a) = handed (answer_of a)

unfoldable pub heard_of : Result Received Refusal → Answer (Told ℕ)
heard_of (Ok c) = gives (handed_of c.handed)
heard_of (Err r) = refuses (number_of r)

unfoldable pub code_took : Result Received Refusal → ℕ
code_took (Ok c) = c.taken
code_took (Err r) = 0

unfoldable pub told_counted : Told (List ℕ) → Told ℕ
told_counted nothing = nothing
told_counted (handed a) = handed (counted a)

unfoldable pub told_by : Answer Took → Answer (Told ℕ)
told_by (gives t) = gives (told_counted t.told)
told_by (refuses k) = refuses k

-- "nothing is taken"
unfoldable pub took_by : Answer Took → ℕ
took_by (gives t) = t.count
took_by (refuses k) = 0

-- 01: a refusal leaves all "as they were"
unfoldable pub held_by : Answer Took → Held → Held
held_by (gives t) h = t.held
held_by (refuses k) h = h

-- the frame at the start of the output, the rest unchanged; where nothing is handed out, all of it
unfoldable pub out_told : Told (List ℕ) → List ℕ → List ℕ
out_told nothing o = o
out_told (handed a) o = out_after a o

unfoldable pub out_by : Answer Took → List ℕ → List ℕ
out_by (gives t) o = out_told t.told o
out_by (refuses k) o = o

pub record Receives (right : Answer Took) (h : Held) (o : List ℕ) (r : Result Received Refusal) (g : Held) (o' : List ℕ) : Type 0 where
  pub answer : heard_of r ≡ told_by right
  pub count : code_took r ≡ took_by right
  pub held : g ≡ held_by right h
  pub octets : o' ≡ out_by right o
