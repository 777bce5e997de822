-- Frames on the line, one behind the other. 01: "The writer gives flag, frame, flag"; two frames may share a flag.
--   Sent           == a frame: how many flags stand in front of it beyond the one that closes the frame before it, and its
--                     address, control and payload
--   sent fs        == behind a flag: the frames fs, a flag behind each
--   bodies fs      == address, control and payload of each
--   Fits N b       == address, control and payload of a frame within the limit N
--   FitEach N bs   == each of bs is
--   lines_of bs    == the line of each of bs, each with its own two flags
--   all_given bs   == each of bs is handed out
--   Written        == what was handed to the writer, with the room that it was lent, and the line that it gave
--   AllWritten N ws == each line of ws is what the writer with the limit N gave; written_lines ws == the lines, and
--                     written_bodies ws == address, control and payload of each
-- Assumes nothing.
use Rattle.std.specs.Prelude.{◌≡◌, List, [], ◌∷◌, ◌++◌, ℕ, ◌+◌, ◌≤◌, length, replicate}
use Rattle.octets.specs.Octets.{Octets}
use Rattle.refusal.specs.Answer.{Answer, gives}
use Rattle.fcs.specs.Check.{with_check}
use Rattle.frame.specs.Line.{flag, on_line}
use Rattle.frame.specs.Write.{line_of, written}

pub record Sent : Type 0 where
  pub flags : ℕ
  pub body : List ℕ

unfoldable pub sent : List Sent → List ℕ
sent [] = []
sent (f ∷ fs) = replicate f.flags flag ++ (on_line (with_check f.body) ++ flag ∷ sent fs)

unfoldable pub bodies : List Sent → List (List ℕ)
bodies [] = []
bodies (f ∷ fs) = f.body ∷ bodies fs

-- its two check octets are counted
abbrev pub Fits : ℕ → List ℕ → Type 0
Fits N b = Octets b × (2 ≤ length b) × (length b + 2 ≤ N)

unfoldable pub FitEach : ℕ → List (List ℕ) → Type 0
FitEach N [] = Unit {0}
FitEach N (b ∷ bs) = Fits N b × FitEach N bs

unfoldable pub lines_of : List (List ℕ) → List ℕ
lines_of [] = []
lines_of (b ∷ bs) = line_of b ++ lines_of bs

unfoldable pub all_given : List (List ℕ) → List (Answer (List ℕ))
all_given [] = []
all_given (b ∷ bs) = gives b ∷ all_given bs

pub record Written : Type 0 where
  pub address : ℕ
  pub control : ℕ
  pub payload : List ℕ
  pub room : ℕ
  pub line : List ℕ

abbrev pub written_body : Written → List ℕ
written_body w = w.address ∷ w.control ∷ w.payload

unfoldable pub AllWritten : ℕ → List Written → Type 0
AllWritten N [] = Unit {0}
AllWritten N (w ∷ ws) =
    Octets (written_body w)
    × (written N w.address w.control w.payload w.room ≡ gives w.line)
    × AllWritten N ws

unfoldable pub written_bodies : List Written → List (List ℕ)
written_bodies [] = []
written_bodies (w ∷ ws) = written_body w ∷ written_bodies ws

unfoldable pub written_lines : List Written → List (List ℕ)
written_lines [] = []
written_lines (w ∷ ws) = w.line ∷ written_lines ws
