-- One call of the salvage: a record, the frame limit N, a run of octets, a lent output; and the last call, without octets.
--   Dropping         == nothing was left out, or a stretch; stretch_of v k == the open one of v, with the number k
--   Progress         == a call that is not refused: what is carried after it, how many octets it took, what it wrote and
--                       what it left out
--   in_front k ws t  == the same, with k octets more taken and ws more written in front
--   works N c s      == what is made of the octets s: up to and with the first flag that closes a stretch left out, or all
--   salvage_rows, salvaged N c s room == the rows of the numbers, and the answer to the call
--   AtEnd            == the last call: the record after it, and what it left out
--   finish_rows, finished v == the rows of its numbers, and the answer to it
--   dropping_of q    == a stretch that the code leaves out, or none
--   listing_of r, ending_of r == what the code tells, in the paper's numbers, and at the last call; left_by x == what it
--                       should tell
--   taken_of, written_of == what the code has taken and written: of a refused call nothing
--   taken_by, wrote_by, holding_by == what is taken and written, and what is carried after an answer
--   Salvages x c o r d o' == the code's answer r, the record d and the output o', of a call with the record c and the output
--                       o, are the answer x
--   Finishes x v r u == the code's answer r to the last call with the record v, and the record u after it, are the answer x
-- Assumes nothing.
use Rattle.std.specs.Prelude.{Option, Some, None, Result, Ok, Err}
use Rattle.std.specs.Prelude.{◌≡◌, ℕ, ◌+◌, cond, not, List, [], ◌∷◌, ◌++◌, length, ◌==◌, nat_lt}
use Rattle.octets.specs.Octets.{◌at_start_of◌}
use Rattle.refusal.specs.Numbers.{number_of}
use Rattle.refusal.specs.declared.Refusal.{Refusal}
use Rattle.refusal.specs.Answer.{Answer, gives, refuses, TestRow, ◌when◌, answered}
use Rattle.limits.specs.Limits.{is_limit}
use Rattle.frame.specs.Line.{flag}
use Rattle.receiver.specs.Held.{places, fresh_marks}
use Rattle.salvage.specs.Holding.{Holding, raw_most, with_octet, verdict_of, closed_by, kept_octets, onward_from}
use Rattle.salvage.specs.Holding.{tallied}
use Rattle.salvage.specs.declared.Salvage.{Salvage}
use Rattle.salvage.specs.declared.Stretch.{Stretch}
use Rattle.salvage.specs.declared.Verdict.{Verdict}
use Rattle.salvage.specs.declared.Verdict.TheVariants.{Still, Empty, Kept, Dropped}
use Rattle.salvage.specs.declared.Salvaged.{Salvaged}

pub data Dropping : Type 0 where
  no_stretch : Dropping
  a_stretch : Stretch → Dropping

-- 02 (vii): "where each dropped stretch began, how long it was, and its refusal number"
unfoldable pub stretch_of : Salvage → ℕ → Stretch
stretch_of v k = record { offset = v.stretch.offset; length = v.stretch.length; number = k }

pub record Progress : Type 0 where
  pub holding : Holding
  pub count : ℕ
  pub written : List ℕ
  pub left : Dropping

unfoldable pub in_front : ℕ → List ℕ → Progress → Progress
in_front k ws t = record { holding = t.holding; count = k + t.count; written = ws ++ t.written; left = t.left }

-- a call stops behind each stretch that is left out
unfoldable pub at_flag : Verdict → Holding → Progress → Progress
at_flag Still c t = t
at_flag Empty c t = in_front 1 [] t
at_flag Kept c t = in_front 1 (kept_octets c.salvage.begun c.salvage.stretch.held c.raw) t
at_flag (Dropped k) c t =
    record {
      holding = closed_by (Dropped k) c;
      count = 1;
      written = [];
      left = a_stretch (stretch_of c.salvage k);
    }

unfoldable pub works : ℕ → Holding → List ℕ → Progress
works N c [] = record { holding = c; count = 0; written = []; left = no_stretch }
works N c (x ∷ xs) =
    cond (x == flag) (at_flag (verdict_of N c) c (works N (closed_by (verdict_of N c) c) xs))
    (in_front 1 [] (works N (with_octet c x) xs))

-- a kept stretch has at most 520 raw octets, the other octets that are written are the run's, and the first flag is one
abbrev pub spare_most : ℕ
spare_most = 521

unfoldable pub salvage_rows : ℕ → Salvage → ℕ → ℕ → List TestRow
salvage_rows N v run room =
    6 when not (is_limit N)
    ∷ 6 when nat_lt places v.receiver.count
    ∷ 6 when nat_lt raw_most v.stretch.held
    ∷ 5 when nat_lt room (spare_most + run)
    ∷ []

unfoldable pub salvaged : ℕ → Holding → List ℕ → ℕ → Answer Progress
salvaged N c s room = answered (salvage_rows N c.salvage (length s) room) (works N c s)

pub record AtEnd : Type 0 where
  pub salvage : Salvage
  pub left : Dropping

-- "or 0 for octets .. after the last": what is open is left out
unfoldable pub end_verdict : Salvage → Verdict
end_verdict v = cond (v.stretch.length == 0) Empty (Dropped 0)

unfoldable pub end_left : Salvage → Verdict → Dropping
end_left v Still = no_stretch
end_left v Empty = no_stretch
end_left v Kept = no_stretch
end_left v (Dropped k) = a_stretch (stretch_of v k)

-- nothing is open then, as before any octet; the counts stay
unfoldable pub emptied : Verdict → Salvage → Salvage
emptied f v =
    record {
      receiver = fresh_marks;
      stretch = onward_from 0 v.stretch;
      begun = v.begun;
      totals = tallied v.totals v.stretch.length f;
    }

unfoldable pub at_end : Salvage → AtEnd
at_end v = record { salvage = emptied (end_verdict v) v; left = end_left v (end_verdict v) }

unfoldable pub finish_rows : Salvage → List TestRow
finish_rows v = 6 when nat_lt places v.receiver.count ∷ 6 when nat_lt raw_most v.stretch.held ∷ []

unfoldable pub finished : Salvage → Answer AtEnd
finished v = answered (finish_rows v) (at_end v)

unfoldable pub dropping_of : Option Stretch → Dropping
dropping_of None = no_stretch
dropping_of (Some s) = a_stretch s

unfoldable pub listing_of : Result Salvaged Refusal → Answer Dropping
listing_of (Ok r) = gives (dropping_of r.left_out)
listing_of (Err k) = refuses (number_of k)

unfoldable pub taken_of : Result Salvaged Refusal → ℕ
taken_of (Ok r) = r.taken
taken_of (Err k) = 0

unfoldable pub written_of : Result Salvaged Refusal → ℕ
written_of (Ok r) = r.written
written_of (Err k) = 0

unfoldable pub left_by : Answer Progress → Answer Dropping
left_by (gives t) = gives t.left
left_by (refuses k) = refuses k

unfoldable pub taken_by : Answer Progress → ℕ
taken_by (gives t) = t.count
taken_by (refuses k) = 0

unfoldable pub wrote_by : Answer Progress → List ℕ
wrote_by (gives t) = t.written
wrote_by (refuses k) = []

-- 01: a refusal leaves all "as they were"
unfoldable pub holding_by : Answer Progress → Holding → Holding
holding_by (gives t) c = t.holding
holding_by (refuses k) c = c

pub record Salvages (right : Answer Progress) (c : Holding) (o : List ℕ) (r : Result Salvaged Refusal) (d : Holding) (o' : List ℕ) : Type 0 where
  pub answer : listing_of r ≡ left_by right
  pub count : taken_of r ≡ taken_by right
  pub written : written_of r ≡ length (wrote_by right)
  pub holding : d ≡ holding_by right c
  pub octets : o' ≡ wrote_by right at_start_of o

unfoldable pub ending_of : Result (Option Stretch) Refusal → Answer Dropping
ending_of (Ok q) = gives (dropping_of q)
ending_of (Err k) = refuses (number_of k)

unfoldable pub end_listing : Answer AtEnd → Answer Dropping
end_listing (gives e) = gives e.left
end_listing (refuses k) = refuses k

unfoldable pub end_salvage : Answer AtEnd → Salvage → Salvage
end_salvage (gives e) v = e.salvage
end_salvage (refuses k) v = v

pub record Finishes (right : Answer AtEnd) (v : Salvage) (r : Result (Option Stretch) Refusal) (u : Salvage) : Type 0 where
  pub answer : ending_of r ≡ end_listing right
  pub salvage : u ≡ end_salvage right v
