-- The parameter reader: the frame's slice and the cursor, a place in it.
--   Stands         == what may stand at a place: `end`, the end of the field; `cut_short`, less than a triple; `triple`
--   stands_in at s == what stands at the place `at`, where the octets from there on are s
--   stands_at s at == what stands at the place `at` of s
--   behind at x    == the place behind what stands at `at`: behind a triple; the end, and less than a triple, stay
--   step_at s at   == what stands at the place `at` of s, and the place behind it
--   reader_of s at == the reader of the slice s, its cursor at the place `at`
--   next_in d      == what the reader d finds next; reader_after d == the reader d after that
-- Assumes nothing.
use Rattle.std.specs.Prelude.{cond, List, [], ◌∷◌, ℕ, ◌+◌, leb, length, drop, Some, None, Ok, Err}
use Rattle.std.specs.declared.option.Option.{Option}
use Rattle.std.specs.declared.result.Result.{Result}
use Rattle.std.specs.Borrow.{Bor}
use Rattle.reader.specs.declared.Reader.{Reader}
use Rattle.reader.specs.declared.Step.{Step}
use Rattle.reader.specs.declared.Triple.{Triple}
use Rattle.reader.specs.declared.Malformed.{Malformed}

abbrev pub Stands : Type 0
Stands = Result (Option Triple) Malformed

abbrev pub end : Stands
end = Ok None

abbrev pub cut_short : Stands
cut_short = Err (record {})

abbrev pub triple : ℕ → ℕ → ℕ → Stands
triple n from len = Ok (Some (record { id = n; from = from; len = len }))

-- "triples of identifier, length, value": an identifier, a length, and as many octets as it says
unfoldable pub stands_in : ℕ → List ℕ → Stands
stands_in at [] = end
stands_in at (n ∷ []) = cut_short
stands_in at (n ∷ k ∷ xs) = cond (leb k (length xs)) (triple n (at + 2) k) cut_short

unfoldable pub stands_at : List ℕ → ℕ → Stands
stands_at s at = stands_in at (drop at s)

unfoldable pub behind : ℕ → Stands → ℕ
behind at (Ok (Some t)) = t.from + t.len
behind at (Ok None) = at
behind at (Err e) = at

abbrev pub step_at : List ℕ → ℕ → Step
step_at s at = record { found = stands_at s at; cursor = behind at (stands_at s at) }

abbrev pub reader_of : Bor (List ℕ) → ℕ → Reader
reader_of s at = record { frame = s; cursor = at }

abbrev pub next_in : Reader → Stands
next_in d = (step_at d.frame.now d.cursor).found

abbrev pub reader_after : Reader → Reader
reader_after d = reader_of d.frame (step_at d.frame.now d.cursor).cursor
