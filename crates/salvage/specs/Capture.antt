-- The sentence: a capture is parted by its flags; the stretches that the decoder reads are kept, as they stood, and the others
-- are left out, and listed. 02 (vii): "writes a capture of the good frames only, and lists what it left out: where each
-- dropped stretch began, how long it was, and its refusal number, or 0 for octets before the first flag or after the last".
--   parted_after p s == s parted by its flags, where the octets p stand before it; parted s == s alone
--   Piece            == octets between flags: their place in the capture, counted from 0, the octets, and what is said of
--                       them: their frame, or a number
--   pieces_from N at ps == the parts ps from the place at on, a flag behind each but the last, of which 0 is said
--   pieces_in N s    == those of the capture s that have octets, in order; of what lies before the first flag 0 is said
--   kept_pieces, left_pieces == those with a frame, and those with a number
--   listed ps        == of each stretch left out where it began, how long it was, and its number;
--                       frames_of ps == the frames
--   good_of ps       == a capture of the stretches ps: a flag, and each with a flag behind it; of none, no octets
--   octet_count ps   == how many octets they have; flags_in s == how many flags s has
--   totals_of N s    == what is counted of the capture s
-- Assumes nothing.
use Rattle.std.specs.Prelude.{ℕ, suc, ◌+◌, cond, List, [], ◌∷◌, ◌++◌, length, ◌==◌}
use Rattle.refusal.specs.Answer.{Answer, gives, refuses}
use Rattle.limits.specs.Limits.{frame_most}
use Rattle.frame.specs.Line.{flag}
use Rattle.frame.specs.Decode.{decoded}
use Rattle.salvage.specs.declared.Stretch.{Stretch}
use Rattle.salvage.specs.declared.Totals.{Totals}

unfoldable pub parted_after : List ℕ → List ℕ → List (List ℕ)
parted_after p [] = p ∷ []
parted_after p (x ∷ xs) = cond (x == flag) (p ∷ parted_after [] xs) (parted_after (p ++ x ∷ []) xs)

abbrev pub parted : List ℕ → List (List ℕ)
parted s = parted_after [] s

pub record Piece : Type 0 where
  pub offset : ℕ
  pub octets : List ℕ
  pub said : Answer (List ℕ)

-- "or 0 for octets .. after the last"; an output of N - 2 octets has room for every frame
unfoldable pub pieces_from : ℕ → ℕ → List (List ℕ) → List Piece
pieces_from N at [] = []
pieces_from N at (p ∷ []) = record { offset = at; octets = p; said = refuses 0 } ∷ []
pieces_from N at (p ∷ q ∷ ps) =
    record { offset = at; octets = p; said = decoded N p (frame_most N) } ∷ pieces_from N (at + length p + 1) (q ∷ ps)

-- "or 0 for octets before the first flag"
unfoldable pub all_pieces : ℕ → List (List ℕ) → List Piece
all_pieces N [] = []
all_pieces N (p ∷ ps) = record { offset = 0; octets = p; said = refuses 0 } ∷ pieces_from N (length p + 1) ps

-- a stretch of no octets is neither kept nor left out
unfoldable pub piece_if : Piece → List ℕ → List Piece → List Piece
piece_if a [] ps = ps
piece_if a (x ∷ p) ps = a ∷ ps

unfoldable pub some_pieces : List Piece → List Piece
some_pieces [] = []
some_pieces (a ∷ ps) = piece_if a a.octets (some_pieces ps)

unfoldable pub pieces_in : ℕ → List ℕ → List Piece
pieces_in N s = some_pieces (all_pieces N (parted s))

-- "the good frames only"
unfoldable pub kept_if : Piece → Answer (List ℕ) → List Piece → List Piece
kept_if a (gives b) ps = a ∷ ps
kept_if a (refuses k) ps = ps

unfoldable pub kept_pieces : List Piece → List Piece
kept_pieces [] = []
kept_pieces (a ∷ ps) = kept_if a a.said (kept_pieces ps)

unfoldable pub left_if : Piece → Answer (List ℕ) → List Piece → List Piece
left_if a (gives b) ps = ps
left_if a (refuses k) ps = a ∷ ps

unfoldable pub left_pieces : List Piece → List Piece
left_pieces [] = []
left_pieces (a ∷ ps) = left_if a a.said (left_pieces ps)

-- "where each dropped stretch began, how long it was, and its refusal number"
unfoldable pub entry : Piece → Answer (List ℕ) → List Stretch → List Stretch
entry a (gives b) es = es
entry a (refuses k) es = record { offset = a.offset; length = length a.octets; number = k } ∷ es

unfoldable pub listed : List Piece → List Stretch
listed [] = []
listed (a ∷ ps) = entry a a.said (listed ps)

unfoldable pub frame_if : Answer (List ℕ) → List (List ℕ) → List (List ℕ)
frame_if (gives b) bs = b ∷ bs
frame_if (refuses k) bs = bs

unfoldable pub frames_of : List Piece → List (List ℕ)
frames_of [] = []
frames_of (a ∷ ps) = frame_if a.said (frames_of ps)

unfoldable pub flag_behind : List Piece → List ℕ
flag_behind [] = []
flag_behind (a ∷ ps) = a.octets ++ flag ∷ flag_behind ps

-- "writes a capture"
unfoldable pub good_of : List Piece → List ℕ
good_of [] = []
good_of (a ∷ ps) = flag ∷ flag_behind (a ∷ ps)

unfoldable pub octet_count : List Piece → ℕ
octet_count [] = 0
octet_count (a ∷ ps) = length a.octets + octet_count ps

unfoldable pub flags_in : List ℕ → ℕ
flags_in [] = 0
flags_in (x ∷ xs) = cond (x == flag) (suc (flags_in xs)) (flags_in xs)

-- "Kept frame octets, flags and dropped octets"
unfoldable pub totals_of : ℕ → List ℕ → Totals
totals_of N s =
    let ks : List Piece = kept_pieces (pieces_in N s) in
    let ds : List Piece = left_pieces (pieces_in N s) in
    record {
      frames = length ks;
      kept = octet_count ks;
      flags = flags_in s;
      stretches = length ds;
      dropped = octet_count ds;
    }
