-- The places of a capture. 02 (vii): "Kept frame octets, flags and dropped octets add up to the length of the capture, each
-- counted by its place in the input".
--   Among a ps   == a is one of ps
--   Covers a i   == the piece a has an octet at the place i of the capture
--   KeptAt N s i, LeftAt N s i, FlagAt s i == at the place i of the capture s stands an octet of a stretch that is kept, one
--                   of a stretch that is left out, a flag
--   OneOfThree A B C == exactly one of the three
--   Edge s a     == a lies before the first flag of s, or after the last
-- Assumes nothing.
use Rattle.std.specs.Prelude.{◌≡◌, false, List, [], ◌∷◌, ◌⊎◌, ℕ, ◌+◌, ◌<◌, ◌≤◌, length, take, drop, get_or}
use Rattle.octets.specs.Octets.{holds}
use Rattle.frame.specs.Line.{flag}
use Rattle.salvage.specs.Capture.{Piece, pieces_in, kept_pieces, left_pieces}

abbrev pub Among : {A : Type 0} → A → List A → Type 0
Among a [] = ⊥
Among a (b ∷ bs) = (a ≡ b) ⊎ Among a bs

abbrev pub Covers : Piece → ℕ → Type 0
Covers a i = (a.offset ≤ i) × (i < a.offset + length a.octets)

abbrev pub KeptAt : ℕ → List ℕ → ℕ → Type 0
KeptAt N s i = (a : Piece) × Among a (kept_pieces (pieces_in N s)) × Covers a i

abbrev pub LeftAt : ℕ → List ℕ → ℕ → Type 0
LeftAt N s i = (a : Piece) × Among a (left_pieces (pieces_in N s)) × Covers a i

abbrev pub FlagAt : List ℕ → ℕ → Type 0
FlagAt s i = get_or s i 0 ≡ flag

pub record OneOfThree (A B C : Type 0) : Type 0 where
  pub one : A ⊎ (B ⊎ C)
  pub not_ab : A → B → ⊥
  pub not_ac : A → C → ⊥
  pub not_bc : B → C → ⊥

abbrev pub Edge : List ℕ → Piece → Type 0
Edge s a = (holds flag (take a.offset s) ≡ false) ⊎ (holds flag (drop a.offset s) ≡ false)
