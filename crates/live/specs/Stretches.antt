-- The sentence: octets on the line are parted by flags, and what the decoder says of each stretch between two flags is handed
-- out, in order. 02 (i): "hands out each frame or its refusal number when the closing flag comes".
--   stretches_after p s == behind a flag and the octets p: what each flag of s closes
--   stretches s         == what lies between each flag of s and the next one
--   answers_to N ps     == what the decoder with the frame limit N says of each of the stretches ps that has octets
--   heard_line N s      == what is handed out over the octets s
-- Assumes nothing.
use Rattle.std.specs.Prelude.{cond, List, [], ◌∷◌, ◌++◌, ℕ, eqb}
use Rattle.refusal.specs.Answer.{Answer}
use Rattle.limits.specs.Limits.{frame_most}
use Rattle.frame.specs.Line.{flag}
use Rattle.frame.specs.Decode.{decoded}

-- the flag that closes a stretch opens the next one
unfoldable pub stretches_after : List ℕ → List ℕ → List (List ℕ)
stretches_after p [] = []
stretches_after p (x ∷ xs) = cond (eqb x flag) (p ∷ stretches_after [] xs) (stretches_after (p ++ x ∷ []) xs)

-- "octets before the first flag are dropped"
unfoldable pub stretches : List ℕ → List (List ℕ)
stretches [] = []
stretches (x ∷ xs) = cond (eqb x flag) (stretches_after [] xs) (stretches xs)

-- "Two flags side by side hand out nothing"; an output of N - 2 octets has room for every frame
unfoldable pub answers_to : ℕ → List (List ℕ) → List (Answer (List ℕ))
answers_to N [] = []
answers_to N ([] ∷ ps) = answers_to N ps
answers_to N ((x ∷ p) ∷ ps) = decoded N (x ∷ p) (frame_most N) ∷ answers_to N ps

unfoldable pub heard_line : ℕ → List ℕ → List (Answer (List ℕ))
heard_line N s = answers_to N (stretches s)
