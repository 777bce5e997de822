-- The words of a line. The bench script: "Words are parted by one space each."
--   spelled t        == the octets of the text t
--   first_of s       == the octets of s before its first space; behind_first s == those behind it
--   word_at n s      == the word of s behind n others; empty where there is none
--   spaces_in s      == how many spaces s has: one less than its words
--   place_from i n t w == the first of the n places from i on at which the text t has the word w
-- Assumes nothing.
use Rattle.std.specs.Prelude.{cond, List, [], ◌∷◌, Option, Some, None, ℕ, zero, suc, eqb, take, drop}
use Prim.Native.Char.{code}
use Prim.Native.String.{String}
use Prim.Native.String as text
use Rattle.octets.specs.Octets.{place_of}
use Rattle.identity.specs.Identity.{same}

unfoldable pub spelled : String → List ℕ
spelled text.[] = []
spelled (text.◌∷◌ c t) = code c ∷ spelled t

unfoldable pub first_of : List ℕ → List ℕ
first_of s = take (place_of 0x20 s) s

unfoldable pub behind_first : List ℕ → List ℕ
behind_first s = drop (suc (place_of 0x20 s)) s

-- "Two spaces in a row, one at the start or one at the end make an empty word, which counts as a word"
unfoldable pub word_at : ℕ → List ℕ → List ℕ
word_at zero s = first_of s
word_at (suc n) s = word_at n (behind_first s)

unfoldable pub spaces_in : List ℕ → ℕ
spaces_in [] = 0
spaces_in (x ∷ s) = cond (eqb x 0x20) (suc (spaces_in s)) (spaces_in s)

unfoldable pub place_from : ℕ → ℕ → List ℕ → List ℕ → Option ℕ
place_from i zero t w = None
place_from i (suc n) t w = cond (same (word_at i t) w) (Some i) (place_from (suc i) n t w)
