-- The row that a line's octets go into: the words of the theorem that it is long enough.
--   count_of p        == how many octets a HEX word stands for; 0 where it is none
--   row_of r          == what is asked so far; with a fault an empty row
--   AllFit d ks n s a == at each word of the line s from the place n on, of the kinds ks, the row has room for its octets
-- Assumes nothing.
use Rattle.std.specs.Prelude.{List, [], ◌∷◌, Option, Some, None, Result, Ok, Err, ℕ, suc, ◌+◌, ◌≤◌, length}
use Rattle.script.specs.Words.{word_at}
use Rattle.script.specs.Values.{hex_of}
use Rattle.script.specs.Script.{octets_most, wordless, with_word}
use Rattle.script.specs.declared.Fault.{Fault}
use Rattle.script.specs.declared.Asked.{Asked}

abbrev pub count_of : Option (List ℕ) → ℕ
count_of None = 0
count_of (Some os) = length os

abbrev pub row_of : Result Asked Fault → Asked
row_of (Ok a) = a
row_of (Err f) = wordless 0

abbrev pub AllFit : ℕ → List ℕ → ℕ → List ℕ → Asked → Type 0
AllFit d [] n s a = Unit {0}
AllFit d (k ∷ ks) n s a =
    (a.len + count_of (hex_of (word_at n s)) ≤ octets_most) × AllFit d ks (suc n) s (row_of (with_word k d a n (word_at n s)))
