-- A line of the bench script, read.
--   command_of s     == the command of the line s by its place among the names
--   kinds_of c       == the kinds of the words behind the command c, one letter each
--   unless_faulty f r == what f makes of r, or the fault that r is
--   wordless c       == the line asks for the command c, and no word behind it is read
--   stored a os n    == the code's: a with the octets os up to n
--   with_word k d a n w == a, and the word w of the kind k at the place n
--   words_by d ks n s a == a, and the words of the line s from the place n on, of the kinds ks, up to the first fault
--   line_asks s d c   == what the line s of the command c asks of a bench with d devices
--   read_line s d    == what any line asks of it; nothing where it gets no answer
-- The octets of all HEX words lie one behind the other, and the value of HEX is where its octets end. Assumes nothing.
use Rattle.std.specs.Prelude.{Bool, cond, ◌||◌, List, [], ◌∷◌, Option, Some, None, Result, Ok, Err, ℕ, suc, ◌+◌, min, ltb, eqb, length, get_or, set, replicate}
use Prim.Native.Char.{code}
use Rattle.std.proofs.lemmas.List.Edits.{sets}
use Rattle.script.specs.Words.{spelled, word_at, spaces_in, place_from}
use Rattle.script.specs.Values.{hex_of, value_of}
use Rattle.script.specs.Commands.{names, kinds, commands}
use Rattle.script.specs.declared.Fault.{Fault}
use Rattle.script.specs.declared.Fault.TheVariants.{Long, Command, Words, Hex}
use Rattle.script.specs.declared.Asked.{Asked}

-- ---- the commands

-- "`command` (the first word)"
unfoldable pub command_of : List ℕ → Option ℕ
command_of s = place_from 0 commands (spelled names) (word_at 0 s)

unfoldable pub kinds_of : ℕ → List ℕ
kinds_of c = word_at c (spelled kinds)

-- ---- the words behind it

-- more octets than the longest line has in HEX
abbrev pub octets_most : ℕ
octets_most = 1000

abbrev pub wordless : ℕ → Asked
wordless c = record { command = c; values = replicate 8 0; octets = replicate octets_most 0; len = 0 }

unfoldable pub with_value : Asked → ℕ → Result ℕ Fault → Result Asked Fault
with_value a n (Ok v) = Ok (record { command = a.command; values = set a.values n v; octets = a.octets; len = a.len })
with_value a n (Err f) = Err f

unfoldable pub with_octets : Asked → List ℕ → Asked
with_octets a os =
    record {
      command = a.command;
      values = a.values;
      octets = sets a.octets a.len os;
      len = min (a.len + length os) octets_most;
    }

unfoldable pub with_hex : Asked → ℕ → Option (List ℕ) → Result Asked Fault
with_hex a n None = Err Hex
with_hex a n (Some os) = with_value (with_octets a os) n (Ok (with_octets a os).len)

-- the code's: other octets, up to a place
abbrev pub stored : Asked → List ℕ → ℕ → Asked
stored a os at = record { command = a.command; values = a.values; octets = os; len = at }

unfoldable pub with_word : ℕ → ℕ → Asked → ℕ → List ℕ → Result Asked Fault
with_word k d a n w = cond (eqb k (code "x")) (with_hex a n (hex_of w)) (with_value a n (value_of k d w))

abbrev pub unless_faulty : {A B : Type 0} → (A → Result B Fault) → Result A Fault → Result B Fault
unless_faulty f (Ok x) = f x
unless_faulty f (Err e) = Err e

-- "then each word from the left"
unfoldable pub words_by : ℕ → List ℕ → ℕ → List ℕ → Asked → Result Asked Fault
words_by d [] n s a = Ok a
words_by d (k ∷ ks) n s a = unless_faulty (words_by d ks (suc n) s) (with_word k d a n (word_at n s))

-- ---- the line

-- "A line that is empty or begins with `#` gets no answer."
unfoldable pub is_unanswered : List ℕ → Bool
is_unanswered s = eqb (length s) 0 || eqb (get_or s 0 0) (code "#")

-- "more than 2,000 octets"
abbrev pub line_longest : ℕ
line_longest = 2000

-- "A line's faults are looked for in this order: `long` (more than 2,000 octets ..; a comment is never too long),
-- `command` (the first word), `words` (their number), then each word from the left."
unfoldable pub line_asks : List ℕ → ℕ → Option ℕ → Result Asked Fault
line_asks s d None = Err Command
line_asks s d (Some c) =
    cond (eqb (spaces_in s) (length (kinds_of c))) (words_by d (kinds_of c) 1 s (wordless c)) (Err Words)

unfoldable pub read_line : List ℕ → ℕ → Result (Option Asked) Fault
read_line s d =
    cond (is_unanswered s) (Ok None)
    (cond (ltb line_longest (length s)) (Err Long)
    (unless_faulty (λ a. Ok (Some a)) (line_asks s d (command_of s))))
