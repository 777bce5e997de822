-- What a call answers, in the words of 01: what is asked for, or the number alone.
--   gives a           == the call does what it is asked, and a is what it gives
--   refuses k         == the number k for "no"
--   k when t          == a row of the table of numbers: k is to be given where t holds
--   answered rows a   == the number of the first row that holds, in the order of the rows; where none does, a
--   Given k rows      == a row of the number k holds, and none before it
--   Clear rows        == no row holds
--   numbers_of rows   == the numbers that the rows have
--   shorter room b    == a lent output of so many octets is shorter than the octets b
--   handed_out b room == the octets b, into a lent output of so many octets
--   Hands x o r o'    == the code's answer r, and the output o' that was o, are the answer x
--   made_of r         == the code's answer r that hands over what it made
--   Changes x s r s'  == the code's outcome r, and the state s' that was s, are the answer x
-- Assumes nothing.
use Rattle.std.specs.Prelude.{Result, Ok, Err}
use Rattle.refusal.specs.declared.Refusal.{Refusal}
use Rattle.std.specs.Prelude.{◌≡◌, Bool, true, false, cond, List, [], ◌∷◌, ◌⊎◌, ℕ, ltb, length}
use Rattle.octets.specs.Octets.{◌at_start_of◌}
use Rattle.refusal.specs.Numbers.{number_of}

infix 70 ◌when◌
pub data Answer (A : Type 0) : Type 0 where
  gives : A → Answer A
  refuses : ℕ → Answer A

pub data TestRow : Type 0 where
  ◌when◌ : ℕ → Bool → TestRow

-- 01: "Each is given exactly then", and the order in which a call tests
unfoldable pub answered : {A : Type 0} → List TestRow → A → Answer A
answered [] a = gives a
answered (k when t ∷ rows) a = cond t (refuses k) (answered rows a)

-- two rows may have one number: the first that holds counts
unfoldable pub Given : ℕ → List TestRow → Type 0
Given k [] = ⊥
Given k (n when t ∷ rows) = ((n ≡ k) × (t ≡ true)) ⊎ ((t ≡ false) × Given k rows)

unfoldable pub Clear : List TestRow → Type 0
Clear [] = Unit {0}
Clear (n when t ∷ rows) = (t ≡ false) × Clear rows

-- the numbers of the rows
unfoldable pub numbers_of : List TestRow → List ℕ
numbers_of [] = []
numbers_of (n when t ∷ rows) = n ∷ numbers_of rows

-- 01: "if it is shorter than they are"
abbrev pub shorter : ℕ → List ℕ → Bool
shorter room b = ltb room (length b)

-- 01: "refusal 5 if it is shorter than they are"
unfoldable pub handed_out : List ℕ → ℕ → Answer (List ℕ)
handed_out b room = answered (5 when shorter room b ∷ []) b

-- the paper's number, or how many octets, for each case of the code's answer
unfoldable pub answer_of : Result ℕ Refusal → Answer ℕ
answer_of (Ok n) = gives n
answer_of (Err r) = refuses (number_of r)

unfoldable pub counted : Answer (List ℕ) → Answer ℕ
counted (gives b) = gives (length b)
counted (refuses k) = refuses k

-- 01: "at the start of the lent output, the rest unchanged"; a refusal: "every octet lent stay as they were"
unfoldable pub out_after : Answer (List ℕ) → List ℕ → List ℕ
out_after (gives b) o = b at_start_of o
out_after (refuses k) o = o

pub record Hands (right : Answer (List ℕ)) (o : List ℕ) (r : Result ℕ Refusal) (o' : List ℕ) : Type 0 where
  pub answer : answer_of r ≡ counted right
  pub octets : o' ≡ out_after right o

-- the paper's number, or none, for each case of the code's outcome
unfoldable pub outcome_of : Result (Unit {0}) Refusal → Answer (Unit {0})
outcome_of (Ok _) = gives tt
outcome_of (Err r) = refuses (number_of r)

-- what is made, or the paper's number, for each case of the code's answer
unfoldable pub made_of : {S : Type 0} → Result S Refusal → Answer S
made_of (Ok s) = gives s
made_of (Err r) = refuses (number_of r)

unfoldable pub settled : {S : Type 0} → Answer S → Answer (Unit {0})
settled (gives s) = gives tt
settled (refuses k) = refuses k

-- 01: "the device, the scan .. stay as they were"
unfoldable pub state_after : {S : Type 0} → Answer S → S → S
state_after (gives t) s = t
state_after (refuses k) s = s

pub record Changes {S : Type 0} (right : Answer S) (s : S) (r : Result (Unit {0}) Refusal) (s' : S) : Type 0 where
  pub outcome : outcome_of r ≡ settled right
  pub state : s' ≡ state_after right s
