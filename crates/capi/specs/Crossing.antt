-- How an answer crosses to a program in C: as one number.
--   refusals         == what a refusal's number is added to: 0x10000, above every length of a frame or a line
--   crossed a        == the number that the answer a crosses as
--   Crosses x o r o' == the number r that crosses, and the output o' that was o, are the answer x
--   heard_crossed a  == the number that a receiver's answer crosses as: 0 where nothing was handed out
--   taken_after x t  == the number of octets taken, as a caller reads it after a call with the answer x, where it was t
--   Hears x b o t r b' o' t' == the number r that crosses, the block b', the output o' and the count t', which were b, o and t,
--                       are the answer x
-- Assumes nothing.
use Rattle.std.specs.Prelude.{◌≡◌, List, ℕ, ◌+◌}
use Rattle.refusal.specs.Answer.{Answer, gives, refuses, counted, out_after}
use Rattle.receiver.specs.Call.{Told, nothing, handed, Took, told_by, out_by}
use Rattle.block.specs.Block.{block_after}

abbrev pub refusals : ℕ
refusals = 0x10000

-- the length, or 0x10000 and the refusal's number
unfoldable pub crossed : Answer ℕ → ℕ
crossed (gives n) = n
crossed (refuses k) = refusals + k

-- as `Hands` of refusal/specs/Answer, with the number for the code's answer
pub record Crosses (right : Answer (List ℕ)) (o : List ℕ) (r : ℕ) (o' : List ℕ) : Type 0 where
  pub number : r ≡ crossed (counted right)
  pub octets : o' ≡ out_after right o

-- a frame has at least two octets, so 0 is none; the numbers of a refused call, 5 and 6, are never handed out
unfoldable pub heard_crossed : Answer (Told ℕ) → ℕ
heard_crossed (gives nothing) = 0
heard_crossed (gives (handed a)) = crossed a
heard_crossed (refuses k) = refusals + k

-- 01: a refusal leaves "every octet lent" as it was
unfoldable pub taken_after : Answer Took → ℕ → ℕ
taken_after (gives u) t = u.count
taken_after (refuses k) t = t

-- as `Blocks` of block/specs/Block, with the number for the code's answer
pub record Hears (right : Answer Took) (b o : List ℕ) (t r : ℕ) (b' o' : List ℕ) (t' : ℕ) : Type 0 where
  pub number : r ≡ heard_crossed (told_by right)
  pub block : b' ≡ block_after right b
  pub octets : o' ≡ out_by right o
  pub taken : t' ≡ taken_after right t
