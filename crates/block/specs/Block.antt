-- A receiver's record as a block of octets that a caller lends: the store, how many octets it holds, low octet first, and five
-- octets that each stand for a yes or a no.
--   marks_size       == 7: the octets behind the store; block_size == 267: those of a block
--   yes x            == such an octet is no exactly if 0; yes_octet b == the octet that is written
--   marks_in t       == the record that the seven octets t behind the store stand for
--   marks_octets r   == the seven octets that the record r is written as
--   held_in b        == the record with its store that the block b holds
--   block_after x b  == the block after a call with the answer x that had the block b
--   Blocks x b o r b' o' == the code's answer r, the block b' and the output o', of a call with the block b and the output o,
--                       are the answer x
-- Assumes nothing.
use Rattle.std.specs.Prelude.{Result, ◌≡◌, Bool, cond, not, List, [], ◌∷◌, ◌++◌, ℕ, ◌+◌, eqb, get_or, take, drop}
use Rattle.octets.specs.Octets.{low_of, high_of, pair_of}
use Rattle.refusal.specs.Answer.{Answer, gives, refuses}
use Rattle.refusal.specs.declared.Refusal.{Refusal}
use Rattle.receiver.specs.declared.Receiver.{Receiver}
use Rattle.receiver.specs.declared.Received.{Received}
use Rattle.receiver.specs.Held.{Held, held_of, places}
use Rattle.receiver.specs.Call.{Took, heard_of, code_took, told_by, took_by, out_by}

abbrev pub marks_size : ℕ
marks_size = 7

abbrev pub block_size : ℕ
block_size = places + marks_size

abbrev pub yes : ℕ → Bool
yes x = not (eqb x 0)

abbrev pub yes_octet : Bool → ℕ
yes_octet b = cond b 1 0

unfoldable pub marks_in : List ℕ → Receiver
marks_in t =
    record {
      count = pair_of (get_or t 0 0) (get_or t 1 0);
      more = yes (get_or t 2 0);
      escaping = yes (get_or t 3 0);
      last = yes (get_or t 4 0);
      any = yes (get_or t 5 0);
      seen = yes (get_or t 6 0);
    }

unfoldable pub marks_octets : Receiver → List ℕ
marks_octets r =
    low_of r.count
    ∷ high_of r.count
    ∷ yes_octet r.more
    ∷ yes_octet r.escaping
    ∷ yes_octet r.last
    ∷ yes_octet r.any
    ∷ yes_octet r.seen
    ∷ []

unfoldable pub held_in : List ℕ → Held
held_in b = held_of (marks_in (drop places b)) (take places b)

-- a refusal leaves it as it was, octet by octet
unfoldable pub block_after : Answer Took → List ℕ → List ℕ
block_after (gives t) b = t.held.store ++ marks_octets t.held.marks
block_after (refuses k) b = b

-- as `Receives` of receiver/specs/Call, with the block for the record
pub record Blocks (right : Answer Took) (b o : List ℕ) (r : Result Received Refusal) (b' o' : List ℕ) : Type 0 where
  pub answer : heard_of r ≡ told_by right
  pub count : code_took r ≡ took_by right
  pub block : b' ≡ block_after right b
  pub octets : o' ≡ out_by right o
