-- A caller in C, that lends a block for the record and an output: what the number that crosses tells it, and the call
-- made again and again with the same block.
--   zeros            == a block of zeros
--   of a call with the answer x that had the run s, the block b, the output o and the count c, and left b', o' and t:
--   Quiet x s o b' o' t == it handed out nothing, and took the whole run
--   Frame x o r b' o' t == it handed out a frame, of r octets at the start of o'
--   Number k x o b' o' t == it handed out the refusal k of a stretch
--   Declined k x b o c b' o' t == it was refused itself, with k: nothing is taken, and nothing is changed
--   ReceiveTells x b s o c r b' o' t == what the number r tells of it
--   read_c r o       == what a caller reads of the number r that crosses and the output o that it got back
--   Lent             == how far such a caller has come: the block, the octets that are not taken yet, what was handed out;
--                       held_lent w == the same, with the record that the block holds
--   offers_c N b s cs, fed_c N room b rs == as `offers` and `fed` of Calls, with the block for the record
-- Assumes nothing.
use Rattle.std.specs.Prelude.{◌≡◌, cond, List, [], ◌∷◌, ◌++◌, ◌⊎◌, ℕ, suc, ◌-◌, ◌<◌, ◌≤◌, eqb, ltb, length, take, drop, replicate}
use Rattle.octets.specs.Octets.{holds, OneOf, ◌at_start_of◌}
use Rattle.refusal.specs.Answer.{Answer, gives, refuses}
use Rattle.receiver.specs.Call.{nothing, handed, Took, received, took_by}
use Rattle.block.specs.Block.{block_size, marks_octets, held_in, block_after}
use Rattle.capi.specs.Crossing.{refusals}
use Rattle.live.specs.Calls.{Offer, Worked, outs_by, run_again}

abbrev pub zeros : List ℕ
zeros = replicate block_size 0

pub record Quiet (x : Answer Took) (s o b' o' : List ℕ) (t : ℕ) : Type 0 where
  pub took : Took
  pub answer : x ≡ gives took
  pub told : took.told ≡ nothing
  pub count : (t ≡ took.count) × (t ≡ length s)
  pub block : b' ≡ took.held.store ++ marks_octets took.held.marks
  pub octets : o' ≡ o

pub record Frame (x : Answer Took) (o : List ℕ) (r : ℕ) (b' o' : List ℕ) (t : ℕ) : Type 0 where
  pub took : Took
  pub answer : x ≡ gives took
  pub told : took.told ≡ handed (gives (take r o'))
  pub size : r ≡ length (take r o')
  pub count : (t ≡ took.count) × (0 < t)
  pub block : b' ≡ took.held.store ++ marks_octets took.held.marks
  pub octets : o' ≡ take r o' at_start_of o

pub record Number (k : ℕ) (x : Answer Took) (o b' o' : List ℕ) (t : ℕ) : Type 0 where
  pub among : OneOf k (1 ∷ 2 ∷ 3 ∷ 4 ∷ [])
  pub took : Took
  pub answer : x ≡ gives took
  pub told : took.told ≡ handed (refuses k)
  pub count : (t ≡ took.count) × (0 < t)
  pub block : b' ≡ took.held.store ++ marks_octets took.held.marks
  pub octets : o' ≡ o

pub record Declined (k : ℕ) (x : Answer Took) (b o : List ℕ) (c : ℕ) (b' o' : List ℕ) (t : ℕ) : Type 0 where
  pub among : OneOf k (5 ∷ 6 ∷ [])
  pub answer : x ≡ refuses k
  pub block : b' ≡ b
  pub octets : o' ≡ o
  pub count : t ≡ c

abbrev pub ReceiveTells : Answer Took → List ℕ → List ℕ → List ℕ → ℕ → ℕ → List ℕ → List ℕ → ℕ → Type 0
ReceiveTells x b s o c r b' o' t =
    (r ≡ 0 → Quiet x s o b' o' t)
    × (0 < r → r < refusals → Frame x o r b' o' t)
    × (refusals ≤ r → Number (r - refusals) x o b' o' t ⊎ Declined (r - refusals) x b o c b' o' t)

pub record Lent : Type 0 where
  pub block : List ℕ
  pub left : List ℕ
  pub outs : List (Answer (List ℕ))

abbrev pub held_lent : Lent → Worked
held_lent w = record { held = held_in w.block; left = w.left; outs = w.outs }

-- what was handed out before, in front
unfoldable pub with_outs_c : List (Answer (List ℕ)) → Lent → Lent
with_outs_c a w = record { block = w.block; left = w.left; outs = a ++ w.outs }

unfoldable pub offers_c : ℕ → List ℕ → List ℕ → List Offer → Lent
offers_c N b s [] = record { block = b; left = s; outs = [] }
offers_c N b s (c ∷ cs) =
    let a : Answer Took = received N (held_in b) (take c.octets s) c.room in
    with_outs_c (outs_by a) (offers_c N (block_after a b) (drop (took_by a) s) cs)

unfoldable pub fed_c : ℕ → ℕ → List ℕ → List (List ℕ) → Lent
fed_c N room b [] = record { block = b; left = []; outs = [] }
fed_c N room b (r ∷ rs) =
    let w : Lent = offers_c N b r (run_again (suc (length r)) (length r) room) in
    let v : Lent = fed_c N room w.block rs in
    record { block = v.block; left = w.left ++ v.left; outs = w.outs ++ v.outs }

-- a frame at the start of the output, or the number of a stretch; a call that is refused hands out nothing
unfoldable pub read_c : ℕ → List ℕ → List (Answer (List ℕ))
read_c r o =
    cond (eqb r 0) []
    (cond (ltb r refusals) (gives (take r o) ∷ [])
    (cond (holds (r - refusals) (1 ∷ 2 ∷ 3 ∷ 4 ∷ [])) (refuses (r - refusals) ∷ []) []))
