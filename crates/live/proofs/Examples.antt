-- Records that no receiver made, and no script can: computed, row by row. Assumes nothing.
use mathlib.Core.Path.{◌≡◌, refl}
use mathlib.Core.Bool.{Bool, true, false}
use mathlib.Core.List.{[], ◌∷◌, ◌++◌}
use Prim.Native.Nat.{ℕ}
use lib.ListN.{replicate}
use Rattle.refusal.specs.Answer.{refuses, answered}
use Rattle.limits.specs.Limits.{is_limit}
use Rattle.frame.specs.Decode.{decode_rows}
use Rattle.frame.specs.Line.{plain_after}
use Rattle.receiver.specs.Held.{Held, held_of, added_by, taken_in, raw, after_octet, closes, stretch_says}
use Rattle.receiver.specs.Call.{nothing, further, takes, receive_rows, received}
use Rattle.block.specs.Block.{held_in, marks_in}

-- a record of so many octets, all zeros, in a store of so many places
abbrev pub made : ℕ → Bool → Bool → Bool → Bool → ℕ → Held
made n more last any seen places =
    held_of (record { count = n; more = more; escaping = false; last = last; any = any; seen = seen }) (replicate places 0)

-- 6: more octets than the store has places, whatever the room; a store of other than 260 places; and then 5
pub refused-rows : (received 78 (made 261 false false true true 260) [] 76 ≡ refuses 6)
    × (received 78 (made 261 false false true true 260) [] 0 ≡ refuses 6)
    × (received 78 (made 0 false false false false 259) [] 76 ≡ refuses 6)
    × (received 78 (made 260 false false true true 260) [] 75 ≡ refuses 5)
unfolding received receive_rows answered is_limit
refused-rows = (refl, refl, refl, refl)

-- what a flag says of a record: 4 before 2; more octets than places are 2, whatever the count
pub flag-rows : (stretch_says 78 76 (made 10 true true true true 260) ≡ refuses 4)
    × (stretch_says 78 76 (made 0 true false true true 260) ≡ refuses 2)
    × (stretch_says 78 76 (made 3 false false true true 260) ≡ refuses 1)
    × (stretch_says 78 76 (made 79 false false true true 260) ≡ refuses 2)
unfolding stretch_says answered decode_rows
flag-rows = (refl, refl, refl, refl)

-- and where it says nothing: no raw octet came since the last flag, or no flag was seen, whatever the record holds
pub quiet-rows : ((takes 78 76 (made 10 false false false true 260) (0x7E ∷ [])).told ≡ nothing)
    × ((takes 78 76 (made 10 false false true false 260) (0x7E ∷ [])).told ≡ nothing)
unfolding takes further closes
quiet-rows = (refl, refl)

-- more octets than places stay so, whatever comes: one octet more, and the flag says 2
pub more-row : stretch_says 78 76 (after_octet (made 10 true false true true 260) 0x11) ≡ refuses 2
unfolding stretch_says answered after_octet raw taken_in added_by plain_after
more-row = refl

-- a block whose count is 261, low octet first
pub block_row : received 260 (held_in (replicate 260 0 ++ 0x05 ∷ 0x01 ∷ 0 ∷ 0 ∷ 0 ∷ 0 ∷ 0 ∷ [])) [] 258 ≡ refuses 6
unfolding received receive_rows answered is_limit held_in marks_in
block_row = refl
