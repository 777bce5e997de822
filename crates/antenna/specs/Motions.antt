-- A drive's movement.
--   in_range n t   == "lowest ≤ t ≤ highest"
--   busy_of m      == "busy while moving or while a result waits"
--   runs m         == a movement is running
--   owes_of m      == a tilt result is owed: a running movement's, or one that waits
--   waiting_of m   == the result that waits, if one does
--   unowed_of m    == m with what is owed dropped
--   moves n m      == the antenna n with the motion m
--   drive_rows busy outside == the drive's checks of a message, in their order, by what the two tests say
--   aimed_at n t   == the answer to the tilt t that is asked: the antenna with a movement that owes a result
--   aim_number r   == the paper's return code, or none, for each case of the code's answer
--   Aims x n r m   == the code's answer r, and the antenna m that was n, are the answer x
--   started n t r  == the antenna after the case r of the answer
--   code_waiting m == the return code of the result that waits; Awaits m r == the code's answer r is that result
--   result_code reached == the return code of a result; return_code w == of what waits, for each case, or None
-- Assumes nothing.
use Rattle.std.specs.Prelude.{◌≡◌, Bool, true, false, cond, not, ◌&&◌, List, [], ◌∷◌, ℕ, Option, None, Some, Result, Ok, Err}
use Rattle.refusal.specs.Answer.{Answer, gives, refuses, TestRow, ◌when◌, answered, settled, state_after}
use Rattle.antenna.specs.declared.Angle.{Angle}
use Rattle.antenna.specs.declared.Antenna.{Antenna}
use Rattle.antenna.specs.declared.Motion.{Motion}
use Rattle.antenna.specs.declared.Motion.TheVariants.{Still, Moving, Owing, Stopped}
use Rattle.antenna.specs.declared.Unaimed.{Unaimed}
use Rattle.antenna.specs.declared.Unaimed.TheVariants.{Busy, Outside}
use Rattle.antenna.specs.Angles.{at_most}

unfoldable pub in_range : Antenna → Angle → Bool
in_range n t = at_most n.drive.lowest t && at_most t n.drive.highest

-- "Set and get tilt are busy while moving or while a result waits"
abbrev pub busy_of : Motion → Bool
busy_of Still = false
busy_of Moving = true
busy_of (Owing asked) = true
busy_of (Stopped reached) = true

abbrev pub runs : Motion → Bool
runs Still = false
runs Moving = true
runs (Owing asked) = true
runs (Stopped reached) = false

abbrev pub owes_of : Motion → Bool
owes_of Still = false
owes_of Moving = false
owes_of (Owing asked) = true
owes_of (Stopped reached) = true

unfoldable pub waiting_of : Motion → Option Bool
waiting_of Still = None
waiting_of Moving = None
waiting_of (Owing asked) = None
waiting_of (Stopped reached) = Some reached

-- "Ending a session drops .. any tilt result owed; .. a running movement stay[s]"
abbrev pub unowed_of : Motion → Motion
unowed_of Still = Still
unowed_of Moving = Moving
unowed_of (Owing asked) = Moving
unowed_of (Stopped reached) = Still

unfoldable pub moves : Antenna → Motion → Antenna
moves n m = record { motion = m; drive = n.drive }

-- "busy, 0x05; out of range, 0x13"
abbrev pub drive_rows : Bool → Bool → List TestRow
drive_rows busy outside = 0x05 when busy ∷ 0x13 when outside ∷ []

unfoldable pub aimed_at : Antenna → Angle → Answer Antenna
aimed_at n t = answered (drive_rows (busy_of n.motion) (not (in_range n t))) (moves n (Owing t))

-- a movement that starts has no return code yet: "sent when the movement ends"
unfoldable pub aim_number : Result (Unit {0}) Unaimed → Answer (Unit {0})
aim_number (Err Busy) = refuses 0x05
aim_number (Err Outside) = refuses 0x13
aim_number (Ok u) = gives tt

-- as `Changes` of refusal/specs/Answer, with the return code for the code's answer
pub record Aims (right : Answer Antenna) (n : Antenna) (r : Result (Unit {0}) Unaimed) (m : Antenna) : Type 0 where
  pub aim : aim_number r ≡ settled right
  pub antenna : m ≡ state_after right n

unfoldable pub started : Antenna → Angle → Result (Unit {0}) Unaimed → Antenna
started n t (Err why) = n
started n t (Ok u) = moves n (Owing t)

-- "success exactly if t is the tilt asked, else failure 0x02"; success is 0x00
abbrev pub result_code : Bool → ℕ
result_code reached = cond reached 0x00 0x02

unfoldable pub return_code : Option Bool → Option ℕ
return_code None = None
return_code (Some reached) = Some (result_code reached)

-- the return code of the result that waits in the motion m, if one does
unfoldable pub code_waiting : Motion → Option ℕ
code_waiting Still = None
code_waiting Moving = None
code_waiting (Owing asked) = None
code_waiting (Stopped reached) = Some (result_code reached)

-- the code's answer r is the result that waits in m, by the paper's return code of each case
pub record Awaits (m : Motion) (r : Option Bool) : Type 0 where
  pub waits : r ≡ waiting_of m
  pub code : return_code r ≡ code_waiting m
