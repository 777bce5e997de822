-- Messages of layer 7: what is read in one, the two lists of codes, the table, the order of the checks.
--   code_of m, declared_of m, data_of m == the code, the length field and the data of the message m
--   asked_of m       == the tilt that the data of m asks
--   unsupported      == the codes of the standard that get 0x25
--   table            == the messages that there are: k takes n, the code k with n octets of data in
--   in_table t c     == the table t has the code c; taken_by t c == the data length that it defines for c
--   misdeclared m    == "length field wrong"; barred m == "code one of .."; unknown m == "code not in the table"
--   misfit m         == "data length not the defined one"
--   asks_drive c     == set tilt or get tilt
--   busied n c       == "busy"; outside n c t == "out of range"
--   own_checks m     == the checks that the message m alone decides; drive_checks n c t == those of the drive
--   checks n m       == the checks of m, in their order, for the antenna n
--   code_for p       == the paper's code of the procedure p, for each case; code_number e == its return code e
--   Named c r        == the code's answer r to the code c is the procedure that has it, or none has
--   check_number r   == the paper's return code, or none, for each case of the code's answer
--   Due n m          == m is a set tilt that the antenna n carries out
-- Assumes nothing.
use Rattle.std.specs.Prelude.{◌≡◌, Bool, true, false, cond, not, ◌&&◌, ◌||◌, List, [], ◌∷◌, ◌++◌, ℕ, eqb, length, get_or, drop, Result, Ok, Err}
use Rattle.octets.specs.Octets.{holds, pair_of}
use Rattle.refusal.specs.Answer.{Answer, gives, refuses, TestRow, ◌when◌}
use Rattle.antenna.specs.declared.Angle.{Angle}
use Rattle.antenna.specs.declared.Antenna.{Antenna}
use Rattle.antenna.specs.Motions.{in_range, busy_of, drive_rows}
use Rattle.tilt.specs.Tilts.{angle_of}
use Rattle.message.specs.declared.Procedure.{Procedure}
use Rattle.message.specs.declared.Procedure.TheVariants.{AlarmStatus, Information, ClearAlarms, Subscribe, SetTilt, GetTilt}
use Rattle.message.specs.declared.ReturnCode.{ReturnCode}
use Rattle.message.specs.declared.ReturnCode.TheVariants.{Busy, OutOfRange, Unknown, WrongLength, NotSupported}

infix 70 ◌takes◌
-- "Code, data length (two octets, low first), data."
abbrev pub code_of : List ℕ → ℕ
code_of m = get_or m 0 0

abbrev pub declared_of : List ℕ → ℕ
declared_of m = pair_of (get_or m 1 0) (get_or m 2 0)

abbrev pub data_of : List ℕ → List ℕ
data_of m = drop 3 m

-- "2 octets, low first, signed"
abbrev pub asked_of : List ℕ → Angle
asked_of m = angle_of (get_or m 3 0) (get_or m 4 0)

-- "code one of 0x03, 0x0A, 0x0E, 0x0F, 0x10, 0x11, 0x31, 0x32, 0x40, 0x41, 0x42, 0x90, then 0x25"
abbrev pub unsupported : List ℕ
unsupported = 0x03 ∷ 0x0A ∷ 0x0E ∷ 0x0F ∷ 0x10 ∷ 0x11 ∷ 0x31 ∷ 0x32 ∷ 0x40 ∷ 0x41 ∷ 0x42 ∷ 0x90 ∷ []

-- the columns "Code" and "Data in"
pub data Entry : Type 0 where
  ◌takes◌ : ℕ → ℕ → Entry

abbrev pub table : List Entry
table = 0x04 takes 0 ∷ 0x05 takes 0 ∷ 0x06 takes 0 ∷ 0x12 takes 0 ∷ 0x33 takes 2 ∷ 0x34 takes 0 ∷ []

unfoldable pub in_table : List Entry → ℕ → Bool
in_table [] c = false
in_table (k takes n ∷ rows) c = cond (eqb k c) true (in_table rows c)

unfoldable pub taken_by : List Entry → ℕ → ℕ
taken_by [] c = 0
taken_by (k takes n ∷ rows) c = cond (eqb k c) n (taken_by rows c)

-- "length field wrong"
abbrev pub misdeclared : List ℕ → Bool
misdeclared m = not (eqb (declared_of m) (length (data_of m)))

abbrev pub barred : List ℕ → Bool
barred m = holds (code_of m) unsupported

-- "code not in the table below"
abbrev pub unknown : List ℕ → Bool
unknown m = not (in_table table (code_of m))

-- "data length not the defined one"
abbrev pub misfit : List ℕ → Bool
misfit m = not (eqb (length (data_of m)) (taken_by table (code_of m)))

-- "Set and get tilt are busy while moving or while a result waits"
abbrev pub asks_drive : ℕ → Bool
asks_drive c = eqb c 0x33 || eqb c 0x34

abbrev pub busied : Antenna → ℕ → Bool
busied n c = asks_drive c && busy_of n.motion

-- "out of range"
abbrev pub outside : Antenna → ℕ → Angle → Bool
outside n c t = eqb c 0x33 && not (in_range n t)

-- "length field wrong, 0x24; code one of .., then 0x25; code not in the table below, 0x19; data length not the defined
-- one, 0x24"
abbrev pub own_checks : List ℕ → List TestRow
own_checks m =
    0x24 when misdeclared m
    ∷ 0x25 when barred m
    ∷ 0x19 when unknown m
    ∷ 0x24 when misfit m
    ∷ []

-- "busy, 0x05; out of range, 0x13"
unfoldable pub drive_checks : Antenna → ℕ → Angle → List TestRow
drive_checks n c t = drive_rows (busied n c) (outside n c t)

-- "Checked in this order": the message's own, then the drive's
unfoldable pub checks : Antenna → List ℕ → List TestRow
checks n m = own_checks m ++ drive_checks n (code_of m) (asked_of m)

-- the column "Code"
unfoldable pub code_for : Procedure → ℕ
code_for AlarmStatus = 0x04
code_for Information = 0x05
code_for ClearAlarms = 0x06
code_for Subscribe = 0x12
code_for SetTilt = 0x33
code_for GetTilt = 0x34

-- the return codes of the checks
unfoldable pub code_number : ReturnCode → ℕ
code_number Busy = 0x05
code_number OutOfRange = 0x13
code_number Unknown = 0x19
code_number WrongLength = 0x24
code_number NotSupported = 0x25

-- "code not in the table below, 0x19"
unfoldable pub Named : ℕ → Result Procedure ReturnCode → Type 0
Named c (Ok p) = code_for p ≡ c
Named c (Err why) = (why ≡ Unknown) × (in_table table c ≡ false)

-- a message that passes its own checks has no return code yet
unfoldable pub check_number : Result Procedure ReturnCode → Answer (Unit {0})
check_number (Ok p) = gives tt
check_number (Err why) = refuses (code_number why)

-- "0x33 set tilt: 2 octets, low first, signed": exactly these octets, nothing moves or waits, and the tilt they ask is in
-- range
pub record Due (n : Antenna) (m : List ℕ) : Type 0 where
  pub octets : m ≡ 0x33 ∷ 2 ∷ 0 ∷ get_or m 3 0 ∷ get_or m 4 0 ∷ []
  pub idle : busy_of n.motion ≡ false
  pub reach : in_range n (asked_of m) ≡ true
