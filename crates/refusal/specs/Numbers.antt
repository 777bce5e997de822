-- Numbers for "no": the table of 01, a case a row, and 02 (iv) over the frame limit N, which is 78 where none was agreed on.
--   number_of r == the paper's number of the refusal r
-- Assumes nothing.
use Rattle.std.specs.Prelude.{ℕ}
use Rattle.refusal.specs.declared.Refusal.{Refusal}
use Rattle.refusal.specs.declared.Refusal.TheVariants.{TooShort, TooLong, WrongCheck, Broken, NoRoom}
use Rattle.refusal.specs.declared.Refusal.TheVariants.{NotAllowed, ScanOver, CannotBe, PayloadTooLong}

abbrev pub number_of : Refusal → ℕ
-- "decoded octets fewer than 4"
number_of TooShort = 1
-- 02 (iv): "refusal 2 means more than N", which 01 has as
-- "decoded octets more than 78"
number_of TooLong = 2
-- "frame check wrong"
number_of WrongCheck = 3
-- "0x7E inside, or 0x7D as the last octet"
number_of Broken = 4
-- "the lent output is too short"
number_of NoRoom = 5
-- 02 (iv): an N "outside 78 to 260"; 01:
-- "device data, or a device record handed in, not allowed"
number_of NotAllowed = 6
-- "a probe asked of, or an answer reported to, a scan that has ended .."
number_of ScanOver = 7
-- "a device event that can't be"
number_of CannotBe = 8
-- 02 (iv): "9 more than N - 4", which 01 has as
-- "payload to be written longer than 74 octets"
number_of PayloadTooLong = 9
