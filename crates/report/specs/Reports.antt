-- What a device reports of its alarms.
--   indication_of now told == the alarm indication
-- Assumes nothing.
use Rattle.std.specs.Prelude.{List, ℕ}
use Rattle.antenna.specs.declared.Alarms.{Alarms}
use Rattle.antenna.specs.Alarms.{changes_of}
use Rattle.payload.specs.Payloads.{message_of}

-- "An indication is code 0x07, length, then pairs alarm and 1 (raised) or 0, ascending, for alarms whose present state
-- differs from what was told."
unfoldable pub indication_of : Alarms → Alarms → List ℕ
indication_of present told = message_of 0x07 (changes_of present.flags told.flags)
