-- A row of devices in memory, and a scan of it. The statements are the bus's: `scanned`, a scan run to its end through
-- written lines, of the devices on the cable.
--   on_cable row      == the devices that hang on the cable; off_cable row == the places behind them
--   with_devices row ds == the row with the devices ds on its cable
--   swept_by row b    == the scan of the bus b, and the row with its devices
--   swept row limit   == a scan of the row with the limit, run to its end
-- Assumes nothing.
use Rattle.std.specs.Prelude.{List, ◌++◌, ℕ, take, drop}
use Rattle.record.specs.declared.Device.{Device}
use Rattle.bus.specs.Scanning.{Bus, scanned}
use Rattle.bus.specs.declared.Row.{Row}
use Rattle.mast.specs.declared.Swept.{Swept}

abbrev pub on_cable : Row → List Device
on_cable row = take row.count row.devices

abbrev pub off_cable : Row → List Device
off_cable row = drop row.count row.devices

unfoldable pub with_devices : Row → List Device → Row
with_devices row ds = record { devices = ds ++ off_cable row; count = row.count }

unfoldable pub swept_by : Row → Bus → Swept
swept_by row b = record { scan = b.scan; row = with_devices row b.devices }

-- "a scan of the bench from its start to its end; every probe goes, as a written line, to each device"
unfoldable pub swept : Row → ℕ → Swept
swept row limit = swept_by row (scanned limit (on_cable row))
