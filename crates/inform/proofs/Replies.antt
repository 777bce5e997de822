-- What is answered is answered by the device as the message leaves it. Assumes nothing.
use mathlib.Core.Path.{◌≡◌, ◌∙◌}
use Rattle.std.specs.Prelude.{Option, Some}
use Rattle.record.specs.Desk.{Payload}
use Rattle.record.specs.declared.Session.{Session}
use Rattle.record.specs.declared.Device.{Device}
use Rattle.record.specs.Changes.{device_of}
use Rattle.station.specs.declared.Turn.{Turn}
use Rattle.station.specs.Turns.{answering}
use Rattle.message.specs.declared.Carried.{Carried}
use Rattle.inform.specs.Inform.{heed_of, heeded, replied_by}

pub answered-by : (d : Device) (s : Session) (c : Carried) {q : Payload} (r : Option Payload) (h : Device) (t : Turn)
    → t ≡ answering h s q → h ≡ heed_of d s c → r ≡ Some q → t ≡ replied_by d s c r
unfolding replied_by answering device_of heeded
answered-by d s c r h t e f g = e ∙ rw (f, g)
