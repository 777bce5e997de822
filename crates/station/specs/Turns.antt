-- The device after a frame, and what it says.
--   saying d x       == the device d, saying x; mute d == d as it was, and silence
--   pend s           == the I-frame with the pending answer; ready s == RR
--   answering d s p  == the device d in its session s, with the payload p as the pending answer, which it says
-- Assumes nothing.
use Rattle.control.specs.Control.{info_of, rr_of}
use Rattle.record.specs.Desk.{Payload}
use Rattle.record.specs.declared.Session.{Session}
use Rattle.record.specs.declared.Device.{Device}
use Rattle.record.specs.Changes.{device_of}
use Rattle.station.specs.declared.Say.{Say}
use Rattle.station.specs.declared.Say.TheVariants.{Silence, Bare, Pend}
use Rattle.station.specs.declared.Turn.{Turn}
use Rattle.station.specs.Station.{answers_with}

unfoldable pub saying : Device → Say → Turn
saying d x = record { device = d; say = x }

abbrev pub mute : Device → Turn
mute d = saying d Silence

-- "Answers are I-frames, N(S) = S, N(R) = the present R"; and RR
abbrev pub pend : Session → Say
pend s = Pend (info_of s.s s.r)

abbrev pub ready : Session → Say
ready s = Bare (rr_of s.r)

unfoldable pub answering : Device → Session → Payload → Turn
answering d s p = saying (device_of d (answers_with d.station s p) d.antenna) (pend s)
