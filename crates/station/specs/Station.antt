-- What is said of a frame that is not carried out, and an answer that becomes pending. 01, "The link".
--   resent s           == the pending answer again, else RR
--   awaiting s p       == the session s with p pending
--   answers_with t s p == the station t with the payload p as the pending answer of its session s
-- Assumes nothing.
use Rattle.std.specs.Prelude.{cond}
use Rattle.control.specs.Control.{info_of, rr_of}
use Rattle.record.specs.Desk.{Payload}
use Rattle.record.specs.declared.Pending.{Pending}
use Rattle.record.specs.declared.Pending.TheVariants.{Answer}
use Rattle.record.specs.declared.Session.{Session}
use Rattle.record.specs.declared.Link.TheVariants.{Connected}
use Rattle.record.specs.declared.Station.{Station}
use Rattle.record.specs.Desk.{with_reply}
use Rattle.session.specs.Session.{pends}
use Rattle.station.specs.declared.Say.{Say}
use Rattle.station.specs.declared.Say.TheVariants.{Bare, Pend}

-- "it gets the pending answer again, else RR with N(R) = R"; "Answers are I-frames, N(S) = S, N(R) = the present R."
unfoldable pub resent : Session → Say
resent s = cond (pends s.pending) (Pend (info_of s.s s.r)) (Bare (rr_of s.r))

unfoldable pub awaiting : Session → Pending → Session
awaiting s p = record { r = s.r; s = s.s; pending = p }

-- an answer that is sent is pending until it is acknowledged
unfoldable pub answers_with : Station → Session → Payload → Station
answers_with t s p = record { link = Connected (awaiting s Answer); desk = with_reply t.desk p }
