-- A message carried out: the answer to it, if there is one now, and what it changes.
--   replied_of q n told sub == the payload q is the answer; the antenna n, what was told, and the subscription after it
--   replies b n told sub   == the octets b are the answer
--   unanswered n told sub  == no answer now
--   payload_in c           == the payload of the answer in c; nothing lies in it where there is none
--   quieted n              == the antenna n with no alarm raised
--   done_by p n told sub c t == what the table says of the code c, whose data asks the tilt t, where no check fails
--   carried_answer r       == the paper's return code, or what is done, for each case of the code's answer
--   outcome n told sub c x == what comes of the checks' answer x
--   carried_of p n told sub m == the message m, carried out by a device with the plate p
-- Assumes nothing.
use Rattle.std.specs.Prelude.{Bool, true, cond, List, [], ℕ, ltb, eqb, length, Some, None, unwrap_or, Result, Ok, Err}
use Rattle.refusal.specs.Answer.{Answer, gives, refuses, answered}
use Rattle.antenna.specs.declared.Alarms.{Alarms}
use Rattle.antenna.specs.declared.Angle.{Angle}
use Rattle.antenna.specs.declared.Antenna.{Antenna}
use Rattle.antenna.specs.Alarms.{codes_of}
use Rattle.antenna.specs.Motions.{started}
use Rattle.antenna.specs.Events.{marked}
use Rattle.record.specs.Desk.{Payload}
use Rattle.record.specs.declared.Plate.{Plate}
use Rattle.record.specs.Desk.{calm, no_reply}
use Rattle.payload.specs.Payloads.{payload_of, success_of, failure_of}
use Rattle.tilt.specs.Tilts.{tilt_octets}
use Rattle.information.specs.Information.{information_of}
use Rattle.message.specs.Messages.{code_of, asked_of, checks, code_number}
use Rattle.message.specs.declared.ReturnCode.{ReturnCode}
use Rattle.message.specs.declared.Carried.{Carried}

abbrev pub replied_of : Payload → Antenna → Alarms → Bool → Carried
replied_of q n told sub = record { reply = Some q; antenna = n; told = told; subscribed = sub }

unfoldable pub replies : List ℕ → Antenna → Alarms → Bool → Carried
replies b n told sub = replied_of (payload_of b) n told sub

unfoldable pub unanswered : Antenna → Alarms → Bool → Carried
unanswered n told sub = record { reply = None; antenna = n; told = told; subscribed = sub }

abbrev pub payload_in : Carried → Payload
payload_in c = unwrap_or c.reply no_reply

unfoldable pub quieted : Antenna → Antenna
quieted n = record { motion = n.motion; drive = marked n.drive calm }

-- the columns "Code" and "Data out after 0x00", and what changes; a code that is in no row does not come here
unfoldable pub done_by : Plate → Antenna → Alarms → Bool → ℕ → Angle → Carried
done_by p n told sub c t =
    -- "alarm status: raised alarms, ascending"
    cond (eqb c 0x04) (replies (success_of 0x04 (codes_of n.drive.raised.flags)) n told sub)
    -- "information: product, serial, hardware, software, each after its length"
    (cond (eqb c 0x05) (replies (success_of 0x05 (information_of p)) n told sub)
    -- "clear alarms: none; raised and told become empty"
    (cond (eqb c 0x06) (replies (success_of 0x06 []) (quieted n) calm sub)
    -- "subscribe: none"
    (cond (eqb c 0x12) (replies (success_of 0x12 []) n told true)
    -- "set tilt: none, sent when the movement ends"
    (cond (eqb c 0x33) (unanswered (started n t (Ok tt)) told sub)
    -- "get tilt: 2 octets"
    (cond (eqb c 0x34) (replies (success_of 0x34 (tilt_octets n.drive.tilt)) n told sub) (unanswered n told sub))))))

-- what is done has no return code
unfoldable pub carried_answer : Result Carried ReturnCode → Answer Carried
carried_answer (Ok done) = gives done
carried_answer (Err why) = refuses (code_number why)

-- "A failure answers code, 2, 0, 0x0B, return code."
unfoldable pub outcome : Antenna → Alarms → Bool → ℕ → Answer Carried → Carried
outcome n told sub c (gives done) = done
outcome n told sub c (refuses why) = replies (failure_of c why) n told sub

-- "shorter than 3, no answer", before all checks
unfoldable pub carried_of : Plate → Antenna → Alarms → Bool → List ℕ → Carried
carried_of p n told sub m =
    cond (ltb (length m) 3) (unanswered n told sub)
    (outcome n told sub (code_of m) (answered (checks n m) (done_by p n told sub (code_of m) (asked_of m))))
