-- A device that judges frames and hears lines. 01, "Numbers for 'no'" and "The link".
--   Reaction          == the device after a frame, and the frame that it says, if any
--   reacts d x        == the device d, saying x; reaction_of t == what comes of the turn t
--   judged d f room   == the decoded frame f, judged by the device d, with an answer buffer of so many octets
--   decoded_here d line == the octets between two flags, decoded by the device d
--   heard d line room == the octets between two flags, decoded and then judged
--   Said              == what the code answers: how many octets, none for silence, or the number
--   said_of x         == the number, silence, or how many octets, for each case of the code's answer
--   Judges x d o r d' o' == the code's result r, the device d' that was d and the buffer o' that was o are the answer x
-- Assumes nothing.
use Rattle.std.specs.Prelude.{Result, Ok, Err, Some, None, Option as Optional}
use Rattle.std.specs.Prelude.{◌≡◌, not, List, [], ◌∷◌, ℕ, ltb, length}
use Rattle.std.proofs.Math.Option.{Option, none, some}
use Rattle.octets.specs.Octets.{◌at_start_of◌}
use Rattle.refusal.specs.declared.Refusal.{Refusal}
use Rattle.refusal.specs.Numbers.{number_of}
use Rattle.refusal.specs.Answer.{Answer, gives, refuses, TestRow, ◌when◌, answered}
use Rattle.limits.specs.Limits.{limit_most, frame_most}
use Rattle.frame.specs.Decode.{decoded}
use Rattle.record.specs.declared.Device.{Device}
use Rattle.record.specs.Allowed.{limit_of, allowed_device}
use Rattle.station.specs.declared.Say.{Say}
use Rattle.station.specs.declared.Turn.{Turn}
use Rattle.link.specs.Link.{judged_frame}
use Rattle.speech.specs.Speech.{frame_by}

pub record Reaction : Type 0 where
  pub device : Device
  pub frame : Option (List ℕ)

unfoldable pub reacts : Device → Say → Reaction
reacts d x = record { device = d; frame = frame_by d x }

abbrev pub reaction_of : Turn → Reaction
reaction_of t = reacts t.device t.say

-- "the device 6, then 5 for a frame": "an answer buffer shorter than 76 gives refusal 5 first", and N - 2 for 76
unfoldable pub judge_rows : Device → ℕ → List TestRow
judge_rows d room = 6 when not (allowed_device d) ∷ 5 when ltb room (frame_most (limit_of d)) ∷ []

unfoldable pub judged : Device → List ℕ → ℕ → Answer Reaction
judged d f room = answered (judge_rows d room) (reaction_of (judged_frame d f))

-- "A frame is judged only after it has been decoded"; a refusal of the decoder is given at once
unfoldable pub heard_by : Device → ℕ → Answer (List ℕ) → Answer Reaction
heard_by d room (refuses k) = refuses k
heard_by d room (gives f) = judged d f room

-- with the frame limit of its link, into a buffer of its own, with room for every frame; a limit that is none is the
-- decoder's 6
abbrev pub decoded_here : Device → List ℕ → Answer (List ℕ)
decoded_here d line = decoded (limit_of d) line (frame_most limit_most)

unfoldable pub heard : Device → List ℕ → ℕ → Answer Reaction
heard d line room = heard_by d room (decoded_here d line)

-- ---- the code's answers

abbrev pub Said : Type 0
Said = Result (Optional ℕ) Refusal

unfoldable pub said_of : Said → Answer (Option ℕ)
said_of (Ok None) = gives none
said_of (Ok (Some n)) = gives (some n)
said_of (Err r) = refuses (number_of r)

unfoldable pub size_of : Option (List ℕ) → Option ℕ
size_of none = none
size_of (some f) = some (length f)

unfoldable pub told_of : Answer Reaction → Answer (Option ℕ)
told_of (gives x) = gives (size_of x.frame)
told_of (refuses k) = refuses k

-- "The caller gets the number alone; the device .. stay[s] as [it was]"
unfoldable pub device_after : Answer Reaction → Device → Device
device_after (gives x) d = x.device
device_after (refuses k) d = d

-- "stand at the start of the answer buffer and leave its rest unchanged; silence, all of it"; a refusal, all of it too
unfoldable pub frame_at : Option (List ℕ) → List ℕ → List ℕ
frame_at none o = o
frame_at (some f) o = f at_start_of o

unfoldable pub buffer_after : Answer Reaction → List ℕ → List ℕ
buffer_after (gives x) o = frame_at x.frame o
buffer_after (refuses k) o = o

pub record Judges (right : Answer Reaction) (d : Device) (o : List ℕ) (r : Said) (d' : Device) (o' : List ℕ) : Type 0 where
  pub said : said_of r ≡ told_of right
  pub device : d' ≡ device_after right d
  pub buffer : o' ≡ buffer_after right o
