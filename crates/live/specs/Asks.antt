-- Calls with any limits, any outputs and any record, one after the other over the same octets: what is handed out goes by
-- the limit of the call that takes the flag.
--   Ask               == one call: its frame limit, how many of the octets that are left are lent, an output of how many
--   ask_all h s cs    == how far the calls cs over the octets s take a caller that begins with the record h
--   limits_out h s cs == the limits of those of the calls that hand something out, in order
--   nonempty ps       == those of the stretches ps that have octets
--   answers_by Ns ps  == what the decoder says of each of ps, each with the limit at its place in Ns
-- Assumes nothing.
use mathlib.Core.List.{List, [], ◌∷◌, ◌++◌, zip_with}
use Rattle.std.specs.Prelude.{ℕ, length, take, drop, replicate}
use Rattle.refusal.specs.Answer.{Answer}
use Rattle.limits.specs.Limits.{frame_most}
use Rattle.frame.specs.Decode.{decoded}
use Rattle.receiver.specs.Held.{Held}
use Rattle.receiver.specs.Call.{Took, received, took_by, held_by}
use Rattle.live.specs.Calls.{Worked, outs_by, with_outs}

pub record Ask : Type 0 where
  pub limit : ℕ
  pub octets : ℕ
  pub room : ℕ

-- the answer to the first call
abbrev pub answer_asked : Held → List ℕ → Ask → Answer Took
answer_asked h s c = received c.limit h (take c.octets s) c.room

unfoldable pub ask_all : Held → List ℕ → List Ask → Worked
ask_all h s [] = record { held = h; left = s; outs = [] }
ask_all h s (c ∷ cs) =
    let a : Answer Took = answer_asked h s c in
    with_outs (outs_by a) (ask_all (held_by a h) (drop (took_by a) s) cs)

unfoldable pub limits_out : Held → List ℕ → List Ask → List ℕ
limits_out h s [] = []
limits_out h s (c ∷ cs) =
    let a : Answer Took = answer_asked h s c in
    replicate (length (outs_by a)) c.limit ++ limits_out (held_by a h) (drop (took_by a) s) cs

unfoldable pub nonempty : List (List ℕ) → List (List ℕ)
nonempty [] = []
nonempty ([] ∷ ps) = nonempty ps
nonempty ((x ∷ p) ∷ ps) = (x ∷ p) ∷ nonempty ps

unfoldable pub answers_by : List ℕ → List (List ℕ) → List (Answer (List ℕ))
answers_by Ns ps = zip_with (λ (N : ℕ) (p : List ℕ). decoded N p (frame_most N)) Ns ps
