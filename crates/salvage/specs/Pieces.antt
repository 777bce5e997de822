-- What the salvage's functions promise each other: the octets up to the next flag at once come to the same as one by one.
--   with_all c s     == after the octets s, none of which is a flag
--   up_to s          == the octets before the first flag of s
--   gathered_in c s, verdict_in N c s == what is carried after them and the receiver behind the flag; what becomes of
--                       the open stretch: it stays open where s has no flag
--   joined v r       == v with what the octets touched, gathered_with q x == that of the receiver q and the code's x;
--                       holding_with, parts_of == a record of which only that is of interest
--   Gathers N c s r m w == the code's answer r, and the stores m and w, are that, over the octets s up to and with a flag;
--                       GathersAny == whatever else the record holds; no call is refused
--   written_by f b k w == what is written of a stretch with the verdict f, of which k raw octets are held in w
--   goes_until f at end == how far a call goes that is at the place at: to end, or no further
--   handed_verdict q, passed_verdict n, heard_verdict q closed n == what becomes of a stretch of n octets, by what was
--                       handed out, where nothing was, and by what was heard
--   stops_at r s, reach_of r s == whether the receiver r itself stops behind the next flag of s;
--                                 how many octets it is lent
--   before_flag s k  == of the first k octets of s those before a flag that is the last of them
--   followed, begun_by, flags_added, counted_by, settled_by n f == the parts of a record, and the record, behind a
--                       stretch with the verdict f and n flags: one at a flag, none at the end
--   listed_by o f    == what is told of it; sound_by count held == a record that is not refused
-- Assumes nothing.
use Rattle.std.specs.Prelude.{Option, Some, None, Result, Ok, Err}
use Rattle.refusal.specs.declared.Refusal.{Refusal}
use Rattle.std.specs.Prelude.{◌≡◌, ℕ, ◌+◌, ◌-◌, min, Bool, true, false, cond, not, ◌&&◌, ◌||◌, List, [], ◌∷◌, length, take, ◌==◌, nat_lt, slice_index}
use Rattle.octets.specs.Octets.{holds, place_of}
use Rattle.refusal.specs.Numbers.{number_of}
use Rattle.receiver.specs.Held.{places}
use Rattle.receiver.specs.declared.Receiver.{Receiver}
use Rattle.frame.specs.Line.{flag}
use Rattle.salvage.specs.Holding.{Holding, holding_of, no_totals, raw_most, add64, onward_from, tallied, with_octet, verdict_of, past_flag, kept_octets}
use Rattle.salvage.specs.declared.OpenStretch.{OpenStretch}
use Rattle.salvage.specs.declared.Totals.{Totals}
use Rattle.salvage.specs.declared.Salvage.{Salvage}
use Rattle.salvage.specs.declared.Verdict.{Verdict}
use Rattle.salvage.specs.declared.Verdict.TheVariants.{Still, Empty, Kept, Dropped}
use Rattle.salvage.specs.declared.Gathered.{Gathered}
use Rattle.salvage.specs.declared.Stretch.{Stretch}

unfoldable pub with_all : Holding → List ℕ → Holding
with_all c [] = c
with_all c (x ∷ xs) = with_all (with_octet c x) xs

abbrev pub up_to : List ℕ → List ℕ
up_to s = take (place_of flag s) s

unfoldable pub gathered_in : Holding → List ℕ → Holding
gathered_in c s = cond (holds flag s) (past_flag (with_all c (up_to s))) (with_all c (up_to s))

unfoldable pub verdict_in : ℕ → Holding → List ℕ → Verdict
verdict_in N c s = cond (holds flag s) (verdict_of N (with_all c (up_to s))) Still

-- what the octets touched, the receiver's record with the rest
pub record Touched : Type 0 where
  pub receiver : Receiver
  pub stretch : OpenStretch
  pub taken : ℕ
  pub verdict : Verdict

-- v with what the octets touched
abbrev pub joined : Salvage → Touched → Salvage
joined v r = record { receiver = r.receiver; stretch = r.stretch; begun = v.begun; totals = v.totals }

pub record Gathers (N : ℕ) (c : Holding) (s : List ℕ) (r : Touched) (m w : List ℕ) : Type 0 where
  pub count : r.taken ≡ min (place_of flag s + 1) (length s)
  pub verdict : r.verdict ≡ verdict_in N c s
  pub holding : holding_of (joined c.salvage r) m w ≡ gathered_in c s

-- a record of which only what octets touch is of interest
abbrev pub holding_with : Bool → Totals → Receiver → OpenStretch → List ℕ → List ℕ → Holding
holding_with b t r o m w = holding_of (record { receiver = r; stretch = o; begun = b; totals = t }) m w

-- whatever else the record holds
abbrev pub gathered_with : Receiver → Gathered → Touched
gathered_with r x = record { receiver = r; stretch = x.stretch; taken = x.taken; verdict = x.verdict }

abbrev pub GathersAny : ℕ → Receiver → OpenStretch → List ℕ → List ℕ → List ℕ → Result Gathered Refusal → Receiver → List ℕ → List ℕ → Type 0
GathersAny N r₀ o m₀ w₀ s (Ok x) r m w = (b : Bool) (t : Totals) → Gathers N (holding_with b t r₀ o m₀ w₀) s (gathered_with r x) m w
GathersAny N r₀ o m₀ w₀ s (Err k) r m w = ⊥

abbrev pub parts_of : Receiver → OpenStretch → List ℕ → List ℕ → Holding
parts_of = holding_with false no_totals

abbrev pub written_by : Verdict → Bool → ℕ → List ℕ → List ℕ
written_by Still begun held w = []
written_by Empty begun held w = []
written_by Kept begun held w = kept_octets begun held w
written_by (Dropped k) begun held w = []

unfoldable pub goes_until : Verdict → ℕ → ℕ → ℕ
goes_until Still at end = end
goes_until Empty at end = end
goes_until Kept at end = end
goes_until (Dropped k) at end = at

abbrev pub handed_verdict : Result ℕ Refusal → Verdict
handed_verdict (Ok n) = Kept
handed_verdict (Err r) = Dropped (number_of r)

abbrev pub passed_verdict : ℕ → Verdict
passed_verdict n = cond (n == 0) Empty (Dropped 0)

abbrev pub heard_verdict : Option (Result ℕ Refusal) → Bool → ℕ → Verdict
heard_verdict None closed n = cond closed (passed_verdict n) Still
heard_verdict (Some q) closed n = handed_verdict q

-- the receiver stops behind a flag that closes octets: where some have come, or come first
unfoldable pub stops_at : Receiver → List ℕ → Bool
stops_at r s = r.seen && (r.any || not (slice_index s 0 == flag))

unfoldable pub reach_of : Receiver → List ℕ → ℕ
reach_of r s = cond (stops_at r s) (length s) (min (place_of flag s + 1) (length s))

unfoldable pub before_flag : List ℕ → ℕ → ℕ
before_flag s k = cond (slice_index s (k - 1) == flag) (k - 1) k

-- the parts of the record behind an open stretch and n flags: one at a flag, none at the end
unfoldable pub followed : ℕ → Verdict → OpenStretch → OpenStretch
followed n Still o = o
followed n Empty o = onward_from n o
followed n Kept o = onward_from n o
followed n (Dropped k) o = onward_from n o

unfoldable pub begun_by : Verdict → Bool → Bool
begun_by Still b = b
begun_by Empty b = b
begun_by Kept b = true
begun_by (Dropped k) b = b

unfoldable pub flags_added : ℕ → Totals → Totals
flags_added n t =
    record {
      frames = t.frames;
      kept = t.kept;
      flags = add64 t.flags n;
      stretches = t.stretches;
      dropped = t.dropped;
    }

unfoldable pub counted_by : ℕ → Totals → ℕ → Verdict → Totals
counted_by n t l Still = t
counted_by n t l Empty = flags_added n (tallied t l Empty)
counted_by n t l Kept = flags_added n (tallied t l Kept)
counted_by n t l (Dropped k) = flags_added n (tallied t l (Dropped k))

unfoldable pub settled_by : ℕ → Verdict → Receiver → OpenStretch → Salvage → Salvage
settled_by n f r o v =
    record {
      receiver = r;
      stretch = followed n f o;
      begun = begun_by f v.begun;
      totals = counted_by n v.totals o.length f;
    }

-- the two numbers of a record that its stores bound
unfoldable pub sound_by : ℕ → ℕ → Bool
sound_by count held = not (nat_lt places count) && not (nat_lt raw_most held)

-- what the code tells of the stretch o
unfoldable pub listed_by : OpenStretch → Verdict → Option Stretch
listed_by o Still = None
listed_by o Empty = None
listed_by o Kept = None
listed_by o (Dropped k) = Some (record { offset = o.offset; length = o.length; number = k })
