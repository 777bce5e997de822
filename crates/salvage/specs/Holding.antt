-- The record of a salvage, octet by octet: what is carried from one octet of the capture to the next. A call may be handed any
-- record, so it is said of any.
--   raw_most        == 520: the most raw octets of a frame, each of 260 escaped
--   Holding         == a record with the receiver's store and the raw octets of the open stretch; holding_of v m w ==
--                      the one of v, m and w; receiver_in c == the receiver's record in it
--   Workable c      == a record that is not refused
--   add64 a b       == a sum of 64 bits: counts wrap
--   fresh_salvage   == the record before any octet
--   grown_by n o    == the open stretch o with n octets more;
--                      onward_from n o == the one that opens behind it and n octets
--   with_octet c x  == after an octet x that is no flag
--   said_verdict a  == what becomes of a stretch of which the receiver says a; verdict_of N c == of the open one, at a flag
--   tallied t n f   == the counts t with a stretch of n octets that had the verdict f
--   behind_flag f v == the record v behind a flag that gave the open stretch the verdict f
--   past_flag c     == the receiver has taken a flag; closed_by f c == all of the record has
--   kept_octets b k w == what is written of a kept stretch: the first flag, unless b, its first k octets in w, and a
--                        flag
-- Assumes nothing.
use Rattle.std.specs.Prelude.{◌≡◌, ℕ, ◌+◌, ◌%◌, ◌^◌, ◌≤◌, min, Bool, true, false, cond, List, [], ◌∷◌, ◌++◌, length, take, ◌==◌}
use Rattle.std.proofs.lemmas.List.Edits.{sets}
use Rattle.refusal.specs.Answer.{Answer, gives, refuses}
use Rattle.limits.specs.Limits.{limit_most, frame_most}
use Rattle.frame.specs.Line.{flag}
use Rattle.receiver.specs.Held.{Held, held_of, Usable, fresh_marks, open_marks, after_octet, stretched, stretch_says}
use Rattle.salvage.specs.declared.OpenStretch.{OpenStretch}
use Rattle.salvage.specs.declared.Totals.{Totals}
use Rattle.salvage.specs.declared.Salvage.{Salvage}
use Rattle.salvage.specs.declared.Verdict.{Verdict}
use Rattle.salvage.specs.declared.Verdict.TheVariants.{Still, Empty, Kept, Dropped}

abbrev pub raw_most : ℕ
raw_most = 520

pub record Holding : Type 0 where
  pub salvage : Salvage
  pub store : List ℕ
  pub raw : List ℕ

abbrev pub holding_of : Salvage → List ℕ → List ℕ → Holding
holding_of v m w = record { salvage = v; store = m; raw = w }

abbrev pub receiver_in : Holding → Held
receiver_in c = held_of c.salvage.receiver c.store

abbrev pub Workable : Holding → Type 0
Workable c = Usable (receiver_in c) × (length c.raw ≡ raw_most) × (c.salvage.stretch.held ≤ raw_most)

unfoldable pub add64 : ℕ → ℕ → ℕ
add64 a b = (a + b) % 2 ^ 64

abbrev pub nothing_open : OpenStretch
nothing_open = record { offset = 0; length = 0; held = 0 }

abbrev pub no_totals : Totals
no_totals = record { frames = 0; kept = 0; flags = 0; stretches = 0; dropped = 0 }

abbrev pub fresh_salvage : Salvage
fresh_salvage = record { receiver = fresh_marks; stretch = nothing_open; begun = false; totals = no_totals }

-- its true length, and as many raw octets as there are places for
unfoldable pub grown_by : ℕ → OpenStretch → OpenStretch
grown_by n o = record { offset = o.offset; length = add64 o.length n; held = min raw_most (o.held + n) }

unfoldable pub onward_from : ℕ → OpenStretch → OpenStretch
onward_from n o = record { offset = add64 (add64 o.offset o.length) n; length = 0; held = 0 }

unfoldable pub with_octet : Holding → ℕ → Holding
with_octet c x =
    let v : Salvage = c.salvage in
    let h : Held = after_octet (receiver_in c) x in
    record {
      salvage =
          record { receiver = h.marks; stretch = grown_by 1 v.stretch; begun = v.begun; totals = v.totals };
      store = h.store;
      raw = sets c.raw v.stretch.held (x ∷ []);
    }

-- 02 (vii): "the good frames only"; "its refusal number"
unfoldable pub said_verdict : Answer (List ℕ) → Verdict
said_verdict (gives b) = Kept
said_verdict (refuses k) = Dropped k

-- of octets of which the receiver hands out nothing, as before the first flag, 0 is said. An output of 258 octets has room
-- for every frame
unfoldable pub verdict_of : ℕ → Holding → Verdict
verdict_of N c =
    cond (stretched c.salvage.receiver) (said_verdict (stretch_says N (frame_most limit_most) (receiver_in c)))
    (cond (c.salvage.stretch.length == 0) Empty (Dropped 0))

unfoldable pub tallied : Totals → ℕ → Verdict → Totals
tallied t n Still = t
tallied t n Empty = t
tallied t n Kept =
    record {
      frames = add64 t.frames 1;
      kept = add64 t.kept n;
      flags = t.flags;
      stretches = t.stretches;
      dropped = t.dropped;
    }
tallied t n (Dropped k) =
    record {
      frames = t.frames;
      kept = t.kept;
      flags = t.flags;
      stretches = add64 t.stretches 1;
      dropped = add64 t.dropped n;
    }

-- "flags .. each counted by its place"
unfoldable pub flag_counted : Totals → Totals
flag_counted t =
    record {
      frames = t.frames;
      kept = t.kept;
      flags = add64 t.flags 1;
      stretches = t.stretches;
      dropped = t.dropped;
    }

-- the open stretch of v is over, at a flag
unfoldable pub stretch_over : Verdict → Bool → Salvage → Salvage
stretch_over f begun v =
    record {
      receiver = v.receiver;
      stretch = onward_from 1 v.stretch;
      begun = begun;
      totals = flag_counted (tallied v.totals v.stretch.length f);
    }

-- the first flag is written with the first stretch that is kept
unfoldable pub behind_flag : Verdict → Salvage → Salvage
behind_flag Still v = v
behind_flag Empty v = stretch_over Empty v.begun v
behind_flag Kept v = stretch_over Kept true v
behind_flag (Dropped k) v = stretch_over (Dropped k) v.begun v

unfoldable pub past_flag : Holding → Holding
past_flag c =
    let v : Salvage = c.salvage in
    holding_of (record { receiver = open_marks; stretch = v.stretch; begun = v.begun; totals = v.totals }) c.store c.raw

unfoldable pub behind_flag_in : Verdict → Holding → Holding
behind_flag_in f c = holding_of (behind_flag f c.salvage) c.store c.raw

unfoldable pub closed_by : Verdict → Holding → Holding
closed_by f c = behind_flag_in f (past_flag c)

unfoldable pub first_flag : Bool → List ℕ
first_flag begun = cond begun [] (flag ∷ [])

-- "exactly as they stood"
unfoldable pub kept_octets : Bool → ℕ → List ℕ → List ℕ
kept_octets begun held raw = first_flag begun ++ (take held raw ++ flag ∷ [])
