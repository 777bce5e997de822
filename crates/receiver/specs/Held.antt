-- The receiver's record, octet by octet: what it holds of the stretch since the last flag. 02 (i): "takes octets in runs of
-- any length .. and hands out each frame or its refusal number when the closing flag comes".
--   places          == 260: those of the store, one for each octet of the longest frame
--   Held            == a record with its store; held_of r m == the one of r and m
--   Usable h        == a record that is not refused: its store has 260 places, and holds no more octets than those
--   fresh_marks     == the record before any octet; open_marks == right behind a flag
--   added_by h x    == the decoded octets that the raw octet x adds to the stretch: one, or none where it is an escape
--   taken_in h x    == the record after a raw octet x of the stretch
--   raw h x         == the record after an octet x that is no flag; after_flag h == the one after a flag
--   after_octet h x == the record after any octet
--   stretched r     == a stretch is open that has at least one raw octet;
--                      closes h x == x is a flag that closes such a one
--   stretch_says N room h == what is handed out where a flag closes the stretch, with the frame limit N and a lent
--                            output
-- Assumes nothing.
use Rattle.std.specs.Prelude.{◌≡◌, Bool, true, false, cond, not, ◌&&◌, ◌||◌, List, [], ◌∷◌, ℕ, ◌+◌, ◌≤◌, min, eqb, ltb, length, take}
use Rattle.std.proofs.lemmas.List.Edits.{sets}
use Rattle.refusal.specs.Answer.{Answer, ◌when◌, answered}
use Rattle.limits.specs.Limits.{limit_most}
use Rattle.frame.specs.Line.{flag, escape, plain_after}
use Rattle.frame.specs.Decode.{body, decode_rows}
use Rattle.receiver.specs.declared.Receiver.{Receiver}

abbrev pub places : ℕ
places = limit_most

pub record Held : Type 0 where
  pub marks : Receiver
  pub store : List ℕ

abbrev pub held_of : Receiver → List ℕ → Held
held_of r m = record { marks = r; store = m }

abbrev pub Usable : Held → Type 0
Usable h = (length h.store ≡ places) × (h.marks.count ≤ places)

abbrev pub fresh_marks : Receiver
fresh_marks = record { count = 0; more = false; escaping = false; last = false; any = false; seen = false }

-- a flag that closes a stretch opens the next one
abbrev pub open_marks : Receiver
open_marks = record { count = 0; more = false; escaping = false; last = false; any = false; seen = true }

-- 01: "0x7D is removed and the next octet has 0x20 exclusive-ored in, whatever it was"
unfoldable pub added_by : Held → ℕ → List ℕ
added_by h x = plain_after h.marks.escaping (x ∷ [])

-- into the next place of the store, as far as it has places; past them, that more came
unfoldable pub taken_in : Held → ℕ → Held
taken_in h x =
    let n : ℕ = h.marks.count + length (added_by h x) in
    record {
      marks = record {
        count = min places n;
        more = h.marks.more || ltb places n;
        escaping = not h.marks.escaping && eqb x escape;
        last = eqb x escape;
        any = true;
        seen = h.marks.seen;
      };
      store = sets h.store h.marks.count (added_by h x);
    }

-- 02 (i): "octets before the first flag are dropped"
unfoldable pub raw : Held → ℕ → Held
raw h x = cond h.marks.seen (taken_in h x) h

unfoldable pub after_flag : Held → Held
after_flag h = record { marks = open_marks; store = h.store }

unfoldable pub after_octet : Held → ℕ → Held
after_octet h x = cond (eqb x flag) (after_flag h) (raw h x)

-- 02 (i): "Two flags side by side hand out nothing"
abbrev pub stretched : Receiver → Bool
stretched r = r.seen && r.any

unfoldable pub closes : Held → ℕ → Bool
closes h x = eqb x flag && stretched h.marks

-- the rows of the decoder: 4 where the last raw octet was 0x7D; more octets than the store has places are more than any N
unfoldable pub stretch_says : ℕ → ℕ → Held → Answer (List ℕ)
stretch_says N room h =
    let d : List ℕ = take h.marks.count h.store in
    answered (4 when h.marks.last ∷ 2 when h.marks.more ∷ decode_rows N false d room) (body d)
