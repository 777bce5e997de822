-- The parts of a step on the record, as the code takes them.
--   next_at row n      == the first n bits of a row with the last made a one; none where n is 0
--   state_at c l q w == asking where probes are left, at the limit where not
--   finished_by w      == the end where no probe remains
--   in_state s t       == s in the state t; at s n row == s at the first n bits of a row
--   going s q w        == s goes on where it stands
--   scan_moved s n q w == s goes on at the first n bits, the last made a one; it is done where n is 0
--   noted_in s q w a   == s, which asks with the flags q and w, after the answer a
-- Assumes nothing.
use Rattle.std.specs.Prelude.{Bool, true, cond, ℕ, zero, suc, ltb, take, set}
use Rattle.std.proofs.Math.Option.{Option, none, some}
use Rattle.identity.specs.Bits.{Bits}
use Rattle.identity.specs.Identity.{depth, octets_of}
use Rattle.walk.specs.Beginnings.{then}
use Rattle.walk.specs.Machine.{noted}
use Rattle.scan.specs.Record.{list_most, beginning_of, list_of, record_of}
use Rattle.scan.specs.declared.Scan.{Scan}
use Rattle.scan.specs.declared.State.{State}
use Rattle.scan.specs.declared.State.TheVariants.{Asking, Complete, Doubtful, Limit}

unfoldable pub next_at : Bits → ℕ → Option Bits
next_at row zero = none
next_at row (suc m) = some (then (take m row) true)

abbrev pub in_state : Scan → State → Scan
in_state s t =
    record {
      limit = s.limit;
      count = s.count;
      listed = s.listed;
      list = s.list;
      bits = s.bits;
      beginning = s.beginning;
      state = t;
    }

abbrev pub at : Scan → ℕ → Bits → Scan
at s n row =
    record {
      limit = s.limit;
      count = s.count;
      listed = s.listed;
      list = s.list;
      bits = n;
      beginning = row;
      state = s.state;
    }

-- 01: "as "limit" when limit probes are answered and more remain"
unfoldable pub state_at : ℕ → ℕ → Bool → Bool → State
state_at count limit quiet doubt = cond (ltb count limit) (Asking quiet doubt) Limit

-- 01: ""doubtful" if a heard beginning had both halves silent, "complete" if not"
unfoldable pub finished_by : Bool → State
finished_by doubt = cond doubt Doubtful Complete

abbrev pub going : Scan → Bool → Bool → Scan
going s quiet doubt = in_state s (state_at s.count s.limit quiet doubt)

unfoldable pub scan_moved : Scan → ℕ → Bool → Bool → Scan
scan_moved s zero quiet doubt = in_state (at s zero s.beginning) (finished_by doubt)
scan_moved s (suc m) quiet doubt = going (at s (suc m) (set s.beginning m true)) quiet doubt

abbrev pub noted_in : Scan → Bool → Bool → Bool → Scan
noted_in s quiet doubt heard =
    record_of s (noted octets_of depth list_most s.limit s.count (list_of s) (beginning_of s) quiet doubt heard)
