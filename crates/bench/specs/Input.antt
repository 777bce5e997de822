-- Standard input, cut into lines, in the code's own words; what is read is whatever the system gives.
--   unread               == nothing has been read
--   rest_of i            == the octets of the run that are still to be read
--   line_taken i         == what the run has of a line has gone behind what has come
--   refilled i run end   == another run, of which so many octets are there
--   anew i               == nothing of the next line has come
--   after_runs i runs    == i after the runs, the last of them first: each was read once the one before it was taken
--   Arrives i r          == r has the next line of i, out of the runs that were read for it; or they ended
--   without_return whole s == the line s without the 0x0D before its end, of a line that had a 0x0A
-- Assumes nothing.
use Rattle.std.specs.Prelude.{◌≡◌, Bool, true, false, cond, ◌&&◌, List, [], ◌∷◌, ◌⊎◌, ℕ, ◌+◌, ◌-◌, min, ltb, eqb, length, take, drop, replicate}
use Rattle.std.proofs.lemmas.List.Edits.{sets}
use Rattle.octets.specs.Octets.{place_of, last_of}
use Rattle.script.specs.Script.{line_longest}
use Rattle.bench.specs.declared.input.Input.{Input}

-- one octet more than a line and its 0x0D have: "more than 2,000 octets, without the 0x0A and the dropped 0x0D"
abbrev pub line_kept : ℕ
line_kept = line_longest + 2

abbrev pub run_most : ℕ
run_most = 4096

unfoldable pub unread : Input
unread =
    record {
      whole = false;
      run = replicate run_most 0;
      from = 0;
      end = 0;
      line = replicate line_kept 0;
      len = 0;
    }

unfoldable pub rest_of : Input → List ℕ
rest_of i = drop i.from (take i.end i.run)

-- "A line ends with 0x0A"
unfoldable pub taken_to : Input → ℕ → Input
taken_to i n =
    record {
      whole = ltb n (length (rest_of i));
      run = i.run;
      from = min (min (i.from + n) run_most + 1) run_most;
      end = i.end;
      line = sets i.line i.len (take n (rest_of i));
      len = min (i.len + n) line_kept;
    }

unfoldable pub line_taken : Input → Input
line_taken i = taken_to i (place_of 0x0A (rest_of i))

unfoldable pub refilled : Input → List ℕ → ℕ → Input
refilled i run end =
    record { whole = i.whole; run = run; from = 0; end = end; line = i.line; len = i.len }

unfoldable pub anew : Input → Input
anew i = record { whole = i.whole; run = i.run; from = i.from; end = i.end; line = i.line; len = 0 }

pub record Run : Type 0 where
  pub octets : List ℕ
  pub count : ℕ

unfoldable pub after_runs : Input → List Run → Input
after_runs i [] = i
after_runs i (x ∷ earlier) = refilled (line_taken (after_runs i earlier)) x.octets x.count

-- "Octets after the last 0x0A are a line of their own."
pub record Arrives (i r : Input) : Type 0 where
  pub runs : List Run
  pub came : ((r.whole ≡ true) × (r ≡ line_taken (after_runs (anew i) runs))) ⊎ (r ≡ after_runs (anew i) runs)

-- "a 0x0D before it is dropped"; "Only one 0x0D is dropped."
unfoldable pub without_return : Bool → List ℕ → List ℕ
without_return whole s = cond (whole && eqb (last_of 0 s) 0x0D) (take (length s - 1) s) s
