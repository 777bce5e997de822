-- `decimal_of` meets its promise: the number so far, with the digits left behind it, is the number of all, up to a million.
-- Assumes nothing.
use Rattle.std.proofs.Common.{◌≡◌, ◌≤◌, drop}
use Rattle.script.specs.Values.{decimal_of}
use Rattle.script.proofs.ValueLaws.{decimal_from}
use Rattle.script.proofs.decimal_of.Given as goal

abbrev pub invariant-loop-digit : goal.invariant-loop-digit
invariant-loop-digit l =
    record { capped : l.n ≤ 1000000; number : decimal_from l.n (drop l.digit-index l.digits) ≡ decimal_of l.digits }
