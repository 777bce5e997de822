-- `with_pairs` meets its promise: the octets so far, with those of the digits left behind them, are all. Assumes
-- nothing.
use Rattle.std.proofs.Common.{◌≡◌, ◌+◌, ◌*◌, ◌≤◌, length}
use Rattle.std.specs.Slice.Iter.{chunks_rest, chunks_size}
use Rattle.script.specs.Values.{pairs_of}
use Rattle.script.specs.Script.{with_hex, stored}
use Rattle.script.proofs.with_pairs.Given as goal

abbrev pub invariant-loop-pair : goal.invariant-loop-pair
invariant-loop-pair l = record {
  two : chunks_size l.pair-iterator ≡ 2;
  room : 2 * l.at + length (chunks_rest l.pair-iterator) ≤ 131070 + length l.digits;
  row : length l.octets ≡ 1000;
  same : with_hex (stored l.asked l.octets l.at) l.n (pairs_of (chunks_rest l.pair-iterator)) ≡ with_hex l.asked l.n (pairs_of l.digits);
}
