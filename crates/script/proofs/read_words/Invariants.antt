-- `read_words` meets its promise: the words left, behind what is read, are all words. Assumes nothing.
use Rattle.std.proofs.Common.{◌≡◌, ◌+◌, drop}
use Rattle.script.specs.Script.{words_by}
use Rattle.script.proofs.read_words.Given as goal

abbrev pub invariant-loop-i : goal.invariant-loop-i
invariant-loop-i l =
    words_by l.devices (drop l.i l.kinds) (l.i + 1) l.line l.next ≡ words_by l.devices l.kinds 1 l.line l.initial.next
