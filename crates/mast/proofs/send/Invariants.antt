-- `mast::send` meets its promise: what the devices that are left come to is what all of them come to. Assumes nothing.
use Rattle.mast.specs.Steps.{line_in}
use Rattle.mast.proofs.Rounds.{Sending}
use Rattle.mast.proofs.send.Given as goal

abbrev pub invariant-loop-place : goal.invariant-loop-place
invariant-loop-place l = Sending (line_in l.line) l.devices l.place l.heard l.initial.devices l.count
