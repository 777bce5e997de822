-- `mast::send` meets its promise: what the devices that are left come to is what all of them come to. Assumes nothing.
use mathlib.Core.Path.{refl}
use native.Mathlib.Omega.{arith}
use Rattle.mast.specs.Steps.{line_in}
use Rattle.mast.proofs.Rounds.{sending-all, sending-one, sending-none}
use Rattle.mast.proofs.send.Goals as goal

pub loop-place-init : goal.loop-place-init
loop-place-init c =
    let a = c.args in
    sending-all (line_in a.line) a.devices.now a.count (omega arith) c.fewer-place.ensures refl

pub loop-place-preserved-then-listen : goal.loop-place-preserved-then-listen
loop-place-preserved-then-listen c =
    sending-one (line_in c.args.line) _ (omega arith) c.loop-place.invariant c.listen.ensures
    (rw c.if-listen.true refl)

pub loop-place-preserved : goal.loop-place-preserved
loop-place-preserved c =
    sending-one (line_in c.args.line) _ (omega arith) c.loop-place.invariant c.listen.ensures
    (rw c.if-listen.false refl)

pub returns : goal.returns
returns c = sending-none (line_in c.args.line) (omega arith) c.loop-place.invariant
