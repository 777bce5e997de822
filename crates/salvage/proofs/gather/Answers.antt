-- `salvage::gather` meets its promise. Assumes nothing.
use Rattle.std.proofs.Common.{◌^◌, ◌<◌, arith}
use Rattle.salvage.specs.Pieces.{parts_of, holding_with}
use Rattle.salvage.proofs.Gathering.{heeds-some}
use Rattle.salvage.proofs.Reaching.{within, reached-count, reached}
use Rattle.salvage.proofs.gather.Goals as goal

pub returns-in_err-received : goal.returns-in_err-received
returns-in_err-received c =
    let a = c.args in
    absurd (heeds-some _ (parts_of a.receiver.now a.stretch a.store.now a.raw.now) _ c.requires.1 c.requires.0 _
    (omega arith) (rw c.in_err-received.was at c.receive_in.ensures))

pub without_flag-n-requires : goal.without_flag-n-requires
without_flag-n-requires c =
    let a = c.args in
    let small : a.stretch.length < 2 ^ 64 = omega (arith, c.well_formed.1.0) in
    within a.run.now c.requires.2
    (reached-count _ (parts_of a.receiver.now a.stretch a.store.now a.raw.now) _ c.requires.1 c.requires.0
    c.part.ensures c.reach-lent.ensures _ (omega arith) small c.requires.2
    (rw c.in_ok-received.was at c.receive_in.ensures))

pub returns : goal.returns
returns c b t =
    let a = c.args in
    reached _ (holding_with b t a.receiver.now a.stretch a.store.now a.raw.now) _ c.requires.1 c.requires.0
    c.part.ensures c.reach-lent.ensures _ (omega arith) (omega (arith, c.well_formed.1.0)) c.requires.2
    (rw c.in_ok-received.was at c.receive_in.ensures) c.without_flag-n.ensures
    c.hold-grown.ensures.0 c.hold-grown.ensures.1 c.part-2.ensures c.decide.ensures
