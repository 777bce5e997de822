-- `refusal::hand_out` meets its promise: a law of `Answers` for each way out. Assumes nothing.
use Rattle.refusal.specs.declared.Refusal.TheVariants.{NoRoom}
use Rattle.refusal.proofs.Answers.{refused, handed, no_room, in-room}
use Rattle.refusal.proofs.hand_out.Goals as goal

pub returns-then-out-octets : goal.returns-then-out-octets
returns-then-out-octets c = refused NoRoom (no_room _ _ c.if-out-octets.true)

pub returns : goal.returns
returns c =
    let fits = c.if-out-octets.false in
    handed _ (in-room _ _ fits) fits c.put_all.ensures
