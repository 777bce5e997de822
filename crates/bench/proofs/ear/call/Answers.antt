-- `call` meets its promise: what the receiver promises, of the octets that the line has. Assumes nothing.
use Rattle.bench.specs.Bench.{ear_of}
use Rattle.bench.proofs.Laws.{ear-held, ear-said}
use Rattle.bench.proofs.ear.call.Goals as goal

pub returns : goal.returns
returns c =
    let a = c.args in
    let h = ear_of a.ear in
    record {
      ear = ear-held h a.asked c.part-run.ensures c.min-room.ensures c.receive-heard.ensures;
      said = ear-said h a.asked c.part-run.ensures c.min-room.ensures c.receive-heard.ensures _;
    }
