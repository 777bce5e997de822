-- `speech::speak` meets its promise: silence, and a frame. Assumes nothing.
use mathlib.Core.Path.{sym, ◌∙◌}
use Rattle.speech.proofs.Said.{silent-spoken, laid-spoken}
use Rattle.speech.proofs.speak.Goals as goal

pub returns-then-is_silent : goal.returns-then-is_silent
returns-then-is_silent c =
    record { all = silent-spoken c.args.device c.args.say (sym c.is_silent.ensures ∙ c.if-is_silent.true); few = tt }

pub returns : goal.returns
returns c =
    let silent = sym c.is_silent.ensures ∙ c.if-is_silent.false in
    let b = c.octets.ensures.all ∙ c.payload_of-payload.ensures in
    record {
      all = laid-spoken c.args.device c.args.say silent c.control_of.ensures b c.laid.ensures.all;
      few = c.laid.ensures.few;
    }
