-- `capi::crossing` meets its promise: by the cases of the answer. Assumes nothing.
use borrow.Author.Rules.{rules}
use Rattle.refusal.specs.Answer.{answer_of}
use Rattle.capi.specs.Crossing.{crossed}
use Rattle.capi.proofs.Crosses.{refusal-crosses}
use Rattle.capi.proofs.crossing.Goals as goal

pub returns-in-Ok : goal.returns-in-Ok
unfolding crossed answer_of
returns-in-Ok c = search rules

pub returns-in-Err : goal.returns-in-Err
unfolding crossed answer_of
returns-in-Err c = refusal-crosses c.in-Err.is c.number.ensures
