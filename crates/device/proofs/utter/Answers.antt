-- `device::utter` meets its promise: silence, or what is said at the start of the buffer. Assumes nothing.
use mathlib.Core.Path.{ap, ◌∙◌}
use lib.Seq.{sets}
use Rattle.device.proofs.Reacts.{silent, framed}
use Rattle.device.proofs.utter.Goals as goal

pub returns-in_err-spoken : goal.returns-in_err-spoken
returns-in_err-spoken c =
    let a = c.args in
    rw c.from_residual.ensures (silent a.device a.say _ c.speak.ensures.all c.in_err-spoken.was)

pub returns : goal.returns
returns c =
    let a = c.args in
    framed a.device a.say _ c.speak.ensures.all c.in_ok-spoken.was c.in_ok-spoken.ensures.few c.requires
    (c.put_all.ensures ∙ ap (sets a.answer.now 0) c.octets.ensures.all)
