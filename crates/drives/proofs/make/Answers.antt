-- `drives::make` meets its promise: a refused device takes no number. Assumes nothing.
use Rattle.refusal.specs.Answer.{outcome_of}
use Rattle.drives.specs.Drives.{reply_of, fresh_with}
use Rattle.drives.proofs.Ways.{added-refused, added-done}
use Rattle.drives.proofs.make.Goals as goal

pub returns-in-Err : goal.returns-in-Err
unfolding reply_of outcome_of
returns-in-Err c =
    let a = c.args in
    added-refused a.row.now (fresh_with a.values a.octets.now) c.fresh.ensures c.in-Err.is

pub returns-in-Ok : goal.returns-in-Ok
unfolding reply_of
returns-in-Ok c =
    let a = c.args in
    added-done a.row.now (fresh_with a.values a.octets.now) c.fresh.ensures c.in-Ok.is
