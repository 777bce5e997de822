-- `event::antenna_after` meets its promise: each event is the antenna's own. Assumes nothing.
use Rattle.refusal.proofs.Answers.{changes-is}
use Rattle.record.proofs.Happened.{stop-happened, raise-happened, clear-happened}
use Rattle.event.proofs.antenna_after.Goals as goal

pub returns-in-Stopped : goal.returns-in-Stopped
returns-in-Stopped c = changes-is (stop-happened _ _ _ c.in-Stopped.is) c.stopped.ensures

pub returns-in-Raised : goal.returns-in-Raised
returns-in-Raised c = changes-is (raise-happened _ _ _ c.in-Raised.is) c.alarmed.ensures

pub returns-in-Cleared : goal.returns-in-Cleared
returns-in-Cleared c = changes-is (clear-happened _ _ _ c.in-Cleared.is) c.alarmed-in-Cleared.ensures
