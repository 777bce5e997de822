-- `inform::reply_by` meets its promise: an answer is the device's as the message leaves it. Assumes nothing.
use Rattle.inform.proofs.Replies.{answered-by}
use Rattle.inform.proofs.reply_by.Goals as goal

pub returns-in-Some : goal.returns-in-Some
returns-in-Some c = answered-by _ _ _ _ _ _ c.answer.ensures c.heed-heeded.ensures c.in-Some.is
