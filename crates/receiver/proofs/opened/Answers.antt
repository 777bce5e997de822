-- `receiver::opened` meets its promise. Assumes nothing.
use Rattle.receiver.proofs.opened.Goals as goal

pub returns : goal.returns
returns c = rw c.new-r.ensures
