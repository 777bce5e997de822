-- `xid_answer::scan_answer` meets its promise: what was put stands at the start of zeros. Assumes nothing.
use Rattle.xid_answer.proofs.Stored.{scan-held}
use Rattle.xid_answer.proofs.scan_answer.Goals as goal

pub returns : goal.returns
returns c = rw c.octets.ensures.all at (scan-held _ c.octets.ensures.few c.args.address c.put_scan_answer-len.ensures)
