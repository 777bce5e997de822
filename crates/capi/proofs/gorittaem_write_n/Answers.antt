-- `capi::gorittaem_write_n` meets its promise: the answer of `writer::write`, crossed. Assumes nothing.
use Rattle.capi.proofs.Crosses.{handed-crosses}
use Rattle.capi.proofs.gorittaem_write_n.Goals as goal

pub returns : goal.returns
returns c = handed-crosses c.write-answer.ensures c.crossing.ensures
