-- `capi::gorittaem_decode` meets its promise: the answer of `frame::decode`, crossed. Assumes nothing.
use Rattle.capi.proofs.Crosses.{handed-crosses}
use Rattle.capi.proofs.gorittaem_decode.Goals as goal

pub returns : goal.returns
returns c = handed-crosses c.decode-answer.ensures c.crossing.ensures
