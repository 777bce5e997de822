-- `capi::gorittaem_receive` meets its promise: by the cases of the answer of `block::receive`. Assumes nothing.
use Rattle.capi.proofs.Crosses.{hears-none, hears-handed, hears-refused}
use Rattle.capi.proofs.gorittaem_receive.Goals as goal

pub returns-in-None : goal.returns-in-None
returns-in-None c = hears-none _ (rw c.in-Ok.is at c.receive.ensures) c.in-None.is

pub returns-in-Some : goal.returns-in-Some
returns-in-Some c =
    hears-handed _ (rw c.in-Ok.is at c.receive.ensures) c.in-Some.is c.crossing.ensures

pub returns-in-Err : goal.returns-in-Err
returns-in-Err c =
    hears-refused _ (rw c.in-Err.is at c.receive.ensures) c.crossing-in-Err.ensures
