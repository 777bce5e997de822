-- `speech::laid` meets its promise: address and control stand in front of the payload. Assumes nothing.
use native.Mathlib.Omega.{arith}
use Rattle.speech.proofs.Said.{laid-is}
use Rattle.speech.proofs.laid.Goals as goal

pub returns : goal.returns
returns c =
    record {
      all = laid-is _ _ _ c.requires c.put_all.ensures;
      few = omega (arith, c.requires);
    }
