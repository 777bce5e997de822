-- `hex_digit` meets its promise: std's digit of base 16 is the definition's. Assumes nothing.
use Rattle.script.proofs.ValueLaws.{digit-is}
use Rattle.script.proofs.hex_digit.Goals as goal

pub returns : goal.returns
returns c = digit-is _ _ (rw c.from.ensures at c.to_digit.ensures.value)
