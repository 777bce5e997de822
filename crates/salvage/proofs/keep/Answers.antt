-- `salvage::keep` meets its promise. Assumes nothing.
use Rattle.std.proofs.Common.{arith}
use Rattle.salvage.proofs.Writing.{first-inside, end-inside, kept_put}
use Rattle.salvage.proofs.keep.Goals as goal

-- the octets that are put, counted: there is room for them
pub put_first-first-requires : goal.put_first-first-requires
put_first-first-requires c =
    let a = c.args in first-inside a.begun a.held a.raw.now c.requires.0 a.out.now a.at c.requires.1

pub overflow_add-end : goal.overflow_add-end
overflow_add-end c =
    let a = c.args in
    omega (
      arith,
      end-inside a.begun a.held a.raw.now c.requires.0 a.out.now a.at c.requires.1 c.put_first-first.ensures,
    )

pub overflow_add-result : goal.overflow_add-result
overflow_add-result c =
    let a = c.args in
    omega (
      arith,
      end-inside a.begun a.held a.raw.now c.requires.0 a.out.now a.at c.requires.1 c.put_first-first.ensures,
    )

pub returns : goal.returns
returns c = rw c.put.ensures (kept_put _ _ _ c.requires.0 c.put_first-first.ensures c.put_all.ensures c.part.ensures)
