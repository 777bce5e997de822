-- `asked_of` meets its promise: the line without its 0x0D, read. Assumes nothing.
use mathlib.Core.Path.{ap, ◌∙◌}
use mathlib.Core.List.{List}
use Prim.Native.Nat.{ℕ, ◌%◌}
use Rattle.script.specs.Script.{read_line}
use Rattle.bench.specs.Input.{without_return}
use Rattle.bench.proofs.input.asked_of.Goals as goal

pub returns : goal.returns
returns c =
    let a = c.args in
    c.read_line.ensures
    ∙ ap (λ (s : List ℕ). read_line s (a.devices % 256))
    (c.without_return.ensures
    ∙ ap (without_return a.input.whole) c.part-line.ensures)
