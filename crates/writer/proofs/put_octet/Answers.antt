-- `writer::put_octet` meets its promise: an escape comes first, or not, and then the octet. Assumes nothing.
use mathlib.Core.Path.{sym, ap, ◌∙◌}
use native.Mathlib.Omega.{arith}
use lib.ListN.{length, length-set}
use Rattle.frame.proofs.Escapes.{special-two, other-one, special-put, other-put}
use Rattle.writer.proofs.put_octet.Goals as goal
use Rattle.writer.proofs.put_octet.Goals.{then-is_special, else-is_special}

pub bounds-line-n : goal.bounds-line-n
bounds-line-n c =
    let two = special-two _ (sym c.is_special.ensures ∙ c.if-is_special.true) in
    omega arith

pub bounds-line-n-2 : goal.bounds-line-n-2
bounds-line-n-2 c =
    let told = sym c.is_special.ensures in
    elim c.if-is_special.branch [
      | then-is_special w ↦
          let two = special-two _ (told ∙ w.if-is_special.true) in omega (arith, simp length-set at (ap length w.line-is))
      | else-is_special w ↦
          let one = other-one _ (told ∙ w.if-is_special.false) in omega (arith, ap length w.line-is)
    ]

pub overflow_add-result : goal.overflow_add-result
overflow_add-result c =
    let told = sym c.is_special.ensures in
    elim c.if-is_special.branch [
      | then-is_special w ↦ let two = special-two _ (told ∙ w.if-is_special.true) in omega arith
      | else-is_special w ↦ let one = other-one _ (told ∙ w.if-is_special.false) in omega arith
    ]

pub shape_of-line : goal.shape_of-line
shape_of-line c =
    let line = c.args.line.now in
    simp length-set
    (elim c.if-is_special.branch [
      | then-is_special w ↦ ap length w.line-is ∙ length-set line _ _
      | else-is_special w ↦ ap length w.line-is
    ])

pub returns : goal.returns
returns c =
    let told = c.is_special.ensures in
    let a = c.args in
    elim c.if-is_special.branch [
      | then-is_special w ↦
          special-put a.b a.line.now a.at (sym told ∙ w.if-is_special.true) w.line-is w.n-is w.x-is
      | else-is_special w ↦
          other-put a.b a.line.now a.at (sym told ∙ w.if-is_special.false) w.line-is w.n-is w.x-is
    ]
