-- `xid::under_mask` meets its promise: octet by octet, where the value is as long. Assumes nothing.
use borrow.Author.Rules.{rules}
use borrow.Author.Tests.{tests, ne_eqb}
use mathlib.Core.Path.{◌∙◌}
use Prim.Native.Nat.{ℕ}
use lib.Bits.{bit_and}
use lib.Dec.{eqb}
use Rattle.std.proofs.lemmas.Iterator.{YieldsList-from_slice, YieldsList-from_zip}
use Rattle.std.proofs.lemmas.Iterator.Search.{all_from_yields_List}
use Rattle.xid.proofs.Octetwise.{masked-zip, masked-differ}
use Rattle.xid.proofs.under_mask.Goals as goal

pub returns-then-value-min : goal.returns-then-value-min
returns-then-value-min c =
    let a = c.args in
    all_from_yields_List (λ (p : (ℕ × ℕ) × ℕ). eqb (bit_and p.0.0 p.0.1) p.1) c.all.new.self _ c.all.result c.all.ensures.ran
    (YieldsList-from_zip (YieldsList-from_zip (YieldsList-from_slice a.s.now cc) (YieldsList-from_slice a.mask.now cc)) (YieldsList-from_slice a.value.now cc))
    (λ x b q k. search (rules, tests))
    ∙ masked-zip a.s.now a.mask.now a.value.now (search rules)

pub returns-else-value-min : goal.returns-else-value-min
returns-else-value-min c =
    let a = c.args in
    ne_eqb _ _ c.if-value-min.false ∙ masked-differ a.s.now a.mask.now a.value.now (search rules)
