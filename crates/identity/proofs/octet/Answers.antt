-- `identity::octet` meets its promise: after i turns x is the word of the first i bits. Assumes nothing.
use mathlib.Core.Path.{◌≡◌, sym, ap, ◌∙◌}
use mathlib.Core.Bool.{false}
use Prim.Native.Nat.{◌+◌}
use native.Mathlib.Numerals.{add-one}
use native.Mathlib.Omega.{arith}
use lib.ListN.{take, drop, get_or}
use lib.Seq.{get_or-drop}
use Rattle.identity.specs.Bits.{word}
use Rattle.identity.proofs.Words.{word-zero, word-suc, word_small, digit-small}
use Rattle.identity.proofs.octet.Goals as goal

pub loop-i-init : goal.loop-i-init
loop-i-init c = sym (word-zero _)

-- the word of fewer than 8 bits, doubled, has room for one more
pub overflow_mul-x : goal.overflow_mul-x
overflow_mul-x c = omega (arith, word_small (drop c.args.from (take c.args.bits c.args.beginning.now)) c.loop-i.i c.loop-i-test.true)

pub overflow_add-x : goal.overflow_add-x
overflow_add-x c =
    let i = c.loop-i.i in
    let row = take c.args.bits c.args.beginning.now in
    omega (
      arith,
      word_small (drop c.args.from row) i c.loop-i-test.true,
      digit-small (get_or row (c.args.from + i) false),
    )

pub loop-i-preserved : goal.loop-i-preserved
loop-i-preserved c =
    let i = c.loop-i.i in
    let row = take c.args.bits c.args.beginning.now in
    rw (add-one i, word-suc (drop c.args.from row) i, get_or-drop c.args.from row i false) (omega (arith, c.bit.ensures))

pub returns : goal.returns
returns c =
    let e : c.loop-i.i ≡ 8 = omega arith in
    c.loop-i.invariant ∙ ap (word (drop c.args.from (take c.args.bits c.args.beginning.now))) e
