-- `receiver::listen` meets its promise: up to the place where it stands nothing was handed out. Assumes nothing.
use mathlib.Core.Path.{refl, sym, ap, ◌∙◌}
use native.Mathlib.Omega.{arith}
use lib.ListN.{length, get_or}
use Rattle.receiver.specs.Held.{held_of}
use Rattle.receiver.proofs.Steps.{step-dropped, step-escape, step-full, step-escaped, opens_not}
use Rattle.receiver.proofs.Passing.{pass-none, pass-rest, flag-passes, raw-passes, some-passed, plain-left}
use Rattle.receiver.proofs.Ends.{place-free, all-taken, flag-closes}
use Rattle.receiver.proofs.listen.Goals as goal

pub loop-at-init : goal.loop-at-init
loop-at-init c = (pass-none c.requires, refl)

pub close-handed-requires : goal.close-handed-requires
close-handed-requires c =
    c.loop-at.invariant.0.usable

pub shape_of-out-then-closing : goal.shape_of-out-then-closing
shape_of-out-then-closing c =
    let kept = ap length c.loop-at.invariant.1 in omega arith

pub returns-then-closing : goal.returns-then-closing
returns-then-closing c =
    let loop = c.loop-at in
    let some = sym c.closing.ensures ∙ c.if-closing.true in
    rw (c.told.ensures, c.opened.ensures)
    (flag-closes _ _ _ _ _ loop.invariant.0 c.loop-at-test.true
    c.if-b-eq-FLAG.true some
    (rw loop.invariant.1 at c.close-handed.ensures))

pub loop-at-preserved-then-b-eq-FLAG : goal.loop-at-preserved-then-b-eq-FLAG
loop-at-preserved-then-b-eq-FLAG c =
    let loop = c.loop-at in
    let none = sym c.closing.ensures ∙ c.if-closing.false in (
      rw c.opened-then-b-eq-FLAG.ensures
          (flag-passes loop.invariant.0 c.loop-at-test.true c.if-b-eq-FLAG.true none),
      loop.invariant.1,
    )

pub loop-at-preserved-then-not-receiver : goal.loop-at-preserved-then-not-receiver
loop-at-preserved-then-not-receiver c =
    let loop = c.loop-at in (
      raw-passes loop.invariant.0 c.loop-at-test.true c.if-b-eq-FLAG.false
          (step-dropped _ _ _ c.if-not-receiver.true),
      loop.invariant.1,
    )

pub loop-at-preserved-then-opens : goal.loop-at-preserved-then-opens
loop-at-preserved-then-opens c =
    let loop = c.loop-at in (
      raw-passes loop.invariant.0 c.loop-at-test.true c.if-b-eq-FLAG.false
          (step-escape _ _ _ loop.invariant.0.usable c.if-not-receiver.false
          (sym c.opens.ensures ∙ c.if-opens.true)),
      loop.invariant.1,
    )

pub loop-at-preserved-then-n-eq-PLACES : goal.loop-at-preserved-then-n-eq-PLACES
loop-at-preserved-then-n-eq-PLACES c =
    let loop = c.loop-at in (
      raw-passes loop.invariant.0 c.loop-at-test.true c.if-b-eq-FLAG.false
          (step-full _ _ _ loop.invariant.0.usable c.if-not-receiver.false
          (sym c.opens.ensures ∙ c.if-opens.false) c.if-n-eq-PLACES.true),
      loop.invariant.1,
    )

pub bounds-store-n : goal.bounds-store-n
bounds-store-n c =
    let loop = c.loop-at in
    place-free (held_of loop.receiver loop.store) loop.invariant.0.usable c.if-n-eq-PLACES.false

pub loop-at-preserved-then-receiver : goal.loop-at-preserved-then-receiver
loop-at-preserved-then-receiver c =
    let loop = c.loop-at in (
      raw-passes loop.invariant.0 c.loop-at-test.true c.if-b-eq-FLAG.false
          (step-escaped _ _ _ loop.invariant.0.usable c.if-not-receiver.false
          (sym c.opens.ensures ∙ c.if-opens.false)
          c.if-n-eq-PLACES.false c.if-receiver.true),
      loop.invariant.1,
    )

pub copy-taken-requires : goal.copy-taken-requires
copy-taken-requires c =
    let loop = c.loop-at in
    let other = opens_not (sym c.opens.ensures ∙ c.if-opens.false) c.if-receiver.false in
    let left = plain-left c.args.run.now _ c.loop-at-test.true c.if-b-eq-FLAG.false other in (
      left.0,
      place-free (held_of loop.receiver loop.store) loop.invariant.0.usable c.if-n-eq-PLACES.false,
      left.1,
    )

pub loop-at-smaller : goal.loop-at-smaller
loop-at-smaller c =
    let copied = c.copy-taken.ensures in
    omega (arith, copied.some, c.loop-at-test.true)

pub loop-at-preserved : goal.loop-at-preserved
loop-at-preserved c =
    let loop = c.loop-at in
    let other = opens_not {x = get_or c.args.run.now loop.at 0}
    (sym c.opens.ensures ∙ c.if-opens.false) c.if-receiver.false in (
      pass-rest loop.invariant.0
          (some-passed _ _ _ _ _ loop.invariant.0.usable c.if-not-receiver.false
          c.if-receiver.false other
          c.copy-taken.ensures),
      loop.invariant.1,
    )

pub shape_of-out : goal.shape_of-out
shape_of-out c = ap length c.loop-at.invariant.1

pub returns : goal.returns
returns c =
    let loop = c.loop-at in
    rw (c.told-2.ensures, loop.invariant.1) (all-taken _ _ _ _ _ loop.invariant.0 c.loop-at-test.false)
