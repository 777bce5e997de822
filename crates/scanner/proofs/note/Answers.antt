-- `scanner::note` meets its promise: a law of `Moves` for each of the four ways of a step. Assumes nothing.
use mathlib.Core.Path.{◌≡◌, ◌∙◌}
use mathlib.Core.Bool.{◌||◌}
use native.Mathlib.Omega.{arith}
use Rattle.scan.proofs.Moves.{note-silent, note-deeper, note-listed, note-full}
use Rattle.scanner.proofs.note.Goals as goal
use Rattle.scanner.proofs.note.Goals.{then-doubt, else-doubt}

pub returns-then-not-heard : goal.returns-then-not-heard
returns-then-not-heard c =
    let s = c.args in
    let doubt : c.if-doubt.move_on ≡ (s.doubt || s.quiet) =
    elim c.if-doubt.branch [ then-doubt w ↦ rw w.if-doubt.true (w.move_on-is ∙ w.if-doubt.true) | else-doubt w ↦ rw w.if-doubt.false w.move_on-is ] in
    rw (c.if-not-heard.true, c.move_on.ensures, doubt)
    (note-silent s.scan s.quiet s.doubt c.climb-n.result c.zero_half.result
    (omega (arith, c.climb-n.ensures.within, c.climb-n.ensures.sized, c.requires.2)) c.climb-n.ensures.after
    c.zero_half.ensures)

pub returns-then-scan-lt-BITS : goal.returns-then-scan-lt-BITS
returns-then-scan-lt-BITS c =
    let s = c.args in
    rw c.if-not-heard.false
    (c.keep_going.ensures
    ∙ note-deeper s.scan s.quiet s.doubt (omega (arith, c.if-scan-lt-BITS.true)) c.climb-n.ensures.sized)

pub returns-then-scan-lt-LIST_MOST : goal.returns-then-scan-lt-LIST_MOST
returns-then-scan-lt-LIST_MOST c =
    let s = c.args in
    let long = c.climb-n.ensures.sized in
    rw (c.if-not-heard.false, c.move_on-then-scan-lt-LIST_MOST.ensures)
    (note-listed s.scan s.quiet s.doubt c.climb-n.result
    (c.store-s.ensures.value ∙ rw c.octets_of.ensures) c.store-s.ensures.sized
    (omega (arith, c.if-scan-lt-BITS.false, c.requires.2)) long c.if-scan-lt-LIST_MOST.true
    (omega (arith, c.climb-n.ensures.within, long, c.requires.2)) c.climb-n.ensures.after)

pub returns : goal.returns
returns c =
    let s = c.args in
    rw c.if-not-heard.false
    (c.in_state.ensures
    ∙ note-full s.scan s.quiet s.doubt (omega (arith, c.if-scan-lt-BITS.false, c.requires.2))
    c.climb-n.ensures.sized c.if-scan-lt-LIST_MOST.false)
