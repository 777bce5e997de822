-- `scanner::report` meets its promise: the row of 7, or one step. Assumes nothing.
use mathlib.Core.Path.{sym, ◌∙◌}
use Rattle.scan.proofs.Overs.{ended-not_asking, over-ended, open-parts}
use Rattle.scan.proofs.Reports.{report-over, report-taken}
use Rattle.scan.proofs.Moves.{noted_step}
use Rattle.scanner.proofs.report.Goals as goal

pub returns-in_default : goal.returns-in_default
returns-in_default c =
    let s = c.args in
    report-over s.scan.now s.heard (over-ended s.scan.now (ended-not_asking _ c.in_default.not-Asking))

pub returns-then-is_over : goal.returns-then-is_over
returns-then-is_over c =
    let s = c.args in
    report-over s.scan.now s.heard (sym c.if-is_over.true ∙ c.is_over.ensures)

pub note-requires : goal.note-requires
note-requires c =
    let parts = open-parts _ (sym c.is_over.ensures ∙ c.if-is_over.false) in
    (parts.counts, parts.lists, parts.begins)

pub returns : goal.returns
returns c =
    let s = c.args in
    report-taken s.scan.now s.heard (sym c.is_over.ensures ∙ c.if-is_over.false)
    (c.note.ensures ∙ noted_step s.scan.now s.heard c.in-Asking.is)
