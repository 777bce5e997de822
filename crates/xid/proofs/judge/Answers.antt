-- `xid::judge` meets its promise: one test after the other. Assumes nothing.
use Rattle.xid.proofs.Judging.{meant-scan, meant-other, meant-neither}
use Rattle.xid.proofs.Shapes.{assignment-shaped}
use mathlib.Core.Path.{sym, ◌∙◌}
use Rattle.xid.proofs.judge.Goals as goal

pub returns-then-scan_matches : goal.returns-then-scan_matches
returns-then-scan_matches c =
    let scan = c in
    let a = scan.args in
    meant-scan _ a.payload.now a.parts (sym scan.is_scan.ensures ∙ scan.if-is_scan.true)
    (sym c.scan_matches.ensures ∙ c.if-scan_matches.true)

pub returns-else-scan_matches : goal.returns-else-scan_matches
returns-else-scan_matches c =
    let scan = c in
    let a = scan.args in
    meant-other _ a.payload.now a.parts (sym scan.is_scan.ensures ∙ scan.if-is_scan.true)
    (sym c.scan_matches.ensures ∙ c.if-scan_matches.false)

pub assign-requires : goal.assign-requires
assign-requires c =
    let a = c.args in
    sym (assignment-shaped a.payload.now a.parts) ∙ sym c.assignment_shape.ensures ∙ c.if-assignment_shape.true

pub returns-then-assignment_shape : goal.returns-then-assignment_shape
returns-then-assignment_shape c = rw c.octets.ensures.all at c.assign.ensures

pub returns-else-assignment_shape : goal.returns-else-assignment_shape
returns-else-assignment_shape c =
    let scan = c in
    let a = scan.args in
    let shaped = sym (assignment-shaped a.payload.now a.parts) in
    meant-neither _ a.payload.now a.parts (sym scan.is_scan.ensures ∙ scan.if-is_scan.false)
    (shaped ∙ sym c.assignment_shape.ensures ∙ c.if-assignment_shape.false)
