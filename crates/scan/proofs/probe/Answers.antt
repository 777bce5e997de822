-- `scan::probe` meets its promise: the row of 7, then what `refusal::hand_out` answers. Assumes nothing.
use mathlib.Core.Path.{sym, ◌∙◌}
use Rattle.refusal.proofs.Answers.{refused, hands-is}
use Rattle.refusal.specs.declared.Refusal.TheVariants.{ScanOver}
use Rattle.scan.proofs.Probes.{probed-over, probed-open}
use Rattle.scan.proofs.probe.Goals as goal

pub returns-then-is_over : goal.returns-then-is_over
returns-then-is_over c =
    refused ScanOver (probed-over c.args.scan _ (sym c.if-is_over.true ∙ c.is_over.ensures))

pub returns : goal.returns
returns c =
    let open-yet = sym c.is_over.ensures ∙ c.if-is_over.false in
    hands-is (probed-open c.args.scan _ open-yet c.probe_of-octets.ensures)
    c.hand_out.ensures
