-- `speech::pending_payload` meets its promise where an indication is pending. Assumes nothing.
use Rattle.speech.proofs.Said.{indication-said}
use Rattle.speech.proofs.pending_payload.Goals as goal

pub returns-in-Indication : goal.returns-in-Indication
returns-in-Indication c = indication-said c.args.desk c.args.pending _ c.in-Indication.is c.indication.ensures
