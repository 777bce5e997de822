-- What the promise of a report is shown from, and the scan after one. Assumes nothing.
use Rattle.std.proofs.Common.{Ok, Err}
use Rattle.refusal.specs.declared.Refusal.{Refusal}
use mathlib.Core.Path.{◌≡◌, sym}
use mathlib.Core.Bool.{Bool, true, false}
use Rattle.refusal.specs.Answer.{answered, state_after, Changes}
use Rattle.refusal.specs.declared.Refusal.TheVariants.{ScanOver}
use Rattle.refusal.proofs.Answers.{answered-here, unchanged, changed}
use Rattle.identity.specs.Identity.{depth, octets_of}
use Rattle.walk.specs.Machine.{step}
use Rattle.scan.specs.Record.{list_most, record_of, walk_of}
use Rattle.scan.specs.Scan.{over, reported}
use Rattle.scan.specs.declared.Scan.{Scan}

-- the number alone, and the scan as it was
pub report-over : (s : Scan) (heard : Bool) → true ≡ over s → Changes (reported s heard) s (Err ScanOver) s
unfolding reported
report-over s heard e = unchanged ScanOver (answered-here _ _ _ (sym e))

-- the scan one step on
pub report-taken : (s : Scan) (heard : Bool) {t : Scan} → over s ≡ false
    → t ≡ record_of s (step octets_of depth list_most (walk_of s) heard) → Changes (reported s heard) s (Ok tt) t
unfolding reported answered
report-taken s heard e g = changed (rw (e, g))

-- the scan after a report: as it was, or one step on
pub report-stays : (s : Scan) (a : Bool) → true ≡ over s → state_after (reported s a) s ≡ s
unfolding reported answered state_after
report-stays s a e = rw (← e)

pub report-steps : (s : Scan) (a : Bool) → over s ≡ false
    → state_after (reported s a) s ≡ record_of s (step octets_of depth list_most (walk_of s) a)
unfolding reported answered state_after
report-steps s a e = rw e
