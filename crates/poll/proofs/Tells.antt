-- When there is something to tell, in 01's words. Assumes nothing.
use mathlib.Core.Path.{◌≡◌}
use mathlib.Core.Bool.{true}
use mathlib.Core.Logic.{◌↔◌}
use lib.ListN.{length}
use Rattle.octets.proofs.Words.{and_parts}
use Rattle.antenna.specs.declared.Drive.{Drive}
use Rattle.antenna.specs.Alarms.{any_differ}
use Rattle.antenna.proofs.Differences.{differ-exactly}
use Rattle.record.specs.declared.Desk.{Desk}
use Rattle.poll.specs.Poll.{to_tell}

-- "if subscribed and there is something to tell": the alarms raised are not those told
pub to-tell-exactly : (t : Desk) (n : Drive) → length n.raised.flags ≡ length t.told.flags
    → to_tell t n ≡ true ↔ ((t.subscribed ≡ true) × (n.raised.flags ≡ t.told.flags → ⊥))
unfolding to_tell
to-tell-exactly t n h =
    let differ = differ-exactly n.raised.flags t.told.flags h in (
      λ e. let parts = and_parts t.subscribed (any_differ n.raised.flags t.told.flags) e in
          (parts.0, differ.0 parts.1),
      λ w. rw (w.0, differ.1 w.1),
    )
