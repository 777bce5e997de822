-- `identity::allowed` meets its promise: a law of `Identities` for each way out. Assumes nothing.
use mathlib.Core.Path.{ap, ◌∙◌}
use mathlib.Core.Bool.{not}
use mathlib.Core.Logic.{⊎_elim}
use borrow.Author.Tests.{eq-eqb}
use Rattle.identity.proofs.Identities.{too_short, too_long, last-blank, last-other, test-printable}
use Rattle.identity.proofs.allowed.Goals as goal

pub returns-then-n-lt-LEAST : goal.returns-then-n-lt-LEAST
returns-then-n-lt-LEAST c = ⊎_elim (too_short _) (λ w. too_long _ w.1) c.then-n-lt-LEAST.either

pub returns-then-identity-n-ne-BLANK : goal.returns-then-identity-n-ne-BLANK
returns-then-identity-n-ne-BLANK c =
    test-printable _ c.all_printable.ensures
    ∙ last-other _ c.if-n-lt-LEAST.false c.if-n-gt-OCTETS.false c.if-identity-n-ne-BLANK.true

pub returns-else-identity-n-ne-BLANK : goal.returns-else-identity-n-ne-BLANK
returns-else-identity-n-ne-BLANK c =
    ap not (eq-eqb _ _ c.if-identity-n-ne-BLANK.false)
    ∙ last-blank _ c.if-n-lt-LEAST.false c.if-identity-n-ne-BLANK.false
