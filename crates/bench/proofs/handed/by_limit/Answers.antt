-- `by_limit` meets its promise: each way out, by the test that leads to it. Assumes nothing.
use Rattle.octets.proofs.Rules.{tests}
use mathlib.Core.Path.{sym, ◌∙◌}
use Rattle.bench.proofs.handed.by_limit.Goals as goal

pub returns-then-is_limited : goal.returns-then-is_limited
returns-then-is_limited c = search (tests, sym c.is_limited.ensures ∙ c.if-is_limited.true)

pub returns : goal.returns
returns c = search (tests, sym c.is_limited.ensures ∙ c.if-is_limited.false)
