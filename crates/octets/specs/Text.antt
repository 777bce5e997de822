-- Octets of any number up to n, as the code holds them: a row of n, of which the first count.
--   content t == the octets of the text t: as many as its length says, and the whole row where its length says more
--   laid n s  == the octets s, laid into a row of n, zeros behind them
-- Assumes nothing.
use Rattle.std.specs.Prelude.{List, ℕ, length, take, replicate}
use Rattle.octets.specs.Octets.{◌at_start_of◌}
use Rattle.octets.specs.declared.Text.{Text}

abbrev pub content : {n : ℕ} → Text n → List ℕ
content t = take t.len t.octets

unfoldable pub laid : (n : ℕ) → List ℕ → Text n
laid n s = record { octets = s at_start_of replicate n 0; len = length s }
