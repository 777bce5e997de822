-- What a function promises that puts octets into a buffer, one run behind the other.
--   Puts o at b n o' == the octets b are stored into o from the place at on: n is the place behind them, o' is left
-- Assumes nothing.
use Rattle.std.specs.Prelude.{◌≡◌, List, ℕ, ◌+◌, length}
use Rattle.std.proofs.lemmas.List.Edits.{sets}

pub record Puts (o : List ℕ) (at : ℕ) (b : List ℕ) (n : ℕ) (o' : List ℕ) : Type 0 where
  pub count : n ≡ at + length b
  pub octets : o' ≡ sets o at b
