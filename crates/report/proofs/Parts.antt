-- How few octets tell the alarms. Assumes nothing.
use mathlib.Core.Bool.{Bool}
use mathlib.Core.List.{List, ◌∷◌}
use Prim.Native.Nat.{ℕ, ◌≤◌}
use native.Mathlib.Omega.{arith}
use Rattle.antenna.specs.Alarms.{alarm_codes, codes_of, changes_of}
use Rattle.octets.specs.Puts.{Puts}
use Rattle.report.proofs.Counts.{length-codes, length-changes}

-- how few they are
module _ (flags : List Bool) {o o' : List ℕ} {n : ℕ} where
  pub codes-few : Puts o 0 (0 ∷ codes_of flags) n o' → n ≤ 7
  codes-few p = omega (arith, p.count, length-codes alarm_codes flags)

  pub changes-few : (told : List Bool) → Puts o 0 (changes_of flags told) n o' → n ≤ 12
  changes-few told p = omega (arith, p.count, length-changes alarm_codes flags told)
