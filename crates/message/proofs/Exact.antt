-- Each return code is given exactly when 01 says: its test holds, and none before it. 0x24 has two places in the
-- order.
-- Assumes nothing.
use mathlib.Core.Path.{◌≡◌}
use mathlib.Core.Bool.{true, false}
use mathlib.Core.List.{List}
use mathlib.Core.Logic.Iff
use mathlib.Core.Logic.{◌↔◌, ◌⊎◌, inl, inr, ⊎_elim}
use Prim.Native.Nat.{ℕ}
use Rattle.octets.specs.Octets.{holds}
use Rattle.refusal.specs.Answer.{gives, refuses, answered, Clear, numbers_of}
use Rattle.refusal.proofs.Exactly.{TestsFor, exactly-tests, exactly-given}
use Rattle.antenna.specs.declared.Antenna.{Antenna}
use Rattle.message.specs.declared.Carried.{Carried}
use Rattle.message.specs.Messages.{code_of, asked_of, misdeclared, barred, unknown, misfit, busied, outside}
use Rattle.message.specs.Messages.{drive_checks, checks}

module _ (d : Carried) (n : Antenna) (m : List ℕ) where
  by_rows : (k : ℕ) → answered (checks n m) d ≡ refuses k ↔ TestsFor k (checks n m)
  by_rows k = exactly-tests k (checks n m) d

  -- "code one of .., then 0x25"
  pub given-25 : answered (checks n m) d ≡ refuses 0x25
      ↔ (misdeclared m ≡ false) × (barred m ≡ true)
  unfolding TestsFor numbers_of holds checks drive_checks
  given-25 = by_rows 0x25

  -- "code not in the table below, 0x19"
  pub given-19 : answered (checks n m) d ≡ refuses 0x19
      ↔ (misdeclared m ≡ false) × (barred m ≡ false) × (unknown m ≡ true)
  unfolding TestsFor numbers_of holds checks drive_checks
  given-19 = Iff.trans (by_rows 0x19) (λ g. (search), λ w. (search))

  -- "busy, 0x05"
  pub given-05 : answered (checks n m) d ≡ refuses 0x05
      ↔ (misdeclared m ≡ false) × (barred m ≡ false) × (unknown m ≡ false) × (misfit m ≡ false)
      × (busied n (code_of m) ≡ true)
  unfolding TestsFor numbers_of holds checks drive_checks
  given-05 = Iff.trans (by_rows 0x05) (λ g. (search), λ w. (search))

  -- "out of range, 0x13"
  pub given-13 : answered (checks n m) d ≡ refuses 0x13
      ↔ (misdeclared m ≡ false) × (barred m ≡ false) × (unknown m ≡ false) × (misfit m ≡ false)
      × (busied n (code_of m) ≡ false) × (outside n (code_of m) (asked_of m) ≡ true)
  unfolding TestsFor numbers_of holds checks drive_checks
  given-13 = Iff.trans (by_rows 0x13) (λ g. (search), λ w. (search))

  -- "length field wrong, 0x24 .. data length not the defined one, 0x24"
  pub given-24 : answered (checks n m) d ≡ refuses 0x24
      ↔ (misdeclared m ≡ true) ⊎ ((misdeclared m ≡ false) × (barred m ≡ false) × (unknown m ≡ false)
      × (misfit m ≡ true))
  unfolding TestsFor numbers_of holds checks drive_checks
  given-24 = Iff.trans (by_rows 0x24) (⊎_elim inl (λ g. inr (search)), ⊎_elim inl (λ w. inr (search)))

  -- no check fails: what the message asks is done
  pub given-none : answered (checks n m) d ≡ gives d
      ↔ (misdeclared m ≡ false) × (barred m ≡ false) × (unknown m ≡ false) × (misfit m ≡ false)
      × (busied n (code_of m) ≡ false) × (outside n (code_of m) (asked_of m) ≡ false)
  unfolding Clear checks drive_checks
  given-none = Iff.trans (exactly-given (checks n m) d d) (λ g. (search), λ w. (search))
