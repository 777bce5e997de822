-- How long the reports of alarms are, and when an indication says something. Assumes nothing.
use mathlib.Core.Path.{◌≡◌, refl, ap}
use mathlib.Core.Bool.{Bool, true, false, cond}
use mathlib.Core.List.{List, [], ◌∷◌}
use mathlib.Core.Logic.{◌↔◌}
use Prim.Native.Nat.{ℕ, ◌≤◌}
use native.Mathlib.Omega.{arith}
use lib.ListN.{length}
use Rattle.octets.proofs.Words.{true-not-false}
use Rattle.antenna.specs.declared.Alarms.{Alarms}
use Rattle.antenna.specs.Alarms.{alarm_codes, codes_of, changes_among, changes_of, differs, any_differ, flag_octet}
use Rattle.payload.specs.Payloads.{success_of}
use Rattle.payload.proofs.Laws.{length-message, length-success}
use Rattle.report.specs.Reports.{indication_of}
use Rattle.report.proofs.Counts.{length-codes, length-changes}

-- at most 10 octets tell the alarms, and at most 15 which have changed
pub alarms-fits : (flags : List Bool) → length (success_of 0x04 (codes_of flags)) ≤ 10
alarms-fits flags = omega (arith, length-success 0x04 (codes_of flags), length-codes alarm_codes flags)

pub indication-fits : (present told : Alarms) → length (indication_of present told) ≤ 15
unfolding indication_of
indication-fits present told =
    omega (
      arith,
      length-message 0x07 (changes_of present.flags told.flags),
      length-changes alarm_codes present.flags told.flags,
    )

-- an indication says something exactly if some flag differs from what was told
nothing : (cs : List ℕ) (ps ts : List Bool) → length ps ≤ length cs
    → changes_among cs ps ts ≡ [] → any_differ ps ts ≡ false
unfolding changes_among any_differ
nothing cs [] ts h e = refl
nothing [] (p ∷ ps) ts h e = let none : ⊥ = omega (arith, h) in absurd none
nothing (c ∷ cs) (p ∷ ps) [] h e = refl
nothing (c ∷ cs) (p ∷ ps) (t ∷ ts) h e =
    go (differs p t) (nothing cs ps ts (omega (arith, h))) e
  where
    go : (b : Bool) → (changes_among cs ps ts ≡ [] → any_differ ps ts ≡ false)
        → cond b (c ∷ flag_octet p ∷ changes_among cs ps ts) (changes_among cs ps ts) ≡ []
        → cond b true (any_differ ps ts) ≡ false
    go true less f = let none : ⊥ = omega (arith, ap length f) in absurd none
    go false less f = less f

silent : (cs : List ℕ) (ps ts : List Bool) → any_differ ps ts ≡ false → changes_among cs ps ts ≡ []
unfolding changes_among any_differ
silent [] ps ts e = refl
silent (c ∷ cs) [] ts e = refl
silent (c ∷ cs) (p ∷ ps) [] e = refl
silent (c ∷ cs) (p ∷ ps) (t ∷ ts) e = go (differs p t) (silent cs ps ts) e
  where
    go : (b : Bool) → (any_differ ps ts ≡ false → changes_among cs ps ts ≡ []) → cond b true (any_differ ps ts) ≡ false
        → cond b (c ∷ flag_octet p ∷ changes_among cs ps ts) (changes_among cs ps ts) ≡ []
    go true less f = absurd (true-not-false f)
    go false less f = less f

pub says_nothing : (present told : List Bool) → length present ≤ 6
    → changes_of present told ≡ [] ↔ any_differ present told ≡ false
says_nothing present told h = (nothing alarm_codes present told h, silent alarm_codes present told)
