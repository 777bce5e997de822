-- What a caller learns of a result that waits: which, and its return code. Assumes nothing.
use mathlib.Core.Path.{◌≡◌, refl, ap, ◌∙◌}
use Rattle.std.specs.Prelude.{Bool, Option, None}
use Rattle.antenna.specs.declared.Motion.{Motion}
use Rattle.antenna.specs.declared.Motion.TheVariants.{Still, Moving, Owing, Stopped}
use Rattle.antenna.specs.Motions.{waiting_of, return_code, code_waiting, Awaits}

code_is : (m : Motion) → return_code (waiting_of m) ≡ code_waiting m
unfolding waiting_of return_code code_waiting
code_is Still = refl
code_is Moving = refl
code_is (Owing asked) = refl
code_is (Stopped reached) = refl

pub awaits : {m : Motion} {r : Option Bool} → r ≡ waiting_of m → Awaits m r
awaits {m} e = record { waits = e; code = ap return_code e ∙ code_is m }

-- nothing waits in a motion that has not stopped
pub none_waits : (m : Motion) → ((reached : Bool) → m ≡ Stopped reached → ⊥) → None ≡ waiting_of m
unfolding waiting_of
none_waits Still n = refl
none_waits Moving n = refl
none_waits (Owing asked) n = refl
none_waits (Stopped reached) n = absurd (n reached refl)
