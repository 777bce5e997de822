-- Published check vectors, computed from the definition. Assumes nothing.
use mathlib.Core.Path.{◌≡◌, refl}
use mathlib.Core.List.{List, [], ◌∷◌}
use Prim.Native.Nat.{ℕ}
use Rattle.fcs.specs.Check.{bit_step, bit_steps, octet_step, register_after, check_of}

-- the nine digits "123456789", which lists of checks are told apart by
abbrev pub nine_digits : List ℕ
nine_digits = 0x31 ∷ 0x32 ∷ 0x33 ∷ 0x34 ∷ 0x35 ∷ 0x36 ∷ 0x37 ∷ 0x38 ∷ 0x39 ∷ []

pub nine-digits : check_of nine_digits ≡ 0x906E
unfolding check_of register_after octet_step bit_steps bit_step
nine-digits = refl
