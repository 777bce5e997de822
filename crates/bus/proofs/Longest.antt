-- "at most 2N + 2", and that many are reached: at the least limit and at the largest, by frames of which every octet, check
-- included, is 0x7E or 0x7D. Computed from the definitions. Assumes nothing.
use mathlib.Core.Path.{◌≡◌, refl}
use mathlib.Core.List.{List, [], ◌∷◌, ◌++◌}
use Prim.Native.Nat.{ℕ}
use lib.ListN.{length, replicate}
use Rattle.fcs.specs.Check.{bit_step, bit_steps, octet_step, register_after, check_of, with_check}
use Rattle.limits.specs.Limits.{payload_most, line_most}
use Rattle.frame.specs.Line.{special, escaped, on_line, between}
use Rattle.frame.specs.Write.{line_of}

-- payloads of N - 4 octets whose check, with address and control 0x7E before them, is 7D 7E, and 7D 7D
abbrev pub specials78 : List ℕ
specials78 =
    replicate 61 0x7E
    ++ 0x7D ∷ 0x7E ∷ 0x7D ∷ 0x7D ∷ 0x7E ∷ 0x7D ∷ 0x7E ∷ 0x7E ∷ 0x7E ∷ 0x7D ∷ 0x7E ∷ 0x7E ∷ 0x7D ∷ []

abbrev pub specials260 : List ℕ
specials260 = replicate 251 0x7E ++ 0x7D ∷ 0x7D ∷ 0x7E ∷ 0x7D ∷ 0x7D ∷ []

pub line-reached-78 : (length specials78 ≡ payload_most 78)
    × (length (line_of (0x7E ∷ 0x7E ∷ specials78)) ≡ line_most 78)
unfolding line_of between on_line escaped special with_check check_of register_after octet_step bit_steps bit_step
line-reached-78 = (refl, refl)

pub line-reached-260 : (length specials260 ≡ payload_most 260)
    × (length (line_of (0x7E ∷ 0x7E ∷ specials260)) ≡ line_most 260)
unfolding line_of between on_line escaped special with_check check_of register_after octet_step bit_steps bit_step
line-reached-260 = (refl, refl)
