-- What the payloads of this crate are: how long, what lies in them, and the rows that 01 spells out. Assumes nothing.
use Rattle.octets.specs.Text.{laid}
use mathlib.Core.Path.{◌≡◌, refl}
use mathlib.Core.Bool.{Bool, true, false}
use mathlib.Core.List.{List, [], ◌∷◌}
use Rattle.std.specs.Prelude.{Some}
use Prim.Native.Nat.{ℕ, suc, ◌+◌, ◌/◌, ◌%◌, ◌≤◌}
use native.Mathlib.Omega.{arith}
use lib.ListN.{length, take, replicate, length-take}
use Rattle.octets.specs.Octets.{last_of}
use Rattle.octets.proofs.Stores.{take-start}
use Rattle.antenna.specs.Motions.{return_code}
use Rattle.payload.specs.Payloads.{message_of, success_of, failure_of, result_of, payload_of, body_most}

pub length-message : (code : ℕ) (d : List ℕ) → length (message_of code d) ≡ 3 + length d
unfolding message_of
length-message code d = omega arith

pub length-success : (code : ℕ) (out : List ℕ) → length (success_of code out) ≡ 4 + length out
unfolding success_of message_of
length-success code out = omega arith

-- "Code, data length (two octets, low first), data", "Data out after 0x00"
pub success-is : (code : ℕ) (out : List ℕ)
    → success_of code out ≡ code ∷ (1 + length out) % 256 ∷ (1 + length out) / 256 % 256 ∷ 0x00 ∷ out
unfolding success_of message_of
success-is code out = let more : 1 + length out ≡ suc (length out) = omega arith in rw more

-- "A failure answers code, 2, 0, 0x0B, return code."
pub failure-is : (code why : ℕ) → failure_of code why ≡ code ∷ 2 ∷ 0 ∷ 0x0B ∷ why ∷ []
unfolding failure_of
failure-is code why = refl

-- what a payload says is what was laid into it
pub payload-says : (b : List ℕ) → take (payload_of b).len (payload_of b).octets ≡ b
unfolding laid
payload-says b = take-start b (replicate 74 0)

-- no payload has more than 74 octets
pub laid-fits : (code : ℕ) (d : List ℕ) → (payload_of (message_of code (take body_most d))).len ≤ 74
unfolding laid
laid-fits code d =
    let few : length (take body_most d) ≤ 71 = simp length-take (omega arith) in
    omega (arith, few, length-message code (take body_most d))

-- "Stopped at 50 ..: 33 01 00 00", "Stopped at 49: 33 02 00 0B 02"
pub result-reached : result_of true ≡ 0x33 ∷ 0x01 ∷ 0x00 ∷ 0x00 ∷ []
unfolding result_of success_of message_of
result-reached = refl

pub result-missed : result_of false ≡ 0x33 ∷ 0x02 ∷ 0x00 ∷ 0x0B ∷ 0x02 ∷ []
unfolding result_of failure_of
result-missed = refl

-- the last octet of the result is the return code of what waited
pub result-code : (reached : Bool) → return_code (Some reached) ≡ Some (last_of 0 (result_of reached))
unfolding return_code result_of success_of message_of failure_of last_of
result-code true = refl
result-code false = refl
