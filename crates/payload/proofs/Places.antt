-- How a message comes to lie in a payload: code and length in front, the data stored behind them. Assumes nothing.
use Rattle.octets.specs.Text.{laid}
use mathlib.Core.Path.{◌≡◌, sym, ap₂, ◌∙◌}
use mathlib.Core.List.{List, ◌∷◌}
use Prim.Native.Nat.{ℕ, suc, ◌+◌, ◌≤◌, min}
use native.Mathlib.Omega.{arith}
use lib.ListN.{length, set, take, replicate, length-take, length-replicate}
use lib.Seq.{sets, take_all}
use Rattle.octets.specs.Octets.{low_of, high_of, ◌at_start_of◌}
use Rattle.octets.proofs.Stores.{sets-start}
use Rattle.octets.proofs.Takes.{take-room}
use Rattle.record.specs.Desk.{Payload}
use Rattle.payload.specs.Payloads.{message_of, payload_of, body_most}

-- data that is laid is the message's, as far as there is room
module _ (code : ℕ) (d : List ℕ) {o : List ℕ} {n : ℕ} (count : n ≡ min (length d) body_most)
    (stored : o ≡ sets (set (set (set (replicate 74 0) 0 code) 1 (low_of n)) 2 (high_of n)) 3 (take n d)) where
  pub laid-is : ◌≡◌ {A = Payload} (record { octets = o; len = n + 3 }) (payload_of (message_of code (take body_most d)))
  unfolding laid message_of
  laid-is =
      let e : take body_most d ≡ take n d = sym (rw count (take-room d body_most)) in
      let m : length (take n d) ≡ n = simp length-take (omega arith) in
      let b = code ∷ low_of n ∷ high_of n ∷ take n d in
      let zeros : List ℕ = replicate 74 0 in
      let room : length b ≤ length zeros = rw (length-replicate {A = ℕ} 74 0) (omega (arith, m)) in
      let k : n + 3 ≡ suc (suc (suc n)) = omega arith in
      let at : o ≡ b at_start_of zeros = stored ∙ sets-start b zeros room in
      rw (e, m) (ap₂ (λ (x : List ℕ) (j : ℕ). record { octets = x; len = j }) at k)

-- data for which there is room is laid whole
pub laid-whole : (code : ℕ) (d : List ℕ) → length d ≤ body_most
    → payload_of (message_of code (take body_most d)) ≡ payload_of (message_of code d)
laid-whole code d h = rw (take_all body_most d h)
