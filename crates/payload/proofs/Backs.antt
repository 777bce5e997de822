-- Octets put one behind the other, and read back as data of a payload. Assumes nothing.
use mathlib.Core.Path.{◌≡◌, refl, ap, ◌∙◌}
use mathlib.Core.List.{List, [], ◌∷◌}
use Prim.Native.Nat.{ℕ, ◌≤◌}
use native.Mathlib.Omega.{arith}
use lib.ListN.{length, set, take}
use lib.Seq.{sets}
use Rattle.octets.specs.Puts.{Puts}
use Rattle.octets.proofs.Runs.{Run, run-done, put_back}
use Rattle.payload.specs.Payloads.{payload_of, message_of, body_most}
use Rattle.payload.proofs.Places.{laid-whole}

-- octets stored behind the one of success, from the start
pub success-put : (xs o : List ℕ) {o₁ o' : List ℕ} {n : ℕ}
    → o₁ ≡ set o 0 0 → Run o' n [] o₁ 1 xs → Puts o 0 (0 ∷ xs) n o'
success-put xs o s r =
    let done = run-done refl r in
    record { count = omega (arith, done.count); octets = done.octets ∙ ap (λ (l : List ℕ). sets l 1 xs) s }

-- what was stored from the start, read back and laid
module _ (code : ℕ) (b o : List ℕ) {o' : List ℕ} {n : ℕ} (few : n ≤ body_most) (room : n ≤ length o)
    (p : Puts o 0 b n o') where
  pub laid-back : payload_of (message_of code (take body_most (take n o'))) ≡ payload_of (message_of code b)
  laid-back =
      let e : n ≡ length b = omega (arith, p.count) in
      rw (put_back {o = o} p room) (laid-whole code b (omega arith))
