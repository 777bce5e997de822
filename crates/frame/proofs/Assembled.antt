-- How address, control, payload and check come to stand in a buffer, one behind the other, and their line.
-- Assumes nothing.
use mathlib.Core.Path.{◌≡◌, refl, ap, ◌∙◌}
use mathlib.Core.List.{List, [], ◌∷◌, ◌++◌, append-nil}
use Prim.Native.Nat.{ℕ, ◌+◌, ◌/◌, ◌%◌, ◌≤◌}
use native.Mathlib.Omega.{arith}
use lib.ListN.{length, take, set, length-append}
use lib.Seq.{sets}
use Rattle.octets.specs.Octets.{low_of, high_of}
use Rattle.octets.specs.Puts.{Puts}
use Rattle.octets.proofs.Runs.{Run, run-all, run-one, run-two, run-some, run-done, put_back}
use Rattle.refusal.specs.Answer.{handed_out}
use Rattle.fcs.specs.Check.{check_of, with_check}
use Rattle.frame.specs.Line.{between}
use Rattle.frame.specs.Write.{line_of}

pub length-with_check : (b : List ℕ) → length (with_check b) ≡ length b + 2
unfolding with_check
length-with_check b = length-append b _

module _ (a c : ℕ) (p o : List ℕ) {o₁ o₂ o₃ : List ℕ} (room : length p + 4 ≤ length o)
    (s₁ : o₁ ≡ set o 0 a) (s₂ : o₂ ≡ set o₁ 1 c) (s₃ : o₃ ≡ sets o₂ 2 p) where
  body_run : (z : List ℕ) → Run o₃ (length p + 2) z o 0 ((a ∷ c ∷ p) ++ z)
  body_run z = run-some p s₃ (omega arith) refl (run-one c s₂ refl (run-one a s₁ refl run-all))

  body-put : Puts o 0 (a ∷ c ∷ p) (length p + 2) o₃
  body-put = rw (← append-nil (a ∷ c ∷ p)) (run-done refl (body_run []))

  pub assembled : {o₄ o₅ : List ℕ} {check : ℕ} → check ≡ check_of (take (length p + 2) o₃)
      → o₄ ≡ set o₃ (length p + 2) (check % 256) → o₅ ≡ set o₄ (length p + 2 + 1) (check / 256 % 256)
      → Puts o 0 (with_check (a ∷ c ∷ p)) (length p + 2 + 2) o₅
  unfolding with_check
  assembled {check = check} e s₄ s₅ =
      let stored : take (length p + 2) o₃ ≡ a ∷ c ∷ p = put_back {o = o} body-put (omega arith) in
      let e' : check ≡ check_of (a ∷ c ∷ p) = e ∙ ap check_of stored in
      let checked = body_run (low_of check ∷ high_of check ∷ []) in
      rw (← e') (run-done refl (run-two _ _ s₄ s₅ refl checked))

module _ (a c : ℕ) (p : List ℕ) {o d : List ℕ} {n : ℕ} (put : Puts o 0 (with_check (a ∷ c ∷ p)) n d) where
  -- how many octets were assembled
  pub assembled-long : n ≡ length p + 4
  assembled-long = omega (arith, put.count, length-with_check (a ∷ c ∷ p))

  -- their line is the one to hand out
  pub assembled-line : (room : ℕ) → length p + 4 ≤ length o
      → handed_out (between (take n d)) room ≡ handed_out (line_of (a ∷ c ∷ p)) room
  unfolding line_of
  assembled-line room h =
      ap (λ (b : List ℕ). handed_out (between b) room) (put_back put (omega (arith, assembled-long)))
