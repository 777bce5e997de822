-- What the decoder says of a stretch where there is room for every frame: which numbers, and which frame with a larger
-- limit. Assumes nothing.
use mathlib.Core.Path.{◌≡◌, sym, ◌∙◌}
use mathlib.Core.Bool.{true}
use mathlib.Core.List.{List, [], ◌∷◌}
use mathlib.Core.Logic.{inl, inr, ⊎_elim}
use Prim.Native.Nat.{ℕ, ◌-◌, ◌≤◌}
use native.Mathlib.Omega.{arith}
use lib.ListN.{length, length-take}
use Rattle.octets.specs.Octets.{holds, OneOf}
use Rattle.octets.proofs.Words.{true-not-false, holds-exactly}
use Rattle.refusal.specs.Answer.{gives, refuses}
use Rattle.refusal.proofs.Answers.{gives-not-refuses, refuses-same}
use Rattle.limits.specs.Limits.{is_limit, frame_most}
use Rattle.frame.specs.Line.{plain}
use Rattle.frame.specs.Decode.{body, decoded}
use Rattle.frame.proofs.Exact.{decode-5, decode-6, decode-frame, decode-all}

body-fits : (N : ℕ) (d : List ℕ) → length d ≤ N → length (body d) ≤ frame_most N
unfolding body
body-fits N d h = omega (arith, length-take (length d - 2) d)

module _ (N : ℕ) (p : List ℕ) where
  -- neither 5 nor 6
  pub numbers-decoded : (k : ℕ) → is_limit N ≡ true → decoded N p (frame_most N) ≡ refuses k
      → OneOf k (1 ∷ 2 ∷ 3 ∷ 4 ∷ [])
  numbers-decoded k l e =
      ⊎_elim (λ g. absurd (gives-not-refuses (sym g ∙ e))) (λ w.
      let (j, row, f) = w in
      let same : j ≡ k = refuses-same (sym f ∙ e) in
      rw same at (these j f ((holds-exactly j (6 ∷ 4 ∷ 1 ∷ 2 ∷ 3 ∷ 5 ∷ [])).0 row)))
      (decode-all N p (frame_most N))
    where
      these : (j : ℕ) → decoded N p (frame_most N) ≡ refuses j → OneOf j (6 ∷ 4 ∷ 1 ∷ 2 ∷ 3 ∷ 5 ∷ [])
          → OneOf j (1 ∷ 2 ∷ 3 ∷ 4 ∷ [])
      these j f (inl q) = absurd (true-not-false (sym l ∙ (decode-6 N p (frame_most N)).0 (rw q at f)))
      these j f (inr (inl q)) = inr (inr (inr (inl q)))
      these j f (inr (inr (inl q))) = inl q
      these j f (inr (inr (inr (inl q)))) = inr (inl q)
      these j f (inr (inr (inr (inr (inl q))))) = inr (inr (inl q))
      these j f (inr (inr (inr (inr (inr (inl q)))))) =
          let w = (decode-5 N p (frame_most N)).0 (rw q at f) in
          absurd (omega (arith, w.3, body-fits N (plain p) w.1.2))
      these j f (inr (inr (inr (inr (inr (inr none)))))) = absurd none

  pub never-0 : is_limit N ≡ true → decoded N p (frame_most N) ≡ refuses 0 → ⊥
  unfolding holds
  never-0 l e = true-not-false (sym ((holds-exactly 0 (1 ∷ 2 ∷ 3 ∷ 4 ∷ [])).1 (numbers-decoded 0 l e)))

  -- what is read with a limit is read with a larger one, as the same frame
  pub reads_more : (M : ℕ) (b : List ℕ) → is_limit M ≡ true → N ≤ M → decoded N p (frame_most N) ≡ gives b
      → decoded M p (frame_most M) ≡ gives b
  reads_more M b l h e =
      let w = (decode-frame N p (frame_most N) b).0 e in
      let small : length (plain p) ≤ M = omega (arith, w.1.2) in
      (decode-frame M p (frame_most M) b).1
      (l, (w.1.0, w.1.1, small), w.2, body-fits M (plain p) small, w.4)
