-- Texts stored one behind the other. Assumes nothing.
use mathlib.Core.Path.{◌≡◌, refl, sym}
use mathlib.Core.List.{List, ◌∷◌, ◌++◌, append-nil}
use Prim.Native.Nat.{ℕ, ◌+◌}
use lib.ListN.{length, set}
use lib.Seq.{sets}
use Rattle.octets.proofs.Runs.{Run, run-all, run-one, run-some, run-put, run-done}
use Rattle.octets.specs.Puts.{Puts}
use Rattle.payload.proofs.Backs.{success-put}
use Rattle.information.specs.Information.{text_of}

-- a text is stored after its length
pub text-put : (t o : List ℕ) (at : ℕ) {o₁ o₂ : List ℕ}
    → o₁ ≡ set o at (length t) → o₂ ≡ sets o₁ (at + 1) t → Puts o at (text_of t) (at + 1 + length t) o₂
unfolding text_of
text-put t o at s₁ s₂ =
    let first : Run _ (at + 1) t o at (length t ∷ t) = run-one (length t) s₁ refl run-all in
    run-done refl (run-some t s₂ refl (sym (append-nil t)) first)

-- success, and four texts behind it
module _ (p s h w o : List ℕ) {o₁ o₂ o₃ o₄ : List ℕ} {a b c d : ℕ}
    (put₁ : Puts (set o 0 0) 1 (text_of p) a o₁) (put₂ : Puts o₁ a (text_of s) b o₂)
    (put₃ : Puts o₂ b (text_of h) c o₃) (put₄ : Puts o₃ c (text_of w) d o₄) where
  pub texts-put : Puts o 0 (0 ∷ (text_of p ++ (text_of s ++ (text_of h ++ text_of w)))) d o₄
  texts-put =
      let more = text_of s ++ (text_of h ++ text_of w) in
      let one : Run o₁ a more (set o 0 0) 1 (text_of p ++ more)
      = run-put (text_of p) put₁ refl run-all in
      let two = run-put (text_of s) put₂ refl one in
      let three = run-put (text_of h) put₃ refl two in
      success-put _ o refl (run-put (text_of w) put₄ (sym (append-nil (text_of w))) three)
