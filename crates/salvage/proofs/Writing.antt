-- What is stored into the output for a stretch that is kept, step by step. Assumes nothing.
use Rattle.std.proofs.Common.{◌≡◌, ℕ, ◌+◌, ◌<◌, ◌≤◌, Bool, true, false, List, [], ◌∷◌, ◌++◌, length, take, set, sym, refl, ap, ◌∙◌, add-zero, arith, length-append, length-take}
use lib.Seq.{sets}
use Rattle.octets.specs.Octets.{part_of}
use Rattle.octets.specs.Puts.{Puts}
use Rattle.octets.proofs.Runs.{run-all, run-one, run-some, run-put, run-done}
use Rattle.frame.specs.Line.{flag}
use Rattle.salvage.specs.Holding.{first_flag, kept_octets}

pub nothing_put : {o : List ℕ} {at : ℕ} → Puts o at [] at o
nothing_put {at = at} = record { count = sym (add-zero at); octets = refl }

pub first-length : (begun : Bool) → length (first_flag begun) ≤ 1
unfolding first_flag
first-length true = omega arith
first-length false = omega arith

module _ (begun : Bool) (held : ℕ) (raw : List ℕ) (fits : held ≤ length raw) where
  held-length : length (take held raw) ≡ held
  held-length = omega (arith, length-take held raw)

  pub kept-length : length (kept_octets begun held raw) ≡ length (first_flag begun) + held + 1
  unfolding kept_octets
  kept-length =
      length-append (first_flag begun) (take held raw ++ flag ∷ [])
      ∙ ap (λ (n : ℕ). length (first_flag begun) + n) (length-append (take held raw) (flag ∷ []))
      ∙ omega (arith, held-length)

  -- where there is room for all of it, there is for its first octet, and for its last
  module _ (o : List ℕ) (at : ℕ) (room : at + length (kept_octets begun held raw) ≤ length o) where
    pub first-inside : at < length o
    first-inside = omega (arith, kept-length)

    pub end-inside : {first : ℕ} {o₁ : List ℕ} → Puts o at (first_flag begun) first o₁ → first + held < length o
    end-inside p = omega (arith, kept-length, p.count)

  pub kept_put : {o o₁ o₂ p : List ℕ} {at first : ℕ} → Puts o at (first_flag begun) first o₁ → o₂ ≡ sets o₁ first p
      → p ≡ part_of 0 held raw
      → Puts o at (kept_octets begun held raw) (first + held + 1) (set o₂ (first + held) flag)
  unfolding kept_octets
  kept_put {o₁ = o₁} {first = first} p e f =
      let n : first + held ≡ first + length (take held raw) = ap (λ (k : ℕ). first + k) (sym held-length) in
      run-done refl
      (run-one flag refl refl
      (run-some (take held raw) (e ∙ ap (sets o₁ first) f) n refl
      (run-put (first_flag begun) p refl run-all)))
