-- A number among the words, digit by digit. Assumes nothing.
use Rattle.std.proofs.Common.{◌≡◌, ℕ, ◌+◌, ◌-◌, ◌*◌, ◌<◌, ◌≤◌, min, List, ◌∷◌, length, get_or, drop, sym, ap, ◌∙◌, drop_of_length-le, le-ltb, Bool, true, false, Some, None, refl, arith, tests}
use Rattle.std.specs.Prelude.{nat_lt}
use Rattle.std.specs.Char.{is_ascii_digit}
use Rattle.octets.proofs.Rest.{rest}
use Rattle.salvager.specs.Words.{number_after, number_in}

module _ (s : List ℕ) (n i : ℕ) (inv : number_after n (drop i s) ≡ number_in s) where
  here : i < length s → number_after n (get_or s i 0 ∷ drop (i + 1) s) ≡ number_in s
  here h = ap (number_after n) (sym (rest s i h)) ∙ inv

  -- something else than a digit
  pub number-other : i < length s → is_ascii_digit (get_or s i 0) ≡ false → None ≡ number_in s
  unfolding number_after
  number-other h d = go (nat_lt (get_or s i 0) 48) (nat_lt 57 (get_or s i 0)) refl refl
    where
      go : (t u : Bool) → nat_lt (get_or s i 0) 48 ≡ t → nat_lt 57 (get_or s i 0) ≡ u → None ≡ number_in s
      go true u e f = rw e at (here h)
      go false true e f = rw (e, f) at (here h)
      go false false e f = let no : ⊥ = grind (arith, tests) in absurd no

  -- a digit
  pub number_more : i < length s → is_ascii_digit (get_or s i 0) ≡ true
      → number_after (min (n * 10 + (get_or s i 0 - 48)) 1000) (drop (i + 1) s) ≡ number_in s
  unfolding number_after
  number_more h d =
      let low : 48 ≤ get_or s i 0 = grind (arith, tests) in
      let high : get_or s i 0 ≤ 57 = grind (arith, tests) in
      rw (le-ltb (get_or s i 0) 48 low, le-ltb 57 (get_or s i 0) high) at (here h)

  -- all of them
  pub number-done : length s ≤ i → Some n ≡ number_in s
  unfolding number_after
  number-done h = sym (ap (number_after n) (drop_of_length-le s h)) ∙ inv
