-- Octets put on the line, one after the other: how many, and which. Assumes nothing.
use mathlib.Core.Path.{◌≡◌, refl, sym, ap, ◌∙◌}
use mathlib.Core.Bool.{Bool, true, false}
use mathlib.Core.List.{List, [], ◌∷◌, ◌++◌, append_assoc}
use Prim.Native.Nat.{ℕ, ◌+◌, ◌*◌, ◌<◌, ◌≤◌}
use native.Mathlib.Omega.{arith}
use lib.Bits.{bit_xor}
use lib.ListN.{length, get_or, drop, drop_of_length-le, length-append, set}
use Rattle.octets.specs.Puts.{Puts}
use Rattle.std.specs.Simd.{first_chunks}
use Rattle.octets.proofs.Chunks.{chunk-left}
use Rattle.octets.proofs.Rest.{rest}
use Rattle.octets.proofs.Runs.{run-all, run-one, run-put, run-done}
use Rattle.frame.specs.Line.{flag, escape, toggle, special, escaped, on_line, between}

escaped-special : (x : ℕ) → special x ≡ true → escaped x ≡ escape ∷ bit_xor x toggle ∷ []
unfolding escaped
escaped-special x e = rw e

escaped-other : (x : ℕ) → special x ≡ false → escaped x ≡ x ∷ []
unfolding escaped
escaped-other x e = rw e

-- how many octets one takes: two where it is escaped, else one
pub special-two : (x : ℕ) → special x ≡ true → length (escaped x) ≡ 2
special-two x e = ap length (escaped-special x e)

pub other-one : (x : ℕ) → special x ≡ false → length (escaped x) ≡ 1
other-one x e = ap length (escaped-other x e)

escaped-few : (x : ℕ) → (1 ≤ length (escaped x)) × (length (escaped x) ≤ 2)
escaped-few x = go (special x) refl
  where
    go : (b : Bool) → special x ≡ b → (1 ≤ length (escaped x)) × (length (escaped x) ≤ 2)
    go true e = (omega (arith, special-two x e), omega (arith, special-two x e))
    go false e = (omega (arith, other-one x e), omega (arith, other-one x e))

pub on_line-long : (d : List ℕ) → length d ≤ length (on_line d)
unfolding on_line
on_line-long [] = omega arith
on_line-long (x ∷ xs) = rw length-append (omega (arith, escaped-few x, on_line-long xs))

pub on_line-short : (d : List ℕ) → length (on_line d) ≤ 2 * length d
unfolding on_line
on_line-short [] = omega arith
on_line-short (x ∷ xs) = rw length-append (omega (arith, escaped-few x, on_line-short xs))

pub length-between : (d : List ℕ) → length (between d) ≡ length (on_line d) + 2
unfolding between
length-between d = rw length-append (omega arith)

-- one octet is put, as y to the place n: behind its escape, or at once
module _ (x : ℕ) (o : List ℕ) (at : ℕ) {o₁ : List ℕ} {n y : ℕ} where
  pub special-put : special x ≡ true → o₁ ≡ set o at escape → n ≡ at + 1 → y ≡ bit_xor x toggle
      → Puts o at (escaped x) (n + 1) (set o₁ n y)
  special-put e s k v = rw (k, v) (run-done refl (run-one _ refl refl (run-one _ s (escaped-special x e) run-all)))

  pub other-put : special x ≡ false → o₁ ≡ o → n ≡ at → y ≡ x → Puts o at (escaped x) (n + 1) (set o₁ n y)
  other-put e s k v = rw (s, k, v) (run-done refl (run-one _ refl (escaped-other x e) run-all))

-- a loop that goes through d by i: one octet more, four, and the end
module _ (d : List ℕ) where
  pub line-more : (i : ℕ) → i < length d → on_line (drop i d) ≡ escaped (get_or d i 0) ++ on_line (drop (i + 1) d)
  unfolding on_line
  line-more i h = rw (rest d i h)

  pub line-four : (i : ℕ) → i + 3 < length d → on_line (drop i d) ≡ escaped (get_or d i 0) ++ (escaped (get_or d (i + 1) 0)
      ++ (escaped (get_or d (i + 2) 0) ++ (escaped (get_or d (i + 3) 0) ++ on_line (drop (i + 4) d))))
  line-four i h =
      let two : i + 1 + 1 ≡ i + 2 = omega arith in
      let three : i + 2 + 1 ≡ i + 3 = omega arith in
      let four : i + 3 + 1 ≡ i + 4 = omega arith in
      let second = rw two at (line-more (i + 1) (omega arith)) in
      let third = rw three at (line-more (i + 2) (omega arith)) in
      let fourth = rw four at (line-more (i + 3) h) in
      rw (line-more i (omega arith), second, third, fourth)

  -- how many octets it takes
  pub more-long : (i : ℕ) → i < length d
      → length (on_line (drop i d)) ≡ length (escaped (get_or d i 0)) + length (on_line (drop (i + 1) d))
  more-long i h = rw (line-more i h) (length-append (escaped (get_or d i 0)) _)

  pub line-done : (i : ℕ) → length d ≤ i → on_line (drop i d) ≡ []
  unfolding on_line
  line-done i h = rw (drop_of_length-le d h)

on_line-append : (c l : List ℕ) → on_line (c ++ l) ≡ on_line c ++ on_line l
unfolding on_line
on_line-append [] l = refl
on_line-append (x ∷ c) l = rw (on_line-append c l) (sym (append_assoc (escaped x) (on_line c) (on_line l)))

-- a loop that goes through d by chunks of n octets: the chunk at i, and what is left behind it
module _ (n i : ℕ) (d : List ℕ) {k : ℕ} {p : List (List ℕ)} (e : p ≡ first_chunks n k d) (f : length p ≡ k) (h : i < length p) where
  pub line-chunk : on_line (drop (i * n) d) ≡ on_line (get_or p i []) ++ on_line (drop ((i + 1) * n) d)
  line-chunk = ap on_line (chunk-left n i d e f h) ∙ on_line-append (get_or p i []) (drop ((i + 1) * n) d)

  -- how many octets it takes
  pub chunk-long : length (on_line (drop (i * n) d)) ≡ length (on_line (get_or p i [])) + length (on_line (drop ((i + 1) * n) d))
  chunk-long = rw line-chunk (length-append (on_line (get_or p i [])) _)

-- the first flag, what lies between, and the last flag
pub between_put : (d : List ℕ) {o o₁ o₂ o' : List ℕ} {n : ℕ} → o₁ ≡ set o 0 flag → Puts o₁ 1 (on_line d) n o₂
    → o' ≡ set o₂ n flag → Puts o 0 (between d) (n + 1) o'
unfolding between
between_put d s p t = run-done refl (run-one _ t refl (run-put (on_line d) p refl (run-one _ s refl run-all)))
