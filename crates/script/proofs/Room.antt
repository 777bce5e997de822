-- A line of at most 2,000 octets never fills the row: two digits and more stand for an octet, and no octet of the line
-- belongs to two words. So what is left out of a full row is left out of no line. Assumes nothing.
use mathlib.Core.Path.{◌≡◌, refl}
use mathlib.Core.Bool.{Bool, true, false, cond}
use mathlib.Core.List.{List, [], ◌∷◌}
use Rattle.std.specs.Prelude.{Option, None, Some, Result, Ok, Err}
use Prim.Native.Nat.{ℕ, zero, suc, ◌+◌, ◌*◌, ◌≤◌}
use Prim.Native.Char.{code}
use native.Mathlib.Omega.{arith}
use lib.Dec.{eqb}
use lib.ListN.{length, length-take, length-drop}
use Rattle.octets.specs.Octets.{place_of}
use Rattle.identity.specs.Identity.{same}
use Rattle.script.specs.Words.{spelled, first_of, behind_first, word_at}
use Rattle.script.specs.Values.{octet_by, octet_then, pairs_of, hex_of, value_of}
use Rattle.script.specs.Room.{count_of, row_of, AllFit}
use Rattle.script.specs.Script.{octets_most, wordless, kinds_of, with_value, with_octets, with_hex, with_word}
use Rattle.script.specs.declared.Fault.{Fault}
use Rattle.script.specs.declared.Asked.{Asked}

-- ---- octets of a HEX word

then-count : (v : Result ℕ Fault) (p : Option (List ℕ)) → count_of (octet_then v p) ≤ suc (count_of p)
unfolding octet_then
then-count (Ok o) None = omega arith
then-count (Ok o) (Some os) = omega arith
then-count (Err f) p = omega arith

pairs-count : (w : List ℕ) → 2 * count_of (pairs_of w) ≤ length w
unfolding pairs_of
pairs-count [] = omega arith
pairs-count (h ∷ []) = omega arith
pairs-count (h ∷ l ∷ s) = omega (arith, then-count (octet_by h l) (pairs_of s), pairs-count s)

pub hex-count : (w : List ℕ) → 2 * count_of (hex_of w) ≤ length w
unfolding hex_of
hex-count w = go (same w (spelled "-")) (eqb (length w) 0)
  where
    go : (t u : Bool) → 2 * count_of (cond t (Some []) (cond u None (pairs_of w))) ≤ length w
    go true u = omega arith
    go false true = omega arith
    go false false = pairs-count w

-- ---- words of a line

-- what is behind n words
abbrev rest_at : ℕ → List ℕ → List ℕ
rest_at zero s = s
rest_at (suc n) s = rest_at n (behind_first s)

word_first : (n : ℕ) (s : List ℕ) → word_at n s ≡ first_of (rest_at n s)
unfolding word_at
word_first zero s = refl
word_first (suc n) s = word_first n (behind_first s)

rest-next : (n : ℕ) (s : List ℕ) → rest_at (suc n) s ≡ behind_first (rest_at n s)
rest-next zero s = refl
rest-next (suc n) s = rest-next n (behind_first s)

parts_within : (s : List ℕ) → length (first_of s) + length (behind_first s) ≤ length s
unfolding first_of behind_first
parts_within s = omega (arith, length-take (place_of 0x20 s) s, length-drop (suc (place_of 0x20 s)) s)

word-within : (n : ℕ) (s : List ℕ) → length (word_at n s) + length (rest_at (suc n) s) ≤ length (rest_at n s)
word-within n s = rw (word_first n s, rest-next n s) (parts_within (rest_at n s))

-- ---- the row

value_len : (a : Asked) (n : ℕ) (v : Result ℕ Fault) → (row_of (with_value a n v)).len ≤ a.len
unfolding with_value
value_len a n (Ok v) = omega arith
value_len a n (Err f) = omega arith

hex-len : (a : Asked) (n : ℕ) (p : Option (List ℕ)) → (row_of (with_hex a n p)).len ≤ a.len + count_of p
unfolding with_hex with_value with_octets
hex-len a n None = omega arith
hex-len a n (Some os) = omega arith

word_len : (k d : ℕ) (a : Asked) (n : ℕ) (w : List ℕ) → (row_of (with_word k d a n w)).len ≤ a.len + count_of (hex_of w)
unfolding with_word
word_len k d a n w = go (eqb k (code "x"))
  where
    go : (t : Bool) → (row_of (cond t (with_hex a n (hex_of w)) (with_value a n (value_of k d w)))).len ≤ a.len + count_of (hex_of w)
    go true = hex-len a n (hex_of w)
    go false = omega (arith, value_len a n (value_of k d w))

all_fit : (d : ℕ) (ks : List ℕ) (n : ℕ) (s : List ℕ) (a : Asked) → 2 * a.len + length (rest_at n s) ≤ 2 * octets_most
    → AllFit d ks n s a
all_fit d [] n s a h = tt
all_fit d (k ∷ ks) n s a h =
    let w = word_at n s in (
      omega (arith, h, hex-count w, word-within n s),
      all_fit d ks (suc n) s (row_of (with_word k d a n w)) (omega (arith, h, hex-count w, word-within n s, word_len k d a n w)),
    )

-- "`long` (more than 2,000 octets ..)" is a fault, so each line that asks something fits
pub row_fits : (s : List ℕ) (d c : ℕ) → length s ≤ 2000 → AllFit d (kinds_of c) 1 s (wordless c)
row_fits s d c h = all_fit d (kinds_of c) 1 s (wordless c) (omega (arith, h, word-within 0 s))

-- and where the octets of a word fit, None is left out
pub none-left-out : (a : Asked) (os : List ℕ) → a.len + length os ≤ octets_most → (with_octets a os).len ≡ a.len + length os
unfolding with_octets
none-left-out a os h = omega arith
