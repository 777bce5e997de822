-- What a line asks, word by word: a HEX word for a loop that goes through its digits two by two, and the words for a loop
-- that goes through their kinds; and the faults of a line in their order. Assumes nothing.
use Rattle.std.proofs.Common.{◌≡◌, true, false, List, [], ◌∷◌, ◌++◌, Option, Some, None, Result, Ok, Err, ℕ, suc, ◌+◌, ◌<◌, ◌≤◌, min, length, get_or, drop, refl, ◌∙◌, arith, add-one}
use lib.ListN.{set, drop_of_length-le, length-set}
use borrow.Author.Tests.{le-ltb, eq-eqb, ne_eqb}
use Rattle.std.proofs.lemmas.List.{nil_from_length}
use Rattle.octets.proofs.Rest.{rest}
use Rattle.identity.specs.Identity.{same}
use Rattle.script.specs.Words.{spelled, word_at, spaces_in}
use Rattle.script.specs.Values.{octet_of, octet_then, pairs_of, hex_of}
use Rattle.script.specs.Script.{command_of, kinds_of, wordless, with_value, with_octets, with_hex, stored, with_word, words_by}
use Rattle.script.specs.Script.{is_unanswered, line_asks, read_line}
use Rattle.script.specs.declared.Fault.{Fault}
use Rattle.script.specs.declared.Fault.TheVariants.{Command, Words, Hex}
use Rattle.script.specs.declared.Asked.{Asked}
use Rattle.script.proofs.ValueLaws.{octet-fault, pairs-front}

-- ---- HEX

module _ (a : Asked) (n : ℕ) (w : List ℕ) where
  pub hex-none : same w (spelled "-") ≡ true → with_hex a n (Some []) ≡ with_hex a n (hex_of w)
  unfolding hex_of
  hex-none e = rw e

  pub hex-empty : same w (spelled "-") ≡ false → length w ≡ 0 → Err Hex ≡ with_hex a n (hex_of w)
  unfolding hex_of with_hex
  hex-empty e l = rw (e, eq-eqb (length w) 0 l)

  pub hex-digits : same w (spelled "-") ≡ false → (length w ≡ 0 → ⊥)
      → with_hex a n (pairs_of w) ≡ with_hex a n (hex_of w)
  unfolding hex_of
  hex-digits e l = rw (e, ne_eqb (length w) 0 l)

-- one octet more is stored, and then the rest
stored_more : (a : Asked) (n : ℕ) (o : List ℕ) (at x : ℕ) (p : Option (List ℕ))
    → with_hex (stored a (set o at x) (at + 1)) n p ≡ with_hex (stored a o at) n (octet_then (Ok x) p)
unfolding with_hex with_octets with_value octet_then
stored_more a n o at x None = refl
stored_more a n o at x (Some os) =
    let m : at + 1 + length os ≡ at + suc (length os) = omega arith in
    rw (m, add-one at)

pub stored-length : (o : List ℕ) (at x : ℕ) {next : List ℕ} → next ≡ set o at x → length next ≡ length o
stored-length o at x p = rw p (length-set o at x)

-- for a loop that goes through the digits two by two: x is the next two, t is what is behind them
module _ (a : Asked) (n : ℕ) (o : List ℕ) (at : ℕ) (r : List ℕ) {w : Result Asked Fault}
    (v : with_hex (stored a o at) n (pairs_of r) ≡ w) where
  module _ (x t : List ℕ) (e : r ≡ x ++ t) (l : length x ≡ min 2 (length r)) (p : 0 < length r) where
    pub pairs-bad : {f : Fault} → octet_of x ≡ Err f → Err f ≡ w
    unfolding with_hex octet_then
    pairs-bad {f} b =
        let hex : f ≡ Hex = octet-fault x f b in
        rw (pairs-front x t r e l p, b, ← hex) at v

    pub pairs-more : {q : ℕ} {next : List ℕ} → octet_of x ≡ Ok q → next ≡ set o at q
        → with_hex (stored a next (at + 1)) n (pairs_of t) ≡ w
    pairs-more {q} b s = rw s (stored_more a n o at q (pairs_of t) ∙ (rw (pairs-front x t r e l p, b) at v))

  pub pairs-done : length r ≡ 0 → with_hex (stored a o at) n (Some []) ≡ w
  unfolding pairs_of
  pairs-done h = rw (nil_from_length r h) at v

-- ---- the words behind the command, for a loop that goes through their kinds by i

module _ (d : ℕ) (ks s : List ℕ) (i : ℕ) (a : Asked) {w : Result Asked Fault}
    (v : words_by d (drop i ks) (i + 1) s a ≡ w) where
  pub words-fault : {f : Fault} → i < length ks → Err f ≡ with_word (get_or ks i 0) d a (i + 1) (word_at (i + 1) s)
      → Err f ≡ w
  unfolding words_by
  words-fault h e = rw (rest ks i h, ← e) at v

  pub words_more : {next : Asked} → i < length ks → Ok next ≡ with_word (get_or ks i 0) d a (i + 1) (word_at (i + 1) s)
      → words_by d (drop (i + 1) ks) (i + 1 + 1) s next ≡ w
  unfolding words_by
  words_more h e = rw (add-one (i + 1)) (rw (rest ks i h, ← e) at v)

  pub words-done : length ks ≤ i → Ok a ≡ w
  unfolding words_by
  words-done h = rw (drop_of_length-le ks h) at v

-- ---- the line, neither silent nor long

module _ (s : List ℕ) (d : ℕ) (silent : is_unanswered s ≡ false) (short : length s ≤ 2000) where
  pub line-command : command_of s ≡ None → Err Command ≡ read_line s d
  unfolding read_line line_asks
  line-command e = rw (silent, le-ltb 2000 (length s) short, e)

  module _ (c : ℕ) (ks : List ℕ) (e : command_of s ≡ Some c) (k : ks ≡ kinds_of c) where
    pub line-words : (spaces_in s ≡ length ks → ⊥) → Err Words ≡ read_line s d
    unfolding read_line line_asks
    line-words n = rw (silent, le-ltb 2000 (length s) short, e, ← k, ne_eqb (spaces_in s) (length ks) n)

    module _ (i : spaces_in s ≡ length ks) where
      pub line-fault : {f : Fault} → Err f ≡ words_by d ks 1 s (wordless c) → Err f ≡ read_line s d
      unfolding read_line line_asks
      line-fault w =
          rw (silent, le-ltb 2000 (length s) short, e, ← k, eq-eqb (spaces_in s) (length ks) i, ← w)

      pub line-reads : {a : Asked} → Ok a ≡ words_by d ks 1 s (wordless c) → Ok (Some a) ≡ read_line s d
      unfolding read_line line_asks
      line-reads w =
          rw (silent, le-ltb 2000 (length s) short, e, ← k, eq-eqb (spaces_in s) (length ks) i, ← w)
