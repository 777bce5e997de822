-- The fault `command`, both ways: a line has it exactly if its first word is none of the names. Assumes nothing.
--   command_names == the names, as the bench script's table has them
--   NoCommand s   == the line s is not empty, no comment, not long, and its first word is none of the names
use mathlib.Core.Path.{◌≡◌, refl, sym, ap, ◌∙◌}
use mathlib.Core.Bool.{Bool, true, false, cond, ◌&&◌}
use mathlib.Core.Logic.{◌↔◌, ⊎_elim}
use mathlib.Core.List.Memᴰ
use mathlib.Core.List.{List, [], ◌∷◌, Memᴰ}
use Rattle.std.specs.Prelude.{Option, None, Some, is_some, Result, Ok, Err}
use Prim.Native.Nat.{ℕ, zero, suc, ◌<◌, ◌≤◌}
use Prim.Native.Char.{code}
use native.Mathlib.Omega.{arith}
use borrow.Author.Tests.{eqb-false, ne_eqb, ltb-false}
use lib.Dec.{eqb, ltb, leb}
use lib.ListN.{length, get_or}
use Rattle.octets.specs.Octets.{place_of}
use Rattle.octets.proofs.Words.{and_parts, or-none, true-not-false}
use Rattle.identity.specs.Identity.{same}
use Rattle.identity.proofs.Scans.{same-is}
use Rattle.script.specs.Words.{spelled, first_of, behind_first, word_at, spaces_in, place_from}
use Rattle.script.specs.Commands.{names, commands}
use Rattle.script.specs.Values.{hex_digit, octet_from, octet_by, octet_of, hex_of, numeral, is_negative, digits_of, decimal}
use Rattle.script.specs.Values.{ranged, number_by, from_one, heard_means, value_of}
use Rattle.script.specs.Script.{command_of, kinds_of, wordless, with_value, with_hex, with_word, unless_faulty}
use Rattle.script.specs.Script.{words_by, is_unanswered, line_asks, read_line}
use Rattle.script.specs.declared.Fault.{Fault}
use Rattle.script.specs.declared.Fault.TheVariants.{Long, Command, Words, Hex, Number, Room, Device}
use Rattle.script.specs.declared.Asked.{Asked}
use Rattle.script.proofs.LineLaws.{line-command}

abbrev pub command_names : List (List ℕ)
command_names =
    spelled "frame" ∷ spelled "hear" ∷ spelled "show" ∷ spelled "stopped" ∷ spelled "raise" ∷ spelled "clear"
    ∷ spelled "device" ∷ spelled "scan" ∷ spelled "begin" ∷ spelled "probe" ∷ spelled "report" ∷ spelled "decode"
    ∷ spelled "write" ∷ spelled "decode-n" ∷ spelled "write-n" ∷ spelled "limit" ∷ spelled "listen"
    ∷ spelled "octets" ∷ []

-- ---- no word behind the command has that fault

-- it is the fault `command`
blamed : Fault → Bool
blamed Long = false
blamed Command = true
blamed Words = false
blamed Hex = false
blamed Number = false
blamed Room = false
blamed Device = false

-- what is read is not that fault
data Free {A : Type 0} : Result A Fault → Type 0 where
  means : {v : A} → Free (Ok v)
  bad : {f : Fault} → blamed f ≡ false → Free (Err f)

free-not : {A : Type 0} {x : Result A Fault} → Free x → x ≡ Err Command → ⊥
unfolding blamed
free-not means e = cc
free-not (bad {f = f} h) e = let i : f ≡ Command = cc in true-not-false (rw i at h)

either : {A : Type 0} (t : Bool) {x y : Result A Fault} → Free x → Free y → Free (cond t x y)
either true a b = a
either false a b = b

number-free : (below above : ℕ) (f : Fault) (w : List ℕ) → blamed f ≡ false → Free (number_by below above f w)
unfolding number_by ranged blamed
number-free below above f w e =
    either (numeral (digits_of w))
    (either (leb (decimal 0 (digits_of w)) (cond (is_negative w) below above)) means (bad e)) (bad refl)

from-one-free : {x : Result ℕ Fault} → Free x → Free (from_one x)
unfolding from_one blamed
from-one-free (bad e) = bad e
from-one-free (means {v = n}) = either (eqb n 0) (bad refl) means

octet-free : (w : List ℕ) → Free (octet_of w)
unfolding octet_of octet_by blamed
octet-free w = either (eqb (length w) 2) (go (hex_digit (get_or w 0 0)) (hex_digit (get_or w 1 0))) (bad refl)
  where
    go : (h l : Option ℕ) → Free (octet_from h l)
    go None l = bad refl
    go (Some h) None = bad refl
    go (Some h) (Some l) = means

heard-free : (place : Option ℕ) → Free (heard_means place)
unfolding heard_means blamed
heard-free None = bad refl
heard-free (Some place) = means

value-free : (k d : ℕ) (w : List ℕ) → Free (value_of k d w)
unfolding value_of blamed
value-free k d w =
    either (eqb k (code "r")) (number-free 0 600 Room w refl)
    (either (eqb k (code "d")) (from-one-free (number-free 0 d Device w refl))
    (either (eqb k (code "t")) (number-free 32768 32767 Number w refl)
    (either (eqb k (code "a")) (number-free 0 255 Number w refl)
    (either (eqb k (code "l")) (number-free 0 65535 Number w refl)
    (either (eqb k (code "o")) (octet-free w) (heard-free (place_from 0 2 (spelled "silent heard") w)))))))

word-free : (k d : ℕ) (a : Asked) (n : ℕ) (w : List ℕ) → Free (with_word k d a n w)
unfolding with_word with_hex with_value blamed
word-free k d a n w = either (eqb k (code "x")) (hex (hex_of w)) (value (value-free k d w))
  where
    hex : (o : Option (List ℕ)) → Free (with_hex a n o)
    hex None = bad refl
    hex (Some os) = means

    value : {x : Result ℕ Fault} → Free x → Free (with_value a n x)
    value means = means
    value (bad h) = bad h

sound : {A B : Type 0} {f : A → Result B Fault} {x : Result A Fault} → ((a : A) → Free (f a)) → Free x
    → Free (unless_faulty f x)
sound h (means {v = a}) = h a
sound h (bad e) = bad e

words-free : (d : ℕ) (ks : List ℕ) (n : ℕ) (s : List ℕ) (a : Asked) → Free (words_by d ks n s a)
unfolding words_by
words-free d [] n s a = means
words-free d (k ∷ ks) n s a = sound (λ next. words-free d ks (suc n) s next) (word-free k d a n (word_at n s))

-- ---- the names, word by word

words_from : ℕ → ℕ → List ℕ → List (List ℕ)
words_from i zero t = []
words_from i (suc n) t = word_at i t ∷ words_from (suc i) n t

place_none : (i n : ℕ) (t w : List ℕ) → (Memᴰ w (words_from i n t) → ⊥) → place_from i n t w ≡ None
unfolding place_from words_from
place_none i zero t w h = refl
place_none i (suc n) t w h =
    go (same (word_at i t) w) refl (place_none (suc i) n t w (λ m. h (Memᴰ.tail m)))
  where
    go : (b : Bool) → same (word_at i t) w ≡ b → place_from (suc i) n t w ≡ None
        → cond b (Some i) (place_from (suc i) n t w) ≡ None
    go true e less = absurd (h (Memᴰ.head (sym (same-is (word_at i t) w e))))
    go false e less = less

the-names : words_from 0 commands (spelled names) ≡ command_names
unfolding words_from word_at first_of behind_first place_of spelled
the-names = refl

-- a first word's place among them
place_in : List ℕ → Option ℕ
place_in w = place_from 0 commands (spelled names) w

no_place : (w : List ℕ) → (Memᴰ w command_names → ⊥) → place_in w ≡ None
unfolding place_in
no_place w h = place_none 0 commands (spelled names) w (rw (sym the-names) at h)

-- each of the names has one
all_placed : List (List ℕ) → Bool
all_placed [] = true
all_placed (w ∷ ws) = is_some (place_in w) && all_placed ws

member-placed : (w : List ℕ) (ws : List (List ℕ)) → all_placed ws ≡ true → Memᴰ w ws
    → is_some (place_in w) ≡ true
unfolding all_placed
member-placed w [] e m = absurd (Memᴰ.not-nil m)
member-placed w (x ∷ ws) e m =
    let (a, b) = and_parts (is_some (place_in x)) (all_placed ws) e in
    ⊎_elim (λ (i : w ≡ x). rw i a)
    (λ (l : Memᴰ w ws). member-placed w ws b l) (Memᴰ.cases_cons m)

names-placed : all_placed command_names ≡ true
unfolding all_placed place_in place_from same word_at first_of behind_first place_of spelled
names-placed = refl

-- ---- the line

-- "`command` (the first word)", of a line that is not empty, no comment, and not `long`
abbrev pub NoCommand : List ℕ → Type 0
NoCommand s =
    (0 < length s) × (get_or s 0 0 ≡ code "#" → ⊥) × (length s ≤ 2000) × (Memᴰ (first_of s) command_names → ⊥)

module _ (s : List ℕ) (d : ℕ) where
  asked-free : (c : ℕ) → Free (line_asks s d (Some c))
  unfolding line_asks blamed
  asked-free c =
      either (eqb (spaces_in s) (length (kinds_of c))) (words-free d (kinds_of c) 1 s (wordless c)) (bad refl)

  line-blamed : read_line s d ≡ Err Command → NoCommand s
  unfolding read_line is_unanswered command_of place_in word_at
  line-blamed = go (is_unanswered s) refl (ltb 2000 (length s)) refl (command_of s) refl
    where
      go : (u : Bool) → is_unanswered s ≡ u → (l : Bool) → ltb 2000 (length s) ≡ l → (k : Option ℕ) → command_of s ≡ k
          → cond u (Ok None) (cond l (Err Long) (unless_faulty (λ a. Ok (Some a)) (line_asks s d k))) ≡ Err Command
          → NoCommand s
      go true p l q k r e = cc
      go false p true q k r e = cc
      go false p false q None r e =
          let (a, b) = or-none (eqb (length s) 0) (eqb (get_or s 0 0) 35) p in
          let some = eqb-false (length s) 0 a in (
            omega (arith, some),
            eqb-false (get_or s 0 0) 35 b,
            ltb-false 2000 (length s) q,
            λ m. true-not-false (sym (member-placed (first_of s) command_names names-placed m) ∙ ap is_some r),
          )
      go false p false q (Some c) r e = absurd (free-not (sound (λ a. means) (asked-free c)) e)

  command-faulty : NoCommand s → read_line s d ≡ Err Command
  unfolding is_unanswered command_of place_in word_at
  command-faulty (a, b, c, h) =
      let long : eqb (length s) 0 ≡ false = ne_eqb (length s) 0 (λ i. omega (arith, a, i)) in
      let answered : is_unanswered s ≡ false = rw (long, ne_eqb (get_or s 0 0) 35 b) in
      sym (line-command s d answered c (no_place (first_of s) h))

  pub command-exactly : read_line s d ≡ Err Command ↔ NoCommand s
  command-exactly = (line-blamed, command-faulty)
