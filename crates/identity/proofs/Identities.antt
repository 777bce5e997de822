-- Which octets are an identity, and its padding: nothing is lost by it, since the last octet is no blank.
-- Assumes nothing.
use mathlib.Core.Path.{◌≡◌, refl, sym, ap, ◌∙◌}
use mathlib.Core.Bool.{Bool, true, false, ◌&&◌, and-false, and-true}
use mathlib.Core.List.{List, [], ◌∷◌, ◌++◌}
use mathlib.Core.Logic.{◌↔◌}
use Rattle.std.specs.Prelude.{IsTrue}
use Prim.Native.Nat.{ℕ, zero, suc, ◌-◌, ◌≤◌, ◌<◌, suc-le-suc}
use native.Mathlib.Nat.{le_of_suc-le-suc, not-suc-le-zero}
use native.Mathlib.Omega.{arith}
use borrow.Author.Tests.{le-leb, lt-leb, leb-true, eq-eqb, ne_eqb, eqb-false, not-true}
use lib.Dec.{leb, eqb, lit<}
use lib.ListN.{length, get_or, replicate, length-append, length-replicate}
use Rattle.octets.specs.Octets.{Octets, last_of}
use Rattle.octets.proofs.Bounds.{octets-append}
use Rattle.octets.proofs.Words.{last-at}
use Rattle.octets.proofs.Words.{and_parts}
use Rattle.identity.specs.Identity.{width, blank, last_printable, printable, all_printable, allowed_identity, padded}
use Rattle.identity.specs.Identity.{trimmed_to, unpadded}

-- "all 0x20 to 0x7E"
pub all-printable : (s : List ℕ) → all_printable s ≡ true
    → (j : ℕ) → j < length s → (blank ≤ get_or s j 0) × (get_or s j 0 ≤ last_printable)
unfolding all_printable printable
all-printable [] e j h = absurd (not-suc-le-zero h)
all-printable (x ∷ xs) e zero h =
    let w = and_parts (leb blank x) (leb x last_printable) (and_parts _ (all_printable xs) e).0 in
    (leb-true blank x w.0, leb-true x last_printable w.1)
all-printable (x ∷ xs) e (suc j) h =
    all-printable xs (and_parts (leb blank x && leb x last_printable) (all_printable xs) e).1 j (le_of_suc-le-suc h)

pub printable-all : (s : List ℕ) → ((j : ℕ) → j < length s → (blank ≤ get_or s j 0) × (get_or s j 0 ≤ last_printable))
    → all_printable s ≡ true
unfolding all_printable printable
printable-all [] f = refl
printable-all (x ∷ xs) f =
    let w = f 0 (omega arith) in
    rw (le-leb blank x w.0, le-leb x last_printable w.1) (printable-all xs (λ j h. f (suc j) (suc-le-suc h)))

-- the code's test, octet by octet
pub test-printable : (s : List ℕ) {t : Bool}
    → IsTrue t ↔ ((j : ℕ) → j < length s → (blank ≤ get_or s j 0) × (get_or s j 0 ≤ last_printable)) → t ≡ all_printable s
test-printable s {t = true} w = sym (printable-all s (w.0 refl))
test-printable s {t = false} w = go (all_printable s) refl
  where
    go : (b : Bool) → all_printable s ≡ b → false ≡ b
    go true e = w.1 (all-printable s e)
    go false e = refl

-- what is no identity, and what is left to ask of the others
module _ (i : List ℕ) where
  pub too_short : length i < 3 → false ≡ allowed_identity i
  unfolding allowed_identity
  too_short h = rw (lt-leb 3 (length i) h)

  pub too_long : width < length i → false ≡ allowed_identity i
  unfolding allowed_identity
  too_long h = rw (lt-leb (length i) width h, and-false (leb 3 (length i)))

  last-octet : 3 ≤ length i → last_of blank i ≡ get_or i (length i - 1) 0
  last-octet h = last-at blank i 0 (omega arith)

  pub last-blank : 3 ≤ length i → get_or i (length i - 1) 0 ≡ blank → false ≡ allowed_identity i
  unfolding allowed_identity
  last-blank h e =
      rw (
        last-octet h,
        eq-eqb (get_or i (length i - 1) 0) blank e,
        and-false (all_printable i),
        and-false (leb (length i) width),
        and-false (leb 3 (length i)),
      )

  pub last-other : 3 ≤ length i → length i ≤ width → (get_or i (length i - 1) 0 ≡ blank → ⊥)
      → all_printable i ≡ allowed_identity i
  unfolding allowed_identity
  last-other h k n =
      rw (
        last-octet h,
        ne_eqb (get_or i (length i - 1) 0) blank n,
        le-leb 3 (length i) h,
        le-leb (length i) width k,
        and-true (all_printable i),
      )

-- 01: 3 to 19 octets, "all 0x20 to 0x7E, the last not 0x20"
pub record Allowed (i : List ℕ) : Type 0 where
  pub least : 3 ≤ length i
  pub most : length i ≤ width
  pub plain : all_printable i ≡ true
  pub end : last_of blank i ≡ blank → ⊥

pub allowed-parts : (i : List ℕ) → allowed_identity i ≡ true → Allowed i
unfolding allowed_identity
allowed-parts i e =
    let (a, r) = and_parts (leb 3 (length i)) _ e in
    let (b, q) = and_parts (leb (length i) width) _ r in
    let (c, d) = and_parts (all_printable i) _ q in
    record {
      least = leb-true 3 (length i) a;
      most = leb-true (length i) width b;
      plain = c;
      end = eqb-false (last_of blank i) blank (not-true (eqb (last_of blank i) blank) d);
    }

pub printable-octets : (s : List ℕ) → all_printable s ≡ true → Octets s
unfolding all_printable printable
printable-octets [] e = tt
printable-octets (x ∷ xs) e =
    let (a, r) = and_parts (leb blank x && leb x last_printable) (all_printable xs) e in
    let (b, c) = and_parts (leb blank x) (leb x last_printable) a in
    (omega (arith, leb-true x last_printable c), printable-octets xs r)

pub length-padded : (i : List ℕ) → length i ≤ width → length (padded i) ≡ width
unfolding padded
length-padded i h =
    let n : ℕ = width - length i in omega (arith, length-append i (replicate n blank), length-replicate n blank)

blanks-octets : (n : ℕ) → Octets (replicate n blank)
blanks-octets zero = tt
blanks-octets (suc n) = (lit< tt, blanks-octets n)

pub padded-octets : (i : List ℕ) → Octets i → Octets (padded i)
unfolding padded
padded-octets i h = octets-append i (replicate (width - length i) blank) h (blanks-octets (width - length i))

-- without the blanks at its end a padded identity is as it was
unpadded-blanks : (n : ℕ) → unpadded (replicate n blank) ≡ []
unfolding unpadded trimmed_to
unpadded-blanks zero = refl
unpadded-blanks (suc n) = ap (trimmed_to blank) (unpadded-blanks n)

unpadded-more : (x : ℕ) (xs : List ℕ) (n : ℕ) → (last_of x xs ≡ blank → ⊥)
    → unpadded ((x ∷ xs) ++ replicate n blank) ≡ x ∷ xs
unfolding unpadded trimmed_to last_of
unpadded-more x [] n k = ap (trimmed_to x) (unpadded-blanks n) ∙ rw (ne_eqb x blank k)
unpadded-more x (y ∷ ys) n k = ap (trimmed_to x) (unpadded-more y ys n k)

unpadded-parts : (i : List ℕ) → Allowed i → unpadded (padded i) ≡ i
unfolding padded last_of
unpadded-parts [] a = absurd (omega (arith, a.least))
unpadded-parts (x ∷ xs) a = unpadded-more x xs (width - length (x ∷ xs)) a.end

pub unpadded-padded : (i : List ℕ) → allowed_identity i ≡ true → unpadded (padded i) ≡ i
unpadded-padded i a = unpadded-parts i (allowed-parts i a)

-- identities that are padded alike are alike
pub padded-apart : (i j : List ℕ) → allowed_identity i ≡ true → allowed_identity j ≡ true → padded i ≡ padded j → i ≡ j
padded-apart i j a b e =
    sym (unpadded-padded i a) ∙ ap unpadded e ∙ unpadded-padded j b
