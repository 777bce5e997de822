-- The test for an identity says what 01 says. Assumes nothing.
use mathlib.Core.Path.{◌≡◌, sym, ap, ◌∙◌}
use mathlib.Core.Bool.{true}
use mathlib.Core.List.{List}
use mathlib.Core.Logic.{◌↔◌}
use Prim.Native.Nat.{ℕ, ◌+◌, ◌≤◌}
use native.Mathlib.Omega.{arith}
use borrow.Author.Tests.{le-leb, ne_eqb}
use lib.ListN.{length, take, drop, take-append-drop, length-take, length-drop, length-append}
use Rattle.octets.specs.Octets.{last_of}
use Rattle.octets.proofs.Words.{last-at}
use Rattle.identity.specs.Identity.{vendor, width, blank}
use Rattle.identity.specs.Identity.{allowed_identity, AnIdentity}
use Rattle.identity.proofs.Identities.{all-printable, printable-all, allowed-parts}

-- from 3 to 19 octets: 2 of the vendor, 1 to 17 of the serial number
in_words : (i : List ℕ) → allowed_identity i ≡ true → AnIdentity i
in_words i e =
    let a = allowed-parts i e in
    record {
      maker = take vendor i;
      serial = drop vendor i;
      parts = sym (take-append-drop vendor i);
      maker-two = omega (arith, length-take vendor i, a.least);
      serial-least = omega (arith, length-drop vendor i, a.least);
      serial-most = omega (arith, length-drop vendor i, a.most);
      all = all-printable i a.plain;
      end = λ q. a.end (last-at blank i 0 (omega (arith, a.least)) ∙ q);
    }

by-words : (i : List ℕ) → AnIdentity i → allowed_identity i ≡ true
unfolding allowed_identity
by-words i a =
    let both : length i ≡ length a.maker + length a.serial =
    ap length a.parts ∙ length-append a.maker a.serial in
    let least : 3 ≤ length i = omega (arith, both, a.maker-two, a.serial-least) in
    let most : length i ≤ width = omega (arith, both, a.maker-two, a.serial-most) in
    let last : last_of blank i ≡ blank → ⊥ =
    λ q. a.end (sym (last-at blank i 0 (omega (arith, least))) ∙ q) in
    rw (
      le-leb 3 (length i) least,
      le-leb (length i) width most,
      printable-all i a.all,
      ne_eqb (last_of blank i) blank last,
    )

-- "Identity: 2 vendor octets and 1 to 17 serial octets, all 0x20 to 0x7E, the last not 0x20"
pub identity-exactly : (i : List ℕ) → allowed_identity i ≡ true ↔ AnIdentity i
identity-exactly i = (in_words i, by-words i)
