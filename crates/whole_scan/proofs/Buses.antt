-- A bus of octets is a bus of bits, and one of allowed identities a bus of padded ones. Assumes nothing.
use mathlib.Core.Path.{◌≡◌, sym, ap, ◌∙◌, subst}
use mathlib.Core.Bool.{Bool}
use mathlib.Core.List.Memᴰ
use mathlib.Core.List.{List, [], ◌++◌, map, Memᴰ}
use mathlib.Core.Logic.{◌↔◌}
use Prim.Native.Nat.{ℕ, ◌*◌, ◌≤◌}
use native.Mathlib.Omega.{arith}
use lib.ListN.{length}
use Rattle.octets.specs.Octets.{Octets}
use Rattle.identity.specs.Bits.{Bits, BeginningOf, packed, bits_of, ones, masked}
use Rattle.identity.specs.Identity.{width, depth, padded, octets_of, mask_of, answers_scan}
use Rattle.identity.proofs.Packed.{packed-bits, bits-apart, length-bits}
use Rattle.identity.proofs.Masks.{masked-begins}
use Rattle.identity.proofs.Identities.{allowed-parts, printable-octets, length-padded, padded-octets, padded-apart}
use Rattle.identity.proofs.Scans.{same-is, is_same}
use Rattle.identity.proofs.Lists.{map-in, map-out, map-different}
use Rattle.walk.specs.Demand.{BitBus}
use Rattle.whole_scan.specs.Demand.{OctetBus, IdentityBus}

-- 19 octets answer the probe of p exactly if their bits begin with p
pub probe-begins : (i : List ℕ) (p : Bits) → length i ≡ width → Octets i → length p ≤ depth
    → masked i (mask_of p) ≡ octets_of p ↔ BeginningOf p (bits_of i)
probe-begins i p e o h =
    subst (λ (n : ℕ). masked i (packed n (ones (length p))) ≡ packed n p ↔ BeginningOf p (bits_of i)) e
    (masked-begins i p o (omega arith))

-- the octets of an identity's bits are the identity
pub octets-of-bits : (i : List ℕ) → length i ≡ width → Octets i → octets_of (bits_of i) ≡ i
octets-of-bits i e o = ap (λ (n : ℕ). packed n (bits_of i)) (sym e) ∙ packed-bits i o

module _ (ids : List (List ℕ)) (heard : Bits → Bool) (b : OctetBus ids heard) where
  pub bits-long : (x : Bits) → Memᴰ x (map bits_of ids) → length x ≡ depth
  bits-long x m =
      let (i, n, e) = map-in bits_of ids x m in
      ap length e ∙ length-bits i ∙ ap (λ (k : ℕ). 8 * k) (b.whole i n).0

  pub bit-bus : BitBus [] depth (map bits_of ids) heard
  bit-bus = record {
    deep = bits-long;
    apart = map-different bits_of ids
        (λ x y m n. bits-apart x y (b.whole x m).1 (b.whole y n).1 ((b.whole x m).0 ∙ sym (b.whole y n).0))
        b.apart;
    right = λ p h. (
      λ e.
          let (i, m, a) = (b.right p h).0 e in
          let (q, g) = (probe-begins i p (b.whole i m).0 (b.whole i m).1 h).0 a in
          (q, Memᴰ.cast g (map-out bits_of ids i m)),
      λ (q, m).
          let (i, n, e) = map-in bits_of ids (p ++ q) m in
          (b.right p h).1 (i, n, (probe-begins i p (b.whole i n).0 (b.whole i n).1 h).1 (q, e)),
    );
  }

pub padded-bus : (ids : List (List ℕ)) (heard : Bits → Bool) → IdentityBus ids heard → OctetBus (map padded ids) heard
unfolding answers_scan
padded-bus ids heard b = record {
  whole = λ x m.
      let (i, n, e) = map-in padded ids x m in
      let a = allowed-parts i (b.allowed i n) in (
        ap length e ∙ length-padded i a.most,
        subst Octets (sym e) (padded-octets i (printable-octets i a.plain)),
      );
  apart = map-different padded ids (λ i j m n. padded-apart i j (b.allowed i m) (b.allowed j n)) b.apart;
  right = λ p h. (
    λ e. let (i, m, a) = (b.right p h).0 e in (padded i, map-out padded ids i m, same-is _ _ a),
    λ (x, m, a).
        let (i, n, e) = map-in padded ids x m in
        (b.right p h).1 (i, n, is_same _ _ (ap (λ (y : List ℕ). masked y (mask_of p)) (sym e) ∙ a)),
  );
}
