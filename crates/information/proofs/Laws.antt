-- How long it is what a device tells of itself. Assumes nothing.
use mathlib.Core.Path.{◌≡◌}
use mathlib.Core.Bool.{true}
use mathlib.Core.List.{List, ◌∷◌, ◌++◌}
use Prim.Native.Nat.{ℕ, ◌+◌, ◌≤◌}
use native.Mathlib.Omega.{arith}
use borrow.Author.Tests.{leb-true}
use lib.Dec.{leb}
use lib.ListN.{length, take, drop, length-take, length-drop, length-append}
use Rattle.octets.proofs.Words.{and_parts}
use Rattle.identity.specs.Identity.{vendor, width}
use Rattle.record.specs.Allowed.{identity_of, product_of, hardware_of, software_of, plates_allowed, identity_allowed}
use Rattle.record.specs.declared.Plate.{Plate}
use Rattle.payload.specs.Payloads.{success_of}
use Rattle.payload.proofs.Laws.{length-success}
use Rattle.information.specs.Information.{text_of, without_vendor, serial_of, information_of}

pub length-text : (t : List ℕ) → length (text_of t) ≡ 1 + length t
unfolding text_of
length-text t = omega arith

module _ (p s h w : List ℕ) where
  length-texts : length (text_of p ++ (text_of s ++ (text_of h ++ text_of w)))
      ≡ 4 + length p + length s + length h + length w
  length-texts =
      simp (length-append, length-text) (omega arith)

-- "product, serial, hardware, software, each after its length"; the serial number is the identity behind its "2 vendor
-- octets"
pub information-is : (p : Plate) (product identity hardware software : List ℕ) → product_of p ≡ product
    → identity_of p ≡ identity → hardware_of p ≡ hardware → software_of p ≡ software
    → information_of p
    ≡ (length product ∷ product) ++ ((length (drop vendor identity) ∷ drop vendor identity)
    ++ ((length hardware ∷ hardware) ++ (length software ∷ software)))
unfolding information_of text_of
information-is p product identity hardware software e i h s = rw (e, i, h, s)

-- the texts of a plate are no longer than 20, 17, 14 and 14 octets
pub record Short (p : Plate) : Type 0 where
  pub product : length (product_of p) ≤ 20
  pub serial : length (serial_of p) ≤ 17
  pub hardware : length (hardware_of p) ≤ 14
  pub software : length (software_of p) ≤ 14

-- at most 73 octets tell what a device is
pub information-fits : (p : Plate) → Short p → length (success_of 0x05 (information_of p)) ≤ 73
unfolding information_of
information-fits p s =
    omega (
      arith,
      length-success 0x05 (information_of p),
      length-texts (product_of p) (serial_of p) (hardware_of p) (software_of p),
      s.product,
      s.serial,
      s.hardware,
      s.software,
    )

taken : (n k : ℕ) (s : List ℕ) → leb n k ≡ true → length (take n s) ≤ k
taken n k s e = simp length-take (omega (arith, leb-true n k e))

behind : (i : List ℕ) → length i ≤ width → length (without_vendor i) ≤ 17
behind i h = simp length-drop (omega arith)

-- the texts of a plate that is allowed are so short
pub allowed-short : (p : Plate) → plates_allowed p ≡ true → Short p
unfolding plates_allowed identity_allowed
allowed-short p h =
    let first = and_parts _ _ h in
    let second = and_parts _ _ first.1 in
    let third = and_parts _ _ second.1 in
    let name = taken p.identity.len width p.identity.octets (and_parts _ _ first.0).0 in
    record {
      product = taken p.product.len 20 p.product.octets second.0;
      serial = behind (identity_of p) name;
      hardware = taken p.hardware.len 14 p.hardware.octets third.0;
      software = taken p.software.len 14 p.software.octets third.1;
    }

-- and those of any plate whose arrays are as long as their types say
pub sized-short : (p : Plate) → length p.identity.octets ≡ width → length p.product.octets ≡ 20
    → length p.hardware.octets ≡ 14 → length p.software.octets ≡ 14 → Short p
sized-short p i q h s =
    record {
      product = simp length-take (omega (arith, q));
      serial = simp (length-drop, length-take) (omega (arith, i));
      hardware = simp length-take (omega (arith, h));
      software = simp length-take (omega (arith, s));
    }
