-- The scanner's probe is a scan: a device answers it exactly if its identity answers the mask and the value in it.
-- Assumes nothing.
use mathlib.Core.Path.{◌≡◌, refl, sym, ap, ap₂, ◌∙◌}
use mathlib.Core.Bool.{cond}
use mathlib.Core.List.{List, [], ◌∷◌, ◌++◌, append-nil}
use Prim.Native.Nat.{ℕ}
use native.Mathlib.Omega.{arith}
use lib.ListN.{length, length-append}
use Rattle.octets.specs.Octets.{holds}
use Rattle.identity.specs.Identity.{width, answers_scan}
use Rattle.params.specs.Field.{◌is◌, triple_of, field_of, xid_payload, right_length, identifiers}
use Rattle.params.specs.Field.{none_twice, value_for}
use Rattle.params.proofs.Exact.{once-different}
use Rattle.xid.specs.Addressing.{identity_id, mask_id, values_of}
use Rattle.xid.specs.Match.{read_of}
use Rattle.xid.specs.Meaning.{ScanOf}
use Rattle.xid.specs.declared.Xid.TheVariants.{Silence, Scan}
use Rattle.xid.proofs.Exactly.{scan-read}

-- 01: "the XID scan from 0xFF with 19-octet values: a beginning in 1, ones over it in 3 ..; length field 0x2A"
abbrev pub probe_payload : List ℕ → List ℕ → List ℕ
probe_payload v k = (0x81 ∷ 0xF0 ∷ 0x2A ∷ 1 ∷ width ∷ []) ++ (v ++ ((3 ∷ width ∷ []) ++ k))

pub probe-scan : (v k : List ℕ) → length v ≡ width → length k ≡ width → ScanOf (probe_payload v k) v k
unfolding xid_payload field_of triple_of right_length identifiers none_twice holds values_of value_for
probe-scan v k e f =
    let field : field_of (identity_id is v ∷ mask_id is k ∷ []) ≡ 1 ∷ width ∷ (v ++ 3 ∷ width ∷ k) = rw (e, f, append-nil k) in
    let long : length (1 ∷ width ∷ (v ++ 3 ∷ width ∷ k)) ≡ 0x2A =
    omega (arith, length-append v (3 ∷ width ∷ k), e, f) in
    record {
      params = identity_id is v ∷ mask_id is k ∷ [];
      formed = record {
        octets = ap (λ (s : List ℕ). 0x81 ∷ 0xF0 ∷ s)
            (ap₂ (λ (n : ℕ) (s : List ℕ). n ∷ s) (sym (ap length field ∙ long)) (sym field));
        right = (rw e, (rw f, tt));
        once = once-different (1 ∷ 3 ∷ []) refl;
      };
      values = refl;
      equal = e ∙ sym f;
    }

pub probe-read : (i v k : List ℕ) → length v ≡ width → length k ≡ width
    → read_of i (probe_payload v k) ≡ cond (answers_scan i k v) Scan Silence
probe-read i v k e f = scan-read i (probe_payload v k) v k (probe-scan v k e f)
