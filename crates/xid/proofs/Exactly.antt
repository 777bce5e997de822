-- A scan is answered exactly if the padded identity, its left-most octets masked, is the value; an assignment is taken
-- exactly if its address value is 1 to 254 and all that it names fits; no payload is both; each mismatch, which is of
-- one of the two. For octets of any content and identities of any octets. Assumes nothing.
use mathlib.Core.Path.{◌≡◌, refl, sym, ap, ◌∙◌}
use mathlib.Core.Bool.{Bool, true, false, cond, not, ◌&&◌, or-true}
use mathlib.Core.Logic.{◌↔◌, ◌⊎◌, inl, inr, ⊎_elim}
use mathlib.Core.List.{List, [], ◌∷◌}
use mathlib.Core.Option.{Option, none, some}
use Prim.Native.Nat.{ℕ, ◌≤◌}
use native.Mathlib.Omega.{arith}
use borrow.Author.Tests.{eq-eqb, ltb-true, lt-ltb, not-true}
use lib.Dec.{ltb}
use lib.ListN.{length, take}
use Rattle.octets.proofs.Words.{true-not-false, or_parts}
use Rattle.identity.specs.Bits.{masked}
use Rattle.identity.specs.Identity.{vendor, same, padded, answers_scan}
use Rattle.identity.proofs.Scans.{same-is, is_same}
use Rattle.record.specs.Allowed.{addressed}
use Rattle.params.specs.Field.{given, octets_in}
use Rattle.params.proofs.Exact.{one-reading}
use Rattle.params.proofs.Kept.{both_of, of-both}
use Rattle.xid.specs.Addressing.{addressing, Values, values_of}
use Rattle.xid.specs.Match.{device_type, is_scan, scan_shape, is_assignment, assignment_shape, scan_matches, address_of}
use Rattle.xid.specs.Match.{identity_matches, kind_matches, vendor_matches, bad_address, other_identity, other_type}
use Rattle.xid.specs.Match.{any_type, any_vendor, any_or, other_vendor, other_scan, read_of}
use Rattle.xid.specs.Meaning.{ScanOf, AssignmentOf, IfGiven, EndOf, AnyOr, Meant, Answers, Takes}
use Rattle.xid.proofs.Ends.{ends-exactly}
use Rattle.xid.proofs.Rows.{all_fit, scan-meant, assignment-meant}
use Rattle.xid.proofs.Told.{given-none, values-are, scan-values, address-one, scan-told}
use Rattle.xid.proofs.Told.{scan-loud, assignment-loud, assignment-told, formed-of, read_is}
use Rattle.xid.specs.declared.Xid.TheVariants.{Silence, Scan, Assignment}

-- ---- the scan

-- a scan is answered by these devices, and stays silent at all others
pub scan-read : (i m v k : List ℕ) → ScanOf m v k → read_of i m ≡ cond (answers_scan i k v) Scan Silence
unfolding is_scan scan_shape given octets_in scan_matches
scan-read i m v k s =
    read_is i m s.params s.formed
    ∙ scan-meant i (values_of s.params) (rw (s.values, eq-eqb (length v) (length k) s.equal))
    ∙ rw s.values

pub scan-exactly : (i m : List ℕ) → read_of i m ≡ Scan ↔ Answers i m
unfolding scan_matches answers_scan
scan-exactly i m = (there, back)
  where
    there : read_of i m ≡ Scan → Answers i m
    there e =
        let (ps, f, j) = formed-of i m e scan-loud in
        let w = values_of ps in
        let (s, t) = scan-told i w j in
        let (vs, long) = scan-values w s in (
          octets_in w.identity,
          octets_in w.mask,
          record { params = ps; formed = f; values = vs; equal = long },
          same-is _ _ t,
        )

    back : Answers i m → read_of i m ≡ Scan
    back (v, k, s, e) = scan-read i m v k s ∙ ap (λ (t : Bool). cond t Scan Silence) (is_same _ _ e)

-- ---- the assignment

pub own-exactly : (i : List ℕ) (x : Option (List ℕ)) → identity_matches i x ≡ true ↔ IfGiven x (EndOf i)
unfolding identity_matches
own-exactly i none = (λ e. tt, λ w. refl)
own-exactly i (some v) = ends-exactly i v

-- a value is the wild card or the device's own exactly if the test says so
any-or-exactly : (any own v : List ℕ) → any_or any own v ≡ true ↔ AnyOr any own v
any-or-exactly any own v = (
  λ e. ⊎_elim (λ (f : same v any ≡ true). inl (same-is v any f)) (λ (f : same v own ≡ true). inr (same-is v own f))
      (or_parts (same v any) (same v own) e),
  λ w. ⊎_elim (λ (f : v ≡ any). rw (is_same v any f)) (λ (f : v ≡ own). rw (is_same v own f, or-true (same v any))) w,
)

pub kind-exactly : (x : Option (List ℕ)) → kind_matches x ≡ true ↔ IfGiven x (AnyOr any_type (device_type ∷ []))
unfolding kind_matches
kind-exactly none = (λ e. tt, λ w. refl)
kind-exactly (some v) = any-or-exactly any_type (device_type ∷ []) v

pub maker-exactly : (i : List ℕ) (x : Option (List ℕ))
    → vendor_matches i x ≡ true ↔ IfGiven x (AnyOr any_vendor (take vendor i))
unfolding vendor_matches
maker-exactly i none = (λ e. tt, λ w. refl)
maker-exactly i (some v) = any-or-exactly any_vendor (take vendor i) v

pub matches-exactly : (i : List ℕ) (a : ℕ) (x y z : Option (List ℕ))
    → all_fit i a x y z ≡ true ↔ Meant i a x y z
unfolding addressed
matches-exactly i a x y z = (there, back)
  where
    there : all_fit i a x y z ≡ true → Meant i a x y z
    there e =
        let rest = identity_matches i x && (kind_matches y && vendor_matches i z) in
        let (good, e₁) = both_of (ltb 0 a && ltb a 255) rest e in
        let (low, high) = both_of (ltb 0 a) (ltb a 255) good in
        let (own, e₂) = both_of (identity_matches i x) (kind_matches y && vendor_matches i z) e₁ in
        let (kind, maker) = both_of (kind_matches y) (vendor_matches i z) e₂ in
        record {
          least = ltb-true 0 a low;
          most = omega (arith, ltb-true a 255 high);
          own = (own-exactly i x).0 own;
          kind = (kind-exactly y).0 kind;
          maker = (maker-exactly i z).0 maker;
        }

    back : Meant i a x y z → all_fit i a x y z ≡ true
    back w =
        let low = lt-ltb 0 a w.least in
        let high = lt-ltb a 255 (omega (arith, w.most)) in
        of-both (of-both low high)
        (of-both ((own-exactly i x).1 w.own)
        (of-both ((kind-exactly y).1 w.kind) ((maker-exactly i z).1 w.maker)))

-- an assignment is taken by these devices, and all others stay silent
pub assignment-read : (i m : List ℕ) (a : ℕ) (x y z : Option (List ℕ)) → AssignmentOf m a x y z
    → read_of i m ≡ cond (all_fit i a x y z) (Assignment a) Silence
unfolding assignment_shape given octets_in
assignment-read i m a x y z s =
    read_is i m s.params s.formed
    ∙ assignment-meant i (values_of s.params) (rw s.values)
    ∙ rw s.values

-- so one that is read is taken exactly if it is meant for the device, and is silence where it is not
module _ (i m : List ℕ) (a : ℕ) (x y z : Option (List ℕ)) (s : AssignmentOf m a x y z) where
  pub meant-exactly : read_of i m ≡ Assignment a ↔ Meant i a x y z
  meant-exactly = (
    λ e. (matches-exactly i a x y z).0 (go (all_fit i a x y z) (sym (assignment-read i m a x y z s) ∙ e)),
    λ w.
        assignment-read i m a x y z s
        ∙ ap (λ (t : Bool). cond t (Assignment a) Silence) ((matches-exactly i a x y z).1 w),
  )
    where
      go : (t : Bool) → cond t (Assignment a) Silence ≡ Assignment a → t ≡ true
      go true e = refl
      go false e = absurd (assignment-loud (sym e))

  pub meant-silent : (Meant i a x y z → ⊥) → read_of i m ≡ Silence
  meant-silent other = assignment-read i m a x y z s ∙ go (all_fit i a x y z) (λ e. other ((matches-exactly i a x y z).0 e))
    where
      go : (t : Bool) → (t ≡ true → ⊥) → cond t (Assignment a) Silence ≡ Silence
      go true n = absurd (n refl)
      go false n = refl

pub assignment-exactly : (i m : List ℕ) (a : ℕ) → read_of i m ≡ Assignment a ↔ Takes i m a
unfolding assignment_shape values_of
assignment-exactly i m a = (there, back)
  where
    there : read_of i m ≡ Assignment a → Takes i m a
    there e =
        let (ps, f, j) = formed-of i m e assignment-loud in
        let w = values_of ps in
        let (s, t, u) = assignment-told i w a j in
        let (there, no-mask) = both_of (given w.address) (not (given w.mask)) s in
        let one = address-one ps f.right there ∙ ap (λ (b : ℕ). some (b ∷ [])) u in
        let vs = values-are w refl one (given-none w.mask (not-true _ no-mask)) refl refl in (
          w.identity,
          w.kind,
          w.vendor,
          record { params = ps; formed = f; values = vs },
          (matches-exactly i a w.identity w.kind w.vendor).0 (rw u at t),
        )

    back : Takes i m a → read_of i m ≡ Assignment a
    back (x, y, z, s, w) = (meant-exactly i m a x y z s).1 w

-- ---- the rows 6 to 10, both ways: a payload of the shape, and what 01 asks of it is not so

mismatch : (s t : Bool) {P : Type 0} → (t ≡ true ↔ P) → s && not t ≡ true ↔ (s ≡ true) × (P → ⊥)
mismatch s t {P} (told, tells) = (
  λ e.
      let (a, b) = both_of s (not t) e in
      (a, λ p. true-not-false (sym (tells p) ∙ not-true t b)),
  λ (a, n). rw a (go t told n),
)
  where
    go : (b : Bool) → (b ≡ true → P) → (P → ⊥) → not b ≡ true
    go true h n = absurd (n (h refl))
    go false h n = refl

module _ (w : Values) where
  pub bad-address-exactly : bad_address w ≡ true
      ↔ (is_assignment w ≡ true) × ((1 ≤ address_of w) × (address_of w ≤ 254) → ⊥)
  unfolding bad_address addressed
  bad-address-exactly =
      mismatch (is_assignment w) (ltb 0 (address_of w) && ltb (address_of w) 255) (
        λ e.
            let (low, high) = both_of (ltb 0 (address_of w)) (ltb (address_of w) 255) e in
            (ltb-true 0 (address_of w) low, omega (arith, ltb-true (address_of w) 255 high)),
        λ (least, most).
            of-both (lt-ltb 0 (address_of w) least) (lt-ltb (address_of w) 255 (omega (arith, most))),
      )

  pub other-type-exactly : other_type w ≡ true
      ↔ (is_assignment w ≡ true) × (IfGiven w.kind (AnyOr any_type (device_type ∷ [])) → ⊥)
  unfolding other_type
  other-type-exactly = mismatch (is_assignment w) (kind_matches w.kind) (kind-exactly w.kind)

  module _ (i : List ℕ) where
    pub other-identity-exactly : other_identity i w ≡ true
        ↔ (is_assignment w ≡ true) × (IfGiven w.identity (EndOf i) → ⊥)
    unfolding other_identity
    other-identity-exactly =
        mismatch (is_assignment w) (identity_matches i w.identity) (own-exactly i w.identity)

    pub other-vendor-exactly : other_vendor i w ≡ true
        ↔ (is_assignment w ≡ true) × (IfGiven w.vendor (AnyOr any_vendor (take vendor i)) → ⊥)
    unfolding other_vendor
    other-vendor-exactly =
        mismatch (is_assignment w) (vendor_matches i w.vendor) (maker-exactly i w.vendor)

    pub other-scan-exactly : other_scan i w ≡ true
        ↔ (is_scan w ≡ true) × (masked (padded i) (octets_in w.mask) ≡ octets_in w.identity → ⊥)
    unfolding other_scan scan_matches answers_scan
    other-scan-exactly = mismatch (is_scan w) (scan_matches i w) (same-is _ _, is_same _ _)

-- ---- never both; the edges

pub never_both : (m v k : List ℕ) (a : ℕ) (x y z : Option (List ℕ)) → ScanOf m v k → AssignmentOf m a x y z → ⊥
never_both m v k a x y z s t =
    let one = one-reading addressing m s.params t.params s.formed t.formed in
    let e = ap (λ (w : Values). w.mask) (sym s.values ∙ ap values_of one ∙ t.values) in
    let n : ◌≡◌ {A = ℕ} 0 1 = cc in
    omega arith

-- "Assignment with address value 0 or 255: silence."
pub address-edge : (i m : List ℕ) (a : ℕ) (x y z : Option (List ℕ)) → AssignmentOf m a x y z → (a ≡ 0) ⊎ (a ≡ 255)
    → read_of i m ≡ Silence
unfolding addressed
address-edge i m a x y z s e =
    assignment-read i m a x y z s
    ∙ ⊎_elim (λ (n : a ≡ 0). rw n) (λ (n : a ≡ 255). rw n) e
