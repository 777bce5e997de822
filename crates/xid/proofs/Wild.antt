-- Wild cards. In an assignment type 0xFF and vendor 0xFF 0xFF match every device, as if they were not given; any other
-- value, one octet FF of two among them, is compared as before; a scan has no such rule. For octets of any content.
-- Assumes nothing.
use mathlib.Core.Path.{◌≡◌, refl, sym, ap, ◌∙◌}
use mathlib.Core.Bool.{Bool, true, false, and-false}
use mathlib.Core.Logic.{◌↔◌, ◌⊎◌, inl, inr, ⊎_elim}
use mathlib.Core.List.{List, [], ◌∷◌}
use mathlib.Core.Option.{Option, none, some}
use Prim.Native.Nat.{ℕ, ◌<◌, ◌≤◌}
use native.Mathlib.Omega.{arith}
use lib.ListN.{length, length-append, get_or, take}
use lib.Seq.{get_or-take}
use Rattle.octets.specs.Octets.{holds}
use Rattle.octets.proofs.Words.{true-not-false}
use Rattle.identity.specs.Identity.{same, allowed_identity}
use Rattle.identity.proofs.Exactly.{identity-exactly}
use Rattle.params.specs.Field.{Param, ◌is◌, triple_of, field_of, xid_payload, right_length, identifiers, none_twice}
use Rattle.params.specs.Field.{WellFormed, value_for, given}
use Rattle.params.proofs.Exact.{once-different}
use Rattle.xid.specs.Addressing.{address_id, kind_id, vendor_id, addressing, Values, values_of}
use Rattle.xid.specs.Match.{any_type, any_vendor, kind_matches, vendor_matches, is_scan}
use Rattle.xid.specs.Match.{assignment_shape, neither, read_of}
use Rattle.xid.specs.Meaning.{AssignmentOf, IfGiven, EndOf, Meant}
use Rattle.xid.proofs.Rows.{neither-meant, neither-exactly}
use Rattle.xid.proofs.Told.{scan-values, read_is}
use Rattle.xid.proofs.Exactly.{assignment-read, meant-exactly, meant-silent}
use Rattle.xid.specs.declared.Xid.TheVariants.{Silence, Assignment}

-- ---- the wild cards

-- type 0xFF and vendor 0xFF 0xFF match every device, as if no type, or no vendor, were given
module _ (i m n : List ℕ) (a : ℕ) (x : Option (List ℕ)) where
  pub wild-type : (z : Option (List ℕ)) → AssignmentOf m a x (some (0xFF ∷ [])) z → AssignmentOf n a x none z
      → read_of i m ≡ read_of i n
  unfolding kind_matches same
  wild-type z s t = assignment-read i m a x (some (0xFF ∷ [])) z s ∙ sym (assignment-read i n a x none z t)

  pub wild-vendor : (y : Option (List ℕ)) → AssignmentOf m a x y (some (0xFF ∷ 0xFF ∷ [])) → AssignmentOf n a x y none
      → read_of i m ≡ read_of i n
  unfolding vendor_matches same
  wild-vendor y s t = assignment-read i m a x y (some (0xFF ∷ 0xFF ∷ [])) s ∙ sym (assignment-read i n a x y none t)

-- with both, an assignment is taken exactly if the address value is 1 to 254 and the identity, where given, matches
module _ (i m : List ℕ) (a : ℕ) where
  pub wild-exactly : (x : Option (List ℕ)) → AssignmentOf m a x (some (0xFF ∷ [])) (some (0xFF ∷ 0xFF ∷ []))
      → read_of i m ≡ Assignment a ↔ (1 ≤ a) × (a ≤ 254) × IfGiven x (EndOf i)
  wild-exactly x s = (
    λ e. let w = whole.0 e in (w.least, w.most, w.own),
    λ (least, most, own).
        whole.1 (record { least = least; most = most; own = own; kind = inl refl; maker = inl refl }),
  )
    where
      whole : read_of i m ≡ Assignment a ↔ Meant i a x (some (0xFF ∷ [])) (some (0xFF ∷ 0xFF ∷ []))
      whole = meant-exactly i m a x (some (0xFF ∷ [])) (some (0xFF ∷ 0xFF ∷ [])) s

  -- so with no identity by every device
  pub wild-taken : AssignmentOf m a none (some (0xFF ∷ [])) (some (0xFF ∷ 0xFF ∷ [])) → 1 ≤ a → a ≤ 254
      → read_of i m ≡ Assignment a
  wild-taken s least most = (wild-exactly none s).1 (least, most, tt)

-- 2, 4 and 6, in this order, are such an assignment
pub wild-formed : (a : ℕ)
    → AssignmentOf (0x81 ∷ 0xF0 ∷ 10 ∷ 2 ∷ 1 ∷ a ∷ 4 ∷ 1 ∷ 0xFF ∷ 6 ∷ 2 ∷ 0xFF ∷ 0xFF ∷ []) a none (some (0xFF ∷ []))
    (some (0xFF ∷ 0xFF ∷ []))
unfolding xid_payload field_of triple_of right_length identifiers none_twice holds values_of value_for
wild-formed a =
    record {
      params = address_id is (a ∷ []) ∷ kind_id is any_type ∷ vendor_id is any_vendor ∷ [];
      formed = record {
        octets = refl;
        right = (refl, (refl, (refl, tt)));
        once = once-different (2 ∷ 4 ∷ 6 ∷ []) refl;
      };
      values = refl;
    }

-- ---- any other value

-- another than the wild card and the device's own is silence
module _ (i m v : List ℕ) (a : ℕ) (x : Option (List ℕ)) where
  pub plain_type : (z : Option (List ℕ)) → AssignmentOf m a x (some v) z → (v ≡ 0xFF ∷ [] → ⊥) → (v ≡ 0x01 ∷ [] → ⊥)
      → read_of i m ≡ Silence
  plain_type z s wild own = meant-silent i m a x (some v) z s (λ w. ⊎_elim wild own w.kind)

module _ (i m v : List ℕ) (a : ℕ) (x y : Option (List ℕ)) (s : AssignmentOf m a x y (some v)) where
  pub plain-vendor : (v ≡ 0xFF ∷ 0xFF ∷ [] → ⊥) → (v ≡ take 2 i → ⊥) → read_of i m ≡ Silence
  plain-vendor wild own = meant-silent i m a x y (some v) s (λ w. ⊎_elim wild own w.maker)

  -- one octet FF of two is no wild card: an identity of 01 has no octet FF, so no device is meant
  module _ (allowed : allowed_identity i ≡ true) where
    unheld : (j : ℕ) → j < 2 → get_or v j 0 ≡ 0xFF → v ≡ take 2 i → ⊥
    unheld j h f e =
        let w = (identity-exactly i).0 allowed in
        let two = w.maker-two in
        let long = w.serial-least in
        let whole = ap length w.parts ∙ length-append w.maker w.serial in
        let (low, high) = w.all j (omega arith) in
        let held : 0xFF ≡ get_or i j 0 = sym f ∙ ap (λ (u : List ℕ). get_or u j 0) e ∙ get_or-take 2 i j 0 h in
        omega arith

    pub half-wild : (b : ℕ) → (b ≡ 0xFF → ⊥) → (v ≡ 0xFF ∷ b ∷ []) ⊎ (v ≡ b ∷ 0xFF ∷ []) → read_of i m ≡ Silence
    half-wild b n (inl e) =
        plain-vendor (λ w. n (ap (λ (u : List ℕ). get_or u 1 0) (sym e ∙ w)))
        (unheld 0 (omega arith) (ap (λ (u : List ℕ). get_or u 0 0) e))
    half-wild b n (inr e) =
        plain-vendor (λ w. n (ap (λ (u : List ℕ). get_or u 0 0) (sym e ∙ w)))
        (unheld 1 (omega arith) (ap (λ (u : List ℕ). get_or u 1 0) e))

-- ---- a scan

-- a scan has no such rule: with a type or a vendor beside its mask, whatever they say, a payload is neither of the two
module _ (w : Values) (k v : List ℕ) (mask : w.mask ≡ some k) (named : (w.kind ≡ some v) ⊎ (w.vendor ≡ some v)) where
  pub masked-neither : neither w ≡ true
  unfolding assignment_shape given
  masked-neither =
      (neither-exactly w).1 (no-scan (is_scan w) refl, rw mask (and-false (given w.address)))
    where
      not_none : {o : Option (List ℕ)} → o ≡ some v → o ≡ none → ⊥
      not_none e n = true-not-false (ap given (sym e ∙ n))

      no-scan : (t : Bool) → is_scan w ≡ t → is_scan w ≡ false
      no-scan false e = e
      no-scan true e =
          let values = (scan-values w e).0 in
          absurd
          (⊎_elim (λ (g : w.kind ≡ some v). not_none g (ap (λ (u : Values). u.kind) values))
          (λ (g : w.vendor ≡ some v). not_none g (ap (λ (u : Values). u.vendor) values)) named)

pub masked-silent : (i m k v : List ℕ) (ps : List Param) → WellFormed addressing m ps → (values_of ps).mask ≡ some k
    → ((values_of ps).kind ≡ some v) ⊎ ((values_of ps).vendor ≡ some v) → read_of i m ≡ Silence
masked-silent i m k v ps f mask named =
    let (scan, assignment) = (neither-exactly (values_of ps)).0 (masked-neither (values_of ps) k v mask named) in
    read_is i m ps f ∙ neither-meant i (values_of ps) scan assignment
