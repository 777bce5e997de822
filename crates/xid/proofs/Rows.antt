-- What the rows of a payload come to, by its shape, and of which shape each of them is. Assumes nothing.
use mathlib.Core.Path.{◌≡◌, refl, sym, ◌∙◌}
use mathlib.Core.Bool.{Bool, true, false, cond, not, ◌&&◌, ◌||◌}
use mathlib.Core.Logic.{◌↔◌}
use mathlib.Core.List.{List, [], ◌∷◌}
use mathlib.Core.Option.{Option, none, some}
use Prim.Native.Nat.{ℕ}
use borrow.Author.Tests.{not-true}
use lib.Dec.{eqb}
use lib.ListN.{length}
use Rattle.refusal.specs.Answer.{◌when◌, answered}
use Rattle.octets.proofs.Words.{true-not-false}
use Rattle.record.specs.Allowed.{addressed}
use Rattle.params.specs.declared.Group.{Group}
use Rattle.params.specs.Field.{Param, WellFormed, params_of, given, octets_in}
use Rattle.xid.specs.Addressing.{addressing, Values, values_of}
use Rattle.params.proofs.Exact.{params-exactly}
use Rattle.params.proofs.Kept.{both_of}
use Rattle.xid.specs.Match.{is_scan, scan_shape, is_assignment, assignment_shape, scan_matches, address_of}
use Rattle.xid.specs.Match.{identity_matches, kind_matches, vendor_matches, no_params, malformed, values_in, neither}
use Rattle.xid.specs.Match.{bad_address, other_identity, other_type, other_vendor, other_scan, value_rows, payload_rows}
use Rattle.xid.specs.Match.{meaning_of, or_silence, meant_to, payload_answer, read_of}
use Rattle.xid.specs.declared.Xid.TheVariants.{Silence, Scan, Assignment}

-- ---- no payload has both shapes

module _ (w : Values) where
  pub unmasked : given w.mask ≡ false → is_scan w ≡ false
  unfolding is_scan scan_shape
  unmasked e = rw e (go (given w.identity))
    where
      go : (t : Bool) → t && false && eqb (length (octets_in w.identity)) (length (octets_in w.mask)) ≡ false
      go true = refl
      go false = refl

  pub assignment-unscanned : is_assignment w ≡ true → is_scan w ≡ false
  unfolding assignment_shape
  assignment-unscanned e =
      unmasked (not-true _ (both_of (given w.address) (not (given w.mask)) e).1)

  pub scan-unassigned : is_scan w ≡ true → is_assignment w ≡ false
  scan-unassigned e = go (is_assignment w) refl
    where
      go : (t : Bool) → is_assignment w ≡ t → is_assignment w ≡ false
      go true a = a ∙ sym e ∙ assignment-unscanned a
      go false a = a

-- ---- what the rows come to

-- all four of an assignment of the address value a: it, and what is given of identity, type and vendor
abbrev pub all_fit : List ℕ → ℕ → Option (List ℕ) → Option (List ℕ) → Option (List ℕ) → Bool
all_fit i a x y z = addressed a && (identity_matches i x && (kind_matches y && vendor_matches i z))

module _ (i : List ℕ) (w : Values) where
  pub scan-meant : is_scan w ≡ true → meant_to i w ≡ cond (scan_matches i w) Scan Silence
  unfolding meant_to value_rows neither bad_address other_identity other_type other_vendor other_scan meaning_of answered
      or_silence
  scan-meant s = rw (s, scan-unassigned w s) (go (scan_matches i w))
    where
      go : (t : Bool) → or_silence (answered (10 when not t ∷ []) Scan) ≡ cond t Scan Silence
      go true = refl
      go false = refl

  pub assignment-meant : is_assignment w ≡ true
      → meant_to i w ≡ cond (all_fit i (address_of w) w.identity w.kind w.vendor) (Assignment (address_of w)) Silence
  unfolding meant_to value_rows neither bad_address other_identity other_type other_vendor other_scan meaning_of answered
      or_silence
  assignment-meant a =
      rw (a, assignment-unscanned w a)
      (go (addressed (address_of w)) (identity_matches i w.identity) (kind_matches w.kind)
      (vendor_matches i w.vendor))
    where
      go : (p q r s : Bool) → or_silence
          (answered (6 when not p ∷ 7 when not q ∷ 8 when not r ∷ 9 when not s ∷ []) (Assignment (address_of w)))
          ≡ cond (p && (q && (r && s))) (Assignment (address_of w)) Silence
      go true true true true = refl
      go true true true false = refl
      go true true false s = refl
      go true false r s = refl
      go false q r s = refl

  pub neither-meant : is_scan w ≡ false → is_assignment w ≡ false → meant_to i w ≡ Silence
  unfolding meant_to value_rows neither answered or_silence
  neither-meant s a = rw (s, a)

-- a malformed payload is silence, and any other means what its values do
module _ (i m : List ℕ) where
  pub malformed-read : params_of addressing m ≡ none → read_of i m ≡ Silence
  unfolding read_of payload_answer payload_rows malformed no_params answered or_silence
  malformed-read e = rw e

  pub formed-read : (ps : List Param) → params_of addressing m ≡ some ps → read_of i m ≡ meant_to i (values_of ps)
  unfolding read_of payload_answer payload_rows malformed no_params values_in answered meant_to
  formed-read ps e = rw e

-- ---- the rows 4 and 5, both ways

-- of any group
pub formed-exactly : (g : Group) (m : List ℕ) → no_params (params_of g m) ≡ false ↔ ((ps : List Param) × WellFormed g m ps)
unfolding no_params
formed-exactly g m = (go (params_of g m) refl, λ (ps, f). rw ((params-exactly g m ps).1 f))
  where
    go : (o : Option (List Param)) → params_of g m ≡ o → no_params o ≡ false → (ps : List Param) × WellFormed g m ps
    go none p e = absurd (true-not-false e)
    go (some ps) p e = (ps, (params-exactly g m ps).0 p)

pub malformed-exactly : (m : List ℕ) → malformed m ≡ false ↔ ((ps : List Param) × WellFormed addressing m ps)
unfolding malformed
malformed-exactly = formed-exactly addressing

pub neither-exactly : (w : Values) → neither w ≡ true ↔ (is_scan w ≡ false) × (is_assignment w ≡ false)
unfolding neither
neither-exactly w = (go (is_scan w) (is_assignment w), λ (a, b). rw (a, b))
  where
    go : (s a : Bool) → not (s || a) ≡ true → (s ≡ false) × (a ≡ false)
    go true a e = absurd (true-not-false (sym e))
    go false true e = absurd (true-not-false (sym e))
    go false false e = (refl, refl)
