-- How the tests of the code, one after the other, come to what the definition says. Assumes nothing.
use mathlib.Core.Path.{◌≡◌, sym, ap, ◌∙◌}
use mathlib.Core.Bool.{true, false, cond}
use mathlib.Core.List.{List}
use mathlib.Core.Option.{none, some}
use Prim.Native.Nat.{ℕ}
use lib.ListN.{get_or}
use Rattle.params.specs.Field.{Param, params_of, octets_in}
use Rattle.params.specs.Walk.{value_at}
use Rattle.xid.specs.declared.Parts.{Parts}
use Rattle.xid.specs.Addressing.{addressing, values_of, values_at}
use Rattle.xid.specs.Match.{is_scan, is_assignment, scan_matches}
use Rattle.xid.specs.Match.{meant_to, read_of}
use Rattle.xid.specs.declared.Xid.{Xid}
use Rattle.xid.specs.declared.Xid.TheVariants.{Silence, Scan, Assignment}
use Rattle.xid.proofs.Rows.{all_fit, scan-meant, assignment-meant, neither-meant, malformed-read, formed-read}

-- ---- an assignment, whose address value is a

pub assigned_if : (i m : List ℕ) (f : Parts) → is_assignment (values_at m f) ≡ true
    → meant_to i (values_at m f) ≡ cond (all_fit i (get_or (octets_in (value_at m f.address)) 0 0) (value_at m f.identity) (value_at m f.kind) (value_at m f.vendor))
    (Assignment (get_or (octets_in (value_at m f.address)) 0 0)) Silence
unfolding values_at
assigned_if i m f shape = assignment-meant i (values_at m f) shape

-- ---- either, or silence

module _ (i m : List ℕ) (f : Parts) where
  pub meant-scan : is_scan (values_at m f) ≡ true → scan_matches i (values_at m f) ≡ true → Scan ≡ meant_to i (values_at m f)
  meant-scan s t = rw (scan-meant i (values_at m f) s, t)

  pub meant-other : is_scan (values_at m f) ≡ true → scan_matches i (values_at m f) ≡ false
      → Silence ≡ meant_to i (values_at m f)
  meant-other s t = rw (scan-meant i (values_at m f) s, t)

  pub meant-neither : is_scan (values_at m f) ≡ false → is_assignment (values_at m f) ≡ false
      → Silence ≡ meant_to i (values_at m f)
  meant-neither s t = sym (neither-meant i (values_at m f) s t)

  pub read-formed : {r : Xid} → (ps : List Param) × (params_of addressing m ≡ some ps) × (values_at m f ≡ values_of ps)
      → r ≡ meant_to i (values_at m f) → r ≡ read_of i m
  read-formed w g = g ∙ ap (meant_to i) w.2 ∙ sym (formed-read i m w.0 w.1)

pub read-malformed : (i m : List ℕ) → params_of addressing m ≡ none → Silence ≡ read_of i m
read-malformed i m e = sym (malformed-read i m e)
