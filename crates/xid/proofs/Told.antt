-- What follows for the values of a payload from how it is judged. Assumes nothing.
use mathlib.Core.Path.{◌≡◌, refl, sym, ap, ◌∙◌}
use mathlib.Core.Bool.{Bool, true, false, cond, not, ◌&&◌, ◌||◌, false≢true}
use mathlib.Core.Logic.{◌↔◌, ⊎_elim}
use mathlib.Core.List.{List, [], ◌∷◌}
use mathlib.Core.Option.{Option, none, some}
use Prim.Native.Nat.{ℕ}
use native.Mathlib.Omega.{arith}
use borrow.Author.Tests.{eqb-true, leb-true, not-true}
use lib.Dec.{leb}
use lib.ListN.{length, get_or}
use Rattle.octets.proofs.Words.{true-not-false}
use Rattle.params.specs.Field.{Param, right_length, AllRight, WellFormed, params_of, value_for, given, octets_in}
use Rattle.params.proofs.Exact.{params-exactly}
use Rattle.params.proofs.Kept.{both_of, of-both}
use Rattle.params.proofs.Values.{value-right}
use Rattle.record.specs.Allowed.{addressed}
use Rattle.xid.specs.Addressing.{address_id, addressing, Values, values_of}
use Rattle.refusal.specs.Answer.{Answer, gives, refuses, Given, Clear}
use Rattle.refusal.proofs.Exactly.{exactly, exactly-given, answered-all}
use Rattle.xid.specs.Match.{is_scan, scan_shape, is_assignment, scan_matches, address_of, identity_matches, kind_matches}
use Rattle.xid.specs.Match.{vendor_matches, neither, bad_address, other_identity, other_type, other_vendor, other_scan}
use Rattle.xid.specs.Match.{values_in, value_rows, payload_rows, meaning_of, or_silence, meant_to, payload_answer, read_of}
use Rattle.xid.proofs.Rows.{all_fit, malformed-read, formed-read}
use Rattle.xid.specs.declared.Xid.{Xid}
use Rattle.xid.specs.declared.Xid.TheVariants.{Silence, Scan, Assignment}

-- ---- values that are given, and values that are not

pub given-some : (x : Option (List ℕ)) → given x ≡ true → x ≡ some (octets_in x)
unfolding given octets_in
given-some none e = absurd (false≢true e)
given-some (some v) e = refl

pub given-none : (x : Option (List ℕ)) → given x ≡ false → x ≡ none
unfolding given
given-none none e = refl
given-none (some v) e = absurd (true-not-false e)

pub values-are : (w : Values) {a b c d e : Option (List ℕ)} → w.identity ≡ a → w.address ≡ b → w.mask ≡ c
    → w.kind ≡ d → w.vendor ≡ e → w ≡ record { identity = a; address = b; mask = c; kind = d; vendor = e }
values-are w {a} {b} {c} {d} {e} p q r s t =
    let g : ◌≡◌ {A = Values} (record {
      identity = w.identity;
      address = w.address;
      mask = w.mask;
      kind = w.kind;
      vendor = w.vendor;
    }) (record { identity = a; address = b; mask = c; kind = d; vendor = e }) = rw (p, q, r, s, t) in
    g

-- ---- which payloads are scans, and which assignments

-- the values of a scan
pub scan-values : (w : Values) → is_scan w ≡ true
    → (w ≡ record {
      identity = some (octets_in w.identity);
      address = none;
      mask = some (octets_in w.mask);
      kind = none;
      vendor = none;
    }) × (length (octets_in w.identity) ≡ length (octets_in w.mask))
unfolding is_scan scan_shape
scan-values w e =
    let i = given w.identity in
    let a = given w.address in
    let m = given w.mask in
    let k = given w.kind in
    let v = given w.vendor in
    let (shape, long) = both_of (i && (m && (not a && (not k && not v)))) _ e in
    let (own, rest) = both_of i (m && (not a && (not k && not v))) shape in
    let (mask, rest') = both_of m (not a && (not k && not v)) rest in
    let (no-a, rest'') = both_of (not a) (not k && not v) rest' in
    let (no-k, no-v) = both_of (not k) (not v) rest'' in (
      values-are w (given-some w.identity own) (given-none w.address (not-true a no-a))
          (given-some w.mask mask) (given-none w.kind (not-true k no-k))
          (given-none w.vendor (not-true v no-v)),
      eqb-true _ _ long,
    )

pub one-octet : (v : List ℕ) → length v ≡ 1 → v ≡ get_or v 0 0 ∷ []
one-octet [] e = let no : ⊥ = omega (arith, e) in absurd no
one-octet (x ∷ []) e = refl
one-octet (x ∷ y ∷ v) e = let no : ⊥ = omega (arith, e) in absurd no

-- the address is one octet
pub address-one : (ps : List Param) → AllRight addressing.table ps → given (value_for address_id ps) ≡ true
    → value_for address_id ps ≡ some (get_or (octets_in (value_for address_id ps)) 0 0 ∷ [])
unfolding right_length
address-one ps r g =
    let e = given-some (value_for address_id ps) g in
    let k = length (octets_in (value_for address_id ps)) in
    let (least, most) = both_of (leb 1 k) (leb k 1) (value-right addressing.table 2 ps r e) in
    let one : k ≡ 1 = omega (arith, leb-true 1 k least, leb-true k 1 most) in
    e ∙ ap some (one-octet (octets_in (value_for address_id ps)) one)

-- ---- what is judged so

pub no-scan : {a : ℕ} → Assignment a ≡ Scan → ⊥
no-scan e = let z : ◌≡◌ {A = ℕ} 0 1 = cc in omega arith

pub scan-loud : Scan ≡ Silence → ⊥
scan-loud e = let z : ◌≡◌ {A = ℕ} 0 1 = cc in omega arith

pub assignment-loud : {a : ℕ} → Assignment a ≡ Silence → ⊥
assignment-loud e = let z : ◌≡◌ {A = ℕ} 0 1 = cc in omega arith

-- what is no silence comes of no row
pub answer-told : {x : Answer Xid} {y : Xid} → or_silence x ≡ y → (y ≡ Silence → ⊥) → x ≡ gives y
unfolding or_silence
answer-told {x = gives z} e n = ap gives e
answer-told {x = refuses k} e n = absurd (n (sym e))

-- the row of a shape does not hold: what it asks of this shape fits
ruled_out : (s t : Bool) → s ≡ true → s && not t ≡ false → t ≡ true
ruled_out true true e f = refl
ruled_out true false e f = absurd (true-not-false f)
ruled_out false t e f = absurd (false≢true e)

module _ (i : List ℕ) (w : Values) where
  cleared : {x : Xid} → meant_to i w ≡ x → (x ≡ Silence → ⊥) → Clear (value_rows i w) × (meaning_of w ≡ x)
  unfolding meant_to
  cleared {x} e n = (exactly-given (value_rows i w) (meaning_of w) x).0 (answer-told e n)

  pub scan-told : meant_to i w ≡ Scan → (is_scan w ≡ true) × (scan_matches i w ≡ true)
  unfolding Clear value_rows other_scan meaning_of
  scan-told e =
      let (c, m) = cleared e scan-loud in
      let s = go (is_scan w) refl m in
      (s, ruled_out (is_scan w) (scan_matches i w) s c.1.1.1.1.1.0)
    where
      go : (s : Bool) → is_scan w ≡ s → cond s Scan (Assignment (address_of w)) ≡ Scan → is_scan w ≡ true
      go true s f = s
      go false s f = absurd (no-scan f)

  pub assignment-told : (a : ℕ) → meant_to i w ≡ Assignment a
      → (is_assignment w ≡ true) × (all_fit i (address_of w) w.identity w.kind w.vendor ≡ true) × (address_of w ≡ a)
  unfolding Clear value_rows neither bad_address other_identity other_type other_vendor meaning_of
  assignment-told a e =
      let (c, m) = cleared e assignment-loud in
      let (s, u) = go (is_scan w) refl m in
      let t = some-shape (is_scan w) (is_assignment w) s c.0 in
      let fits : (b : Bool) → is_assignment w && not b ≡ false → b ≡ true = λ b h. ruled_out (is_assignment w) b t h in (
        t,
        of-both (fits (addressed (address_of w)) c.1.0)
            (of-both (fits (identity_matches i w.identity) c.1.1.0)
            (of-both (fits (kind_matches w.kind) c.1.1.1.0)
            (fits (vendor_matches i w.vendor) c.1.1.1.1.0))),
        u,
      )
    where
      go : (s : Bool) → is_scan w ≡ s → cond s Scan (Assignment (address_of w)) ≡ Assignment a
          → (is_scan w ≡ false) × (address_of w ≡ a)
      go true s f = absurd (no-scan (sym f))
      go false s f = (s, cc)

      some-shape : (s t : Bool) → s ≡ false → not (s || t) ≡ false → t ≡ true
      some-shape true t e f = absurd (true-not-false e)
      some-shape false true e f = refl
      some-shape false false e f = absurd (true-not-false f)

-- a payload that is not silent is well formed
pub formed-of : (i m : List ℕ) {x : Xid} → read_of i m ≡ x → (x ≡ Silence → ⊥)
    → (ps : List Param) × WellFormed addressing m ps × (meant_to i (values_of ps) ≡ x)
formed-of i m {x} e n = go (params_of addressing m) refl
  where
    go : (o : Option (List Param)) → params_of addressing m ≡ o
        → (ps : List Param) × WellFormed addressing m ps × (meant_to i (values_of ps) ≡ x)
    go none p = absurd (n (sym e ∙ malformed-read i m p))
    go (some ps) p = (ps, (params-exactly addressing m ps).0 p, sym (formed-read i m ps p) ∙ e)

pub read_is : (i m : List ℕ) (ps : List Param) → WellFormed addressing m ps → read_of i m ≡ meant_to i (values_of ps)
read_is i m ps f = formed-read i m ps ((params-exactly addressing m ps).1 f)

-- silence is for a payload with a number, and for nothing else
pub silence-numbered : (i m : List ℕ) → read_of i m ≡ Silence ↔ ((k : ℕ) × Given k (payload_rows i m))
unfolding read_of payload_answer or_silence meaning_of
silence-numbered i m = (
  λ e.
      ⊎_elim (λ g. absurd (loud (is_scan w) (sym (ap or_silence g) ∙ e)))
      (λ r. (r.0, (exactly r.0 (payload_rows i m) (meaning_of w)).0 r.2))
      (answered-all (payload_rows i m) (meaning_of w)),
  λ (k, g). ap or_silence ((exactly k (payload_rows i m) (meaning_of w)).1 g),
)
  where
    w : Values
    w = values_in m

    loud : (s : Bool) → cond s Scan (Assignment (address_of w)) ≡ Silence → ⊥
    loud true e = scan-loud e
    loud false e = assignment-loud e
