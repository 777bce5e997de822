-- What the promises of `new`, `report` and `probe` allow: the scan of the definitions, and no other. A promise is what
-- a caller learns of it as the source states it, at any lifetimes and exits: the `Learnt` of the function's `Reads`.
--   NewAllows limit s       == the promise of `new` allows the result s for the limit
--   ReportAllows s a r t    == the promise of `report` allows the result r for the lent scan that held s and the answer a,
--                              and t in it
--   ProbeAllows s o r o'    == the promise of `probe` allows the result r for s, and o' in the lent output that held o
--   Reports heard n s t     == t comes of s by n reports, each with what `heard` says of the beginning that s asks
--   ReportsAll answers s t  == t comes of s by reporting the answers, one after the other
--   Runs heard limit n t    == t comes of a new scan by n reports; RunsBy limit answers t == by those answers
-- Assumes nothing.
use Rattle.std.proofs.Common.{Result, Ok, Err}
use Rattle.refusal.specs.declared.Refusal.{Refusal}
use mathlib.Core.Path.{◌≡◌, refl, sym, ap, ◌∙◌, subst}
use mathlib.Core.Bool.{Bool, true, false, true≢false}
use mathlib.Core.List.{List, [], ◌∷◌}
use mathlib.Core.Logic.{◌↔◌}
use Prim.Native.Nat.{ℕ, zero, suc, ◌≤◌, ◌<◌}
use native.Mathlib.Omega.{arith}
use borrow.Author.Tests.{ltb-true, ltb-false}
use contract.Lifetimes.{Lfts}
use denote.MutBor.{MutBor}
use lib.Dec.{ltb}
use lib.ListN.{length}
use Rattle.identity.specs.Bits.{Bits}
use Rattle.identity.specs.Identity.{depth, octets_of}
use Rattle.refusal.specs.declared.Refusal.TheVariants.{ScanOver}
use Rattle.refusal.specs.Answer.{Hands, state_after}
use Rattle.walk.specs.Machine.{step}
use Rattle.scan.specs.declared.Scan.{Scan}
use Rattle.scan.specs.Record.{list_most, beginning_of, walk_of, record_of}
use Rattle.scan.specs.Scan.{fresh, ended, over, probed, reported, reported_all, driven}
use Rattle.scan.proofs.Overs.{over-ended}
use Rattle.scan.proofs.Reports.{report-over, report-taken}
use Rattle.scanner.proofs.new.Reads as new-reads
use Rattle.scanner.proofs.report.Reads as report-reads
use Rattle.scan.proofs.probe.Reads as probe-reads
use Rattle.whole_scan.proofs.AnyScans.{any-scans}

abbrev pub NewAllows : ℕ → Scan → Type 0
NewAllows limit s = (e : _) × new-reads.Learnt tt (limit, tt) s e

abbrev pub ReportAllows : Scan → Bool → Result (Unit {0}) Refusal → Scan → Type 0
ReportAllows s a r t =
    (κs : Lfts 1) × (scan : _) × (e : _) × report-reads.Learnt κs (scan, (a, tt)) r e × (s ≡ scan.now) × (t ≡ e.0.now)

abbrev pub ProbeAllows : Scan → List ℕ → Result ℕ Refusal → List ℕ → Type 0
ProbeAllows s o r o' =
    (κs : Lfts 1) × (out : _) × (e : _) × probe-reads.Learnt κs (s, (out, tt)) r e
    × (o ≡ out.now) × (o' ≡ e.1.0.now)

abbrev pub Reports : (Bits → Bool) → ℕ → Scan → Scan → Type 0
Reports heard zero s t = t ≡ s
Reports heard (suc n) s t =
    (r : Result (Unit {0}) Refusal) × (u : Scan) × ReportAllows s (heard (beginning_of s)) r u × Reports heard n u t

abbrev pub ReportsAll : List Bool → Scan → Scan → Type 0
ReportsAll [] s t = t ≡ s
ReportsAll (a ∷ answers) s t =
    (r : Result (Unit {0}) Refusal) × (u : Scan) × ReportAllows s a r u × ReportsAll answers u t

abbrev pub Runs : (Bits → Bool) → ℕ → ℕ → Scan → Type 0
Runs heard limit n t = (s : Scan) × NewAllows limit s × Reports heard n s t

abbrev pub RunsBy : ℕ → List Bool → Scan → Type 0
RunsBy limit answers t = (s : Scan) × NewAllows limit s × ReportsAll answers s t

-- ---- each promise allows a result, and one alone

not-below : (i n : ℕ) → (i < n → ⊥) → n ≤ i
not-below i n h = by-test (ltb i n) refl
  where
    by-test : (b : Bool) → ltb i n ≡ b → n ≤ i
    by-test true e = absurd (h (ltb-true i n e))
    by-test false e = ltb-false i n e

new-allowed : (limit : ℕ) → NewAllows limit (fresh limit)
new-allowed limit = ((limit, tt), refl)

-- a lent scan, wherever it lies
abbrev lent : Scan → MutBor Scan
lent s = record { ref_ptr = (0, 0); ghost_name = 0; now = s }

report-allowed : (s : Scan) (a : Bool) → (r : Result (Unit {0}) Refusal) × (t : Scan) × ReportAllows s a r t
report-allowed s a = by-test (over s) refl
  where
    by-test : (b : Bool) → over s ≡ b → (r : Result (Unit {0}) Refusal) × (t : Scan) × ReportAllows s a r t
    by-test true e =
        (Err ScanOver, s, (([], tt), lent s, (lent s, (a, tt)), report-over s a (sym e), refl, refl))
    by-test false e =
        let t : Scan = record_of s (step octets_of depth list_most (walk_of s) a) in
        (Ok tt, t, (([], tt), lent s, (lent t, (a, tt)), report-taken s a e refl, refl, refl))

-- and it leaves the scan of the definition
report-leaves : (s t : Scan) (a : Bool) (r : Result (Unit {0}) Refusal) → ReportAllows s a r t
    → t ≡ state_after (reported s a) s
report-leaves s t a r (κs, scan, e, h, x, y) = rw (x, y) h.state

reports-are : (heard : Bits → Bool) (n : ℕ) (s t : Scan) → Reports heard n s t → t ≡ driven heard n s
unfolding driven
reports-are heard zero s t h = h
reports-are heard (suc n) s t (r, u, h, more) =
    reports-are heard n u t more ∙ ap (driven heard n) (report-leaves s u (heard (beginning_of s)) r h)

reports-some : (heard : Bits → Bool) (n : ℕ) (s : Scan) → Reports heard n s (driven heard n s)
unfolding driven
reports-some heard zero s = refl
reports-some heard (suc n) s =
    let (r, u, h) = report-allowed s (heard (beginning_of s)) in
    let rest = reports-some heard n u in
    let is = report-leaves s u (heard (beginning_of s)) r h in
    (r, u, h, subst (λ (v : Scan). Reports heard n u (driven heard n v)) is rest)

-- by n reports from `new` on there comes the scan of the definitions, and no other
pub runs-exactly : (heard : Bits → Bool) (limit n : ℕ) (t : Scan)
    → Runs heard limit n t ↔ (t ≡ driven heard n (fresh limit))
runs-exactly heard limit n t = (
  λ (s, (e, h), more). reports-are heard n s t more ∙ ap (driven heard n) h,
  λ e.
      let some = reports-some heard n (fresh limit) in
      (fresh limit, new-allowed limit, subst (Reports heard n (fresh limit)) (sym e) some),
)

reports-all-are : (answers : List Bool) (s t : Scan) → ReportsAll answers s t → t ≡ reported_all s answers
unfolding reported_all
reports-all-are [] s t h = h
reports-all-are (a ∷ answers) s t (r, u, h, more) =
    reports-all-are answers u t more ∙ ap (λ (v : Scan). reported_all v answers) (report-leaves s u a r h)

reports-all-some : (answers : List Bool) (s : Scan) → ReportsAll answers s (reported_all s answers)
unfolding reported_all
reports-all-some [] s = refl
reports-all-some (a ∷ answers) s =
    let (r, u, h) = report-allowed s a in
    let rest = reports-all-some answers u in
    (r, u, h, subst (λ (v : Scan). ReportsAll answers u (reported_all v answers)) (report-leaves s u a r h) rest)

-- and by any answers
pub runs-by-exactly : (limit : ℕ) (answers : List Bool) (t : Scan)
    → RunsBy limit answers t ↔ (t ≡ reported_all (fresh limit) answers)
runs-by-exactly limit answers t = (
  λ (s, (e, h), more). reports-all-are answers s t more ∙ ap (λ (u : Scan). reported_all u answers) h,
  λ e.
      let some = reports-all-some answers (fresh limit) in
      (fresh limit, new-allowed limit, subst (ReportsAll answers (fresh limit)) (sym e) some),
)

module _ (heard : Bits → Bool) (limit : ℕ) where
  abbrev end : Scan
  end = driven heard limit (fresh limit)

  -- "a scan run to its end", however many reports were made, is the definition's scan at its end
  pub run-ended : (n : ℕ) (t : Scan) → Runs heard limit n t → ended t.state ≡ true → t ≡ end
  run-ended n t runs e =
      let is : t ≡ driven heard n (fresh limit) = (runs-exactly heard limit n t).0 runs in
      let w = (any-scans limit heard).exactly in
      is ∙ w.stays n (not-below n end.count (λ h. true≢false (over-ended t e ∙ ap over is ∙ (w.asks n).1 h)))

  -- and as many reports as the limit says reach it
  pub runs-end : (n : ℕ) (t : Scan) → Runs heard limit n t → limit ≤ n → ended t.state ≡ true
  runs-end n t runs h =
      let w = any-scans limit heard in
      let is : t ≡ end = (runs-exactly heard limit n t).0 runs ∙ w.exactly.stays n (omega (arith, w.count)) in
      ap (λ (s : Scan). ended s.state) is ∙ w.ends

-- what `probe` hands out is what the definition gives
pub probe-gives : (s : Scan) (o o' : List ℕ) (r : Result ℕ Refusal) → ProbeAllows s o r o' → Hands (probed s (length o)) o r o'
probe-gives s o o' r (κs, out, e, h, x, y) = rw (x, y) h
