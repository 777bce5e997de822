-- As many probes as are counted are asked, and no other: a scan counts each answer that it takes, and it stays from its
-- end on, whatever the answers. Assumes nothing.
use mathlib.Core.Path.{◌≡◌, refl, sym, ap, ◌∙◌, subst}
use mathlib.Core.Bool.{Bool, true, false, true≢false}
use mathlib.Core.List.{List, [], ◌∷◌}
use mathlib.Core.Logic.{◌↔◌}
use Prim.Native.Nat.{ℕ, zero, suc, ◌+◌, ◌≤◌, ◌<◌}
use native.Mathlib.Omega.{arith}
use lib.ListN.{length, take}
use Rattle.identity.specs.Bits.{Bits}
use Rattle.refusal.specs.Answer.{refuses, state_after}
use Rattle.scan.specs.Record.{beginning_of}
use Rattle.scan.specs.Scan.{fresh, over, probed, reported, reported_all, driven}
use Rattle.scan.specs.declared.Scan.{Scan}
use Rattle.scan.proofs.Overs.{open-parts, over-count}
use Rattle.scan.proofs.Probes.{probed-over}
use Rattle.scan.proofs.Reports.{report-stays}
use Rattle.whole_scan.specs.Demand.{AsksExactly, RunsExactly, NewRunsExactly}
use Rattle.whole_scan.proofs.Run.{taken, noted-count}

-- the scan after an answer
abbrev next : Scan → Bool → Scan
next s a = state_after (reported s a) s

next-counts : (s : Scan) (a : Bool) → over s ≡ false
    → ((next s a).limit ≡ s.limit) × ((next s a).count ≡ suc s.count)
next-counts s a e =
    let (q, w, is) = taken s a (open-parts s e) in
    let (l, c) = noted-count s q w a in
    (ap (λ (t : Scan). t.limit) is ∙ l, ap (λ (t : Scan). t.count) is ∙ c)

-- nothing more is asked of a record that takes no probe
asks_none : (s last : Scan) (after : ℕ → Scan) → true ≡ over s → last ≡ s → ((i : ℕ) → after i ≡ s)
    → AsksExactly 0 last after
asks_none s last after e l same = record {
  asks = λ i. (λ h. absurd (true≢false (e ∙ ap over (sym (same i)) ∙ h)), λ h. absurd (omega arith));
  refused = λ i h lent. rw (same i) (probed-over s lent e);
  stays = λ i h. same i ∙ sym l;
}

-- one probe, and what is asked behind it
asks-one : (n : ℕ) (last : Scan) (after : ℕ → Scan) → over (after 0) ≡ false → AsksExactly n last (λ i. after (suc i))
    → AsksExactly (suc n) last after
asks-one n last after e x = record { asks = asks; refused = refused; stays = stays }
  where
    asks : (i : ℕ) → (over (after i) ≡ false) ↔ (i < suc n)
    asks zero = (λ h. omega arith, λ h. e)
    asks (suc i) = (λ h. omega (arith, (x.asks i).0 h), λ h. (x.asks i).1 (omega arith))

    refused : (i : ℕ) → suc n ≤ i → (lent : ℕ) → probed (after i) lent ≡ refuses 7
    refused zero h lent = absurd (omega arith)
    refused (suc i) h lent = x.refused i (omega arith) lent

    stays : (i : ℕ) → suc n ≤ i → after i ≡ last
    stays zero h = absurd (omega arith)
    stays (suc i) h = x.stays i (omega arith)

-- `after i` is the scan s after i answers, `last` after all of them: as many probes as are counted
abbrev Counted : Scan → Scan → (ℕ → Scan) → Type 0
Counted s last after = (n : ℕ) × (last.count ≡ s.count + n) × AsksExactly n last after

counted_none : (s last : Scan) (after : ℕ → Scan) → true ≡ over s → last ≡ s → ((i : ℕ) → after i ≡ s)
    → Counted s last after
counted_none s last after e l same =
    (0, omega (arith, ap (λ (t : Scan). t.count) l), asks_none s last after e l same)

counted-one : (s : Scan) (a : Bool) (last : Scan) (after : ℕ → Scan) → over s ≡ false → after 0 ≡ s
    → Counted (next s a) last (λ i. after (suc i)) → Counted s last after
counted-one s a last after e same (n, c, x) =
    (suc n, omega (arith, (next-counts s a e).1), asks-one n last after (ap over same ∙ e) x)

-- from a scan that has counted none
counted-new : (s last : Scan) (after : ℕ → Scan) → s.count ≡ 0 → Counted s last after
    → AsksExactly last.count last after
counted-new s last after e (n, c, x) =
    let all : n ≡ last.count = omega arith in subst (λ (m : ℕ). AsksExactly m last after) all x

-- ---- the answers as a list

told_over : (s : Scan) (answers : List Bool) → true ≡ over s → reported_all s answers ≡ s
unfolding reported_all
told_over s [] e = refl
told_over s (a ∷ answers) e = rw (report-stays s a e) (told_over s answers e)

told-exactly : (answers : List Bool) (s : Scan) → s.limit ≤ s.count + length answers
    → Counted s (reported_all s answers) (λ i. reported_all s (take i answers))
unfolding reported_all
told-exactly [] s h =
    let o = over-count s (omega arith) in counted_none s _ _ o refl (λ i. told_over s (take i []) o)
told-exactly (a ∷ answers) s h = by-test (over s) refl (told-exactly answers (next s a))
  where
    by-test : (t : Bool) → over s ≡ t
        → ((next s a).limit ≤ (next s a).count + length answers
        → Counted (next s a) (reported_all (next s a) answers) (λ i. reported_all (next s a) (take i answers)))
        → Counted s (reported_all (next s a) answers) (λ i. reported_all s (take i (a ∷ answers)))
    by-test true e more =
        counted_none s _ _ (sym e) (told_over s (a ∷ answers) (sym e)) (λ i. told_over s (take i (a ∷ answers)) (sym e))
    by-test false e more =
        counted-one s a _ (λ i. reported_all s (take i (a ∷ answers))) e refl
        (more (omega (arith, (next-counts s a e).0, (next-counts s a e).1)))

pub run-exactly : RunsExactly
run-exactly s answers h = told-exactly answers s (omega arith)

pub new-run-exactly : NewRunsExactly
unfolding fresh
new-run-exactly limit answers h =
    counted-new (fresh limit) _ _ refl (told-exactly answers (fresh limit) (omega arith))

-- ---- the answers as `heard` says

module _ (heard : Bits → Bool) where
  driven-over : (n : ℕ) (s : Scan) → true ≡ over s → driven heard n s ≡ s
  unfolding driven
  driven-over zero s e = refl
  driven-over (suc n) s e = rw (report-stays s (heard (beginning_of s)) e) (driven-over n s e)

  driven-exactly : (n : ℕ) (s : Scan) → s.limit ≤ s.count + n
      → Counted s (driven heard n s) (λ i. driven heard i s)
  unfolding driven
  driven-exactly zero s h =
      let o = over-count s (omega arith) in counted_none s _ _ o refl (λ i. driven-over i s o)
  driven-exactly (suc n) s h = by-test (over s) refl (driven-exactly n (next s (heard (beginning_of s))))
    where
      t : Scan
      t = next s (heard (beginning_of s))

      by-test : (b : Bool) → over s ≡ b
          → (t.limit ≤ t.count + n → Counted t (driven heard n t) (λ i. driven heard i t))
          → Counted s (driven heard n t) (λ i. driven heard i s)
      by-test true e more =
          counted_none s _ _ (sym e) (driven-over (suc n) s (sym e)) (λ i. driven-over i s (sym e))
      by-test false e more =
          let (l, c) = next-counts s (heard (beginning_of s)) e in
          counted-one s (heard (beginning_of s)) _ (λ i. driven heard i s) e refl (more (omega arith))

  pub new-driven-exactly : (limit : ℕ)
      → AsksExactly (driven heard limit (fresh limit)).count (driven heard limit (fresh limit))
      (λ i. driven heard i (fresh limit))
  unfolding fresh
  new-driven-exactly limit =
      counted-new (fresh limit) _ _ refl (driven-exactly limit (fresh limit) (omega arith))
