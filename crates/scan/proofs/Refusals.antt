-- The scanner's numbers for "no", each given exactly then: 7, then 5. Assumes nothing.
use mathlib.Core.Path.{◌≡◌, refl, sym}
use mathlib.Core.Bool.{Bool, true, false, not, ◌||◌}
use mathlib.Core.List.{List, [], ◌∷◌}
use mathlib.Core.Logic.{◌↔◌, ◌⊎◌, inl, inr, ⊎_elim}
use Prim.Native.Nat.{ℕ, ◌≤◌, ◌<◌}
use native.Mathlib.Omega.{arith}
use borrow.Author.Tests.{lt-ltb, ltb-true, ltb-false, not-true}
use lib.Dec.{ltb}
use Rattle.identity.specs.Identity.{depth, octets_of}
use Rattle.octets.specs.Octets.{holds}
use Rattle.refusal.specs.Answer.{refuses, TestRow, ◌when◌, shorter, numbers_of}
use Rattle.refusal.proofs.Exactly.{TestsFor, exactly-tests}
use Rattle.walk.specs.Machine.{step}
use Rattle.octets.proofs.Words.{or_parts}
use Rattle.scan.specs.Record.{list_most, beginning_of, walk_of, record_of}
use Rattle.scan.specs.Scan.{probe_length, ended, over, probe_of, probed, reported}
use Rattle.scan.specs.declared.Scan.{Scan}
use Rattle.scan.proofs.Overs.{over-ended, over-count, over-list}
use Rattle.scan.proofs.Probes.{length-probe}

or_right : (a b : Bool) → b ≡ true → (a || b) ≡ true
or_right true b e = refl
or_right false b e = e

-- 01: "a scan that has ended or a record whose count isn't below its limit, whose list passes 32 or whose beginning
-- passes 152 bits"
abbrev pub Over : Scan → Type 0
Over s = (ended s.state ≡ true) ⊎ ((s.limit ≤ s.count) ⊎ ((32 < s.listed) ⊎ (152 < s.bits)))

pub over-exactly : (s : Scan) → (over s ≡ true) ↔ Over s
unfolding over
over-exactly s = (there, back)
  where
    there : over s ≡ true → Over s
    there e =
        ⊎_elim inl
        (λ h.
        ⊎_elim (λ k. inr (inl (ltb-false s.count s.limit (not-true (ltb s.count s.limit) k))))
        (λ k.
        ⊎_elim (λ m. inr (inr (inl (ltb-true list_most s.listed m))))
        (λ m. inr (inr (inr (ltb-true depth s.bits m))))
        (or_parts (ltb list_most s.listed) (ltb depth s.bits) k))
        (or_parts (not (ltb s.count s.limit)) _ h))
        (or_parts (ended s.state) _ e)

    back : Over s → over s ≡ true
    back (inl h) = sym (over-ended s h)
    back (inr (inl h)) = sym (over-count s h)
    back (inr (inr (inl h))) = sym (over-list s h)
    back (inr (inr (inr h))) =
        or_right (ended s.state) _ (or_right (not (ltb s.count s.limit)) _
        (or_right (ltb list_most s.listed) _ (lt-ltb depth s.bits h)))

pub report-seven : (s : Scan) (heard : Bool) → (reported s heard ≡ refuses 7) ↔ (over s ≡ true)
unfolding reported TestsFor numbers_of holds
report-seven s heard = exactly-tests 7 (7 when over s ∷ []) (record_of s (step octets_of depth list_most (walk_of s) heard))

module _ (s : Scan) (lent : ℕ) where
  rows : List TestRow
  rows = 7 when over s ∷ 5 when shorter lent (probe_of (beginning_of s)) ∷ []

  pub probe-seven : (probed s lent ≡ refuses 7) ↔ (over s ≡ true)
  unfolding probed rows TestsFor numbers_of holds
  probe-seven = exactly-tests 7 rows (probe_of (beginning_of s))

  pub probe-five : (probed s lent ≡ refuses 5) ↔ ((over s ≡ false) × (lent < probe_length))
  unfolding probed rows TestsFor numbers_of holds
  probe-five =
      let law = exactly-tests 5 rows (probe_of (beginning_of s)) in
      let n = length-probe (beginning_of s) in (
        λ e. let (a, b) = law.0 e in (a, omega (arith, n, ltb-true lent _ b)),
        λ (a, b). law.1 (a, lt-ltb lent _ (omega (arith, n))),
      )
