-- Any two devices on one cable: the lower identity is listed first, and where the second is the right end of the first,
-- the assignment for it moves the first too. Assumes nothing.
use mathlib.Core.Path.{◌≡◌, refl, ap, ap₂, ◌∙◌}
use mathlib.Core.Bool.{true}
use mathlib.Core.Logic.{inl, inr}
use mathlib.Core.List.{List, [], ◌∷◌, map, Memᴰ}
use mathlib.Core.List.Memᴰ
use Prim.Native.Nat.{ℕ, ◌+◌, ◌≤◌, ◌<◌}
use native.Mathlib.Omega.{arith}
use lib.ListN.{get_or}
use Rattle.identity.specs.Order.{lower, Ascending}
use Rattle.record.specs.declared.Device.{Device}
use Rattle.record.specs.Allowed.{identity_of, allowed_device}
use Rattle.record.specs.Changes.{unsaid_at, emptied_as}
use Rattle.scan.specs.declared.State.TheVariants.{Complete}
use Rattle.scan.specs.Record.{list_of}
use Rattle.xid.specs.Meaning.{EndOf}
use Rattle.identity.specs.Identity.{unpadded}
use Rattle.identity.proofs.Identities.{unpadded-padded}
use Rattle.bus.specs.Cable.{identity_in, padded_in, Cabled, after_line, after_lines}
use Rattle.bus.specs.Scanning.{scanned}
use Rattle.bus.specs.Install.{assigning, assignments, assigned_all, NoRightEnd}
use Rattle.bus.proofs.Hears.{row-lines}
use Rattle.bus.proofs.Heard.{identity-allowed}
use Rattle.bus.proofs.Scans.{scan-complete, scan-unchanged}
use Rattle.bus.proofs.Each.{each, Listed, listed_more, line_kept, taken, whole-end, each_holds}
use Rattle.bus.proofs.Installs.{row_listed}
use Rattle.bus.proofs.Ascends.{lower-one-way, one-order}
use Rattle.bus.proofs.Job.{list-ascending, list-members}

pub pair-allowed : (d e : Device) → allowed_device d ≡ true → allowed_device e ≡ true → (b : Device)
    → Memᴰ b (d ∷ e ∷ []) → allowed_device b ≡ true
pair-allowed d e good fine b m =
    elim (Memᴰ.cases_cons m)
    [ inl q ↦ ap allowed_device q ∙ good | inr t ↦ ap allowed_device (Memᴰ.eq_of_singleton t) ∙ fine ]

-- the first one's identity is the lower
module _ (d e : Device) (good : allowed_device d ≡ true) (fine : allowed_device e ≡ true)
    (up : lower (padded_in d) (padded_in e) ≡ true) (limit : ℕ) (long : 609 ≤ limit) where
  abbrev pair : List Device
  pair = d ∷ e ∷ []

  abbrev both : List (List ℕ)
  both = padded_in d ∷ padded_in e ∷ []

  both-ascend : Ascending lower both
  both-ascend = (
    λ y m. ap (lower (padded_in d)) (Memᴰ.eq_of_singleton m) ∙ up,
    ((λ y m. absurd (Memᴰ.not-nil m)), tt),
  )

  cabled : Cabled pair
  cabled = record { allowed = pair-allowed d e good fine; apart = (apart, ((λ m. Memᴰ.not-nil m), tt)) }
    where
      apart : Memᴰ (padded_in d) (padded_in e ∷ []) → ⊥
      apart m =
          let self : lower (padded_in d) (padded_in d) ≡ true = rw (← Memᴰ.eq_of_singleton m) at up in
          lower-one-way (padded_in d) (padded_in d) self self

  listed : Listed 1 both
  listed = row_listed pair cabled both (omega arith) (λ x. (λ m. m, λ m. m))

  pub pair-complete : (scanned limit pair).scan.state ≡ Complete
  pair-complete = scan-complete pair cabled limit (omega arith) (omega arith)

  pub pair-list : list_of (scanned limit pair).scan ≡ both
  pair-list =
      one-order (list_of (scanned limit pair).scan) both (list-ascending limit pair cabled pair-complete) both-ascend
      (list-members limit pair cabled pair-complete)

  -- the second is the right end of the first: both take its address
  pub pair-moved : EndOf (identity_in d) (identity_in e)
      → map (λ (b : Device). b.station.desk.address)
      (assigned_all (list_of (scanned limit pair).scan) (scanned limit pair).devices)
      ≡ 2 ∷ 2 ∷ []
  unfolding after_lines assignments emptied_as unsaid_at
  pair-moved w =
      rw (pair-list, scan-unchanged pair cabled limit, row-lines (assignments 1 both) pair)
      (ap₂ (λ (m n : ℕ). m ∷ n ∷ []) (late d good w) (late e fine (whole-end (identity_in e))))
    where
      late : (b : Device) → allowed_device b ≡ true → EndOf (identity_in b) (identity_in e)
          → (each 1 both b).station.desk.address ≡ 2
      late b a v =
          let kept = line_kept 1 (padded_in d) (padded_in e ∷ []) listed b a in
          let own : identity_in (after_line b (assigning 1 (padded_in d))) ≡ identity_in b = ap identity_of kept.plate in
          let end : EndOf (identity_in (after_line b (assigning 1 (padded_in d)))) (unpadded (padded_in e)) =
          rw (own, unpadded-padded (identity_in e) (identity-allowed e fine)) v in
          ap (λ (z : Device). z.station.desk.address)
          (taken 2 (padded_in e) [] (listed_more listed) (after_line b (assigning 1 (padded_in d))) kept.allowed end)

  -- it is not: each has its own
  pub pair-kept : (EndOf (identity_in d) (identity_in e) → ⊥)
      → map (λ (b : Device). b.station.desk.address)
      (assigned_all (list_of (scanned limit pair).scan) (scanned limit pair).devices)
      ≡ 1 ∷ 2 ∷ []
  pair-kept other =
      rw (pair-list, scan-unchanged pair cabled limit, row-lines (assignments 1 both) pair)
      (ap₂ (λ (m n : ℕ). m ∷ n ∷ []) (held d good 0 (omega arith) refl) (held e fine 1 (omega arith) refl))
    where
      apart : NoRightEnd both
      apart = (
        λ y m w.
            other
            (rw (
              ← unpadded-padded (identity_in d) (identity-allowed d good),
              ← unpadded-padded (identity_in e) (identity-allowed e fine),
              ← Memᴰ.eq_of_singleton m,
            )
            w),
        ((λ y m w. Memᴰ.not-nil m), tt),
      )

      held : (b : Device) → allowed_device b ≡ true → (k : ℕ) → k < 2 → padded_in b ≡ get_or both k []
          → (each 1 both b).station.desk.address ≡ 1 + k
      held b a k h p = (each_holds both 1 b listed a apart k h p).0
