-- What a record tells of the walk that it stands for: its count, state, beginning and list. Assumes nothing.
use mathlib.Core.Path.{◌≡◌, refl, sym, ap, ◌∙◌}
use mathlib.Core.Bool.{true}
use mathlib.Core.List.{List}
use Prim.Native.Nat.{ℕ}
use lib.ListN.{length, drop}
use lib.Seq.{take-append_seam}
use Rattle.walk.specs.Machine.{Phase, asking, complete, doubtful, limited, full, Ended, named, Walk}
use Rattle.scan.specs.Record.{flat, phase_of, state_of, beginning_of, list_of}
use Rattle.scan.specs.Scan.{ended}
use Rattle.scan.specs.declared.Scan.{Scan}
use Rattle.scan.specs.declared.State.{State}
use Rattle.scan.specs.declared.State.TheVariants.{Complete, Doubtful, Limit, Full}
use Rattle.scan.proofs.Rows.{rows-flat}
use Rattle.whole_scan.proofs.Drives.{Driven, phase-back}

-- a phase by its state and the beginning that it names
pub phase-of : (x : Phase) {t : State} → state_of x ≡ t → x ≡ phase_of t (named x)
phase-of x e = sym (phase-back x) ∙ ap (λ (t : State). phase_of t (named x)) e

pub full-of : (x : Phase) → state_of x ≡ Full → x ≡ full (named x)
unfolding phase_of
full-of x e = phase-of x e

pub limit-of : (x : Phase) → state_of x ≡ Limit → x ≡ limited (named x)
unfolding phase_of
limit-of x e = phase-of x e

pub complete-of : (x : Phase) → state_of x ≡ Complete → x ≡ complete
unfolding phase_of
complete-of x e = phase-of x e

pub doubtful-of : (x : Phase) → state_of x ≡ Doubtful → x ≡ doubtful
unfolding phase_of
doubtful-of x e = phase-of x e

pub ended_of : (x : Phase) → Ended x → ended (state_of x) ≡ true
unfolding ended state_of
ended_of (asking p q w) h = absurd h
ended_of complete h = refl
ended_of doubtful h = refl
ended_of (limited p) h = refl
ended_of (full p) h = refl

module _ {r : Scan} {v : Walk (List ℕ)} (d : Driven r v) where
  pub count-is : r.count ≡ v.count
  count-is = ap (λ (s : Scan). s.count) d.is

  pub state-is : r.state ≡ state_of v.phase
  state-is = ap (λ (s : Scan). s.state) d.is

  pub beginning-is : beginning_of r ≡ named v.phase
  beginning-is =
      ap beginning_of d.is
      ∙ take-append_seam (named v.phase) (drop (length (named v.phase)) d.base.beginning)

  pub list-is : list_of r ≡ v.listed
  list-is =
      ap list_of d.is ∙ rows-flat v.listed (drop (length (flat v.listed)) d.base.list) d.wide
