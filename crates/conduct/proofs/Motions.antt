-- What a frame does to the motion: a tilt that is due starts it, a waiting result that is collected waits no more, an
-- end drops what is owed, and no other frame changes it. So a frame makes a movement towards t owed exactly where it is
-- due and asks t. This holds of any record, allowed or not. Assumes nothing.
use mathlib.Core.Path.{◌≡◌, refl, sym, ap, ◌∙◌}
use mathlib.Core.Bool.{Bool}
use mathlib.Core.List.{List}
use mathlib.Core.Logic.{◌↔◌, ◌⊎◌, inl, inr}
use Prim.Native.Nat.{ℕ}
use native.Mathlib.Omega.{arith}
use lib.ListN.{drop}
use Rattle.antenna.specs.declared.Angle.{Angle}
use Rattle.antenna.specs.declared.Motion.{Motion}
use Rattle.antenna.specs.declared.Motion.TheVariants.{Still, Moving, Owing, Stopped}
use Rattle.antenna.specs.Motions.{unowed_of, moves}
use Rattle.antenna.proofs.Movements.{idle}
use Rattle.record.specs.declared.Device.{Device}
use Rattle.record.specs.Changes.{device_of, emptied_as, limited_to}
use Rattle.acknowledge.specs.Acknowledge.{acknowledged}
use Rattle.message.specs.Messages.{asked_of}
use Rattle.message.specs.Carried.{quieted}
use Rattle.conduct.specs.Conduct.{after, TiltDue}
use Rattle.conduct.specs.Endings.{Drops}
use Rattle.conduct.specs.Comes.{Comes, left}
use Rattle.conduct.specs.Account.{Delivers}
use Rattle.conduct.proofs.Comes.{comes-leaves}
use Rattle.conduct.proofs.Ends.{drops-as}
use Rattle.conduct.proofs.Leaves.{after-cases}

still-apart : {t : Angle} → Still ≡ Owing t → ⊥
still-apart e = let z : ◌≡◌ {A = ℕ} 0 1 = cc in omega arith

same_asked : {t u : Angle} → Owing t ≡ Owing u → t ≡ u
same_asked e = cc

-- nothing is owed once it is dropped
unowed-apart : (m : Motion) {t : Angle} → unowed_of m ≡ Owing t → ⊥
unowed-apart Still e = still-apart e
unowed-apart Moving e = let z : ◌≡◌ {A = ℕ} 0 1 = cc in omega arith
unowed-apart (Owing asked) e = let z : ◌≡◌ {A = ℕ} 0 1 = cc in omega arith
unowed-apart (Stopped reached) e = still-apart e

module _ (d : Device) (f : List ℕ) where
  pub motion-cases : ((after d f).antenna.motion ≡ d.antenna.motion)
      ⊎ (TiltDue d f ⊎ (((reached : Bool) × Delivers d f reached) ⊎ Drops d f))
  unfolding device_of limited_to acknowledged quieted
  motion-cases =
      after-cases d f
      (λ (e : Device).
      (e.antenna.motion ≡ d.antenna.motion)
      ⊎ (TiltDue d f ⊎ (((reached : Bool) × Delivers d f reached) ⊎ Drops d f)))
      (inl refl) (λ a w. inr (inr (inr (inr (inr (a, w)))))) (λ ps w m. inl refl) (λ w n l. inr (inr (inr w)))
      (λ o r s e w. inl refl)
      (λ s n r w. inl refl) (λ w. inr (inl w)) (λ w. inl refl) (λ w. inl refl) (λ w b. inl refl)
      (λ b w. inr (inr (inl (b, w)))) (λ w. inl refl)

  pub motion-started : TiltDue d f
      → (d.antenna.motion ≡ Still) × ((after d f).antenna.motion ≡ Owing (asked_of (drop 2 f)))
  unfolding left device_of moves
  motion-started w = (
    idle d.antenna.motion w.message.idle,
    ap (λ (e : Device). e.antenna.motion)
        (comes-leaves d f (Comes.starts w.session w.ns w.nr w.frame w.message)),
  )

  pub motion-delivered : (reached : Bool) → Delivers d f reached → (after d f).antenna.motion ≡ Still
  unfolding left device_of moves
  motion-delivered reached w =
      let c = w.collects in
      ap (λ (e : Device). e.antenna.motion)
      (comes-leaves d f (Comes.delivers c.session c.nr reached c.numbered c.free w.waits))

  pub motion-dropped : Drops d f → (after d f).antenna.motion ≡ unowed_of d.antenna.motion
  unfolding emptied_as moves
  motion-dropped w = let (a, n, l, none, is) = drops-as d f w in ap (λ (e : Device). e.antenna.motion) is

  module _ (t : Angle) where
    -- of all frames, only the one that asks t makes it owed
    owing-due : (after d f).antenna.motion ≡ Owing t → (d.antenna.motion ≡ Owing t → ⊥)
        → ((after d f).antenna.motion ≡ d.antenna.motion)
        ⊎ (TiltDue d f ⊎ (((reached : Bool) × Delivers d f reached) ⊎ Drops d f))
        → TiltDue d f × (asked_of (drop 2 f) ≡ t)
    owing-due e new (inl same) = absurd (new (sym same ∙ e))
    owing-due e new (inr (inl w)) = (w, same_asked (sym (motion-started w).1 ∙ e))
    owing-due e new (inr (inr (inl (b, w)))) = absurd (still-apart (sym (motion-delivered b w) ∙ e))
    owing-due e new (inr (inr (inr w))) =
        absurd (unowed-apart d.antenna.motion (sym (motion-dropped w) ∙ e))

    -- a frame makes a movement towards t owed exactly where it is due and asks t
    pub owing-exactly : (((after d f).antenna.motion ≡ Owing t) × (d.antenna.motion ≡ Owing t → ⊥))
        ↔ (TiltDue d f × (asked_of (drop 2 f) ≡ t))
    owing-exactly = (
      λ e. owing-due e.0 e.1 motion-cases,
      λ w. (
        (motion-started w.0).1 ∙ ap Owing w.1,
        λ e. still-apart (sym (motion-started w.0).0 ∙ e),
      ),
    )
