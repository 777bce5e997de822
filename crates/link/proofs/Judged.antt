-- Which sizes are wrong; a frame of a right one goes by its address, its control and what is behind them. Assumes
-- nothing.
use mathlib.Core.Path.{◌≡◌, refl, sym, ap, ◌∙◌}
use mathlib.Core.Bool.{Bool, true, false, ◌||◌, or-true}
use mathlib.Core.Logic.{◌↔◌, ◌⊎◌, inl, inr, ⊎_elim}
use mathlib.Core.List.{List}
use Prim.Native.Nat.{ℕ, ◌-◌, ◌<◌, ◌≤◌}
use borrow.Author.Tests.{lt-ltb, le-ltb, ltb-true, ltb-false}
use lib.Dec.{ltb}
use lib.ListN.{length, get_or, take, drop}
use Rattle.limits.specs.Limits.{frame_most}
use Rattle.octets.proofs.Takes.{take_rest}
use Rattle.octets.proofs.Words.{true-not-false}
use Rattle.record.specs.declared.Device.{Device}
use Rattle.record.specs.Allowed.{limit_of}
use Rattle.station.specs.declared.Turn.{Turn}
use Rattle.station.specs.Turns.{mute}
use Rattle.link.specs.Link.{controlled_by, wrong_size, judged_frame}

module _ (N : ℕ) (f : List ℕ) where
  -- "fewer than 2 or more than 76 octets", and N - 2 for 76
  pub wrong-size-exactly : wrong_size N f ≡ true ↔ (length f < 2) ⊎ (N - 2 < length f)
  unfolding wrong_size
  wrong-size-exactly = (
    go (ltb (length f) 2) refl,
    ⊎_elim (λ h. rw (lt-ltb (length f) 2 h)) (λ h. rw (lt-ltb (frame_most N) (length f) h) (or-true (ltb (length f) 2))),
  )
    where
      go : (b : Bool) → ltb (length f) 2 ≡ b → b || ltb (frame_most N) (length f) ≡ true
          → (length f < 2) ⊎ (frame_most N < length f)
      go true e h = inl (ltb-true (length f) 2 e)
      go false e h = inr (ltb-true (frame_most N) (length f) h)

  pub size-right : wrong_size N f ≡ false → (2 ≤ length f) × (length f ≤ frame_most N)
  unfolding wrong_size
  size-right = go (ltb (length f) 2) refl
    where
      go : (b : Bool) → ltb (length f) 2 ≡ b → b || ltb (frame_most N) (length f) ≡ false
          → (2 ≤ length f) × (length f ≤ frame_most N)
      go true e h = absurd (true-not-false h)
      go false e h = (ltb-false (length f) 2 e, ltb-false (frame_most N) (length f) h)

  pub size_fits : 2 ≤ length f → length f ≤ frame_most N → wrong_size N f ≡ false
  unfolding wrong_size
  size_fits two most = rw (le-ltb (length f) 2 two, le-ltb (frame_most N) (length f) most)

module _ (d : Device) (f : List ℕ) where
  missized : wrong_size (limit_of d) f ≡ true → mute d ≡ judged_frame d f
  unfolding judged_frame
  missized e = rw e

  pub too_short : length f < 2 → mute d ≡ judged_frame d f
  too_short h = missized ((wrong-size-exactly (limit_of d) f).1 (inl h))

  pub too_long : frame_most (limit_of d) < length f → mute d ≡ judged_frame d f
  too_long h = missized ((wrong-size-exactly (limit_of d) f).1 (inr h))

module _ (d : Device) (f : List ℕ) (two : 2 ≤ length f) (most : length f ≤ frame_most (limit_of d)) where
  pub judged-is : judged_frame d f ≡ controlled_by d (get_or f 0 0) (get_or f 1 0) (drop 2 f)
  unfolding judged_frame
  judged-is = rw (size_fits (limit_of d) f two most)

  pub judged-by : (t : Turn) → t ≡ controlled_by d (get_or f 0 0) (get_or f 1 0) (take (length f - 2) (drop 2 f))
      → t ≡ judged_frame d f
  judged-by t e =
      e
      ∙ ap (controlled_by d (get_or f 0 0) (get_or f 1 0))
      (take_rest 2 f)
      ∙ sym judged-is
