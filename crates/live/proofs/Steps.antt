-- What one octet does to a record, and what octets do one behind the other.
--   fresh m == the record before any octet, with the store m
-- Assumes nothing.
use mathlib.Core.Path.{◌≡◌, refl, ap, ap₂, ◌∙◌}
use mathlib.Core.Bool.{Bool, true, false, cond, ◌&&◌}
use mathlib.Core.List.{List, [], ◌∷◌, ◌++◌}
use Prim.Native.Nat.{ℕ}
use borrow.Author.Tests.{ne_eqb}
use lib.Dec.{eqb}
use Rattle.octets.specs.Octets.{holds}
use Rattle.octets.proofs.Words.{holds-head, holds-tail}
use Rattle.limits.specs.Limits.{frame_most}
use Rattle.frame.specs.Line.{flag}
use Rattle.receiver.specs.Held.{Held, Usable, fresh_marks, taken_in, raw, after_octet, closes, stretch_says}
use Rattle.receiver.proofs.After.{after-usable, after-other, closes-other}
use Rattle.live.specs.Calls.{after_all, hand_outs}

abbrev pub fresh : List ℕ → Held
fresh m = record { marks = fresh_marks; store = m }

module _ (h : Held) (x : ℕ) where
  pub after-taken : eqb x flag ≡ false → h.marks.seen ≡ true → after_octet h x ≡ taken_in h x
  unfolding raw
  after-taken e s = after-other h x e ∙ ap (λ (b : Bool). cond b (taken_in h x) h) s

  pub after-dropped : eqb x flag ≡ false → h.marks.seen ≡ false → after_octet h x ≡ h
  unfolding raw
  after-dropped e s = after-other h x e ∙ ap (λ (b : Bool). cond b (taken_in h x) h) s

  pub closes-flag : {s a : Bool} → eqb x flag ≡ true → h.marks.seen ≡ s → h.marks.any ≡ a → closes h x ≡ (s && a)
  unfolding closes
  closes-flag e s a = rw e (ap₂ (λ (b c : Bool). b && c) s a)

  module _ (N : ℕ) (xs : List ℕ) where
    pub outs-closed : closes h x ≡ true
        → hand_outs N h (x ∷ xs) ≡ stretch_says N (frame_most N) h ∷ hand_outs N (after_octet h x) xs
    unfolding hand_outs
    outs-closed e = rw e

    pub outs-open : closes h x ≡ false → hand_outs N h (x ∷ xs) ≡ hand_outs N (after_octet h x) xs
    unfolding hand_outs
    outs-open e = rw e

pub other-first : (x : ℕ) (s : List ℕ) → holds flag (x ∷ s) ≡ false → eqb x flag ≡ false
other-first x s f = ne_eqb x flag (holds-head flag x s f)

pub after_all-usable : (h : Held) (s : List ℕ) → Usable h → Usable (after_all h s)
unfolding after_all
after_all-usable h [] u = u
after_all-usable h (x ∷ xs) u = after_all-usable (after_octet h x) xs (after-usable h x u)

pub after-append : (h : Held) (a b : List ℕ) → after_all h (a ++ b) ≡ after_all (after_all h a) b
unfolding after_all
after-append h [] b = refl
after-append h (x ∷ a) b = after-append (after_octet h x) a b

-- one more in front, or not
pub front-append : {A : Type 0} (t : Bool) (a : A) (l m : List A) → cond t (a ∷ (l ++ m)) (l ++ m) ≡ cond t (a ∷ l) l ++ m
front-append true a l m = refl
front-append false a l m = refl

module _ (N : ℕ) where
  pub outs-append : (h : Held) (a b : List ℕ)
      → hand_outs N h (a ++ b) ≡ hand_outs N h a ++ hand_outs N (after_all h a) b
  unfolding hand_outs after_all
  outs-append h [] b = refl
  outs-append h (x ∷ a) b =
      rw (outs-append (after_octet h x) a b) (front-append (closes h x) _ (hand_outs N (after_octet h x) a) _)

  -- nothing is handed out without a flag
  pub outs-none : (h : Held) (s : List ℕ) → holds flag s ≡ false → hand_outs N h s ≡ []
  unfolding hand_outs
  outs-none h [] f = refl
  outs-none h (x ∷ s) f =
      outs-open h x N s (closes-other h x (other-first x s f))
      ∙ outs-none (after_octet h x) s (holds-tail flag x s f)
