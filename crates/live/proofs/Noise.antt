-- Resynchronisation. 02 (i): "After any noise, the next flag and what follows it are read as by a fresh receiver, save that
-- this flag may also close the noisy stretch": whatever record the noise left behind.
--   Resynchronised N h fresh noise s == the records h and fresh over the octets noise, which hold no flag, a flag and s
-- Assumes nothing.
use mathlib.Core.Path.{◌≡◌, refl, sym, ap, ap₂, ◌∙◌}
use mathlib.Core.Bool.{Bool, true, false, cond}
use mathlib.Core.List.{List, [], ◌∷◌, ◌++◌}
use Prim.Native.Nat.{ℕ, ◌≤◌}
use native.Mathlib.Omega.{arith}
use lib.Dec.{eqb}
use lib.ListN.{length, take}
use Rattle.octets.specs.Octets.{holds}
use Rattle.refusal.specs.Answer.{Answer, ◌when◌, answered}
use Rattle.limits.specs.Limits.{frame_most}
use Rattle.frame.specs.Line.{flag, plain_after}
use Rattle.frame.specs.Decode.{body, decode_rows}
use Rattle.receiver.specs.Held.{Held, Usable, places, added_by, taken_in, raw, after_flag, after_octet, closes, stretch_says}
use Rattle.receiver.specs.declared.Receiver.{Receiver}
use Rattle.receiver.proofs.After.{after-usable}
use Rattle.live.specs.Calls.{after_all, hand_outs, Alike}
use Rattle.live.proofs.Decoder.{take-sets}
use Rattle.live.proofs.Steps.{fresh, after_all-usable, after-append, outs-append, outs-none}

-- what holds of both pairs holds by the same test
either-two : (R : Held → Held → Type 0) (s : Bool) {t : Bool} {h h' g g' : Held} → s ≡ t → R h g → R h' g'
    → R (cond s h h') (cond t g g')
either-two R true e a b = rw (← e) a
either-two R false e a b = rw (← e) b

module _ (h g : Held) (x : ℕ) (u : Usable h) (v : Usable g) (a : Alike h g) where
  alike-added : added_by h x ≡ added_by g x
  unfolding added_by
  alike-added = ap (λ (k : Receiver). plain_after k.escaping (x ∷ [])) a.0

  alike-taken : Alike (taken_in h x) (taken_in g x)
  unfolding taken_in added_by
  alike-taken = (
    ap (λ (k : Receiver). (taken_in (record { marks = k; store = [] }) x).marks) a.0,
    take-sets places (added_by h x) h.store h.marks.count u.0 u.1
        ∙ ap₂ (λ (l w : List ℕ). take places (l ++ w)) a.1 alike-added
        ∙ sym (take-sets places (added_by g x) g.store g.marks.count v.0 v.1),
  )

  pub alike-after : Alike (after_octet h x) (after_octet g x)
  unfolding after_octet raw after_flag
  alike-after =
      either-two Alike (eqb x flag) refl (refl, refl)
      (either-two Alike h.marks.seen (ap (λ (k : Receiver). k.seen) a.0) alike-taken a)

  alike-closes : closes h x ≡ closes g x
  unfolding closes
  alike-closes = ap (λ (k : Receiver). closes (record { marks = k; store = [] }) x) a.0

pub alike-says : (N room : ℕ) (h g : Held) → Alike h g → stretch_says N room h ≡ stretch_says N room g
unfolding stretch_says
alike-says N room h g a =
    ap₂ (λ (k : Receiver) (d : List ℕ). answered (4 when k.last ∷ 2 when k.more ∷ decode_rows N false d room) (body d))
    a.0 a.1

-- records that are alike hand out the same, and stay alike
pub alike-outs : (N : ℕ) (h g : Held) (s : List ℕ) → Usable h → Usable g → Alike h g
    → (hand_outs N h s ≡ hand_outs N g s) × Alike (after_all h s) (after_all g s)
unfolding hand_outs after_all
alike-outs N h g [] u v a = (refl, a)
alike-outs N h g (x ∷ s) u v a =
    let less = alike-outs N (after_octet h x) (after_octet g x) s (after-usable h x u) (after-usable g x v) (alike-after h g x u v a) in
    (rw (alike-closes h g x u v a, alike-says N (frame_most N) h g a, less.0), less.1)

pub record Resynchronised (N : ℕ) (h fresh : Held) (noise s : List ℕ) : Type 0 where
  pub first : List (Answer (List ℕ))
  pub closed : first ≡ cond (closes (after_all h noise) flag) (stretch_says N (frame_most N) (after_all h noise) ∷ []) []
  pub most-one : length first ≤ 1
  pub none_before : hand_outs N h noise ≡ []
  pub outs : hand_outs N h (noise ++ flag ∷ s) ≡ first ++ hand_outs N fresh (flag ∷ s)
  pub alike : Alike (after_all h (noise ++ flag ∷ s)) (after_all fresh (flag ∷ s))

-- at most one
length-cond : (t : Bool) (a : Answer (List ℕ)) → length (cond t (a ∷ []) []) ≤ 1
length-cond true a = omega arith
length-cond false a = omega arith

-- a flag makes all records alike
alike-flag : (h g : Held) → Alike (after_octet h flag) (after_octet g flag)
unfolding after_octet after_flag
alike-flag h g = (refl, refl)

-- (c): over octets without a flag nothing is handed out, at the flag at most one answer, and from there on what a fresh
-- receiver hands out
pub resynchronised : (N : ℕ) (h : Held) (m noise s : List ℕ) → Usable h → length m ≡ places → holds flag noise ≡ false
    → Resynchronised N h (fresh m) noise s
unfolding hand_outs after_all closes
resynchronised N h m noise s u e f =
    let g : Held = after_all h noise in
    let both = alike-outs N (after_octet g flag) (after_octet (fresh m) flag) s
    (after-usable g flag (after_all-usable h noise u)) (after-usable (fresh m) flag (e, omega arith))
    (alike-flag g (fresh m)) in
    record {
      first = hand_outs N g (flag ∷ []);
      closed = refl;
      most-one = length-cond (closes g flag) (stretch_says N (frame_most N) g);
      none_before = outs-none N h noise f;
      outs =
          outs-append N h noise (flag ∷ s)
          ∙ ap (λ (l : List (Answer (List ℕ))). l ++ hand_outs N g (flag ∷ s)) (outs-none N h noise f)
          ∙ outs-append N g (flag ∷ []) s
          ∙ ap (λ (l : List (Answer (List ℕ))). hand_outs N g (flag ∷ []) ++ l) both.0;
      alike = rw (after-append h noise (flag ∷ s)) both.1;
    }
