-- At a flag, of any record, also one that no receiver made: when something is handed out, and which number "exactly then".
--   flag_rows N h == the rows of the numbers that can be handed out
-- Assumes nothing.
use mathlib.Core.Path.{◌≡◌, refl, sym, ap, ◌∙◌}
use mathlib.Core.Bool.{true, false, not}
use mathlib.Core.List.{List, [], ◌∷◌, ◌++◌}
use mathlib.Core.Logic.{◌↔◌, ◌⊎◌, ⊎_map}
use Prim.Native.Nat.{ℕ, ◌<◌, ◌≤◌}
use borrow.Author.Tests.{ltb-true, ltb-false, lt-ltb, le-ltb, eqb-true, eq-eqb, not-true, not-false}
use lib.Dec.{ltb}
use lib.ListN.{length}
use Rattle.octets.specs.Octets.{holds}
use Rattle.octets.proofs.Words.{and_parts, holds-tail}
use Rattle.refusal.specs.Answer.{gives, refuses, TestRow, ◌when◌, answered, Clear, numbers_of}
use Rattle.refusal.proofs.Exactly.{TestsFor, exactly-tests, exactly-given}
use Rattle.limits.specs.Limits.{frame_most}
use Rattle.frame.specs.Line.{flag}
use Rattle.frame.specs.Decode.{body, right_check}
use Rattle.receiver.specs.Held.{Held, fresh_marks, after_flag, after_octet, closes, stretch_says}
use Rattle.live.specs.Calls.{after_all, hand_outs}
use Rattle.live.proofs.Steps.{after-dropped, closes-flag, outs-open, other-first, outs-append, outs-none}
use Rattle.live.proofs.Answered.{held_octets, fitting_rows, says-fitting}

unfoldable flag_rows : ℕ → Held → List TestRow
flag_rows N h =
    4 when h.marks.last
    ∷ 2 when h.marks.more
    ∷ 1 when ltb (length (held_octets h)) 4
    ∷ 2 when ltb N (length (held_octets h))
    ∷ 3 when not (right_check (held_octets h))
    ∷ []

module _ (N room : ℕ) (h : Held) (fits : frame_most N ≤ room) where
  abbrev d : List ℕ
  d = held_octets h

  says-rows : stretch_says N room h ≡ answered (flag_rows N h) (body d)
  unfolding answered fitting_rows flag_rows
  says-rows = says-fitting N room h fits

  by_tests : (k : ℕ) → stretch_says N room h ≡ refuses k ↔ TestsFor k (flag_rows N h)
  by_tests k =
      let e = exactly-tests k (flag_rows N h) (body d) in
      (λ q. e.0 (sym says-rows ∙ q), λ w. says-rows ∙ e.1 w)

  -- 4: the last raw octet was 0x7D
  pub flag-4 : stretch_says N room h ≡ refuses 4 ↔ h.marks.last ≡ true
  unfolding flag_rows TestsFor numbers_of holds
  flag-4 = by_tests 4

  -- 2: more octets than the store has places, or more than N, and not 4 or 1
  pub flag-2 : stretch_says N room h ≡ refuses 2
      ↔ (h.marks.last ≡ false) × ((h.marks.more ≡ true) ⊎ ((h.marks.more ≡ false) × (4 ≤ length d) × (N < length d)))
  unfolding flag_rows TestsFor numbers_of holds
  flag-2 = (
    λ e.
        let g = (by_tests 2).0 e in
        (g.0, ⊎_map (λ q. q) (λ w. (w.0, ltb-false _ _ w.1.0, ltb-true _ _ w.1.1)) g.1),
    λ w.
        (by_tests 2).1 (w.0, ⊎_map (λ q. q) (λ v. (v.0, (le-ltb _ _ v.1, lt-ltb _ _ v.2))) w.1),
  )

  -- 1: fewer than 4, and neither of those
  pub flag-1 : stretch_says N room h ≡ refuses 1
      ↔ (h.marks.last ≡ false) × (h.marks.more ≡ false) × (length d < 4)
  unfolding flag_rows TestsFor numbers_of holds
  flag-1 = (
    λ e. let g = (by_tests 1).0 e in (g.0, g.1.0, ltb-true _ _ g.1.1),
    λ w. (by_tests 1).1 (w.0, (w.1, lt-ltb _ _ w.2)),
  )

  -- 3: a wrong check, and none of those
  pub flag-3 : stretch_says N room h ≡ refuses 3
      ↔ (h.marks.last ≡ false) × (h.marks.more ≡ false) × (4 ≤ length d) × (length d ≤ N) × (right_check d ≡ false)
  unfolding flag_rows TestsFor numbers_of holds
  flag-3 = (
    λ e.
        let g = (by_tests 3).0 e in
        let t = g.1.1 in
        (g.0, g.1.0, ltb-false _ _ t.0, ltb-false _ _ t.1.0, not-true _ t.1.1),
    λ w. (by_tests 3).1 (w.0, (w.1, (le-ltb _ _ w.2, (le-ltb _ _ w.3, ap not w.4)))),
  )

  -- a frame: none of the numbers; and it is the octets that are held but for the last two
  pub flag-frame : (b : List ℕ) → stretch_says N room h ≡ gives b
      ↔ (h.marks.last ≡ false) × (h.marks.more ≡ false) × (4 ≤ length d) × (length d ≤ N) × (right_check d ≡ true)
      × (b ≡ body d)
  unfolding flag_rows Clear
  flag-frame b =
      let g = exactly-given (flag_rows N h) (body d) b in (
        λ e.
            let (c, is) = g.0 (sym says-rows ∙ e) in
            let t = c.1.1 in
            (c.0, c.1.0, ltb-false _ _ t.0, ltb-false _ _ t.1.0, not-false _ t.1.1.0, sym is),
        λ w.
            says-rows
            ∙ g.1 ((w.0, (w.1, (le-ltb _ _ w.2, (le-ltb _ _ w.3, (ap not w.4, tt))))), sym w.5),
      )

-- something is handed out at a flag, where one was seen before and a raw octet came since, and nowhere else
pub closes-exactly : (h : Held) (x : ℕ)
    → closes h x ≡ true ↔ (x ≡ flag) × (h.marks.seen ≡ true) × (h.marks.any ≡ true)
unfolding closes
closes-exactly h x = (
  λ e.
      let (f, w) = and_parts _ _ e in
      let (seen, any) = and_parts _ _ w in
      (eqb-true x flag f, seen, any),
  λ w. closes-flag h x (eq-eqb x flag w.0) w.1 w.2,
)

-- "octets before the first flag are dropped", and nothing is handed out at it
dropped-all : (h : Held) (p : List ℕ) → h.marks.seen ≡ false → holds flag p ≡ false → after_all h p ≡ h
unfolding after_all
dropped-all h [] none f = refl
dropped-all h (x ∷ p) none f =
    ap (λ (g : Held). after_all g p) (after-dropped h x (other-first x p f) none)
    ∙ dropped-all h p none (holds-tail flag x p f)

pub unseen-dropped : (N : ℕ) (h : Held) (p : List ℕ) → h.marks.seen ≡ false → holds flag p ≡ false
    → (after_all h p ≡ h) × (hand_outs N h (p ++ flag ∷ []) ≡ [])
unfolding hand_outs
unseen-dropped N h p none f =
    let same = dropped-all h p none f in (
      same,
      outs-append N h p (flag ∷ [])
          ∙ ap (λ (l : List _). l ++ hand_outs N (after_all h p) (flag ∷ [])) (outs-none N h p f)
          ∙ ap (λ (g : Held). hand_outs N g (flag ∷ [])) same
          ∙ outs-open h flag N [] (closes-flag h flag refl none refl),
    )

-- the record before any octet holds nothing, and no flag was seen
pub fresh-words : (fresh_marks.count ≡ 0) × (fresh_marks.more ≡ false) × (fresh_marks.escaping ≡ false)
    × (fresh_marks.last ≡ false) × (fresh_marks.any ≡ false) × (fresh_marks.seen ≡ false)
fresh-words = (refl, refl, refl, refl, refl, refl)

-- the record after a flag holds nothing, and a flag was seen; the store is as it was
pub flag-words : (h : Held) → let g : Held = after_octet h flag in
    (g.marks.count ≡ 0) × (g.marks.more ≡ false) × (g.marks.escaping ≡ false) × (g.marks.last ≡ false)
    × (g.marks.any ≡ false) × (g.marks.seen ≡ true) × (g.store ≡ h.store)
unfolding after_octet after_flag
flag-words h = (refl, refl, refl, refl, refl, refl, refl)
