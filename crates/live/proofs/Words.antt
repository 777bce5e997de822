-- One octet that is no flag, of any record that is not refused and has seen a flag, in words: what it makes of each field.
-- Assumes nothing.
use mathlib.Core.Path.{◌≡◌, refl, ap, ◌∙◌}
use mathlib.Core.Bool.{Bool, true, false, not, ◌&&◌, ◌||◌, or-false, or-true}
use mathlib.Core.List.{List, [], ◌∷◌, ◌++◌}
use Prim.Native.Nat.{ℕ, ◌+◌, ◌<◌}
use native.Mathlib.Omega.{arith}
use borrow.Author.Tests.{eq-eqb, ne_eqb, lt-ltb, le-ltb}
use lib.Bits.{bit_xor}
use lib.Dec.{eqb, ltb}
use lib.ListN.{length, take, length-take, length-append}
use lib.Seq.{sets, take_all}
use Rattle.octets.proofs.Stores.{sets-past}
use Rattle.frame.specs.Line.{flag, escape, toggle, plain_after}
use Rattle.receiver.specs.Held.{Held, Usable, places, added_by, taken_in, after_octet}
use Rattle.live.proofs.Steps.{after-taken}
use Rattle.live.proofs.Answered.{held_octets}
use Rattle.live.proofs.Decoder.{take-sets}

-- the decoded octet y is put behind those that are held, where there is a place; where there is none, more came
abbrev pub Placed : Held → ℕ → Held → Type 0
Placed h y g =
    (g.marks.escaping ≡ false)
    × (h.marks.count < 260
    → (g.marks.count ≡ h.marks.count + 1) × (g.marks.more ≡ h.marks.more) × (held_octets g ≡ held_octets h ++ y ∷ []))
    × (h.marks.count ≡ 260
    → (g.marks.count ≡ 260) × (g.marks.more ≡ true) × (g.store ≡ h.store))

module _ (h : Held) (x : ℕ) (u : Usable h) where
  -- what a raw octet adds: itself with 0x20 exclusive-ored in, itself, or nothing
  added-behind : h.marks.escaping ≡ true → added_by h x ≡ bit_xor x toggle ∷ []
  unfolding added_by plain_after
  added-behind f = ap (λ (b : Bool). plain_after b (x ∷ [])) f

  added-itself : h.marks.escaping ≡ false → (x ≡ escape → ⊥) → added_by h x ≡ x ∷ []
  unfolding added_by plain_after
  added-itself f n = ap (λ (b : Bool). plain_after b (x ∷ [])) f ∙ rw (ne_eqb x escape n)

  added_none : h.marks.escaping ≡ false → x ≡ escape → added_by h x ≡ []
  unfolding added_by plain_after
  added_none f e = ap (λ (b : Bool). plain_after b (x ∷ [])) f ∙ rw (eq-eqb x escape e)

  placed : (y : ℕ) → added_by h x ≡ y ∷ [] → (not h.marks.escaping && eqb x escape) ≡ false → Placed h y (taken_in h x)
  unfolding taken_in
  placed y a q =
      let one : length (added_by h x) ≡ 1 = ap length a in
      let held = length-take h.marks.count h.store in
      let all = length-append (held_octets h) (y ∷ []) in
      let few = le-ltb places (h.marks.count + 1) in
      let many = lt-ltb places (h.marks.count + 1) in (
        q,
        λ l. (
          omega (arith, one),
          ap (λ (n : ℕ). h.marks.more || ltb places (h.marks.count + n)) one
              ∙ ap (λ (t : Bool). h.marks.more || t) (few (omega arith))
              ∙ or-false h.marks.more,
          take-sets places (added_by h x) h.store h.marks.count u.0 u.1
              ∙ ap (λ (v : List ℕ). take places (held_octets h ++ v)) a
              ∙ take_all places (held_octets h ++ y ∷ []) (omega (arith, held, all)),
        ),
        λ l. (
          omega (arith, one),
          ap (λ (n : ℕ). h.marks.more || ltb places (h.marks.count + n)) one
              ∙ ap (λ (t : Bool). h.marks.more || t) (many (omega arith))
              ∙ or-true h.marks.more,
          sets-past (added_by h x) h.store h.marks.count (omega (arith, u.0)),
        ),
      )

  module _ (seen : h.marks.seen ≡ true) (other : x ≡ flag → ⊥) where
    is-taken : after_octet h x ≡ taken_in h x
    is-taken = after-taken h x (ne_eqb x flag other) seen

    -- the marks of a stretch that has an octet
    pub octet-marks : ((after_octet h x).marks.last ≡ eqb x 0x7D) × ((after_octet h x).marks.any ≡ true)
        × ((after_octet h x).marks.seen ≡ true)
    unfolding taken_in
    octet-marks = rw is-taken (refl, refl, seen)

    -- an escape is open, and nothing else changes
    pub octet-escape : h.marks.escaping ≡ false → x ≡ 0x7D
        → ((after_octet h x).marks.escaping ≡ true) × ((after_octet h x).marks.count ≡ h.marks.count)
        × ((after_octet h x).marks.more ≡ h.marks.more) × ((after_octet h x).store ≡ h.store)
    unfolding taken_in
    octet-escape f e =
        let none : length (added_by h x) ≡ 0 = ap length (added_none f e) in
        rw is-taken (
          ap (λ (b : Bool). not b && eqb x escape) f ∙ eq-eqb x escape e,
          omega (arith, none, u.1),
          ap (λ (n : ℕ). h.marks.more || ltb places (h.marks.count + n)) none
              ∙ ap (λ (t : Bool). h.marks.more || t) (le-ltb places (h.marks.count + 0) (omega (arith, u.1)))
              ∙ or-false h.marks.more,
          ap (sets h.store h.marks.count) (added_none f e),
        )

    -- the octet behind an escape, whatever it is
    pub octet-behind : h.marks.escaping ≡ true → Placed h (bit_xor x 0x20) (after_octet h x)
    octet-behind f =
        rw is-taken
        (placed (bit_xor x toggle) (added-behind f) (ap (λ (b : Bool). not b && eqb x escape) f))

    -- one that stands for itself
    pub octet-itself : h.marks.escaping ≡ false → (x ≡ 0x7D → ⊥) → Placed h x (after_octet h x)
    octet-itself f n =
        rw is-taken
        (placed x (added-itself f n) (ap (λ (b : Bool). not b && eqb x escape) f ∙ ne_eqb x escape n))
