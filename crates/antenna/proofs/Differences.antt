-- Two rows of alarm flags differ somewhere exactly if they are not the same. Assumes nothing.
use mathlib.Core.Path.{◌≡◌, refl, sym, ap, ◌∙◌}
use mathlib.Core.Bool.{Bool, true, false, not, beq}
use mathlib.Core.List.{List, [], ◌∷◌}
use mathlib.Core.Logic.{◌↔◌}
use native.Mathlib.Omega.{arith}
use lib.ListN.{length, get_or}
use lib.Pointwise.{pointwise}
use Rattle.octets.proofs.Words.{true-not-false}
use Rattle.antenna.specs.Alarms.{any_differ}

-- the code's test
pub apart_differ : (f g : List Bool) → length f ≡ length g → not (pointwise beq f g) ≡ any_differ f g
unfolding any_differ
apart_differ [] [] h = refl
apart_differ [] (b ∷ gs) h = absurd (omega arith)
apart_differ (a ∷ fs) [] h = absurd (omega arith)
apart_differ (true ∷ fs) (true ∷ gs) h = apart_differ fs gs (omega arith)
apart_differ (true ∷ fs) (false ∷ gs) h = refl
apart_differ (false ∷ fs) (true ∷ gs) h = refl
apart_differ (false ∷ fs) (false ∷ gs) h = apart_differ fs gs (omega arith)

-- and that against the six flags by their places
pub apart_places : (f g : List Bool) → length f ≡ 6 → length g ≡ 6
    → not (pointwise beq f (get_or g 0 false ∷ get_or g 1 false ∷ get_or g 2 false ∷ get_or g 3 false ∷ get_or g 4 false ∷ get_or g 5 false ∷ []))
    ≡ any_differ f g
apart_places f [] h k = absurd (omega arith)
apart_places f (p ∷ []) h k = absurd (omega arith)
apart_places f (p ∷ q ∷ []) h k = absurd (omega arith)
apart_places f (p ∷ q ∷ r ∷ []) h k = absurd (omega arith)
apart_places f (p ∷ q ∷ r ∷ s ∷ []) h k = absurd (omega arith)
apart_places f (p ∷ q ∷ r ∷ s ∷ t ∷ []) h k = absurd (omega arith)
apart_places f (p ∷ q ∷ r ∷ s ∷ t ∷ u ∷ []) h k = apart_differ f (p ∷ q ∷ r ∷ s ∷ t ∷ u ∷ []) (omega arith)
apart_places f (p ∷ q ∷ r ∷ s ∷ t ∷ u ∷ v ∷ g) h k = absurd (omega arith)

same_none : (f : List Bool) → any_differ f f ≡ false
unfolding any_differ
same_none [] = refl
same_none (true ∷ fs) = same_none fs
same_none (false ∷ fs) = same_none fs

none-same : (f g : List Bool) → length f ≡ length g → any_differ f g ≡ false → f ≡ g
unfolding any_differ
none-same [] [] h e = refl
none-same [] (b ∷ gs) h e = absurd (omega arith)
none-same (a ∷ fs) [] h e = absurd (omega arith)
none-same (true ∷ fs) (true ∷ gs) h e = ap (λ (l : List Bool). true ∷ l) (none-same fs gs (omega arith) e)
none-same (true ∷ fs) (false ∷ gs) h e = absurd (true-not-false e)
none-same (false ∷ fs) (true ∷ gs) h e = absurd (true-not-false e)
none-same (false ∷ fs) (false ∷ gs) h e = ap (λ (l : List Bool). false ∷ l) (none-same fs gs (omega arith) e)

-- "whose present state differs from what was told": of some alarm it does
pub differ-exactly : (f g : List Bool) → length f ≡ length g → any_differ f g ≡ true ↔ (f ≡ g → ⊥)
differ-exactly f g h = (
  λ e w. true-not-false (sym e ∙ ap (any_differ f) (sym w) ∙ same_none f),
  λ w. go w (any_differ f g) refl,
)
  where
    go : (f ≡ g → ⊥) → (b : Bool) → any_differ f g ≡ b → any_differ f g ≡ true
    go w true e = e
    go w false e = absurd (w (none-same f g h e))
