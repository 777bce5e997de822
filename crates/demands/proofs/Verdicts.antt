-- What salvage says of a verdict that is not the one a part of it asks for. Assumes nothing.
use Rattle.std.proofs.Common.{◌≡◌, ◌≢◌, ℕ, ◌+◌, ◌<◌, Bool, false, not, List, [], Option, None, ltb, sym, ap, refl, lt-ltb, arith}
use Rattle.salvage.specs.Holding.{add64, onward_from}
use Rattle.salvage.specs.Work.{spare_most}
use Rattle.salvage.specs.Pieces.{followed, begun_by, listed_by, goes_until, written_by}
use Rattle.salvage.specs.declared.OpenStretch.{OpenStretch}
use Rattle.salvage.specs.declared.Verdict.{Verdict}
use Rattle.salvage.specs.declared.Verdict.TheVariants.{Still, Empty, Kept, Dropped}

-- an output that is shorter than what may be written beside the run
pub no_room : (out run : ℕ) → out < spare_most → false ≡ not (ltb out (spare_most + run))
no_room out run h = sym (ap not (lt-ltb out (spare_most + run) (omega arith)))

pub begun-other : (f : Verdict) (b : Bool) → f ≢ Kept → b ≡ begun_by f b
unfolding begun_by
begun-other Still b g = refl
begun-other Empty b g = refl
begun-other Kept b g = absurd (g refl)
begun-other (Dropped k) b g = refl

pub written-other : (f : Verdict) (b : Bool) (n : ℕ) (w : List ℕ) → f ≢ Kept → written_by f b n w ≡ []
written-other Still b n w g = refl
written-other Empty b n w g = refl
written-other Kept b n w g = absurd (g refl)
written-other (Dropped k) b n w g = refl

pub listed-other : (f : Verdict) (o : OpenStretch) → ((k : ℕ) → f ≢ Dropped k) → None ≡ listed_by o f
unfolding listed_by
listed-other Still o g = refl
listed-other Empty o g = refl
listed-other Kept o g = refl
listed-other (Dropped k) o g = absurd (g k refl)

pub until-other : (f : Verdict) (at end : ℕ) → ((k : ℕ) → f ≢ Dropped k) → end ≡ goes_until f at end
unfolding goes_until
until-other Still at end g = refl
until-other Empty at end g = refl
until-other Kept at end g = refl
until-other (Dropped k) at end g = absurd (g k refl)

pub follow-other : (n : ℕ) (f : Verdict) (o : OpenStretch) → f ≢ Still → {x y : ℕ} → y ≡ add64 o.offset o.length
    → x ≡ add64 y n → record { offset = x; length = 0; held = 0 } ≡ followed n f o
unfolding followed onward_from
follow-other n Still o g e h = absurd (g refl)
follow-other n Empty o g e h = rw (h, e)
follow-other n Kept o g e h = rw (h, e)
follow-other n (Dropped k) o g e h = rw (h, e)
