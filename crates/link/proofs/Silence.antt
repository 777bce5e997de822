-- Which address is the device's own, and what is not read there, in 01's words. Assumes nothing.
use mathlib.Core.Path.{◌≡◌, refl, sym, ap, ◌∙◌}
use mathlib.Core.Bool.{Bool, true, false, not}
use mathlib.Core.Logic.Iff
use mathlib.Core.Logic.{◌↔◌, ◌⊎◌, inl, inr, ⊎_map, ⊎_elim}
use mathlib.Core.List.{List}
use Prim.Native.Nat.{ℕ}
use borrow.Author.Tests.{eqb-true, eqb-false, eq-eqb, ne_eqb, not-true}
use lib.Dec.{eqb}
use lib.ListN.{length}
use Rattle.octets.proofs.Words.{true-not-false, and_parts}
use Rattle.control.specs.declared.Order.{Order}
use Rattle.control.specs.declared.Order.TheVariants.{Xid, Snrm, Disc, Info, Rr, Rnr, Unknown}
use Rattle.record.specs.declared.Device.{Device}
use Rattle.link.specs.Link.{quiet, is_own}
use Rattle.link.specs.Frames.{Supervised, snrm, disc, rr, rnr}

-- "Any other address than the device's own nonzero one: silence."
pub own-exactly : (d : Device) (a : ℕ) → is_own d a ≡ true ↔ (a ≡ d.station.desk.address) × (a ≡ 0 → ⊥)
unfolding is_own
own-exactly d a = (
  λ e. let parts = and_parts (eqb a d.station.desk.address) (not (eqb a 0)) e in
      (eqb-true a d.station.desk.address parts.0, eqb-false a 0 (not-true _ parts.1)),
  λ w. rw (eq-eqb a d.station.desk.address w.0, ne_eqb a 0 w.1),
)

why-quiet : (o : Order) (bare : Bool) → quiet o bare ≡ true → (o ≡ Xid) ⊎ ((bare ≡ false) × Supervised o)
why-quiet Xid bare e = inl refl
why-quiet Snrm bare e = inr (not-true bare e, snrm refl)
why-quiet Disc bare e = inr (not-true bare e, disc refl)
why-quiet (Info n r) bare e = absurd (true-not-false (sym e))
why-quiet (Rr r) bare e = inr (not-true bare e, rr r refl)
why-quiet (Rnr r) bare e = inr (not-true bare e, rnr r refl)
why-quiet Unknown bare e = absurd (true-not-false (sym e))

supervised-quiet : (o : Order) (bare : Bool) → Supervised o → quiet o bare ≡ not bare
supervised-quiet o bare (snrm e) = rw e
supervised-quiet o bare (disc e) = rw e
supervised-quiet o bare (rr r e) = rw e
supervised-quiet o bare (rnr r e) = rw e

-- "SNRM, DISC, RR or RNR with payload: silence."; an XID is no order of the link's states
pub quiet-exactly : (o : Order) (bare : Bool) → quiet o bare ≡ true ↔ ((o ≡ Xid) ⊎ ((bare ≡ false) × Supervised o))
quiet-exactly o bare = (
  why-quiet o bare,
  ⊎_elim (λ e. rw e) (λ w. supervised-quiet o bare w.1 ∙ ap not w.0),
)

-- the same of the payload itself: "with payload" is that it has octets
pub quiet-payload : (o : Order) (p : List ℕ)
    → quiet o (eqb (length p) 0) ≡ true ↔ ((o ≡ Xid) ⊎ ((length p ≡ 0 → ⊥) × Supervised o))
quiet-payload o p =
    Iff.trans (quiet-exactly o (eqb (length p) 0)) (
      ⊎_map (λ e. e) (λ w. (eqb-false (length p) 0 w.0, w.1)),
      ⊎_map (λ e. e) (λ w. (ne_eqb (length p) 0 w.0, w.1)),
    )
