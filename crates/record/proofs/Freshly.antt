-- How a fresh device is put together, and each way out of `fresh`. Assumes nothing.
use mathlib.Core.Path.{◌≡◌, sym, ap}
use mathlib.Core.Bool.{true, false, not}
use mathlib.Core.List.{List}
use Prim.Native.Nat.{ℕ}
use Rattle.refusal.specs.Answer.{gives, refuses, answered}
use Rattle.refusal.proofs.Answers.{answered-here}
use Rattle.octets.proofs.Words.{and_parts}
use Rattle.antenna.specs.declared.Antenna.{Antenna}
use Rattle.record.specs.Fresh.{identity_from, product_from, version_from, plate_from}
use Rattle.record.specs.Fresh.{fresh_from, texts_allowed, data_allowed, antenna_from, fresh_of}
use Rattle.octets.specs.declared.Text.{Text}
use Rattle.identity.specs.Identity.{width}
use Rattle.record.specs.Allowed.{product_most, version_most}
use Rattle.record.specs.declared.Plate.{Plate}
use Rattle.record.specs.declared.Span.{Span}
use Rattle.record.specs.declared.Device.{Device}

-- the plate of four texts
pub plated : (i p h s : List ℕ) {a : Text width} {b : Text product_most} {c d : Text version_most}
    → a ≡ identity_from i → b ≡ product_from p → c ≡ version_from h → d ≡ version_from s
    → record { identity = a; product = b; hardware = c; software = d } ≡ plate_from i p h s
unfolding plate_from
plated i p h s e f g q = rw (e, f, g, q)

-- data that is allowed has texts that are
pub data-texts : (i p h s : List ℕ) (n : Antenna) → data_allowed i p h s n ≡ true → texts_allowed i p h s ≡ true
unfolding data_allowed
data-texts i p h s n e = (and_parts (texts_allowed i p h s) _ e).0

module _ (i p h s : List ℕ) (w : Span) {n : Antenna} (q : n ≡ antenna_from w) where
  pub data-wrong : data_allowed i p h s n ≡ false → fresh_of i p h s w ≡ refuses 6
  unfolding fresh_of
  data-wrong e = answered-here _ _ _ (ap not (rw q at e))

  pub data-right : data_allowed i p h s n ≡ true → {plate : Plate} {d : Device}
      → plate ≡ plate_from i p h s → d ≡ fresh_from plate n → fresh_of i p h s w ≡ gives d
  unfolding fresh_of answered
  data-right e f g = rw (rw q at e) (ap gives (sym (rw (f, q) at g)))
