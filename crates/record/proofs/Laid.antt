-- The parts of an allowed plate. Assumes nothing.
use mathlib.Core.Path.{◌≡◌}
use mathlib.Core.List.{List}
use Prim.Native.Nat.{ℕ, ◌≤◌}
use mathlib.Core.Bool.{true}
use borrow.Author.Tests.{leb-true}
use lib.Dec.{leb}
use lib.ListN.{length}
use Rattle.identity.specs.Identity.{allowed_identity}
use Rattle.octets.proofs.Words.{and_parts}
use Rattle.identity.proofs.Identities.{allowed-parts}
use Rattle.record.specs.Allowed.{product_most, version_most}
use Rattle.record.specs.Fresh.{texts_allowed}

-- the lengths of texts that are allowed
module _ (i p h s : List ℕ) (a : texts_allowed i p h s ≡ true) where
  pub texts-parts : (allowed_identity i ≡ true)
      × (leb (length p) product_most ≡ true) × (leb (length h) version_most ≡ true) × (leb (length s) version_most ≡ true)
  unfolding texts_allowed
  texts-parts =
      let one = and_parts (allowed_identity i) _ a in
      let two = and_parts (leb (length p) product_most) _ one.1 in
      let three = and_parts (leb (length h) version_most) _ two.1 in
      (one.0, two.0, three.0, three.1)

  pub texts-fit : (length i ≤ 19) × (length p ≤ 20) × (length h ≤ 14) × (length s ≤ 14)
  texts-fit =
      let t = texts-parts in
      ((allowed-parts i t.0).most, leb-true _ _ t.1, leb-true _ _ t.2, leb-true _ _ t.3)
