-- A device that has an address has one of 1 to 254. Assumes nothing.
use mathlib.Core.Path.{◌≡◌, sym}
use mathlib.Core.Bool.{true}
use Prim.Native.Nat.{ℕ, ◌≤◌}
use borrow.Author.Tests.{ltb-true}
use native.Mathlib.Omega.{arith}
use lib.Dec.{ltb}
use Rattle.octets.proofs.Words.{true-not-false, and_parts}
use Rattle.record.specs.Allowed.{addressed, session_allowed, link_allowed}
use Rattle.record.specs.declared.Desk.{Desk}
use Rattle.record.specs.declared.Link.{Link}
use Rattle.record.specs.declared.Link.TheVariants.{NoAddress, AddressAssigned, Connected}
use Rattle.link.specs.Link.{has_address}

pub link-addressed : (k : Desk) (l : Link) → link_allowed k l ≡ true → has_address l ≡ true → addressed k.address ≡ true
unfolding link_allowed
link-addressed k NoAddress e h = absurd (true-not-false (sym h))
link-addressed k AddressAssigned e h = e
link-addressed k (Connected s) e h = (and_parts (addressed k.address) (session_allowed k s) e).0

-- so it is neither 0 nor 0xFF
pub addressed-bounds : (a : ℕ) → addressed a ≡ true → (1 ≤ a) × (a ≤ 254)
unfolding addressed
addressed-bounds a e =
    let parts = and_parts (ltb 0 a) (ltb a 255) e in
    (ltb-true 0 a parts.0, omega (arith, ltb-true a 255 parts.1))
