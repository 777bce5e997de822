-- Two fresh devices on one cable, computed. AAZZ1 and ZZ1: the scan lists AAZZ1 first, and the assignment for ZZ1, its
-- right end, moves it too; both hold the address 2, so that the condition is needed. ZZ1 and ZZZZ1: the longer one is
-- listed later and is simply given its own address afterwards. AAZZ1 and ZZ1 again: one assignment with the wild cards for
-- type and vendor gives both the address 7. Assumes nothing.
use Rattle.octets.specs.Text.{laid}
use mathlib.Core.Path.{◌≡◌, refl, ap, subst}
use mathlib.Core.Bool.{true}
use mathlib.Core.List.Memᴰ
use mathlib.Core.List.{List, [], ◌∷◌, map}
use Prim.Native.Nat.{ℕ, ◌≤◌}
use native.Mathlib.Omega.{arith}
use Rattle.octets.specs.Octets.{last_of, ◌at_start_of◌}
use Rattle.identity.specs.Identity.{printable, all_printable, allowed_identity, padded}
use Rattle.identity.specs.Order.{lower, Different}
use Rattle.antenna.specs.Angles.{at_most}
use Rattle.antenna.specs.Motions.{in_range}
use Rattle.record.specs.declared.Device.{Device}
use Rattle.record.specs.Allowed.{allowed_device}
use Rattle.record.specs.Changes.{unsaid_at, emptied_as}
use Rattle.record.specs.Fresh.{identity_from, plate_from, fresh_from, fresh_antenna, level, texts_allowed, data_allowed}
use Rattle.record.proofs.Stays.{fresh-allowed}
use Rattle.xid.proofs.Wild.{wild-formed}
use Rattle.scan.specs.declared.State.TheVariants.{Complete}
use Rattle.scan.specs.Record.{list_of}
use Rattle.bus.specs.Cable.{identity_in, line_for, all_after}
use Rattle.bus.specs.Scanning.{scanned}
use Rattle.bus.specs.Install.{assigned_all, Installed}
use Rattle.bus.proofs.Shared.{wild-shared}
use Rattle.bus.proofs.Pairs.{pair-allowed, pair-complete, pair-list, pair-moved, pair-kept}

abbrev pub aazz1 : List ℕ
aazz1 = 0x41 ∷ 0x41 ∷ 0x5A ∷ 0x5A ∷ 0x31 ∷ []

abbrev pub zz1 : List ℕ
zz1 = 0x5A ∷ 0x5A ∷ 0x31 ∷ []

abbrev pub zzzz1 : List ℕ
zzzz1 = 0x5A ∷ 0x5A ∷ 0x5A ∷ 0x5A ∷ 0x31 ∷ []

-- a fresh device with the identity i
abbrev pub fresh_named : List ℕ → Device
fresh_named i = fresh_from (plate_from i [] [] []) (fresh_antenna level level level)

-- the row ds after a scan with the limit and the assignments, and the addresses in it
abbrev pub after : ℕ → List Device → List Device
after limit ds = assigned_all (list_of (scanned limit ds).scan) (scanned limit ds).devices

abbrev pub addresses_after : ℕ → List Device → List ℕ
addresses_after limit ds = map (λ (d : Device). d.station.desk.address) (after limit ds)

fresh-good : (i : List ℕ) → data_allowed i [] [] [] (fresh_antenna level level level) ≡ true
    → allowed_device (fresh_named i) ≡ true
fresh-good i e = fresh-allowed i [] [] [] (fresh_antenna level level level) e refl

three-good : (allowed_device (fresh_named aazz1) ≡ true) × (allowed_device (fresh_named zz1) ≡ true)
    × (allowed_device (fresh_named zzzz1) ≡ true)
unfolding data_allowed texts_allowed allowed_identity all_printable printable last_of in_range at_most
three-good = (fresh-good aazz1 refl, fresh-good zz1 refl, fresh-good zzzz1 refl)

three-named : (identity_in (fresh_named aazz1) ≡ aazz1) × (identity_in (fresh_named zz1) ≡ zz1)
    × (identity_in (fresh_named zzzz1) ≡ zzzz1)
unfolding fresh_from plate_from laid ◌at_start_of◌
three-named = (refl, refl, refl)

abbrev ending : List Device
ending = fresh_named aazz1 ∷ fresh_named zz1 ∷ []

abbrev wild_seven : List ℕ
wild_seven = 0x81 ∷ 0xF0 ∷ 10 ∷ 2 ∷ 1 ∷ 7 ∷ 4 ∷ 1 ∷ 0xFF ∷ 6 ∷ 2 ∷ 0xFF ∷ 0xFF ∷ []

-- both take the address 7
pub two-share : map (λ (d : Device). d.station.desk.address) (all_after ending (line_for (0xFF ∷ 0xBF ∷ wild_seven)))
    ≡ 7 ∷ 7 ∷ []
unfolding emptied_as unsaid_at
two-share =
    ap (map (λ (d : Device). d.station.desk.address))
    (wild-shared wild_seven 7 (omega arith) (omega arith) (omega arith) (omega arith) (wild-formed 7) ending
    (pair-allowed (fresh_named aazz1) (fresh_named zz1) three-good.0 three-good.1))

module _ (limit : ℕ) (long : 609 ≤ limit) where
  -- listed ascending, AAZZ1 first; the assignment for ZZ1 re-addresses it
  pub condition-needed : ((scanned limit ending).scan.state ≡ Complete)
      × (list_of (scanned limit ending).scan ≡ padded aazz1 ∷ padded zz1 ∷ [])
      × (addresses_after limit ending ≡ 2 ∷ 2 ∷ [])
      × (Installed (list_of (scanned limit ending).scan) ending (after limit ending) → ⊥)
  unfolding fresh_from plate_from laid ◌at_start_of◌ padded lower
  condition-needed =
      let d = fresh_named aazz1 in
      let e = fresh_named zz1 in
      let moved = pair-moved d e three-good.0 three-good.1 refl limit long (omega arith, refl) in (
        pair-complete d e three-good.0 three-good.1 refl limit long,
        pair-list d e three-good.0 three-good.1 refl limit long,
        moved,
        λ w. (subst Different moved w.differ).0 (Memᴰ.head refl),
      )

  abbrev longer : List Device
  longer = fresh_named zz1 ∷ fresh_named zzzz1 ∷ []

  -- listed ascending, ZZ1 first; its assignment reaches ZZZZ1 as well, which then gets its own
  pub longer-later : ((scanned limit longer).scan.state ≡ Complete)
      × (list_of (scanned limit longer).scan ≡ padded zz1 ∷ padded zzzz1 ∷ [])
      × (addresses_after limit longer ≡ 1 ∷ 2 ∷ [])
  unfolding fresh_from plate_from laid ◌at_start_of◌ padded lower
  longer-later =
      let d = fresh_named zz1 in
      let e = fresh_named zzzz1 in (
        pair-complete d e three-good.1 three-good.2 refl limit long,
        pair-list d e three-good.1 three-good.2 refl limit long,
        pair-kept d e three-good.1 three-good.2 refl limit long (λ (h, w). omega arith),
      )
