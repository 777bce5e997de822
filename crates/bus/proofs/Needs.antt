-- The condition is needed: where each device holds the address of its place in the list, no listed identity is the
-- right end of one listed before it. For the assignment to a right end is taken, and every later one gives a higher
-- address. Assumes nothing.
use mathlib.Core.Path.{◌≡◌, sym, ap, ◌∙◌, subst}
use mathlib.Core.Bool.{Bool, true, false, cond}
use mathlib.Core.Logic.{◌↔◌}
use mathlib.Core.List.{List, [], ◌∷◌, map, Memᴰ}
use Prim.Native.Nat.{ℕ, zero, suc, ◌+◌, ◌≤◌, ◌<◌}
use native.Mathlib.Nat.{not-suc-le-zero, le_of_suc-le-suc}
use native.Mathlib.Omega.{arith}
use lib.ListN.{length, get_or}
use Rattle.identity.proofs.Lists.{map-in, map-out}
use Rattle.xid.specs.Match.{ends_with}
use Rattle.record.specs.declared.Device.{Device}
use Rattle.record.specs.declared.Link.TheVariants.{AddressAssigned}
use Rattle.record.specs.declared.Plate.{Plate}
use Rattle.record.specs.Allowed.{identity_of, allowed_device}
use Rattle.record.specs.Changes.{unsaid_at, emptied_as, ended_as}
use Rattle.xid.specs.Meaning.{EndOf}
use Rattle.identity.specs.Identity.{unpadded}
use Rattle.identity.proofs.Identities.{unpadded-padded}
use Rattle.bus.specs.Cable.{identity_in, padded_in, Cabled, after_line, after_lines}
use Rattle.bus.specs.Install.{assigning, assignments, assigned_all, NoRightEnd, Installed}
use Rattle.bus.proofs.Hears.{row-lines}
use Rattle.bus.proofs.Heard.{identity-allowed}
use Rattle.bus.proofs.Each.{each, Listed, listed_more, line-is, line_kept, taken}
use Rattle.bus.proofs.Places.{place_of, place_in}
use Rattle.bus.proofs.Installs.{row_listed, last-padded, row-installed}

-- addresses only rise
each-rises : (xs : List (List ℕ)) (a b : ℕ) (d : Device) → Listed a xs → allowed_device d ≡ true
    → b ≤ a → b ≤ d.station.desk.address → b ≤ (each a xs d).station.desk.address
unfolding after_lines assignments emptied_as unsaid_at
each-rises [] a b d l e h k = k
each-rises (x ∷ xs) a b d l e h k =
    each-rises xs (suc a) b (after_line d (assigning a x)) (listed_more l) (line_kept a x xs l d e).allowed
    (omega arith) (rw (line-is a x xs l d e) (go (ends_with (identity_in d) (unpadded x))))
  where
    go : (t : Bool) → b ≤ (cond t (ended_as d a AddressAssigned) d).station.desk.address
    go true = h
    go false = k

-- an assignment to a right end is taken
each-late : (xs : List (List ℕ)) (a : ℕ) (d : Device) → Listed a xs → allowed_device d ≡ true
    → (k : ℕ) → k < length xs → EndOf (identity_in d) (unpadded (get_or xs k [])) → a + k ≤ (each a xs d).station.desk.address
unfolding after_lines assignments emptied_as unsaid_at
each-late [] a d l e k h w = absurd (not-suc-le-zero h)
each-late (x ∷ xs) a d l e zero h w =
    let now : (after_line d (assigning a x)).station.desk.address ≡ a =
    ap (λ (b : Device). b.station.desk.address) (taken a x xs l d e w) in
    each-rises xs (suc a) (a + 0) (after_line d (assigning a x)) (listed_more l) (line_kept a x xs l d e).allowed
    (omega arith) (omega (arith, now))
each-late (x ∷ xs) a d l e (suc k) h w =
    let kept = line_kept a x xs l d e in
    omega (
      arith,
      each-late xs (suc a) (after_line d (assigning a x)) (listed_more l) kept.allowed k (le_of_suc-le-suc h)
          (subst (λ (q : Plate). EndOf (identity_of q) (unpadded (get_or xs k []))) (sym kept.plate) w),
    )

-- the condition, by places
by-places : (xs : List (List ℕ))
    → ((j k : ℕ) → j < k → k < length xs → EndOf (unpadded (get_or xs j [])) (unpadded (get_or xs k [])) → ⊥)
    → NoRightEnd xs
by-places [] never = tt
by-places (x ∷ xs) never = (
  λ y m w.
      let (k, h, e) = place_of [] xs y m in
      never 0 (suc k) (omega arith) (omega arith) (subst (λ (z : List ℕ). EndOf (unpadded x) (unpadded z)) e w),
  by-places xs (λ j k h i. never (suc j) (suc k) (omega arith) (omega arith)),
)

module _ (ds : List Device) (c : Cabled ds) (xs : List (List ℕ)) (few : length xs ≤ 254)
    (members : (x : List ℕ) → Memᴰ x xs ↔ Memᴰ x (map padded_in ds)) where
  pub ends-needed : Installed xs ds (assigned_all xs ds) → NoRightEnd xs
  ends-needed w = by-places xs never
    where
      es : Installed xs ds (map (each 1 xs) ds)
      es = subst (Installed xs ds) (row-lines (assignments 1 xs) ds) w

      never : (j k : ℕ) → j < k → k < length xs → EndOf (unpadded (get_or xs j [])) (unpadded (get_or xs k [])) → ⊥
      never j k h i q =
          let x : List ℕ = get_or xs j [] in
          let (d, m, p) = map-in padded_in ds x ((members x).0 (place_in [] xs j (omega arith))) in
          let e : Device = each 1 xs d in
          let own : unpadded (get_or xs j []) ≡ identity_in d =
          ap unpadded p ∙ unpadded-padded (identity_in d) (identity-allowed d (c.allowed d m)) in
          let here : e.station.desk.address ≡ suc j =
          (es.holds e (map-out (each 1 xs) ds d m) j (omega arith) (last-padded ds c xs few members d m ∙ sym p)).0 in
          let late : 1 + k ≤ e.station.desk.address =
          each-late xs 1 d (row_listed ds c xs few members) (c.allowed d m) k i
          (subst (λ (v : List ℕ). EndOf v (unpadded (get_or xs k []))) own q) in
          omega arith

  -- it suffices, and it is needed
  pub installed-exactly : Installed xs ds (assigned_all xs ds) ↔ NoRightEnd xs
  installed-exactly = (ends-needed, row-installed ds c xs few members)
