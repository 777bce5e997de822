-- The installer's whole job, as one statement: a scan of the row through written lines, and then an assignment to each
-- listed identity in turn. Assumes nothing.
use mathlib.Core.Path.{◌≡◌, refl, sym, ap, ◌∙◌, subst}
use mathlib.Core.Logic.{◌↔◌}
use mathlib.Core.List.{List, [], ◌∷◌, map, Memᴰ}
use Prim.Native.Nat.{ℕ, ◌+◌, ◌*◌, ◌≤◌}
use native.Mathlib.Omega.{arith}
use lib.ListN.{length, take, length-take, length-map}
use Rattle.identity.specs.Bits.{Bits}
use Rattle.identity.specs.Identity.{unpadded, depth, octets_of}
use Rattle.identity.specs.Order.{lower, Ascending, Different}
use Rattle.identity.proofs.Lists.{map-in}
use Rattle.record.specs.declared.Device.{Device}
use Rattle.walk.specs.Probes.{order, hits}
use Rattle.scan.specs.declared.Scan.{Scan}
use Rattle.scan.specs.declared.State.TheVariants.{Complete}
use Rattle.scan.specs.Record.{list_most, list_of}
use Rattle.whole_scan.specs.Demand.{probes_each}
use Rattle.identity.proofs.Identities.{unpadded-padded}
use Rattle.bus.specs.Cable.{identity_in, padded_in, Cabled, heard_on}
use Rattle.bus.specs.Scanning.{scanned}
use Rattle.bus.specs.Install.{assigned_all, NoRightEnd, NoLaterEnd, Installed, Job}
use Rattle.bus.proofs.Heard.{identity-allowed}
use Rattle.bus.proofs.Scans.{scan-row, scan-any, scan-unchanged, scan-complete}
use Rattle.bus.proofs.Needs.{installed-exactly}

module _ (limit : ℕ) (ds : List Device) (c : Cabled ds) where
  abbrev scan : Scan
  scan = (scanned limit ds).scan

  abbrev list : List (List ℕ)
  list = list_of scan

  -- the list holds 32
  pub list-short : length list ≤ list_most
  list-short =
      let w = scan-any ds c limit in
      let found : List Bits = hits (take scan.count (order (heard_on ds) depth [])) in
      let long : length list ≡ length (take list_most found) =
      ap length w.list ∙ length-map (take list_most found) octets_of in
      omega (arith, long, length-take list_most found)

  module _ (done : scan.state ≡ Complete) where
    pub list-members : (x : List ℕ) → Memᴰ x list ↔ Memᴰ x (map padded_in ds)
    list-members =
        let (all, shorter, w) = scan-row ds c limit in
        subst (λ (xs : List (List ℕ)). (x : List ℕ) → Memᴰ x xs ↔ Memᴰ x (map padded_in ds))
        (sym (w.complete-list done)) w.members

    pub list-ascending : Ascending lower list
    list-ascending =
        let (all, shorter, w) = scan-row ds c limit in
        subst (Ascending lower) (sym (w.complete-list done)) w.ascending

    pub list-once : Different list
    list-once =
        let (all, shorter, w) = scan-row ds c limit in
        subst Different (sym (w.complete-list done)) w.once

    -- "each device holds exactly its address, all addresses differ, and each then answers SNRM with UA": exactly if "no
    -- listed identity is the right end of one listed before it"
    pub scan-installed : Installed list ds (assigned_all list (scanned limit ds).devices) ↔ NoRightEnd list
    scan-installed =
        rw (scan-unchanged ds c limit)
        (installed-exactly ds c list (omega (arith, list-short)) list-members)

    -- the condition, of the row
    pub row_ends : NoLaterEnd ds → NoRightEnd list
    row_ends never = go list list-ascending (λ x m. (list-members x).0 m)
      where
        own : (x : List ℕ) (d : Device) → Memᴰ d ds → x ≡ padded_in d → unpadded x ≡ identity_in d
        own x d m e = ap unpadded e ∙ unpadded-padded (identity_in d) (identity-allowed d (c.allowed d m))

        go : (xs : List (List ℕ)) → Ascending lower xs
            → ((x : List ℕ) → Memᴰ x xs → Memᴰ x (map padded_in ds)) → NoRightEnd xs
        go [] up from = tt
        go (x ∷ xs) up from = (
          λ y m w.
              let (d, k, e) = map-in padded_in ds x (from x (Memᴰ.head refl)) in
              let (b, n, f) = map-in padded_in ds y (from y (Memᴰ.tail m)) in
              never d b k n (rw (← e, ← f) (up.0 y m)) (rw (← own x d k e, ← own y b n f) w),
          go xs up.1 (λ y m. from y (Memᴰ.tail m)),
        )

  -- "up to 32" devices and demand 3's bound as the limit
  pub job-done : length ds ≤ list_most → 1 + probes_each * length ds ≤ limit → NoLaterEnd ds → Job limit ds
  job-done few long never =
      let done = scan-complete ds c limit few long in
      let (all, shorter, w) = scan-row ds c limit in
      record {
        complete = done;
        ascending = list-ascending done;
        members = list-members done;
        once = list-once done;
        bound = omega (arith, w.bound, length-map ds padded_in);
        unchanged = scan-unchanged ds c limit;
        installed = (scan-installed done).1 (row_ends done never);
      }
