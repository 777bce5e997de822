-- Assigning to each listed identity in turn its own address: each device holds exactly its address, all addresses
-- differ and each answers SNRM with UA, if no listed identity is the right end of one listed before it.
-- Assumes nothing.
use mathlib.Core.Path.{◌≡◌, sym, ap, ◌∙◌, subst}
use mathlib.Core.Logic.{◌↔◌}
use mathlib.Core.List.{List, [], map, Memᴰ}
use Prim.Native.Nat.{ℕ, suc, ◌≤◌, ◌<◌}
use native.Mathlib.Omega.{arith}
use lib.ListN.{length, get_or}
use Rattle.identity.specs.Identity.{unpadded, allowed_identity, padded}
use Rattle.identity.specs.Order.{Different}
use Rattle.identity.proofs.Lists.{map-in, map-out}
use Rattle.record.specs.declared.Device.{Device}
use Rattle.record.specs.declared.Plate.{Plate}
use Rattle.record.specs.declared.Link.TheVariants.{AddressAssigned}
use Rattle.record.specs.Allowed.{identity_of}
use Rattle.identity.proofs.Identities.{unpadded-padded}
use Rattle.bus.specs.Cable.{identity_in, padded_in, Cabled}
use Rattle.bus.specs.Install.{assignments, assigned_all, NoRightEnd, Installed}
use Rattle.bus.proofs.Hears.{row-lines}
use Rattle.bus.proofs.Heard.{identity-allowed}
use Rattle.bus.proofs.Starts.{Ready, snrm-heard, snrm-alone, all-begin}
use Rattle.bus.proofs.Each.{each, Listed, Kept, each-kept, each_holds}
use Rattle.bus.proofs.Places.{place_of, different-by, map-twice, map_same}

-- xs are the identities of the row, in any order
module _ (ds : List Device) (c : Cabled ds) (xs : List (List ℕ)) (few : length xs ≤ 254)
    (members : (x : List ℕ) → Memᴰ x xs ↔ Memᴰ x (map padded_in ds)) where
  pub row_listed : Listed 1 xs
  row_listed =
      record {
        whole = λ x m.
            let (d, n, e) = map-in padded_in ds x ((members x).0 m) in
            let a = identity-allowed d (c.allowed d n) in
            ap (λ (y : List ℕ). allowed_identity (unpadded y)) e
            ∙ ap allowed_identity (unpadded-padded (identity_in d) a) ∙ a;
        least = omega arith;
        most = omega arith;
      }

  abbrev pub last : Device → Device
  last d = each 1 xs d

  pub last-kept : (d : Device) → Memᴰ d ds → Kept d (last d)
  last-kept d m = each-kept xs 1 d row_listed (c.allowed d m)

  pub last-padded : (d : Device) → Memᴰ d ds → padded_in (last d) ≡ padded_in d
  last-padded d m = ap (λ (q : Plate). padded (identity_of q)) (last-kept d m).plate

  -- each device is listed
  pub device-place : (d : Device) → Memᴰ d ds → (k : ℕ) × (k < length xs) × (padded_in d ≡ get_or xs k [])
  device-place d m = place_of [] xs (padded_in d) ((members (padded_in d)).1 (map-out padded_in ds d m))

  module _ (ends : NoRightEnd xs) where
    held : (d : Device) → Memᴰ d ds → (k : ℕ) → k < length xs → padded_in d ≡ get_or xs k []
        → ((last d).station.desk.address ≡ suc k) × ((last d).station.link ≡ AddressAssigned)
    held d m k h p =
        let (a, l) = each_holds xs 1 d row_listed (c.allowed d m) ends k h p in
        (a ∙ omega arith, l)

    ready : (d : Device) → Memᴰ d ds → Ready (last d)
    ready d m =
        let (k, h, p) = device-place d m in
        record { allowed = (last-kept d m).allowed; link = (held d m k h p).1 }

    tells : (d e : Device) → Memᴰ d ds → Memᴰ e ds → (last d).station.desk.address ≡ (last e).station.desk.address
        → padded_in d ≡ padded_in e
    tells d e m n q =
        let (j, h, p) = device-place d m in
        let (k, i, r) = device-place e n in
        let same : j ≡ k = omega (arith, (held d m j h p).0, (held e n k i r).0, q) in
        p ∙ ap (λ (x : ℕ). get_or xs x []) same ∙ sym r

    differ : Different (map (λ (e : Device). e.station.desk.address) (map last ds))
    differ =
        subst Different (sym (map-twice (λ (e : Device). e.station.desk.address) last ds))
        (different-by padded_in (λ (d : Device). (last d).station.desk.address) ds tells c.apart)

    each-installed : Installed xs ds (map last ds)
    each-installed =
        record {
          plates = map-twice (λ (d : Device). d.plate) last ds
              ∙ map_same (λ (d : Device). (last d).plate) (λ (d : Device). d.plate) ds (λ d m. (last-kept d m).plate);
          listed = λ e m.
              let (d, n, q) = map-in last ds e m in
              let (k, h, p) = device-place d n in
              (k, h, ap padded_in q ∙ last-padded d n ∙ p);
          holds = λ e m k h p.
              let (d, n, q) = map-in last ds e m in
              let (a, l) = held d n k h (sym (ap padded_in q ∙ last-padded d n) ∙ p) in (
                ap (λ (b : Device). b.station.desk.address) q ∙ a,
                ap (λ (b : Device). b.station.link) q ∙ l,
              );
          differ = differ;
          answers = λ e m.
              let (d, n, q) = map-in last ds e m in
              rw q (snrm-heard (last d) (ready d n));
          alone = λ e o m n other.
              let (d, k, q) = map-in last ds e m in
              let (b, i, r) = map-in last ds o n in
              let apart : ((last b).station.desk.address ≡ (last d).station.desk.address → ⊥) =
              λ w. other (ap (λ (x : Device). x.station.desk.address) r ∙ w
              ∙ sym (ap (λ (x : Device). x.station.desk.address) q)) in
              rw (q, r) (snrm-alone (last d) (ready d k) (last b) (last-kept b i).allowed apart);
          connected = all-begin (map last ds)
              (λ e m. let (d, n, q) = map-in last ds e m in rw q (ready d n)) differ;
        }

    -- "each device holds exactly its address, all addresses differ, and each then answers SNRM with UA"
    pub row-installed : Installed xs ds (assigned_all xs ds)
    row-installed = subst (Installed xs ds) (sym (row-lines (assignments 1 xs) ds)) each-installed
