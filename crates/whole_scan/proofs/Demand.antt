-- Demand 3 in octets, of the record that the code makes. Assumes nothing.
use mathlib.Core.Path.{◌≡◌, sym, ap, ◌∙◌}
use mathlib.Core.Bool.{Bool}
use mathlib.Core.List.Memᴰ
use mathlib.Core.List.{List, [], map, Memᴰ}
use mathlib.Core.Logic.{◌↔◌, ◌⊎◌, inl, inr}
use Prim.Native.Nat.{ℕ}
use native.Mathlib.Omega.{arith}
use lib.ListN.{length, length-map}
use Rattle.identity.specs.Bits.{Bits, bits_of}
use Rattle.identity.specs.Identity.{width, depth, padded, octets_of}
use Rattle.identity.specs.Order.{below, lower, those}
use Rattle.identity.proofs.Packed.{packed-apart}
use Rattle.identity.proofs.Orders.{lower-packed}
use Rattle.identity.proofs.Lists.{map-in, map-out, map-different, map-ascending, those-map, get_d_map}
use Rattle.walk.specs.Beginnings.{under}
use Rattle.walk.specs.Probes.{Mark, order}
use Rattle.walk.specs.Machine.{Phase, complete, limited, full, named, Walk, start, run}
use Rattle.walk.specs.Demand.{BusEnd}
use Rattle.walk.proofs.Demand.{demand3}
use Rattle.scan.specs.Record.{list_most, state_of, beginning_of}
use Rattle.scan.specs.Scan.{fresh, driven}
use Rattle.whole_scan.specs.Demand.{OctetBus, BusScan, Demand3, Demand3Identities}
use Rattle.scan.specs.declared.Scan.{Scan}
use Rattle.scan.specs.declared.State.TheVariants.{Complete, Limit, Full}
use Rattle.whole_scan.proofs.Drives.{Driven, drives-new}
use Rattle.whole_scan.proofs.Ends.{full-of, limit-of, complete-of, count-is, state-is, beginning-is, list-is}
use Rattle.whole_scan.proofs.Buses.{octets-of-bits, bits-long, bit-bus, padded-bus}

module _ (limit : ℕ) (ids : List (List ℕ)) (heard : Bits → Bool) (b : OctetBus ids heard)
    (all shorter : List Bits) where
  abbrev last : Scan
  last = driven heard limit (fresh limit)

  abbrev walk : Walk (List ℕ)
  walk = run octets_of depth list_most heard limit (start limit)

  abbrev ms : List Mark
  ms = order heard depth []

  d : Driven last walk
  d = drives-new heard limit limit

  abbrev x : Phase
  x = walk.phase

  module _ (e : BusEnd octets_of depth list_most limit (map bits_of ids) walk ms all shorter) where
    long : (y : Bits) → Memᴰ y all → length y ≡ depth
    long y m = bits-long ids heard b y ((e.ordered.members y).0 m)

    members : (y : List ℕ) → Memᴰ y (map octets_of all) ↔ Memᴰ y ids
    members y = (
      λ m.
          let (p, n, f) = map-in octets_of all y m in
          let (i, o, g) = map-in bits_of ids p ((e.ordered.members p).0 n) in
          Memᴰ.cast (f ∙ ap octets_of g ∙ octets-of-bits i (b.whole i o).0 (b.whole i o).1) o,
      λ m.
          let bits = map-out octets_of all (bits_of y) ((e.ordered.members (bits_of y)).1 (map-out bits_of ids y m)) in
          Memᴰ.cast (sym (octets-of-bits y (b.whole y m).0 (b.whole y m).1)) bits,
    )

    -- the identities below where the walk stands, in bits and in octets
    below-there : map octets_of (those (λ y. below y (named x)) all)
        ≡ those (λ y. lower y (octets_of (beginning_of last))) (map octets_of all)
    below-there =
        those-map octets_of (λ y. below y (named x)) (λ y. lower y (octets_of (named x))) all
        (λ y m. lower-packed width y (named x) (long y m) d.bounded.begins)
        ∙ ap (λ (p : Bits). those (λ y. lower y (octets_of p)) (map octets_of all)) (sym (beginning-is d))

    is-complete : last.state ≡ Complete → x ≡ complete
    is-complete h = complete-of x (sym (state-is d) ∙ h)

    is-limit : last.state ≡ Limit → x ≡ limited (named x)
    is-limit h = limit-of x (sym (state-is d) ∙ h)

    is-full : last.state ≡ Full → x ≡ full (named x)
    is-full h = full-of x (sym (state-is d) ∙ h)

    ends : (x ≡ complete) ⊎ (((p : Bits) × (x ≡ limited p)) ⊎ ((p : Bits) × (x ≡ full p)))
        → (last.state ≡ Complete) ⊎ ((last.state ≡ Limit) ⊎ (last.state ≡ Full))
    unfolding state_of
    ends (inl h) = inl (state-is d ∙ ap state_of h)
    ends (inr (inl (p, h))) = inr (inl (state-is d ∙ ap state_of h))
    ends (inr (inr (p, h))) = inr (inr (state-is d ∙ ap state_of h))

    number : length (map bits_of ids) ≡ length ids
    number = length-map ids bits_of

    bus-scan : BusScan limit ids last ms (map octets_of all) shorter
    unfolding state_of
    bus-scan = record {
      ascending = map-ascending octets_of below lower all
          (λ y z m n. lower-packed width y z (long y m) (omega (arith, long z n))) e.ordered.ascending;
      members = members;
      once = map-different octets_of all
          (λ y z m n. packed-apart width y z (long y m ∙ sym (long z n)) (omega (arith, long z n))) e.ordered.once;
      counted = e.counted;
      probes = e.probes;
      ends = ends e.ends;
      completes = (
        λ h. let (n, k) = e.completes.0 (is-complete h) in (omega (arith, number), k),
        λ (n, k). state-is d ∙ ap state_of (e.completes.1 (omega (arith, number), k)),
      );
      complete-list = λ h. list-is d ∙ e.complete-list (is-complete h);
      complete-count = λ h. count-is d ∙ e.complete-count (is-complete h);
      bound = omega (arith, count-is d, e.bound, number);
      limit-count = λ h. count-is d ∙ e.limit-count _ (is-limit h);
      limit-names = λ h. beginning-is d ∙ sym (e.limit-next _ (is-limit h));
      limit-list = λ h. list-is d ∙ e.limit-list _ (is-limit h) ∙ below-there;
      fulls = (
        λ h. let (n, k) = e.fulls.0 (_, is-full h) in (omega (arith, number), k),
        λ (n, k). state-is d ∙ ap state_of (e.fulls.1 (omega (arith, number), k)).1,
      );
      full-count = λ h. count-is d ∙ e.full-count _ (is-full h);
      full-names = λ h.
          let (n, k) = e.fulls.0 (_, is-full h) in
          ap octets_of (beginning-is d ∙ sym (e.full-names _ (is-full h)))
          ∙ sym (get_d_map octets_of all list_most [] [] (omega (arith, e.ordered.number)));
      full-list = λ h. list-is d ∙ e.full-list _ (is-full h) ∙ below-there;
    }

pub demand3-octets : Demand3
unfolding under
demand3-octets limit ids heard b =
    let (all, shorter, e) =
    demand3 (List ℕ) octets_of [] depth list_most limit (map bits_of ids) heard (bit-bus ids heard b) in
    (map octets_of all, shorter, bus-scan limit ids heard b all shorter e)

pub demand3-identities : Demand3Identities
demand3-identities limit ids heard b = demand3-octets limit (map padded ids) heard (padded-bus ids heard b)
