-- Demand 3: what a walk of a bus that does not change comes to. Assumes nothing.
use mathlib.Core.Path.{◌≡◌, refl, sym, ap, ap₂, ◌∙◌, subst}
use mathlib.Core.Bool.{Bool, true, false, not, ◌&&◌, true≢false, false≢true}
use mathlib.Core.List.Memᴰ
use mathlib.Core.List.{List, [], ◌∷◌, ◌++◌, append_assoc, map, Memᴰ}
use mathlib.Core.Logic.{◌⊎◌, inl, inr, ◌↔◌}
use Prim.Native.Nat.{ℕ, zero, suc, ◌+◌, ◌*◌, ◌≤◌}
use native.Mathlib.Omega.{arith}
use lib.ListN.{length, length-append}
use Rattle.identity.specs.Bits.{Bits}
use Rattle.identity.specs.Order.{below, those, Different}
use Rattle.walk.specs.Beginnings.{then, half, under, Matches, Deep}
use Rattle.walk.specs.Probes.{Mark, pass, hit, asked, hits, order, Doubt}
use Rattle.walk.specs.Machine.{Phase, asking, complete, doubtful, limited, full, Ended, Walk, start, run}
use Rattle.walk.specs.Demand.{AnyEnd, BusEnd, BitDemand3}
use Rattle.walk.proofs.Halves.{anyone, matches-anyone, anyone-matches, same_truth, someone}
use Rattle.walk.proofs.Halves.{under-in, under-out, under-then, deep-half, deep-under}
use Rattle.walk.proofs.Play.{phase-is}
use Rattle.walk.proofs.Doubts.{silent, doubts, doubts-out}
use Rattle.walk.proofs.Places.{place-all, place-bound}
use Rattle.walk.proofs.Endings.{last, Ending, all_asked, at-limit, at-full, ending}
use Rattle.walk.proofs.Answers.{tag, flag-tag, limited-same, full-same, any-answers}
use Rattle.walk.proofs.Visit.{visit, begins, visit-length, begins-bound, hits-in, hits-out, hits-length}
use Rattle.walk.proofs.Visit.{different-half}
use Rattle.walk.proofs.Sorted.{Sorted, visit-sorted, heard-before, sorted-ascending, ascending-once}
use Rattle.walk.proofs.Begins.{begins-shorter}

some-half : (a b : Bool) → (a ≡ false → b ≡ true) → (not a && not b) ≡ false
some-half true b h = refl
some-half false true h = refl
some-half false false h = absurd (false≢true (h refl))

module _ (d : ℕ) (ids : List Bits) (deep : Deep d ids) (apart : Different ids) (heard : Bits → Bool)
    (right : (p : Bits) → length p ≤ d → (heard p ≡ true) ↔ Matches p ids) where
  hears : (p : Bits) → length p ≤ d → heard p ≡ anyone (under p ids)
  hears p h =
      same_truth (heard p) (anyone (under p ids)) (λ e. matches-anyone p ids ((right p h).0 e))
      (λ e. (right p h).1 (anyone-matches p ids e))

  -- js are the identities below p, which has n bits to go
  abbrev Below : ℕ → Bits → List Bits → Type 0
  Below n p js = (under p ids ≡ js) × (length p + n ≡ d)

  hears-below : (n : ℕ) (p : Bits) (js : List Bits) → Below n p js → heard p ≡ anyone js
  hears-below n p js (e, h) = hears p (omega arith) ∙ ap anyone e

  below_half : (n : ℕ) (p : Bits) (js : List Bits) (b : Bool) → Below (suc n) p js → Below n (then p b) (half b js)
  below_half n p js b (e, h) = (under-then p b ids ∙ ap (half b) e, omega (arith, length-append p (b ∷ [])))

  order-visit : (n : ℕ) (p : Bits) (js : List Bits) → Below n p js → order heard n p ≡ visit n p js
  unfolding order visit anyone
  order-visit zero p [] k = rw (hears-below zero p [] k)
  order-visit zero p (i ∷ is) k = rw (hears-below zero p (i ∷ is) k)
  order-visit (suc n) p [] k = rw (hears-below (suc n) p [] k)
  order-visit (suc n) p (i ∷ is) k =
      rw (hears-below (suc n) p (i ∷ is) k)
      (ap₂ (λ (x y : List Mark). pass p ∷ (x ++ y))
      (order-visit n (then p false) (half false (i ∷ is)) (below_half n p (i ∷ is) false k))
      (order-visit n (then p true) (half true (i ∷ is)) (below_half n p (i ∷ is) true k)))

  -- where somebody is heard, somebody is heard in one of the halves
  no-doubts : (n : ℕ) (p : Bits) (js : List Bits) → Below n p js → Deep n js → doubts heard n p ≡ false
  unfolding doubts anyone
  no-doubts zero p js k g = refl
  no-doubts (suc n) p [] k g = rw (hears-below (suc n) p [] k)
  no-doubts (suc n) p (i ∷ is) k g =
      let js = i ∷ is in
      let zero-half = below_half n p js false k in
      let one-half = below_half n p js true k in
      let quiet : silent heard p ≡ false =
      rw (hears-below n (then p false) (half false js) zero-half, hears-below n (then p true) (half true js) one-half)
      (some-half (anyone (half false js)) (anyone (half true js)) (someone n i is g)) in
      rw (
        hears-below (suc n) p js k,
        quiet,
        no-doubts n (then p false) (half false js) zero-half (deep-half n false js g),
        no-doubts n (then p true) (half true js) one-half (deep-half n true js g),
      )

  no-doubt : Doubt heard d [] → ⊥
  unfolding under
  no-doubt k =
      true≢false (sym (doubts-out heard d [] k) ∙ no-doubts d [] ids (refl, omega arith) deep)

  abbrev ms : List Mark
  ms = order heard d []

  abbrev all : List Bits
  all = hits (order heard d [])

  abbrev shorter : List Bits
  shorter = begins d [] ids

  as-visit : order heard d [] ≡ visit d [] ids
  unfolding under
  as-visit = order-visit d [] ids (refl, omega arith)

  sorted : Sorted (order heard d [])
  sorted = subst Sorted (sym as-visit) (visit-sorted d [] ids deep)

  heard-number : length all ≡ length ids
  heard-number = ap (λ (x : List Mark). length (hits x)) as-visit ∙ hits-length d [] ids deep apart

  probes-number : length ms ≡ 1 + 2 * length shorter
  probes-number = ap length as-visit ∙ visit-length d [] ids

  members : (x : Bits) → Memᴰ x all ↔ Memᴰ x ids
  members x = (
    λ m.
        let (i, n, e) = hits-in d [] ids deep x (subst (λ (y : List Mark). Memᴰ x (hits y)) as-visit m) in
        Memᴰ.cast e n,
    λ m. subst (λ (y : List Mark). Memᴰ x (hits y)) (sym as-visit) (hits-out d [] ids deep x m),
  )

  -- where a walk stops, what it has heard is what is below the probe
  heard-is : (ys : List Mark) (m : Mark) (zs : List Mark) → ms ≡ ys ++ m ∷ zs
      → hits ys ≡ those (λ x. below x (asked m)) all
  heard-is ys m zs e =
      heard-before ys m zs (subst Sorted e sorted)
      ∙ ap (λ (x : List Mark). those (λ y. below y (asked m)) (hits x)) (sym e)

  module _ {A : Type 0} (name : Bits → A) (cap limit : ℕ) where
    abbrev end : Walk A
    end = last name d cap limit heard

    any : AnyEnd name d cap limit heard end (λ i. run name d cap heard i (start limit)) ms
    any = any-answers A name d cap limit heard

    ends : (x : Phase) → end.phase ≡ x → Ended x
        → (end.phase ≡ complete) ⊎ (((p : Bits) × (end.phase ≡ limited p)) ⊎ ((p : Bits) × (end.phase ≡ full p)))
    ends (asking p q w) e h = absurd h
    ends complete e h = inl e
    ends doubtful e h = absurd (no-doubt (any.doubtfuls.0 e).2)
    ends (limited p) e h = inr (inl (p, e))
    ends (full p) e h = inr (inr (p, e))

    complete-list : Ending name d cap limit heard → end.phase ≡ complete → end.listed ≡ map name all
    complete-list (all_asked a b r) h = ap (λ (s : Walk A). s.listed) r
    complete-list (at-limit ys m zs e a b r) h =
        absurd (omega (arith, ap tag (phase-is r h)))
    complete-list (at-full ys p zs e a b r) h =
        absurd (omega (arith, ap tag (phase-is r h)))

    limit-list : Ending name d cap limit heard → (p : Bits) → end.phase ≡ limited p
        → end.listed ≡ map name (those (λ x. below x p) all)
    limit-list (all_asked a b r) p h =
        absurd (omega (arith, ap tag (phase-is r h), flag-tag (doubts heard d [])))
    limit-list (at-limit ys m zs e a b r) p h =
        let g : asked m ≡ p = limited-same (phase-is r h) in
        ap (λ (s : Walk A). s.listed) r
        ∙ ap (map name) (heard-is ys m zs e ∙ ap (λ (y : Bits). those (λ x. below x y) all) g)
    limit-list (at-full ys q zs e a b r) p h =
        absurd (omega (arith, ap tag (phase-is r h)))

    full-list : Ending name d cap limit heard → (p : Bits) → end.phase ≡ full p
        → end.listed ≡ map name (those (λ x. below x p) all)
    full-list (all_asked a b r) p h =
        absurd (omega (arith, ap tag (phase-is r h), flag-tag (doubts heard d [])))
    full-list (at-limit ys m zs e a b r) p h =
        absurd (omega (arith, ap tag (phase-is r h)))
    full-list (at-full ys q zs e a b r) p h =
        let g : q ≡ p = full-same (phase-is r h) in
        ap (λ (s : Walk A). s.listed) r
        ∙ ap (map name) (heard-is ys (hit q) zs e ∙ ap (λ (y : Bits). those (λ x. below x y) all) g)

    bus-end : BusEnd name d cap limit ids end ms all shorter
    bus-end = record {
      ordered = record {
        ascending = sorted-ascending ms sorted;
        members = members;
        once = ascending-once all (sorted-ascending ms sorted);
        number = heard-number;
      };
      counted = begins-shorter d ids;
      probes = probes-number;
      ends = ends end.phase refl any.ended;
      completes = (
        λ h. let (a, b, k) = any.completes.0 h in (omega (arith, heard-number), omega (arith, probes-number)),
        λ (a, b). any.completes.1 (omega (arith, heard-number), omega (arith, probes-number), no-doubt),
      );
      complete-list = complete-list (ending name d cap limit heard);
      complete-count = λ h.
          let (a, b, k) = any.completes.0 h in omega (arith, any.count, place-all cap ms a, probes-number);
      bound = omega (arith, any.count, place-bound cap ms, probes-number, begins-bound d [] ids);
      limit-count = λ p h. omega (arith, any.count, ((any.limits p).0 h).0);
      limit-next = λ p h. ((any.limits p).0 h).1;
      limit-list = limit-list (ending name d cap limit heard);
      fulls = (
        λ (p, h). let (a, b, k) = (any.fulls p).0 h in (omega (arith, heard-number), b),
        λ (a, b). (_, (any.fulls _).1 (omega (arith, heard-number), b, refl)),
      );
      full-names = λ p h. ((any.fulls p).0 h).2;
      full-count = λ p h. omega (arith, any.count, ((any.fulls p).0 h).1);
      full-list = full-list (ending name d cap limit heard);
    }

-- the identities under a beginning
matches-under : (base p : Bits) (ids : List Bits) → Matches (base ++ p) ids ↔ Matches p (under base ids)
matches-under base p ids = (
  λ (q, m). (q, under-out base (p ++ q) ids (Memᴰ.cast (sym (append_assoc base p q)) m)),
  λ (q, m). (q, Memᴰ.cast (append_assoc base p q) (under-in base (p ++ q) ids m)),
)

different-under : (base : Bits) (ids : List Bits) → Different ids → Different (under base ids)
unfolding under
different-under [] ids n = n
different-under (b ∷ base) ids n = different-under base (half b ids) (different-half b ids n)

pub demand3 : BitDemand3
demand3 A name base d cap limit ids heard b = (
  _,
  _,
  bus-end d (under base ids) (deep-under base d ids b.deep) (different-under base ids b.apart) heard right
      name cap limit,
)
  where
    right : (p : Bits) → length p ≤ d → (heard p ≡ true) ↔ Matches p (under base ids)
    right p h = (
      λ e. (matches-under base p ids).0 ((b.right p h).0 e),
      λ m. (b.right p h).1 ((matches-under base p ids).1 m),
    )
