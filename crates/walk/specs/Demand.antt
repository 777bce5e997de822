-- Demand 3, over the depth d of the identities, the length cap of the list, the limit and the beginning `base` that a
-- scan starts from. Here they are 152, 32, any, and none.
--   BitBus                 == demand 3's premises: the identities present, no two alike, and a probe is heard exactly
--                             when one of them begins with what it asks
--   Ordered ids all        == all has the identities, each once, ascending
--   Shorter d ids shorter  == shorter has each beginning of 0 to d - 1 bits that an identity has, once
--   AsksNext p s           == the walk s asks p
--   AnyEnd                 == what a walk comes to by any answers at all; BusEnd == what it comes to on a bus
-- Assumes nothing.
use Rattle.std.specs.Prelude.{◌≡◌, Bool, true, ◌↔◌, ◌⊎◌, ℕ, ◌+◌, ◌*◌, ◌≤◌, ◌<◌, min, length, take, get_or}
use mathlib.Core.List.{List, [], ◌++◌, map, Memᴰ}
use Rattle.identity.specs.Bits.{Bits}
use Rattle.identity.specs.Order.{below, those, Ascending, Different}
use Rattle.walk.specs.Beginnings.{under, Matches, Deep}
use Rattle.walk.specs.Probes.{Mark, order, beginnings_of, hits, place, Doubt}
use Rattle.walk.specs.Machine.{asking, complete, doubtful, limited, full, Ended, Walk, start, run}

pub record BitBus (base : Bits) (d : ℕ) (ids : List Bits) (heard : Bits → Bool) : Type 0 where
  pub deep : Deep (length base + d) ids
  pub apart : Different ids
  pub right : (p : Bits) → length p ≤ d → (heard p ≡ true) ↔ Matches (base ++ p) ids

pub record Ordered (ids all : List Bits) : Type 0 where
  pub ascending : Ascending below all
  pub members : (x : Bits) → Memᴰ x all ↔ Memᴰ x ids
  pub once : Different all
  pub number : length all ≡ length ids

pub record Shorter (d : ℕ) (ids shorter : List Bits) : Type 0 where
  pub members : (x : Bits) → Memᴰ x shorter ↔ ((length x < d) × Matches x ids)
  pub once : Different shorter

abbrev pub AsksNext : {A : Type 0} → Bits → Walk A → Type 0
AsksNext p s = (quiet : Bool) × (doubt : Bool) × (s.phase ≡ asking p quiet doubt)

-- `last` is the walk at its end, `after i` the walk after i answers, ms the order of the probes
module _ {A : Type 0} (name : Bits → A) (d cap limit : ℕ) where
  pub record AnyEnd (heard : Bits → Bool) (last : Walk A) (after : ℕ → Walk A) (ms : List Mark) : Type 0 where
    -- "The count is the number of probes answered": after i answers the walk has ended exactly if i is not below it,
    -- and from there on it stays
    pub ended-from : (i : ℕ) → Ended (after i).phase ↔ (last.count ≤ i)
    pub stays : (i : ℕ) → last.count ≤ i → after i ≡ last
    -- as many as the limit lets, up to the 33rd identity's
    pub count : last.count ≡ min limit (place cap ms)
    pub list : last.listed ≡ map name (take cap (hits (take last.count ms)))
    pub ended : Ended last.phase
    -- "as "full" when a 33rd identity is heard", "Full beats limit", and it names "the 33rd identity"
    pub fulls : (p : Bits) → (last.phase ≡ full p)
        ↔ ((cap < length (hits ms)) × (place cap ms ≤ limit) × (get_or (hits ms) cap [] ≡ p))
    -- "as "limit" when limit probes are answered and more remain", and it names "the next probe's beginning"
    pub limits : (p : Bits) → (last.phase ≡ limited p)
        ↔ ((limit < place cap ms) × (get_or (beginnings_of ms) limit [] ≡ p))
    -- "else when none remain: "doubtful" if a heard beginning had both halves silent, "complete" if not"
    pub doubtfuls : (last.phase ≡ doubtful)
        ↔ ((length (hits ms) ≤ cap) × (length ms ≤ limit) × Doubt heard d [])
    pub completes : (last.phase ≡ complete)
        ↔ ((length (hits ms) ≤ cap) × (length ms ≤ limit) × (Doubt heard d [] → ⊥))
    -- what is asked after i answers is the i-th beginning of the order, and none is asked twice
    pub sent : (i : ℕ) → i < last.count → AsksNext (get_or (beginnings_of ms) i []) (after i)
    pub once : Different (beginnings_of ms)

  pub record BusEnd (ids : List Bits) (last : Walk A) (ms : List Mark) (all shorter : List Bits) : Type 0 where
    pub ordered : Ordered ids all
    pub counted : Shorter d ids shorter
    -- the order has one probe, and two for each beginning
    pub probes : length ms ≡ 1 + 2 * length shorter
    -- "doubtful" never
    pub ends : (last.phase ≡ complete)
        ⊎ (((p : Bits) × (last.phase ≡ limited p)) ⊎ ((p : Bits) × (last.phase ≡ full p)))
    pub completes : (last.phase ≡ complete) ↔ ((length ids ≤ cap) × (1 + 2 * length shorter ≤ limit))
    pub complete-list : last.phase ≡ complete → last.listed ≡ map name all
    pub complete-count : last.phase ≡ complete → last.count ≡ 1 + 2 * length shorter
    pub bound : last.count ≤ 1 + 2 * (d * length ids)
    pub limit-count : (p : Bits) → last.phase ≡ limited p → last.count ≡ limit
    pub limit-next : (p : Bits) → last.phase ≡ limited p → get_or (beginnings_of ms) limit [] ≡ p
    pub limit-list : (p : Bits) → last.phase ≡ limited p → last.listed ≡ map name (those (λ x. below x p) all)
    pub fulls : ((p : Bits) × (last.phase ≡ full p)) ↔ ((cap < length ids) × (place cap ms ≤ limit))
    pub full-names : (p : Bits) → last.phase ≡ full p → get_or all cap [] ≡ p
    pub full-count : (p : Bits) → last.phase ≡ full p → last.count ≡ place cap ms
    pub full-list : (p : Bits) → last.phase ≡ full p → last.listed ≡ map name (those (λ x. below x p) all)

abbrev pub AnyAnswers : Type 1
AnyAnswers =
    (A : Type 0) (name : Bits → A) (d cap limit : ℕ) (heard : Bits → Bool)
    → AnyEnd name d cap limit heard (run name d cap heard limit (start limit))
    (λ i. run name d cap heard i (start limit))
    (order heard d [])

abbrev pub BitDemand3 : Type 1
BitDemand3 =
    (A : Type 0) (name : Bits → A) (base : Bits) (d cap limit : ℕ) (ids : List Bits) (heard : Bits → Bool)
    → BitBus base d ids heard
    → (all : List Bits) × (shorter : List Bits)
    × BusEnd name d cap limit (under base ids) (run name d cap heard limit (start limit)) (order heard d [])
    all shorter
