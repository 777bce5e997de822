-- Demand 3, in octets and of the record that the code makes, from `fresh limit` on.
--   probes_each           == the most probes that an identity takes, besides the first: two for each of its 152 bits
--   OctetBus ids heard    == demand 3's premises: padded identities, no two alike, and a probe is heard exactly when
--                            one of them, masked as a scan masks it, equals what the probe asks for
--   IdentityBus ids heard == the same of allowed identities, not padded
--   AsksExactly n         == a scan asks n probes more and then none: it takes n answers, and stays
--   AnyScan               == what a scan comes to by any answers at all; BusScan == what it comes to on a bus
--   RunsOut               == from any record that is not refused, limit - count answers reach an end
--   RunsExactly           == from any record, by any answers: as many probes as are counted, and no other
--   NewRunsExactly        == the same of a new scan: exactly `count` probes
-- `last` is the scan at its end, `after i` the scan after i answers, ms the order of the probes. Assumes nothing.
use Rattle.std.specs.Prelude.{◌≡◌, Bool, true, false, ◌↔◌, ◌⊎◌, ℕ, ◌+◌, ◌*◌, ◌-◌, ◌≤◌, ◌<◌, min, length, take, get_or}
use mathlib.Core.List.{List, [], map, Memᴰ}
use Rattle.octets.specs.Octets.{Octets}
use Rattle.refusal.specs.Answer.{refuses, handed_out}
use Rattle.identity.specs.Bits.{Bits, bits_of, masked}
use Rattle.identity.specs.Identity.{width, depth, allowed_identity, padded, octets_of, mask_of, answers_scan}
use Rattle.identity.specs.Order.{lower, those, Ascending, Different}
use Rattle.walk.specs.Probes.{Mark, order, beginnings_of, hits, place, Doubt}
use Rattle.walk.specs.Demand.{Shorter}
use Rattle.scan.specs.Record.{list_most, beginning_of, list_of}
use Rattle.scan.specs.Scan.{fresh, probe_of, ended, over, probed, reported_all, driven}
use Rattle.scan.specs.declared.Scan.{Scan}
use Rattle.scan.specs.declared.State.TheVariants.{Complete, Doubtful, Limit, Full}

-- "1 + 304n"
abbrev pub probes_each : ℕ
probes_each = 2 * depth

pub record OctetBus (ids : List (List ℕ)) (heard : Bits → Bool) : Type 0 where
  pub whole : (i : List ℕ) → Memᴰ i ids → (length i ≡ width) × Octets i
  pub apart : Different ids
  pub right : (p : Bits) → length p ≤ depth
      → (heard p ≡ true) ↔ ((i : List ℕ) × Memᴰ i ids × (masked i (mask_of p) ≡ octets_of p))

pub record IdentityBus (ids : List (List ℕ)) (heard : Bits → Bool) : Type 0 where
  pub allowed : (i : List ℕ) → Memᴰ i ids → allowed_identity i ≡ true
  pub apart : Different ids
  pub right : (p : Bits) → length p ≤ depth
      → (heard p ≡ true) ↔ ((i : List ℕ) × Memᴰ i ids × (answers_scan i (mask_of p) (octets_of p) ≡ true))

-- "with exactly that many probes": after i answers the scan takes a probe and an answer exactly if i < n; from there on
-- a probe is refused with 7, and the record stays
pub record AsksExactly (n : ℕ) (last : Scan) (after : ℕ → Scan) : Type 0 where
  pub asks : (i : ℕ) → (over (after i) ≡ false) ↔ (i < n)
  pub refused : (i : ℕ) → n ≤ i → (lent : ℕ) → probed (after i) lent ≡ refuses 7
  pub stays : (i : ℕ) → n ≤ i → after i ≡ last

pub record AnyScan (limit : ℕ) (heard : Bits → Bool) (last : Scan) (after : ℕ → Scan) (ms : List Mark) : Type 0 where
  -- "The count is the number of probes answered", and no other is asked
  pub exactly : AsksExactly last.count last after
  -- as many as the limit lets, up to the 33rd identity's
  pub count : last.count ≡ min limit (place list_most ms)
  pub list : list_of last ≡ map octets_of (take list_most (hits (take last.count ms)))
  pub ends : ended last.state ≡ true
  -- "full" beats "limit", and names the 33rd identity; "limit" names the next probe's beginning
  pub fulls : (last.state ≡ Full) ↔ ((list_most < length (hits ms)) × (place list_most ms ≤ limit))
  pub full-names : last.state ≡ Full → beginning_of last ≡ get_or (hits ms) list_most []
  pub limits : (last.state ≡ Limit) ↔ (limit < place list_most ms)
  pub limit-names : last.state ≡ Limit → beginning_of last ≡ get_or (beginnings_of ms) limit []
  -- no probe remains, it is not full, and a heard beginning had both halves silent; or none had
  pub doubtfuls : (last.state ≡ Doubtful)
      ↔ ((length (hits ms) ≤ list_most) × (length ms ≤ limit) × Doubt heard depth [])
  pub completes : (last.state ≡ Complete)
      ↔ ((length (hits ms) ≤ list_most) × (length ms ≤ limit) × (Doubt heard depth [] → ⊥))
  -- after i answers the scan stands at the i-th beginning of the order, `probe` writes its probe, and none comes twice
  pub asked : (i : ℕ) → i < last.count → beginning_of (after i) ≡ get_or (beginnings_of ms) i []
  pub sent : (i : ℕ) → i < last.count → (lent : ℕ)
      → probed (after i) lent ≡ handed_out (probe_of (get_or (beginnings_of ms) i [])) lent
  pub once : Different (beginnings_of ms)

-- `all` are the identities, each once, ascending; `shorter` the different beginnings of 0 to 151 bits
pub record BusScan (limit : ℕ) (ids : List (List ℕ)) (last : Scan) (ms : List Mark)
    (all : List (List ℕ)) (shorter : List Bits) : Type 0 where
  -- the identities, each once, ascending
  pub ascending : Ascending lower all
  pub members : (x : List ℕ) → Memᴰ x all ↔ Memᴰ x ids
  pub once : Different all
  -- one probe, and two for each different beginning
  pub counted : Shorter depth (map bits_of ids) shorter
  pub probes : length ms ≡ 1 + 2 * length shorter
  -- "doubtful" never
  pub ends : (last.state ≡ Complete) ⊎ ((last.state ≡ Limit) ⊎ (last.state ≡ Full))
  -- "complete" exactly if there are at most 32 and the limit lets all the probes be asked
  pub completes : (last.state ≡ Complete) ↔ ((length ids ≤ list_most) × (1 + 2 * length shorter ≤ limit))
  pub complete-list : last.state ≡ Complete → list_of last ≡ all
  pub complete-count : last.state ≡ Complete → last.count ≡ 1 + 2 * length shorter
  -- never more than 1 + 304n probes
  pub bound : last.count ≤ 1 + probes_each * length ids
  -- at "limit": limit probes answered, the next probe's beginning named, what is below it listed
  pub limit-count : last.state ≡ Limit → last.count ≡ limit
  pub limit-names : last.state ≡ Limit → beginning_of last ≡ get_or (beginnings_of ms) limit []
  pub limit-list : last.state ≡ Limit → list_of last ≡ those (λ x. lower x (octets_of (beginning_of last))) all
  -- "full" exactly if there are at least 33 and the limit reaches the 33rd's place; it is named, those below it listed
  pub fulls : (last.state ≡ Full) ↔ ((list_most < length ids) × (place list_most ms ≤ limit))
  pub full-count : last.state ≡ Full → last.count ≡ place list_most ms
  pub full-names : last.state ≡ Full → octets_of (beginning_of last) ≡ get_or all list_most []
  pub full-list : last.state ≡ Full → list_of last ≡ those (λ x. lower x (octets_of (beginning_of last))) all

abbrev pub AnyScans : Type 0
AnyScans =
    (limit : ℕ) (heard : Bits → Bool)
    → AnyScan limit heard (driven heard limit (fresh limit)) (λ i. driven heard i (fresh limit)) (order heard depth [])

abbrev pub Demand3 : Type 0
Demand3 =
    (limit : ℕ) (ids : List (List ℕ)) (heard : Bits → Bool) → OctetBus ids heard
    → (all : List (List ℕ)) × (shorter : List Bits)
    × BusScan limit ids (driven heard limit (fresh limit)) (order heard depth []) all shorter

abbrev pub Demand3Identities : Type 0
Demand3Identities =
    (limit : ℕ) (ids : List (List ℕ)) (heard : Bits → Bool) → IdentityBus ids heard
    → (all : List (List ℕ)) × (shorter : List Bits)
    × BusScan limit (map padded ids) (driven heard limit (fresh limit)) (order heard depth []) all shorter

abbrev pub RunsOut : Type 0
RunsOut =
    (s : Scan) (answers : List Bool) → over s ≡ false → length answers ≡ s.limit - s.count
    → ended (reported_all s answers).state ≡ true

-- `n` are the probes asked from here on, whatever the answers to them
abbrev pub RunsExactly : Type 0
RunsExactly =
    (s : Scan) (answers : List Bool) → s.limit - s.count ≤ length answers
    → (n : ℕ) × ((reported_all s answers).count ≡ s.count + n)
    × AsksExactly n (reported_all s answers) (λ i. reported_all s (take i answers))

abbrev pub NewRunsExactly : Type 0
NewRunsExactly =
    (limit : ℕ) (answers : List Bool) → limit ≤ length answers
    → AsksExactly (reported_all (fresh limit) answers).count (reported_all (fresh limit) answers)
    (λ i. reported_all (fresh limit) (take i answers))
