-- Demand 3. "If the devices don't change, no two padded identities are the same, and a probe is heard exactly when some
-- device matches it: a scan run to its end says "complete" exactly if there are at most 32 devices and the limit is at
-- least 1 plus twice the number of different beginnings of 0 to 151 bits of the padded identities. It then lists each
-- identity once, ascending, with exactly that many probes, never more than 1 + 304n."
-- The premises are `OctetBus ids heard` (whole_scan/specs/Demand): `ids` are the padded identities. "A scan run to its
-- end" is any record `last` that the promises of `new` and `report` allow (Runs.antt) and whose state is an end:
-- `Runs heard limit n last`, from `new` on by n reports, each of what `heard` says of the beginning that is asked.
-- Cable.antt has the same of a row of devices, where "heard" is what writing the probe, decoding and judging it at each
-- device comes to: there no premise about hearing is left. Proved by citation. Assumes nothing.
use Rattle.std.proofs.Common.{Result}
use Rattle.refusal.specs.declared.Refusal.{Refusal}
use mathlib.Core.Path.{◌≡◌, sym, ap, ◌∙◌, subst}
use mathlib.Core.Bool.{Bool, true, false}
use mathlib.Core.List.{List, [], map, Memᴰ}
use mathlib.Core.Logic.Iff
use mathlib.Core.Logic.{◌↔◌, ◌⊎◌}
use Prim.Native.Nat.{ℕ, ◌+◌, ◌*◌, ◌-◌, ◌<◌, ◌≤◌}
use lib.ListN.{length, take, get_or}
use Rattle.refusal.specs.Answer.{Answer, refuses, handed_out, Hands}
use Rattle.identity.specs.Bits.{Bits, bits_of}
use Rattle.identity.specs.Identity.{depth, octets_of}
use Rattle.identity.specs.Order.{lower, those, Ascending, Different}
use Rattle.walk.specs.Probes.{Mark, order, beginnings_of, place}
use Rattle.walk.specs.Demand.{Shorter}
use Rattle.walk.proofs.Begins.{shorter-number}
use Rattle.scan.specs.Record.{beginning_of, list_of}
use Rattle.scan.specs.Scan.{fresh, driven, probe_of, probed, over, ended, reported_all}
use Rattle.whole_scan.specs.Demand.{OctetBus, AsksExactly, AnyScan, BusScan}
use Rattle.whole_scan.specs.Demand.{Demand3, Demand3Identities, AnyScans, RunsExactly}
use Rattle.scan.specs.declared.Scan.{Scan}
use Rattle.scan.specs.declared.State.TheVariants.{Complete, Limit, Full}
use Rattle.script.specs.Words.{spelled}
use Rattle.terms.specs.Terms.{end_word}
use Rattle.terms.proofs.Said.{complete-said}
use Rattle.whole_scan.proofs.AnyScans.{any-scans}
use Rattle.whole_scan.proofs.Demand.{demand3-octets, demand3-identities}
use Rattle.whole_scan.proofs.Run.{run_ends}
use Rattle.whole_scan.proofs.Exactly.{run-exactly, new-run-exactly}
use Rattle.bus.proofs.Ascends.{one-order}
use Rattle.demands.proofs.Runs.{Runs, RunsBy, ProbeAllows, runs-exactly, runs-by-exactly, run-ended, runs-end}
use Rattle.demands.proofs.Runs.{probe-gives}

-- ---- of the definitions: "complete", "limit" and "full", in one record

pub whole : Demand3
whole = demand3-octets

-- the same of the identities as the devices have them, not padded
pub whole-identities : Demand3Identities
whole-identities = demand3-identities

-- what `probe` may hand out for a record that is known
probe-is : {s t : Scan} {x : Answer (List ℕ)} {o o' : List ℕ} {r : Result ℕ Refusal} → s ≡ t → probed t (length o) ≡ x
    → ProbeAllows s o r o' → Hands x o r o'
probe-is {s} {x = x} {o = o} {o' = o'} {r = r} e g p =
    let gives = ap (λ (u : Scan). probed u (length o)) e ∙ g in
    subst (λ (y : Answer (List ℕ)). Hands y o r o') gives (probe-gives s o o' r p)

module _ (limit : ℕ) (ids : List (List ℕ)) (heard : Bits → Bool) (b : OctetBus ids heard) where
  -- there is a list of the different beginnings of 0 to 151 bits, each once
  pub beginnings : (shorter : List Bits) × Shorter depth (map bits_of ids) shorter
  beginnings = let (all, shorter, w) = demand3-octets limit ids heard b in (shorter, w.counted)

  -- and one of the identities, each once, ascending
  pub identities : (all : List (List ℕ)) × Ascending lower all
      × ((x : List ℕ) → Memᴰ x all ↔ Memᴰ x ids)
  identities = let (all, shorter, w) = demand3-octets limit ids heard b in (all, w.ascending, w.members)

  -- the probes in their order
  abbrev probes : List Mark
  probes = order heard depth []

  -- ---- "a scan run to its end": `limit` reports reach it. There is one, and no other: what comes of i answers is
  -- `driven heard i (fresh limit)` (`runs-exactly`, Runs.antt)

  pub run-reaches : (n : ℕ) (s : Scan) → Runs heard limit n s → limit ≤ n → ended s.state ≡ true
  run-reaches = runs-end heard limit

  module _ (n : ℕ) (last : Scan) (run : Runs heard limit n last) (end : ended last.state ≡ true) where
    is_last : driven heard limit (fresh limit) ≡ last
    is_last = sym (run-ended heard limit n last run end)

    -- all that demand 3 says, of this scan
    pub whole_run : (all : List (List ℕ)) × (shorter : List Bits) × BusScan limit ids last probes all shorter
    whole_run =
        let (all, shorter, w) = demand3-octets limit ids heard b in
        (all, shorter, subst (λ (s : Scan). BusScan limit ids s probes all shorter) is_last w)

    any-run : AnyScan limit heard last (λ i. driven heard i (fresh limit)) probes
    any-run =
        subst (λ (s : Scan). AnyScan limit heard s (λ i. driven heard i (fresh limit)) probes) is_last
        (any-scans limit heard)

    -- `shorter`: the different beginnings of 0 to 151 bits of the padded identities, each once, in whatever order
    module _ (shorter : List Bits) (counted : Shorter depth (map bits_of ids) shorter) where
      -- ""complete" exactly if there are at most 32 devices and the limit is at least 1 plus twice the number"
      pub complete-exactly : last.state ≡ Complete ↔ (length ids ≤ 32) × (1 + 2 * length shorter ≤ limit)
      complete-exactly =
          let (all, listed, w) = whole_run in
          rw (← shorter-number depth (map bits_of ids) listed shorter w.counted counted) w.completes

      -- and "says" by the word itself, of those that the bench has for where a scan stands
      pub says-complete : end_word last.state ≡ spelled "complete"
          ↔ (length ids ≤ 32) × (1 + 2 * length shorter ≤ limit)
      says-complete = Iff.trans (complete-said last.state) complete-exactly

      -- "with exactly that many probes": the count;
      pub complete-count : last.state ≡ Complete → last.count ≡ 1 + 2 * length shorter
      complete-count =
          let (all, listed, w) = whole_run in
          rw (← shorter-number depth (map bits_of ids) listed shorter w.counted counted) w.complete-count

      -- and no other probe: what comes of i answers takes a probe and an answer exactly if i is below that number
      pub complete-probes : last.state ≡ Complete → (i : ℕ) (s : Scan) → Runs heard limit i s
          → (over s ≡ false) ↔ (i < 1 + 2 * length shorter)
      complete-probes e i s runs =
          rw ((runs-exactly heard limit i s).0 runs, ← complete-count e) (any-run.exactly.asks i)

    -- "It then lists each identity once, ascending"
    pub complete-lists : last.state ≡ Complete → ((i : List ℕ) → Memᴰ i (list_of last) ↔ Memᴰ i ids)
        × Different (list_of last) × Ascending lower (list_of last)
    complete-lists e =
        let (all, listed, w) = whole_run in
        rw (w.complete-list e) (w.members, w.once, w.ascending)

    -- "never more than 1 + 304n"
    pub never-more : last.count ≤ 1 + 304 * length ids
    never-more = whole_run.2.bound

    -- "doubtful" never
    pub ends_as : (last.state ≡ Complete) ⊎ ((last.state ≡ Limit) ⊎ (last.state ≡ Full))
    ends_as = whole_run.2.ends

    -- ---- at every end, "The count is the number of probes answered"

    -- what comes of i answers takes a probe and an answer exactly if i is below the count; from there on it is the end
    pub count-probes : (i : ℕ) (s : Scan) → Runs heard limit i s → (over s ≡ false) ↔ (i < last.count)
    count-probes i s runs = rw ((runs-exactly heard limit i s).0 runs) (any-run.exactly.asks i)

    pub count-stays : (i : ℕ) (s : Scan) → Runs heard limit i s → last.count ≤ i → s ≡ last
    count-stays i s runs h = (runs-exactly heard limit i s).0 runs ∙ any-run.exactly.stays i h

    -- what comes of i answers stands at the i-th beginning of the order, whose answer is reported next
    pub probes-asked : (i : ℕ) (s : Scan) → Runs heard limit i s → i < last.count
        → beginning_of s ≡ get_or (beginnings_of probes) i []
    probes-asked i s runs h = ap beginning_of ((runs-exactly heard limit i s).0 runs) ∙ any-run.asked i h

    -- the octets that `probe` hands out after i answers are those of the order's beginnings, and none comes twice
    pub probes-sent : ((i : ℕ) (s : Scan) → Runs heard limit i s → i < last.count
        → (o o' : List ℕ) (r : Result ℕ Refusal) → ProbeAllows s o r o'
        → Hands (handed_out (probe_of (get_or (beginnings_of probes) i [])) (length o)) o r o')
        × Different (beginnings_of probes)
    probes-sent = (
      λ i s runs h o o' r p. probe-is ((runs-exactly heard limit i s).0 runs) (any-run.sent i h (length o)) p,
      any-run.once,
    )

    -- and from the count on it hands out the number 7 alone
    pub probes-refused : (i : ℕ) (s : Scan) → Runs heard limit i s → last.count ≤ i
        → (o o' : List ℕ) (r : Result ℕ Refusal) → ProbeAllows s o r o' → Hands (refuses 7) o r o'
    probes-refused i s runs h o o' r p =
        probe-is ((runs-exactly heard limit i s).0 runs) (any-run.exactly.refused i h (length o)) p

    -- ---- "limit" and "full"

    -- "as "limit" when limit probes are answered and more remain", and "Full beats limit"
    pub limit-exactly : (last.state ≡ Limit) ↔ (limit < place 32 probes)
    limit-exactly = any-run.limits

    pub limit-count : last.state ≡ Limit → last.count ≡ limit
    limit-count = whole_run.2.limit-count

    -- "At "limit" the scan names the next probe's beginning"
    pub limit-names : last.state ≡ Limit → beginning_of last ≡ get_or (beginnings_of probes) limit []
    limit-names = whole_run.2.limit-names

    -- ""full" comes exactly if there are at least 33 and the limit reaches the 33rd's place in the probe order"
    pub full-exactly : (last.state ≡ Full) ↔ ((33 ≤ length ids) × (place 32 probes ≤ limit))
    full-exactly = whole_run.2.fulls

    pub full-count : last.state ≡ Full → last.count ≡ place 32 probes
    full-count = whole_run.2.full-count

    -- `all`: the identities, each once, ascending
    module _ (all : List (List ℕ)) (ascending : Ascending lower all)
        (members : (x : List ℕ) → Memᴰ x all ↔ Memᴰ x ids) where
      all-run : (shorter : List Bits) × BusScan limit ids last probes all shorter
      all-run =
          let (listed, shorter, w) = whole_run in
          let same : listed ≡ all =
          one-order listed all w.ascending ascending (λ x. Iff.trans (w.members x) ((members x).1, (members x).0)) in
          (shorter, subst (λ (xs : List (List ℕ)). BusScan limit ids last probes xs shorter) same w)

      -- "It then lists each identity once, ascending", as one list
      pub complete-list : last.state ≡ Complete → list_of last ≡ all
      complete-list = all-run.1.complete-list

      -- "at "full" the 33rd identity"
      pub full-names : last.state ≡ Full → octets_of (beginning_of last) ≡ get_or all 32 []
      full-names = all-run.1.full-names

      -- "the list is then exactly the present identities below that, filled with zeros": at "limit", and at "full"
      pub limit-list : last.state ≡ Limit → list_of last ≡ those (λ x. lower x (octets_of (beginning_of last))) all
      limit-list = all-run.1.limit-list

      pub full-list : last.state ≡ Full → list_of last ≡ those (λ x. lower x (octets_of (beginning_of last))) all
      full-list = all-run.1.full-list

-- ---- whatever is heard, with no premise: the count, the list and each end

pub any-answers : AnyScans
any-answers = any-scans

-- from any record that is not refused, limit - count answers reach an end
pub ends-always : (s : Scan) (answers : List Bool) → over s ≡ false → length answers ≡ s.limit - s.count
    → ended (reported_all s answers).state ≡ true
ends-always = run_ends

-- from any record, by any answers: as many probes as are counted, and no other
pub exactly-always : RunsExactly
exactly-always = run-exactly

-- and of what the promises allow: at least limit answers lead to `last`, the first i of them to s
module _ (limit : ℕ) (answers : List Bool) (enough : limit ≤ length answers)
    (last : Scan) (run : RunsBy limit answers last) (i : ℕ) (s : Scan) (part : RunsBy limit (take i answers) s) where
  exactly : AsksExactly last.count last (λ i. reported_all (fresh limit) (take i answers))
  exactly =
      subst (λ (t : Scan). AsksExactly t.count t (λ i. reported_all (fresh limit) (take i answers)))
      (sym ((runs-by-exactly limit answers last).0 run)) (new-run-exactly limit answers enough)

  is-part : s ≡ reported_all (fresh limit) (take i answers)
  is-part = (runs-by-exactly limit (take i answers) s).0 part

  pub any-probes : (over s ≡ false) ↔ (i < last.count)
  any-probes = rw is-part (exactly.asks i)

  pub any-stays : last.count ≤ i → s ≡ last
  any-stays h = is-part ∙ exactly.stays i h

  pub any-refused : last.count ≤ i → (o o' : List ℕ) (r : Result ℕ Refusal) → ProbeAllows s o r o' → Hands (refuses 7) o r o'
  any-refused h o o' r p = probe-is is-part (exactly.refused i h (length o)) p
