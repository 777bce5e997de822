-- Longer frames on the cable: a negotiation, written as a line, is heard and answered, both ends have the same limit after
-- one that gives a length, and frames up to it are heard; a frame is heard as it was put in exactly if it has room in the
-- frame limit of the link, and gets 2 where it has not. What a device answers in octets is read back with any limit.
-- Assumes nothing.
use mathlib.Core.Path.{◌≡◌, refl, sym, ap, ap₂, ◌∙◌}
use mathlib.Core.Bool.{Bool, true, false}
use mathlib.Core.Logic.{◌↔◌, ◌⊎◌, inl, inr, ⊎_map, ⊎_elim}
use mathlib.Core.List.{List, ◌∷◌}
use mathlib.Core.Option.{Option, some}
use Prim.Native.Nat.{ℕ, ◌+◌, ◌≤◌, ◌<◌}
use native.Mathlib.Omega.{arith}
use borrow.Author.Tests.{eq-eqb, ne_eqb, leb-true, leb-false}
use lib.Dec.{eqb, leb}
use lib.ListN.{length, drop}
use Rattle.octets.specs.Octets.{Octets}
use Rattle.refusal.specs.Answer.{Answer, gives, refuses}
use Rattle.refusal.proofs.Answers.{gives-not-refuses, in-room}
use Rattle.limits.specs.Limits.{is_limit, limit_most, frame_most, payload_most}
use Rattle.limits.proofs.Exactly.{is-limit-exactly}
use Rattle.fcs.specs.Check.{with_check}
use Rattle.frame.specs.Line.{plain, on_line, inside}
use Rattle.frame.specs.Decode.{decoded}
use Rattle.frame.specs.Write.{line_of, written}
use Rattle.frame.proofs.Assembled.{length-with_check}
use Rattle.frame.proofs.Exact.{decode-2, write-line}
use Rattle.frame.proofs.Trip.{whole-line, plain-on_line, inside-between, trip}
use Rattle.record.specs.declared.Device.{Device}
use Rattle.record.specs.Allowed.{limit_of, allowed_device}
use Rattle.record.specs.Changes.{device_of, limited_to}
use Rattle.record.proofs.Stays.{sound, limit-allowed, limited}
use Rattle.params.specs.Field.{Param, WellFormed, given}
use Rattle.negotiation.specs.Negotiation.{negotiating, agreed_limit, asked_in, agrees_on, offer_of}
use Rattle.negotiation.proofs.Exactly.{agreed-least}
use Rattle.xid_answer.proofs.Agreement.{answer-read}
use Rattle.link.specs.Link.{has_address, is_own, judged_frame}
use Rattle.link.specs.Frames.{OwnXid}
use Rattle.conduct.specs.Comes.{Comes, left}
use Rattle.conduct.specs.Spelt.{negotiation_said, octets_said}
use Rattle.conduct.proofs.Addressed.{link-addressed, addressed-bounds}
use Rattle.conduct.proofs.Comes.{comes-leaves}
use Rattle.conduct.proofs.Says.{negotiation-is, negotiation-plain, frame-octets}
use Rattle.conduct.proofs.Limits.{Lengthy}
use Rattle.conduct.proofs.Stays.{limited-stays}
use Rattle.device.specs.Judge.{Reaction, reacts, reaction_of, heard_by, decoded_here, heard, device_after}
use Rattle.device.proofs.Fits.{answer-fits}
use Rattle.bus.specs.Cable.{line_with, line_for, hears, after_line}
use Rattle.bus.proofs.Hears.{hears-line, hears-written, hears-with}

-- ---- the way back

-- "one for both ways": what an allowed device answers, if it is octets, is read back with any frame limit
pub answer-reads-back : (d : Device) (f g : List ℕ) (M : ℕ) → allowed_device d ≡ true → is_limit M ≡ true → Octets g
    → (reaction_of (judged_frame d f)).frame ≡ some g → decoded M (inside (line_of g)) (frame_most M) ≡ gives g
unfolding reacts
answer-reads-back d f g M allowed ok os e =
    let (least, most, address) = answer-fits d f g allowed e in
    let limit = (is-limit-exactly M).0 ok in
    trip g os M ok (frame_most M) least (omega (arith, most, limit.0))
    ∙ in-room g (frame_most M) (omega (arith, most, limit.0))

-- ---- a negotiation

-- its payload is m, to a device that has an address
module _ (d : Device) (allowed : allowed_device d ≡ true) (has : has_address d.station.link ≡ true) (m : List ℕ)
    (octets : Octets m) (fits : length m ≤ 74) where
  abbrev asking : List ℕ
  asking = d.station.desk.address ∷ 0xBF ∷ m

  bounds : (1 ≤ d.station.desk.address) × (d.station.desk.address ≤ 254)
  bounds =
      addressed-bounds d.station.desk.address
      (link-addressed d.station.desk d.station.link (sound d allowed).link has)

  negotiates : OwnXid d asking
  unfolding is_own
  negotiates =
      let a = d.station.desk.address in
      let zero : eqb a 0 ≡ false = ne_eqb a 0 (λ e. omega (arith, bounds.0, e)) in
      record {
        least = omega arith;
        most = omega (arith, (limited d allowed).0);
        all = ne_eqb a 0xFF (λ e. omega (arith, bounds.1, e));
        own = rw (zero, eq-eqb a a refl);
        control = refl;
        link = has;
      }

  -- "the device answers with its own limit where that is lower": octet by octet, and the limit from now on
  pub negotiation-heard : (ps : List Param) → WellFormed negotiating m ps
      → let n = agreed_limit (limit_of d) ps in
      hears d (line_for asking)
      ≡ gives (record { device = limited_to d n; frame = some (negotiation_said d.station.desk.address ps n) })
  unfolding left octets_said reacts
  negotiation-heard ps formed =
      let c : Comes d asking = Comes.negotiates ps negotiates formed in
      hears-written d d.station.desk.address 0xBF m allowed (omega (arith, bounds.1), (omega arith, octets)) fits
      ∙ ap gives
      (ap₂ (λ (e : Device) (x : Option (List ℕ)). record { device = e; frame = x })
      (comes-leaves d asking c) (frame-octets d asking c))

  -- after it
  module _ (ps : List Param) (formed : WellFormed negotiating m ps) where
    abbrev agreed : ℕ
    agreed = agreed_limit (limit_of d) ps

    abbrev later : Device
    later = after_line d (line_for asking)

    later-is : later ≡ limited_to d agreed
    unfolding device_after
    later-is = ap (λ (x : Answer Reaction). device_after x d) (negotiation-heard ps formed)

    -- the limit that was agreed on is the device's
    pub limit-later : limit_of later ≡ agreed
    unfolding limited_to device_of
    limit-later = ap limit_of later-is

    later-allowed : allowed_device later ≡ true
    later-allowed =
        ap allowed_device later-is
        ∙ limited-stays d agreed allowed (agreed-least (limit_of d) ps (limit-allowed d allowed))

    -- and the master's, whatever M was, where it asked a length
    pub master-reads : (M : ℕ) → Lengthy ps
        → offer_of M (drop 2 (negotiation_said d.station.desk.address ps agreed)) ≡ agrees_on agreed (asked_in ps)
    unfolding asked_in given
    master-reads M long =
        ap (λ (g : List ℕ). offer_of M (drop 2 g)) (sym (negotiation-is d.station.desk.address ps agreed))
        ∙ answer-read (asked_in ps) agreed M (agreed-least (limit_of d) ps (limit-allowed d allowed))
        (⊎_map (λ w. rw w.1) (λ w. rw w.1) long)

    -- to whom the answer comes, as a line, as it was said, whatever limit the master reads it with
    pub master-hears : (M : ℕ) → is_limit M ≡ true → let g = negotiation_said d.station.desk.address ps agreed in
        decoded M (inside (line_of g)) (frame_most M) ≡ gives g
    unfolding octets_said reacts
    master-hears M ok =
        answer-reads-back d asking (negotiation_said d.station.desk.address ps agreed) M allowed ok
        (negotiation-plain ps agreed d.station.desk.address (omega (arith, bounds.1)))
        (frame-octets d asking (Comes.negotiates ps negotiates formed))

    -- so whatever line the writer gives with it for a frame is heard as that frame
    pub heard-written : (a c : ℕ) (p l : List ℕ) (room : ℕ) → Octets (a ∷ c ∷ p) → written agreed a c p room ≡ gives l
        → hears later l ≡ gives (reaction_of (judged_frame later (a ∷ c ∷ p)))
    heard-written a c p l room os e =
        let (ok, few, fits, is) = (write-line agreed a c p room l).0 e in
        rw (← is) (hears-line later a c p later-allowed os (rw limit-later few))

    -- such as the one that `line_with` has, for up to N - 4 octets of payload
    pub heard-later : (a c : ℕ) (p : List ℕ) → Octets (a ∷ c ∷ p) → length p ≤ payload_most agreed
        → hears later (line_with agreed (a ∷ c ∷ p)) ≡ gives (reaction_of (judged_frame later (a ∷ c ∷ p)))
    heard-later a c p os h = rw (← limit-later) (hears-with later a c p later-allowed os (rw limit-later h))

-- ---- frames by the limit of the link

module _ (d : Device) (a c : ℕ) (p : List ℕ) (allowed : allowed_device d ≡ true) where
  -- a frame that has no room in it gets 2, as it lies on the line
  pub longer-refused : payload_most (limit_of d) < length p → hears d (line_of (a ∷ c ∷ p)) ≡ refuses 2
  unfolding hears heard heard_by line_of
  longer-refused h =
      let b : List ℕ = a ∷ c ∷ p in
      let long : length (plain (on_line (with_check b))) ≡ length b + 2 =
      ap length (plain-on_line (with_check b)) ∙ length-with_check b in
      let said : decoded_here d (inside (line_of b)) ≡ refuses 2 =
      ap (decoded_here d) (inside-between (with_check b))
      ∙ (decode-2 (limit_of d) (on_line (with_check b)) (frame_most limit_most)).1 (
        limit-allowed d allowed,
        whole-line (with_check b),
        omega (arith, long),
        omega (arith, long, (limited d allowed).0),
      ) in
      ap (heard_by d (frame_most limit_most)) said

  -- and is heard as it was put in exactly if it has
  pub room-exactly : Octets (a ∷ c ∷ p)
      → hears d (line_of (a ∷ c ∷ p)) ≡ gives (reaction_of (judged_frame d (a ∷ c ∷ p))) ↔ length p ≤ payload_most (limit_of d)
  room-exactly os = (
    λ e.
        ⊎_elim (λ few. few) (λ many. absurd (gives-not-refuses (sym e ∙ longer-refused many)))
        (few-or-many (length p) (payload_most (limit_of d))),
    λ h. hears-line d a c p allowed os h,
  )
    where
      few-or-many : (k n : ℕ) → (k ≤ n) ⊎ (n < k)
      few-or-many k n = go (leb k n) refl
        where
          go : (b : Bool) → leb k n ≡ b → (k ≤ n) ⊎ (n < k)
          go true e = inl (leb-true k n e)
          go false e = inr (leb-false k n e)
