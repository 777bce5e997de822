-- The tests for a record that is handed in, for the data of a fresh one and for an event say what 01 says, phrase by
-- phrase; so 6 and 8 are given exactly then, in words. Assumes nothing.
use mathlib.Core.Path.{◌≡◌, refl, sym, ◌∙◌}
use mathlib.Core.Bool.{Bool, true, false, not}
use mathlib.Core.List.{List}
use mathlib.Core.Logic.Iff
use mathlib.Core.Logic.{◌↔◌, inl, inr}
use Prim.Native.Nat.{ℕ, ◌<◌, ◌≤◌}
use native.Mathlib.Omega.{arith}
use borrow.Author.Tests.{ltb-true, ltb-false, leb-true, le-leb, lt-ltb, eqb-true, eq-eqb, not-true}
use lib.Dec.{ltb, leb}
use lib.ListN.{length}
use Rattle.octets.proofs.Words.{true-not-false, and_parts}
use Rattle.refusal.specs.Answer.{refuses}
use Rattle.limits.proofs.Exactly.{is-limit-exactly}
use Rattle.identity.specs.Identity.{width, allowed_identity}
use Rattle.identity.proofs.Exactly.{identity-exactly}
use Rattle.antenna.specs.declared.Motion.{Motion}
use Rattle.antenna.specs.declared.Motion.TheVariants as motion
use Rattle.antenna.specs.Motions.{owes_of}
use Rattle.antenna.specs.declared.Antenna.{Antenna}
use Rattle.antenna.proofs.Angles.{range-exactly}
use Rattle.antenna.proofs.Can.{stop-exactly, alarm-exactly}
use Rattle.antenna.proofs.Differences.{differ-exactly}
use Rattle.record.specs.Allowed.{identity_of, product_most, version_most, identity_allowed, plates_allowed}
use Rattle.record.specs.Allowed.{numbers_allowed, pending_fits, session_allowed, addressed, link_allowed}
use Rattle.record.specs.Allowed.{owed_allowed, allowed_device, Owes, AllowedRecord}
use Rattle.record.specs.Fresh.{texts_allowed, data_allowed, antenna_from, AllowedData, fresh_of}
use Rattle.record.specs.Changes.{can_be, CanHappen, happened}
use Rattle.record.specs.declared.Event.{Event}
use Rattle.record.specs.declared.Event.TheVariants as event
use Rattle.record.specs.declared.Span.{Span}
use Rattle.record.specs.declared.Pending.{Pending}
use Rattle.record.specs.declared.Pending.TheVariants.{Nothing, Answer, Indication}
use Rattle.record.specs.declared.Plate.{Plate}
use Rattle.record.specs.declared.Session.{Session}
use Rattle.record.specs.declared.Link.{Link}
use Rattle.record.specs.declared.Link.TheVariants.{NoAddress, AddressAssigned, Connected}
use Rattle.record.specs.declared.Desk.{Desk}
use Rattle.record.specs.declared.Device.{Device}
use Rattle.record.proofs.Laid.{texts-parts}
use Rattle.record.proofs.Only.{fresh-6, happen-6, happen-8}
use Rattle.record.proofs.Stays.{sound, allowed-by}

-- no two cases are one
none-connected : (s : Session) → NoAddress ≡ Connected s → ⊥
none-connected s e = true-not-false (cc)

assigned-connected : (s : Session) → AddressAssigned ≡ Connected s → ⊥
assigned-connected s e = true-not-false (cc)

assigned-none : AddressAssigned ≡ NoAddress → ⊥
assigned-none e = true-not-false (cc)

connected-none : (s : Session) → Connected s ≡ NoAddress → ⊥
connected-none s e = true-not-false (cc)

connected-same : (s q : Session) → Connected s ≡ Connected q → s ≡ q
connected-same s q e = cc

nothing-answer : Nothing ≡ Answer → ⊥
nothing-answer e = true-not-false (cc)

nothing-indication : Nothing ≡ Indication → ⊥
nothing-indication e = true-not-false (cc)

answer-indication : Answer ≡ Indication → ⊥
answer-indication e = true-not-false (cc)

-- "Identity .. Product, hardware and software texts"
module _ (p : Plate) where
  plate-parts : plates_allowed p ≡ true
      → (p.identity.len ≤ 19) × (allowed_identity (identity_of p) ≡ true)
      × (p.product.len ≤ 20) × (p.hardware.len ≤ 14) × (p.software.len ≤ 14)
  unfolding plates_allowed identity_allowed
  plate-parts e =
      let one = and_parts (identity_allowed p.identity.octets p.identity.len) _ e in
      let two = and_parts (leb p.product.len product_most) _ one.1 in
      let three = and_parts (leb p.hardware.len version_most) _ two.1 in
      let who = and_parts (leb p.identity.len width) _ one.0 in (
        leb-true _ _ who.0,
        who.1,
        leb-true _ _ two.0,
        leb-true _ _ three.0,
        leb-true _ _ three.1,
      )

  plate-by : p.identity.len ≤ 19 → allowed_identity (identity_of p) ≡ true → p.product.len ≤ 20
      → p.hardware.len ≤ 14 → p.software.len ≤ 14 → plates_allowed p ≡ true
  unfolding plates_allowed identity_allowed
  plate-by a i b c d =
      rw (
        le-leb p.identity.len 19 a,
        i,
        le-leb p.product.len 20 b,
        le-leb p.hardware.len 14 c,
        le-leb p.software.len 14 d,
      )

-- "a pending answer of at most 74 payload octets (an indication: as below)"
module _ (t : Desk) (n : length t.said.flags ≡ length t.told.flags) where
  record Fits (p : Pending) : Type 0 where
    pub answer : p ≡ Answer → t.reply.len ≤ 74
    pub indication : p ≡ Indication → t.said.flags ≡ t.told.flags → ⊥

  fits : (p : Pending) → pending_fits t p ≡ true → Fits p
  unfolding pending_fits
  fits Nothing e =
      record { answer = λ q. absurd (nothing-answer q); indication = λ q. absurd (nothing-indication q) }
  fits Answer e = record { answer = λ q. leb-true _ _ e; indication = λ q. absurd (answer-indication q) }
  fits Indication e =
      record {
        answer = λ q. absurd (answer-indication (sym q));
        indication = λ q. (differ-exactly t.said.flags t.told.flags n).0 e;
      }

  fits_by : (p : Pending) → Fits p → pending_fits t p ≡ true
  unfolding pending_fits
  fits_by Nothing f = refl
  fits_by Answer f = le-leb t.reply.len 74 (f.answer refl)
  fits_by Indication f = (differ-exactly t.said.flags t.told.flags n).1 (f.indication refl)

  -- "an address of 0 to 254, 0 exactly in NoAddress, session numbers of 0 to 7"
  record Linked (l : Link) : Type 0 where
    pub address : t.address ≤ 254
    pub unaddressed : t.address ≡ 0 ↔ l ≡ NoAddress
    pub numbers : (s : Session) → l ≡ Connected s → (s.r ≤ 7) × (s.s ≤ 7)
    pub pending : (s : Session) → l ≡ Connected s → Fits s.pending

  address-parts : addressed t.address ≡ true → (0 < t.address) × (t.address ≤ 254)
  unfolding addressed
  address-parts e =
      let w = and_parts (ltb 0 t.address) _ e in
      (ltb-true _ _ w.0, omega (arith, ltb-true t.address 255 w.1))

  address-by : (t.address ≡ 0 → ⊥) → t.address ≤ 254 → addressed t.address ≡ true
  unfolding addressed
  address-by k h = rw (positive (ltb 0 t.address) refl, lt-ltb t.address 255 (omega (arith, h)))
    where
      positive : (b : Bool) → ltb 0 t.address ≡ b → b ≡ true
      positive true e = refl
      positive false e = absurd (k (omega (arith, ltb-false 0 t.address e)))

  session-parts : (s : Session) → session_allowed t s ≡ true → (s.r ≤ 7) × (s.s ≤ 7) × Fits s.pending
  unfolding session_allowed numbers_allowed
  session-parts s e =
      let one = and_parts (numbers_allowed s) (pending_fits t s.pending) e in
      let two = and_parts (ltb s.r 8) (ltb s.s 8) one.0 in (
        omega (arith, ltb-true s.r 8 two.0),
        omega (arith, ltb-true s.s 8 two.1),
        fits s.pending one.1,
      )

  session-by : (s : Session) → s.r ≤ 7 → s.s ≤ 7 → Fits s.pending → session_allowed t s ≡ true
  unfolding session_allowed numbers_allowed
  session-by s r q f =
      rw (
        lt-ltb s.r 8 (omega (arith, r)),
        lt-ltb s.s 8 (omega (arith, q)),
        fits_by s.pending f,
      )

  linked : (l : Link) → link_allowed t l ≡ true → Linked l
  unfolding link_allowed
  linked NoAddress e =
      let zero : t.address ≡ 0 = eqb-true t.address 0 e in
      record {
        address = omega (arith, zero);
        unaddressed = (λ q. refl, λ q. zero);
        numbers = λ s q. absurd (none-connected s q);
        pending = λ s q. absurd (none-connected s q);
      }
  linked AddressAssigned e =
      let a = address-parts e in
      record {
        address = a.1;
        unaddressed = (λ q. let none : ⊥ = omega (arith, a.0, q) in absurd none, λ q. absurd (assigned-none q));
        numbers = λ s q. absurd (assigned-connected s q);
        pending = λ s q. absurd (assigned-connected s q);
      }
  linked (Connected s) e =
      let w = and_parts (addressed t.address) (session_allowed t s) e in
      let a = address-parts w.0 in
      let b = session-parts s w.1 in
      record {
        address = a.1;
        unaddressed = (λ q. let none : ⊥ = omega (arith, a.0, q) in absurd none, λ q. absurd (connected-none s q));
        numbers = λ u q. rw (← connected-same s u q) (b.0, b.1);
        pending = λ u q. rw (← connected-same s u q) b.2;
      }

  linked-by : (l : Link) → Linked l → link_allowed t l ≡ true
  unfolding link_allowed
  linked-by NoAddress w = eq-eqb t.address 0 (w.unaddressed.1 refl)
  linked-by AddressAssigned w = address-by (λ q. assigned-none (w.unaddressed.0 q)) w.address
  linked-by (Connected s) w =
      let b = w.numbers s refl in
      rw (
        address-by (λ q. connected-none s (w.unaddressed.0 q)) w.address,
        session-by s b.0 b.1 (w.pending s refl),
      )

-- "a tilt result owed only in Connected"
owes-words : (m : Motion) → owes_of m ≡ true → Owes m
owes-words motion.Still e = absurd (true-not-false (sym e))
owes-words motion.Moving e = absurd (true-not-false (sym e))
owes-words (motion.Owing asked) e = inl (asked, refl)
owes-words (motion.Stopped reached) e = inr (reached, refl)

owes-by : (m : Motion) → Owes m → owes_of m ≡ true
owes-by m (inl (asked, e)) = rw e
owes-by m (inr (reached, e)) = rw e

unowed-by : (m : Motion) → (Owes m → ⊥) → not (owes_of m) ≡ true
unowed-by m k = go (owes_of m) refl
  where
    go : (b : Bool) → owes_of m ≡ b → not b ≡ true
    go true e = absurd (k (owes-words m e))
    go false e = refl

owed-words : (l : Link) (m : Motion) → owed_allowed l m ≡ true → Owes m → (s : Session) × (l ≡ Connected s)
unfolding owed_allowed
owed-words NoAddress m e o = absurd (true-not-false (sym (owes-by m o) ∙ not-true _ e))
owed-words AddressAssigned m e o = absurd (true-not-false (sym (owes-by m o) ∙ not-true _ e))
owed-words (Connected s) m e o = (s, refl)

owed-by : (l : Link) (m : Motion) → (Owes m → (s : Session) × (l ≡ Connected s)) → owed_allowed l m ≡ true
unfolding owed_allowed
owed-by NoAddress m f = unowed-by m (λ o. let w = f o in none-connected w.0 w.1)
owed-by AddressAssigned m f = unowed-by m (λ o. let w = f o in assigned-connected w.0 w.1)
owed-by (Connected s) m f = refl

module _ (d : Device) (n : length d.station.desk.said.flags ≡ length d.station.desk.told.flags) where
  in_words : allowed_device d ≡ true → AllowedRecord d
  in_words e =
      let whole = sound d e in
      let plate = plate-parts d.plate whole.plate in
      let range = (range-exactly d.antenna d.antenna.drive.tilt).0 whole.range in
      let link = linked d.station.desk n d.station.link whole.link in
      let limit = (is-limit-exactly d.station.desk.limit).0 whole.limit in
      record {
        identity = (identity-exactly (identity_of d.plate)).0 plate.1;
        identity-held = plate.0;
        product = plate.2;
        hardware = plate.3;
        software = plate.4;
        lowest = range.0;
        highest = range.1;
        address = link.address;
        unaddressed = link.unaddressed;
        limit-least = limit.0;
        limit-most = limit.1;
        numbers = link.numbers;
        answer = λ s q. (link.pending s q).answer;
        indication = λ s q. (link.pending s q).indication;
        owed = owed-words d.station.link d.antenna.motion whole.owed;
      }

  by-words : AllowedRecord d → allowed_device d ≡ true
  by-words w =
      allowed-by d
      (record {
        plate =
            plate-by d.plate w.identity-held ((identity-exactly (identity_of d.plate)).1 w.identity)
            w.product w.hardware w.software;
        range = (range-exactly d.antenna d.antenna.drive.tilt).1 (w.lowest, w.highest);
        limit = (is-limit-exactly d.station.desk.limit).1 (w.limit-least, w.limit-most);
        link =
            linked-by d.station.desk n d.station.link
            (record {
              address = w.address;
              unaddressed = w.unaddressed;
              numbers = w.numbers;
              pending = λ s q. record { answer = w.answer s q; indication = w.indication s q };
            });
        owed = owed-by d.station.link d.antenna.motion w.owed;
      })

  -- "Anything else is refusal 6": the two rows of flags are of one length, six, by their type
  pub allowed-exactly : allowed_device d ≡ true ↔ AllowedRecord d
  allowed-exactly = (in_words, by-words)

module _ (i p h s : List ℕ) (w : Span) where
  data-words : data_allowed i p h s (antenna_from w) ≡ true → AllowedData i p h s w
  unfolding data_allowed
  data-words e =
      let parts = and_parts (texts_allowed i p h s) _ e in
      let texts = texts-parts i p h s parts.0 in
      let range = (range-exactly (antenna_from w) w.present).0 parts.1 in
      record {
        identity = (identity-exactly i).0 texts.0;
        product = leb-true (length p) 20 texts.1;
        hardware = leb-true (length h) 14 texts.2;
        software = leb-true (length s) 14 texts.3;
        lowest = range.0;
        highest = range.1;
      }

  data-by : AllowedData i p h s w → data_allowed i p h s (antenna_from w) ≡ true
  unfolding data_allowed texts_allowed
  data-by a =
      rw (
        (identity-exactly i).1 a.identity,
        le-leb (length p) 20 a.product,
        le-leb (length h) 14 a.hardware,
        le-leb (length s) 14 a.software,
        (range-exactly (antenna_from w) w.present).1 (a.lowest, a.highest),
      )

  pub data-exactly : data_allowed i p h s (antenna_from w) ≡ true ↔ AllowedData i p h s w
  data-exactly = (data-words, data-by)

-- "Refusal 8: a stop with no movement, t outside lowest to highest, an alarm not among .."
pub can-exactly : (n : Antenna) (e : Event) → can_be n e ≡ true ↔ CanHappen n e
unfolding can_be
can-exactly n (event.Stopped t) = stop-exactly n t
can-exactly n (event.Raised k) = alarm-exactly k
can-exactly n (event.Cleared k) = alarm-exactly k

-- a test that says what the words say fails exactly if they are not so
fails-exactly : {A : Type 0} (b : Bool) → (b ≡ true ↔ A) → b ≡ false ↔ (A → ⊥)
fails-exactly true q = (λ e. absurd (true-not-false e), λ n. absurd (n (q.0 refl)))
fails-exactly false q = (λ e a. true-not-false (sym (q.1 a)), λ n. refl)

-- 6: "device data .. not allowed", in words
pub fresh-refused : (i p h s : List ℕ) (w : Span) → fresh_of i p h s w ≡ refuses 6 ↔ (AllowedData i p h s w → ⊥)
fresh-refused i p h s w = Iff.trans (fresh-6 i p h s w) (fails-exactly _ (data-exactly i p h s w))

module _ (d : Device) (e : Event) (n : length d.station.desk.said.flags ≡ length d.station.desk.told.flags) where
  -- 6: "a device record handed in, not allowed", in words
  pub event-refused-6 : happened d e ≡ refuses 6 ↔ (AllowedRecord d → ⊥)
  event-refused-6 = Iff.trans (happen-6 d e) (fails-exactly _ (allowed-exactly d n))

  -- 8: "a device event that can't be", and not 6, in words
  pub event-refused-8 : happened d e ≡ refuses 8 ↔ AllowedRecord d × (CanHappen d.antenna e → ⊥)
  event-refused-8 =
      let fit = allowed-exactly d n in
      let can = fails-exactly (can_be d.antenna e) (can-exactly d.antenna e) in
      Iff.trans (happen-8 d e) (λ w. (fit.0 w.0, can.0 w.1), λ w. (fit.1 w.0, can.1 w.1))
