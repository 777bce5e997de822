-- What a device says of a frame is what specs/Spelt has, octet by octet, whatever the record. Assumes nothing.
use mathlib.Core.Path.{◌≡◌, refl, sym, ap, ap₂, ◌∙◌}
use mathlib.Core.Bool.{Bool, true, false, cond, ◌||◌}
use mathlib.Core.List.{List, [], ◌∷◌, ◌++◌, append-nil}
use mathlib.Core.Logic.{◌⊎◌, inl, inr, ⊎_elim}
use mathlib.Core.Option.{some}
use Prim.Native.Nat.{ℕ, ◌+◌, ◌*◌, ◌%◌, ◌<◌}
use native.Mathlib.Omega.{arith}
use borrow.Author.Tests.{eqb-true}
use lib.Dec.{eqb, lit<}
use lib.ListN.{length}
use Rattle.octets.specs.Octets.{Octets}
use Rattle.octets.proofs.Words.{true-not-false}
use Rattle.octets.proofs.Bounds.{octets-append, octets-cond}
use Rattle.control.specs.Control.{next_of, info_of, rr_of}
use Rattle.antenna.specs.declared.Alarms.{Alarms}
use Rattle.antenna.specs.declared.Antenna.{Antenna}
use Rattle.antenna.specs.Alarms.{changes_among, changes_of}
use Rattle.record.specs.declared.Pending.{Pending}
use Rattle.record.specs.declared.Pending.TheVariants.{Nothing, Answer, Indication}
use Rattle.record.specs.declared.Session.{Session}
use Rattle.record.specs.declared.Link.TheVariants.{Connected}
use Rattle.record.specs.declared.Desk.{Desk}
use Rattle.record.specs.declared.Station.{Station}
use Rattle.record.specs.declared.Device.{Device}
use Rattle.record.specs.Allowed.{identity_of, limit_of}
use Rattle.record.specs.Changes.{unsaid_at, device_of, emptied_as, limited_to}
use Rattle.session.specs.Session.{pends, acknowledges, good_number, taken, vs_of, counts_of}
use Rattle.session.proofs.Numbers.{acknowledges-exactly}
use Rattle.payload.specs.Payloads.{payload_of, message_of, result_of}
use Rattle.payload.proofs.Laws.{payload-says, success-is, result-reached, result-missed}
use Rattle.params.specs.Field.{Param, triple_of, field_of, xid_payload, value_for, given}
use Rattle.negotiation.specs.Negotiation.{agreed_limit, asked_in}
use Rattle.report.specs.Reports.{indication_of}
use Rattle.xid_answer.specs.Answer.{scan_params, assignment_params, scan_answer, assignment_answer}
use Rattle.xid_answer.specs.Answer.{length_value, negotiation_params, negotiation_answer}
use Rattle.xid_answer.proofs.Stored.{negotiation-field, length-negotiation}
use Rattle.xid_answer.proofs.Lengths.{scan-field, assignment-field}
use Rattle.control.specs.declared.AskedFor.{AskedFor}
use Rattle.station.specs.declared.Say.{Say}
use Rattle.station.specs.declared.Turn.{Turn}
use Rattle.station.specs.Station.{resent, awaiting, answers_with}
use Rattle.station.specs.Turns.{saying, pend, ready}
use Rattle.acknowledge.specs.Acknowledge.{emptied, relieved, session_after, station_after, acknowledged}
use Rattle.acknowledge.proofs.Settled.{station-kept, session-kept}
use Rattle.poll.specs.Poll as poll
use Rattle.inform.specs.Inform.{heeded}
use Rattle.states.specs.States.{begun, renewed, released}
use Rattle.speech.specs.Speech.{pending_octets, link_octets, control_by, payload_by, frame_by}
use Rattle.link.specs.Link.{judged_frame}
use Rattle.link.specs.Frames.{control_of}
use Rattle.conduct.specs.Comes.{Comes, unread, scans, assigns, negotiates, begins, declines, renews, leaves}
use Rattle.conduct.specs.Comes.{miscounts, unknown, starts, clears, subscribes, answers, murmurs, repeats, resends}
use Rattle.conduct.specs.Comes.{delivers, indicates, rests, pauses, unanswered_as, answered_as, left, says}
use Rattle.conduct.specs.Spelt.{rr, info, kept, indication, pending_said, again, sent_number, frmr, result_said}
use Rattle.conduct.specs.Spelt.{scan_said, assignment_said, if_given, length_said, window_said, agreed_said}
use Rattle.conduct.specs.Spelt.{negotiation_said, octets_said}
use Rattle.conduct.proofs.Settles.{r-kept}
use Rattle.conduct.proofs.Comes.{comes-so}

-- ---- numbers

-- no number is the one behind it
next-differs : (n : ℕ) → n ≡ next_of n → ⊥
unfolding next_of
next-differs n e = omega (arith, e)

rr-control : (r : ℕ) → rr_of r ≡ 0x11 + 32 * (r % 8)
unfolding rr_of
rr-control r = omega arith

rr-next : (r : ℕ) → rr_of (next_of r) ≡ 0x11 + 32 * ((r + 1) % 8)
unfolding rr_of next_of
rr-next r = omega arith

info-control : (s r : ℕ) → info_of s r ≡ 0x10 + 2 * (s % 8) + 32 * (r % 8)
unfolding info_of
info-control s r = omega arith

info-next : (s r : ℕ) → info_of s (next_of r) ≡ 0x10 + 2 * (s % 8) + 32 * ((r + 1) % 8)
unfolding info_of next_of
info-next s r = omega arith

counts-are : (s : Session) → counts_of s ≡ 2 * sent_number s.s s.pending + 32 * (s.r % 8)
unfolding counts_of vs_of sent_number next_of
counts-are s = go s.pending
  where
    go : (p : Pending) → cond (pends p) (next_of s.s) (s.s % 8) * 2 + s.r % 8 * 32
        ≡ 2 * sent_number s.s p + 32 * (s.r % 8)
    go Nothing = omega arith
    go Answer = omega arith
    go Indication = omega arith

-- ---- after a good N(R)

module _ (s : Session) (r : ℕ) where
  -- it is S, and removes nothing, or the number behind S, and removes what is pending
  abbrev Stays : Type 0
  Stays = (acknowledges s r ≡ false) × (r ≡ s.s) × (kept s r ≡ s.pending)

  abbrev Removes : Type 0
  Removes = (acknowledges s r ≡ true) × (r ≡ next_of s.s) × (kept s r ≡ Nothing)

  good-cases : good_number s r ≡ true → Stays ⊎ Removes
  unfolding good_number kept
  good-cases = go (eqb r s.s) refl (acknowledges s r) refl
    where
      go : (x : Bool) → eqb r s.s ≡ x → (b : Bool) → acknowledges s r ≡ b → (x || b) ≡ true → Stays ⊎ Removes
      go true e true a g =
          let behind = ((acknowledges-exactly s r).0 a).1 in
          let same = eqb-true r s.s e in
          absurd (next-differs s.s (sym same ∙ behind))
      go true e false a g = inl (a, eqb-true r s.s e, rw e)
      go false e true a g = inr (a, ((acknowledges-exactly s r).0 a).1, rw e)
      go false e false a g = absurd (true-not-false (sym g))

  -- S is then that number
  pub good-s : good_number s r ≡ true → (session_after s r).s ≡ r
  unfolding session_after emptied
  good-s g = ⊎_elim (λ w. rw (w.0, w.1)) (λ w. rw (w.0, w.1)) (good-cases g)

address_kept : (t : Station) (s : Session) (r : ℕ) → (station_after t s r).desk.address ≡ t.desk.address
unfolding station_after relieved unsaid_at
address_kept t s r = go (acknowledges s r)
  where
    go : (b : Bool) → (cond b (relieved t s) t).desk.address ≡ t.desk.address
    go true = refl
    go false = refl

-- where it removes what is pending, RR is sent again
emptied-rests : (s : Session) (r : ℕ) → acknowledges s r ≡ true → resent (session_after s r) ≡ ready (session_after s r)
unfolding session_after resent emptied
emptied-rests s r a = rw a

-- ---- alarms

-- "pairs alarm and 1 (raised) or 0, ascending, for alarms whose present state differs from what was told"
abbrev pub if_changed : Bool → Bool → ℕ → List ℕ
if_changed true true code = []
if_changed true false code = code ∷ 1 ∷ []
if_changed false true code = code ∷ 0 ∷ []
if_changed false false code = []

changes-more : (c : ℕ) (cs : List ℕ) (p : Bool) (ps : List Bool) (t : Bool) (ts : List Bool)
    → changes_among (c ∷ cs) (p ∷ ps) (t ∷ ts) ≡ if_changed p t c ++ changes_among cs ps ts
unfolding changes_among
changes-more c cs true ps true ts = refl
changes-more c cs true ps false ts = refl
changes-more c cs false ps true ts = refl
changes-more c cs false ps false ts = refl

changes-last : (c : ℕ) (p t : Bool) → changes_among (c ∷ []) (p ∷ []) (t ∷ []) ≡ if_changed p t c
unfolding changes_among
changes-last c true true = refl
changes-last c true false = refl
changes-last c false true = refl
changes-last c false false = refl

-- of the six alarms 01 names; p are their present states, t what was told
pub changes-are : (p₁ p₂ p₃ p₄ p₅ p₆ t₁ t₂ t₃ t₄ t₅ t₆ : Bool)
    → changes_of (p₁ ∷ p₂ ∷ p₃ ∷ p₄ ∷ p₅ ∷ p₆ ∷ []) (t₁ ∷ t₂ ∷ t₃ ∷ t₄ ∷ t₅ ∷ t₆ ∷ [])
    ≡ if_changed p₁ t₁ 0x02 ++ (if_changed p₂ t₂ 0x03 ++ (if_changed p₃ t₃ 0x0E
    ++ (if_changed p₄ t₄ 0x0F ++ (if_changed p₅ t₅ 0x11 ++ if_changed p₆ t₆ 0x27))))
changes-are p₁ p₂ p₃ p₄ p₅ p₆ t₁ t₂ t₃ t₄ t₅ t₆ =
    changes-more 0x02 _ p₁ _ t₁ _
    ∙ ap (λ (x : List ℕ). if_changed p₁ t₁ 0x02 ++ x)
    (changes-more 0x03 _ p₂ _ t₂ _
    ∙ ap (λ (x : List ℕ). if_changed p₂ t₂ 0x03 ++ x)
    (changes-more 0x0E _ p₃ _ t₃ _
    ∙ ap (λ (x : List ℕ). if_changed p₃ t₃ 0x0E ++ x)
    (changes-more 0x0F _ p₄ _ t₄ _
    ∙ ap (λ (x : List ℕ). if_changed p₄ t₄ 0x0F ++ x)
    (changes-more 0x11 _ p₅ _ t₅ _
    ∙ ap (λ (x : List ℕ). if_changed p₅ t₅ 0x11 ++ x) (changes-last 0x27 p₆ t₆)))))

-- ---- frames

same-frame : {a b c e : ℕ} {m n : List ℕ} → a ≡ b → c ≡ e → m ≡ n → some (a ∷ c ∷ m) ≡ some (b ∷ e ∷ n)
same-frame x y z = ap₂ (λ (h : ℕ) (l : List ℕ). some (h ∷ l)) x (ap₂ (λ (h : ℕ) (l : List ℕ). h ∷ l) y z)

scan-is : (a : ℕ) (i : List ℕ) → a ∷ 0xBF ∷ scan_answer i a ≡ scan_said a i
unfolding scan_answer xid_payload scan_params field_of triple_of scan_said
scan-is a i =
    ap
    (λ (k : ℕ). a ∷ 0xBF ∷ 0x81 ∷ 0xF0 ∷ k ∷ 1 ∷ length i ∷ (i ++ (2 ∷ 1 ∷ a ∷ 4 ∷ 1 ∷ 0x01 ∷ [])))
    (scan-field i a)

assignment-is : (a : ℕ) (i : List ℕ) → a ∷ 0xBF ∷ assignment_answer i ≡ assignment_said a i
unfolding assignment_answer xid_payload assignment_params field_of triple_of assignment_said
assignment-is a i =
    ap
    (λ (k : ℕ). a ∷ 0xBF ∷ 0x81 ∷ 0xF0 ∷ k ∷ 1 ∷ length i ∷ (i ++ (4 ∷ 1 ∷ 0x01 ∷ [])))
    (assignment-field i)

field_is : (ps : List Param) (N : ℕ) → field_of (negotiation_params (asked_in ps) N) ≡ agreed_said ps N
unfolding asked_in agreed_said if_given length_value triple_of
field_is ps N = rw (negotiation-field (asked_in ps) N, append-nil (if_given 8 ps (window_said 8)))

pub negotiation-is : (a : ℕ) (ps : List Param) (N : ℕ) → a ∷ 0xBF ∷ negotiation_answer (asked_in ps) N ≡ negotiation_said a ps N
unfolding negotiation_answer xid_payload negotiation_said
negotiation-is a ps N = ap (λ (t : List ℕ). a ∷ 0xBF ∷ 0x81 ∷ 0x80 ∷ length t ∷ t) (field_is ps N)

-- octets, from an address that is one
module _ (ps : List Param) (N : ℕ) where
  given-plain : (n : ℕ) (t : List ℕ) → Octets t → Octets (if_given n ps t)
  unfolding if_given
  given-plain n t os = octets-cond (given (value_for n ps)) t [] os tt

  length-plain : (n : ℕ) → n < 256 → Octets (if_given n ps (length_said N n))
  length-plain n h = given-plain n (length_said N n) (h, (lit< tt, (omega arith, (omega arith, tt))))

  window-plain : (n : ℕ) → n < 256 → Octets (if_given n ps (window_said n))
  window-plain n h = given-plain n (window_said n) (h, (lit< tt, (lit< tt, tt)))

  agreed-plain : Octets (agreed_said ps N)
  unfolding agreed_said
  agreed-plain =
      let windows = if_given 7 ps (window_said 7) ++ if_given 8 ps (window_said 8) in
      octets-append (if_given 5 ps (length_said N 5)) (if_given 6 ps (length_said N 6) ++ windows) (length-plain 5 (lit< tt))
      (octets-append (if_given 6 ps (length_said N 6)) windows (length-plain 6 (lit< tt))
      (octets-append (if_given 7 ps (window_said 7)) (if_given 8 ps (window_said 8))
      (window-plain 7 (lit< tt)) (window-plain 8 (lit< tt))))

  pub negotiation-plain : (a : ℕ) → a < 256 → Octets (negotiation_said a ps N)
  unfolding negotiation_said
  negotiation-plain a h =
      let few : length (agreed_said ps N) < 256 =
      omega (arith, length-negotiation (asked_in ps) N, ap length (negotiation-is a ps N)) in
      (h, (lit< tt, (lit< tt, (lit< tt, (few, agreed-plain)))))

result-is : (reached : Bool) → result_of reached ≡ result_said reached
unfolding result_said
result-is true = result-reached
result-is false = result-missed

-- what is pending, as it is said
pending-is : (t : Desk) (p : Pending) → pending_octets t p ≡ pending_said t p
unfolding pending_octets pending_said indication_of message_of indication
pending-is t Nothing = refl
pending-is t Answer = refl
pending-is t Indication = refl

module _ (d : Device) (s : Session) (r : ℕ) (good : good_number s r ≡ true) where
  -- the controls
  now : info_of (session_after s r).s (session_after s r).r ≡ 0x10 + 2 * (r % 8) + 32 * (s.r % 8)
  now = ap₂ info_of (good-s s r good) (r-kept s r) ∙ info-control r s.r

  next : info_of (session_after s r).s (next_of (session_after s r).r) ≡ 0x10 + 2 * (r % 8) + 32 * ((s.r + 1) % 8)
  next = ap₂ info_of (good-s s r good) (ap next_of (r-kept s r)) ∙ info-next r s.r

  -- RR, before and after R moves on
  module _ (n : Antenna) where
    rests-says : frame_by (device_of d (station_after d.station s r) n) (ready (session_after s r))
        ≡ rr d.station.desk.address s.r
    unfolding frame_by control_by payload_by device_of rr
    rests-says = same-frame (address_kept d.station s r) (ap rr_of (r-kept s r) ∙ rr-control s.r) refl

    heard-says : (told : Alarms) (sub : Bool)
        → frame_by (unanswered_as d s r n told sub) (ready (taken (session_after s r))) ≡ rr d.station.desk.address (s.r + 1)
    unfolding frame_by control_by payload_by device_of heeded taken rr
    heard-says told sub =
        same-frame (address_kept d.station s r) (ap (λ (k : ℕ). rr_of (next_of k)) (r-kept s r) ∙ rr-next s.r) refl

    -- an answer
    replied-says : (told : Alarms) (sub : Bool) (b : List ℕ)
        → frame_by (answered_as d s r n told sub b) (pend (taken (session_after s r)))
        ≡ info d.station.desk.address r (s.r + 1) b
    unfolding frame_by control_by payload_by device_of answers_with awaiting heeded taken link_octets pending_octets
        info
    replied-says told sub b = same-frame (address_kept d.station s r) next (payload-says b)

    delivers-says : (b : List ℕ)
        → frame_by (device_of d (answers_with (station_after d.station s r) (session_after s r) (payload_of b)) n)
        (pend (session_after s r))
        ≡ info d.station.desk.address r s.r b
    unfolding frame_by control_by payload_by device_of answers_with awaiting link_octets pending_octets info
    delivers-says b = same-frame (address_kept d.station s r) now (payload-says b)

    indicates-says : (a : Alarms)
        → frame_by (device_of d (poll.indicates (station_after d.station s r) (session_after s r) a) n)
        (pend (session_after s r))
        ≡ info d.station.desk.address r s.r
        (indication (changes_of a.flags (station_after d.station s r).desk.told.flags))
    unfolding frame_by control_by payload_by device_of poll.indicates awaiting link_octets pending_octets info
        indication_of message_of indication
    indicates-says a = same-frame (address_kept d.station s r) now refl

  -- what was pending
  module _ (link : d.station.link ≡ Connected s) where
    pends-says : r ≡ s.s → frame_by (device_of d d.station d.antenna) (pend s)
        ≡ info d.station.desk.address r s.r (pending_said d.station.desk s.pending)
    unfolding frame_by control_by payload_by device_of link_octets info
    pends-says e =
        same-frame refl (ap (λ (k : ℕ). info_of k s.r) (sym e) ∙ info-control r s.r)
        (ap (link_octets d.station.desk) link ∙ pending-is d.station.desk s.pending)

    ready-says : frame_by (device_of d d.station d.antenna) (ready s) ≡ rr d.station.desk.address s.r
    unfolding frame_by control_by payload_by device_of rr
    ready-says = same-frame refl (rr-control s.r) refl

    again-says : r ≡ s.s → (p : Pending) → s.pending ≡ p
        → frame_by (device_of d d.station d.antenna) (resent s) ≡ again d.station.desk s r p
    unfolding resent again
    again-says e Nothing h =
        ap (λ (p : Pending). frame_by (device_of d d.station d.antenna) (cond (pends p) (pend s) (ready s))) h
        ∙ ready-says
    again-says e Answer h =
        ap (λ (p : Pending). frame_by (device_of d d.station d.antenna) (cond (pends p) (pend s) (ready s))) h
        ∙ pends-says e
        ∙ ap (λ (p : Pending). info d.station.desk.address r s.r (pending_said d.station.desk p)) h
    again-says e Indication h =
        ap (λ (p : Pending). frame_by (device_of d d.station d.antenna) (cond (pends p) (pend s) (ready s))) h
        ∙ pends-says e
        ∙ ap (λ (p : Pending). info d.station.desk.address r s.r (pending_said d.station.desk p)) h

module _ (d : Device) (f : List ℕ) where
  repeats-says : (s : Session) (r : ℕ) → d.station.link ≡ Connected s → good_number s r ≡ true
      → frame_by (acknowledged d s r) (resent (session_after s r)) ≡ again d.station.desk s r (kept s r)
  unfolding acknowledged again
  repeats-says s r link good = ⊎_elim stays removes (good-cases s r good)
    where
      stays : Stays s r → frame_by (acknowledged d s r) (resent (session_after s r)) ≡ again d.station.desk s r (kept s r)
      stays (a, e, k) =
          ap₂ (λ (t : Station) (z : Session). frame_by (device_of d t d.antenna) (resent z))
          (station-kept d.station s r a) (session-kept d.station s r a)
          ∙ again-says d s r good link e s.pending refl
          ∙ ap (again d.station.desk s r) (sym k)

      removes : Removes s r
          → frame_by (acknowledged d s r) (resent (session_after s r)) ≡ again d.station.desk s r (kept s r)
      removes (a, e, k) =
          ap (frame_by (acknowledged d s r)) (emptied-rests s r a) ∙ rests-says d s r good d.antenna
          ∙ ap (again d.station.desk s r) (sym k)

  resends-says : (s : Session) (r : ℕ) → d.station.link ≡ Connected s → good_number s r ≡ true
      → pends (session_after s r).pending ≡ true
      → frame_by (acknowledged d s r) (pend (session_after s r))
      ≡ info d.station.desk.address r s.r (pending_said d.station.desk s.pending)
  unfolding acknowledged session_after emptied
  resends-says s r link good p = ⊎_elim stays removes (good-cases s r good)
    where
      stays : Stays s r → frame_by (acknowledged d s r) (pend (session_after s r))
          ≡ info d.station.desk.address r s.r (pending_said d.station.desk s.pending)
      stays (a, e, k) =
          ap₂ (λ (t : Station) (z : Session). frame_by (device_of d t d.antenna) (pend z))
          (station-kept d.station s r a) (session-kept d.station s r a)
          ∙ pends-says d s r good link e

      removes : Removes s r → frame_by (acknowledged d s r) (pend (session_after s r))
          ≡ info d.station.desk.address r s.r (pending_said d.station.desk s.pending)
      removes (a, e, k) = absurd (true-not-false (sym p ∙ rw a))

  rejects : (s : Session) (why : ℕ) → some (d.station.desk.address ∷ 0x97 ∷ control_of f ∷ counts_of s ∷ why ∷ [])
      ≡ frmr d.station.desk.address (control_of f) s why
  unfolding frmr
  rejects s why = ap (λ (k : ℕ). some (d.station.desk.address ∷ 0x97 ∷ control_of f ∷ k ∷ why ∷ [])) (counts-are s)

  limited-says : (n : ℕ) (a : AskedFor) → frame_by (limited_to d n) (Say.Negotiated a)
      ≡ some (d.station.desk.address ∷ 0xBF ∷ negotiation_answer a n)
  unfolding frame_by control_by payload_by limited_to device_of
  limited-says n a = refl

  -- what a device says of a frame, of each case, octet by octet
  pub says-octets : (c : Comes d f) → frame_by (left d f c) (says d f c) ≡ octets_said d f c
  unfolding left says octets_said frame_by control_by payload_by begun renewed released emptied_as unsaid_at frmr acknowledged
  says-octets (unread w) = refl
  says-octets (scans w a) = ap some (scan-is d.station.desk.address (identity_of d.plate))
  says-octets (assigns a w) = ap some (assignment-is a (identity_of d.plate))
  says-octets (negotiates ps w m) =
      limited-says (agreed_limit (limit_of d) ps) (asked_in ps)
      ∙ ap some (negotiation-is d.station.desk.address ps (agreed_limit (limit_of d) ps))
  says-octets (begins w l) = refl
  says-octets (declines o w n l) = refl
  says-octets (renews s w l) = refl
  says-octets (leaves s w l) = refl
  says-octets (miscounts s o r w l n b) = rejects s 8
  says-octets (unknown s w l) = rejects s 1
  says-octets (starts s n r w due) = heard-says d s r w.numbered.good _ _ _
  says-octets (clears s n r w m) =
      replied-says d s r w.numbered.good _ _ _ _
      ∙ ap (info d.station.desk.address r (s.r + 1)) (success-is 0x06 [])
  says-octets (subscribes s n r w m) =
      replied-says d s r w.numbered.good _ _ _ _
      ∙ ap (info d.station.desk.address r (s.r + 1)) (success-is 0x12 [])
  says-octets (answers s n r b w e) = replied-says d s r w.numbered.good _ _ _ b
  says-octets (murmurs s n r w few) = heard-says d s r w.numbered.good _ _ _
  says-octets (repeats s n r w a) = repeats-says s r w.link w.good
  says-octets (resends s r w p) = resends-says s r w.link w.good p
  says-octets (delivers s r reached w p q) =
      delivers-says d s r w.good _ _ ∙ ap (info d.station.desk.address r s.r) (result-is reached)
  says-octets (indicates s r w p q t) = indicates-says d s r w.good _ _
  says-octets (rests s r w p q t) = rests-says d s r w.good d.antenna
  says-octets (pauses s r w) = rests-says d s r w.good d.antenna

  -- and so of any frame
  pub frame-octets : (c : Comes d f) → frame_by (judged_frame d f).device (judged_frame d f).say ≡ octets_said d f c
  unfolding saying
  frame-octets c = ap (λ (t : Turn). frame_by t.device t.say) (comes-so d f c) ∙ says-octets c
