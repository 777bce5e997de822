-- An XID frame comes to what its ten rows say, whatever the device: it answers exactly if none of them holds, and why it
-- does not is the first that does, each number exactly if its condition holds and none before it. Assumes nothing.
use mathlib.Core.Path.{◌≡◌, refl, sym, ap, ◌∙◌}
use mathlib.Core.Bool.{Bool, true, false, cond, not, ◌||◌, or-true}
use mathlib.Core.Logic.Iff
use mathlib.Core.Logic.{◌↔◌, ⊎_elim}
use mathlib.Core.List.{List, [], ◌∷◌}
use mathlib.Core.Option.{Option, none, some}
use Prim.Native.Nat.{ℕ}
use native.Mathlib.Omega.{arith}
use borrow.Author.Tests.{eqb-true, eqb-false, eq-eqb, ne_eqb, not-true, not-false}
use lib.Dec.{eqb}
use lib.ListN.{get_or, drop}
use Rattle.octets.specs.Octets.{holds}
use Rattle.octets.proofs.Words.{true-not-false, and_parts, or-none}
use Rattle.refusal.specs.Answer.{gives, refuses, TestRow, ◌when◌, answered, Clear, numbers_of}
use Rattle.refusal.proofs.Answers.{gives-not-refuses, refuses-same}
use Rattle.refusal.proofs.Exactly.{TestsFor, exactly-tests, exactly-given, answered-all}
use Rattle.control.specs.Control.{xid_control}
use Rattle.xid.specs.Addressing.{Values, addressing}
use Rattle.record.specs.declared.Link.{Link}
use Rattle.record.specs.declared.Link.TheVariants.{NoAddress, AddressAssigned, Connected}
use Rattle.record.specs.declared.Device.{Device}
use Rattle.record.specs.Allowed.{identity_of, limit_of}
use Rattle.params.specs.Field.{Param, xid_payload, WellFormed, params_of}
use Rattle.params.proofs.Exact.{params-exactly}
use Rattle.xid.proofs.Rows.{formed-exactly, malformed-exactly, malformed-read}
use Rattle.negotiation.specs.Negotiation.{negotiating, offered, offer_of}
use Rattle.xid.specs.Match.{is_scan, address_of, no_params, values_in, neither, bad_address, other_identity, other_type}
use Rattle.xid.specs.Match.{other_vendor, other_scan, value_rows, payload_rows, meaning_of, or_silence, payload_answer, read_of}
use Rattle.xid.specs.declared.Xid as xids
use Rattle.station.specs.declared.Say.{Say}
use Rattle.station.specs.declared.Turn.{Turn}
use Rattle.station.specs.Turns.{saying, mute}
use Rattle.link.specs.Link.{all_stations, has_address, agreed_by, negotiated_by, is_own, xid_by, wrong_size}
use Rattle.link.specs.Link.{judged_frame}
use Rattle.link.specs.Frames.{control_of, Everyone, OwnXid, missized, unfit, elsewhere, unassigned}
use Rattle.link.specs.Xids.{to_all, to_own, wrong_address, wrong_control, malformed_at, value_rows_at, xid_rows}
use Rattle.link.specs.Xids.{xid_turn, xid_answer, or_mute}
use Rattle.link.proofs.Judged.{size-right, size_fits}
use Rattle.link.proofs.Cases.{everyone-is, own-xid-is, unread-silent}
use Rattle.link.proofs.Silence.{own-exactly}

-- ---- the rows 2, 3 and 4, both ways; 1 is `wrong-size-exactly` of Judged

module _ (f : List ℕ) where
  pub wrong-control-exactly : wrong_control f ≡ true ↔ (control_of f ≡ 0xBF → ⊥)
  unfolding wrong_control
  wrong-control-exactly = (
    λ e. eqb-false (control_of f) xid_control (not-true _ e),
    λ n. ap not (ne_eqb (control_of f) xid_control n),
  )

  -- to all stations, and at the own address
  pub malformed-all : to_all f ≡ true → malformed_at f ≡ false ↔ ((ps : List Param) × WellFormed addressing (drop 2 f) ps)
  unfolding malformed_at
  malformed-all a = rw a (malformed-exactly (drop 2 f))

  pub malformed-own : to_all f ≡ false
      → malformed_at f ≡ false ↔ ((ps : List Param) × WellFormed negotiating (drop 2 f) ps)
  unfolding malformed_at
  malformed-own a = rw a (formed-exactly negotiating (drop 2 f))

-- no payload is of both groups
pub groups-apart : (m : List ℕ) (ps qs : List Param) → WellFormed addressing m ps → WellFormed negotiating m qs → ⊥
unfolding xid_payload
groups-apart m ps qs a b =
    let second : ◌≡◌ {A = ℕ} 0xF0 0x80 = ap (λ (l : List ℕ). get_or l 1 0) (sym a.octets ∙ b.octets) in
    omega (arith, second)

module _ (d : Device) (f : List ℕ) where
  pub to-own-exactly : to_own d f ≡ true
      ↔ (get_or f 0 0 ≡ d.station.desk.address) × (get_or f 0 0 ≡ 0 → ⊥) × (has_address d.station.link ≡ true)
  unfolding to_own
  to-own-exactly = (
    λ e.
        let both = and_parts (is_own d (get_or f 0 0)) _ e in
        let own = (own-exactly d (get_or f 0 0)).0 both.0 in (own.0, own.1, both.1),
    λ w. rw ((own-exactly d (get_or f 0 0)).1 (w.0, w.1), w.2),
  )

  pub wrong-address-exactly : wrong_address d f ≡ true ↔ (get_or f 0 0 ≡ 0xFF → ⊥) × (to_own d f ≡ false)
  unfolding wrong_address to_all
  wrong-address-exactly = (
    λ e.
        let both = or-none (eqb (get_or f 0 0) all_stations) (to_own d f) (not-true _ e) in
        (eqb-false (get_or f 0 0) all_stations both.0, both.1),
    λ w. rw (ne_eqb (get_or f 0 0) all_stations w.0, w.1),
  )

  address-all : to_all f ≡ true → wrong_address d f ≡ false
  unfolding wrong_address
  address-all e = rw e

  address-own : to_own d f ≡ true → wrong_address d f ≡ false
  unfolding wrong_address
  address-own e = rw (e, or-true (to_all f))

  address-wrong : to_all f ≡ false → to_own d f ≡ false → wrong_address d f ≡ true
  unfolding wrong_address
  address-wrong a n = rw (a, n)

  -- an XID frame to all stations, and one to the own address, by the first three rows
  pub everyone-exactly : Everyone d f
      ↔ (wrong_size (limit_of d) f ≡ false) × (to_all f ≡ true) × (wrong_control f ≡ false)
  unfolding to_all wrong_control
  everyone-exactly = (
    λ w. (
      size_fits (limit_of d) f w.least w.most,
      eq-eqb (get_or f 0 0) all_stations w.address,
      ap not (eq-eqb (control_of f) xid_control w.control),
    ),
    λ (s, a, c).
        let (least, most) = size-right (limit_of d) f s in
        record {
          least = least;
          most = most;
          address = eqb-true (get_or f 0 0) all_stations a;
          control = eqb-true (control_of f) xid_control (not-false _ c);
        },
  )

  pub own-xid-exactly : OwnXid d f ↔ (wrong_size (limit_of d) f ≡ false) × (to_all f ≡ false)
      × (to_own d f ≡ true) × (wrong_control f ≡ false)
  unfolding to_all to_own wrong_control
  own-xid-exactly = (
    λ w. (
      size_fits (limit_of d) f w.least w.most,
      w.all,
      rw (w.own, w.link),
      ap not (eq-eqb (control_of f) xid_control w.control),
    ),
    λ (s, a, n, c).
        let (least, most) = size-right (limit_of d) f s in
        let both = and_parts (is_own d (get_or f 0 0)) _ n in
        record {
          least = least;
          most = most;
          all = a;
          own = both.0;
          control = eqb-true (control_of f) xid_control (not-false _ c);
          link = both.1;
        },
  )

-- ---- what the rows come to

-- the rows of a payload, and what it means, to all stations
rows-turn : (d : Device) (rows : List TestRow) (x : xids.Xid)
    → or_mute d (answered rows (xid_by d x)) ≡ xid_by d (or_silence (answered rows x))
unfolding answered or_mute or_silence xid_by
rows-turn d [] x = refl
rows-turn d (k when true ∷ rows) x = refl
rows-turn d (k when false ∷ rows) x = rows-turn d rows x

-- the row of a negotiation, at the own address
offered-turn : (d : Device) (x : Option (List Param))
    → or_mute d (answered (4 when no_params x ∷ []) (agreed_by d (offered (limit_of d) x)))
    ≡ agreed_by d (offered (limit_of d) x)
unfolding no_params answered or_mute offered agreed_by
offered-turn d none = refl
offered-turn d (some ps) = refl

offer-turn : (d : Device) (m : List ℕ) → has_address d.station.link ≡ true
    → or_mute d (answered (4 when no_params (params_of negotiating m) ∷ []) (negotiated_by d m))
    ≡ agreed_by d (offer_of (limit_of d) m)
unfolding negotiated_by offer_of
offer-turn d m l = rw l (offered-turn d (params_of negotiating m))

module _ (d : Device) (f : List ℕ) where
  abbrev comes : Turn
  comes = or_mute d (xid_answer d f)

  missized-mute : wrong_size (limit_of d) f ≡ true → comes ≡ mute d
  unfolding xid_answer xid_rows answered or_mute
  missized-mute e = rw e

  module _ (size : wrong_size (limit_of d) f ≡ false) where
    misaddressed-mute : wrong_address d f ≡ true → comes ≡ mute d
    unfolding xid_answer xid_rows answered or_mute
    misaddressed-mute e = rw (size, e)

    miscontrolled-mute : wrong_address d f ≡ false → wrong_control f ≡ true → comes ≡ mute d
    unfolding xid_answer xid_rows answered or_mute
    miscontrolled-mute a e = rw (size, a, e)

    all-comes : to_all f ≡ true → wrong_control f ≡ false
        → comes ≡ xid_by d (read_of (identity_of d.plate) (drop 2 f))
    unfolding xid_answer xid_rows answered malformed_at value_rows_at xid_turn read_of payload_answer payload_rows
    all-comes a e =
        rw (size, address-all d f a, e, a)
        (rows-turn d (payload_rows (identity_of d.plate) (drop 2 f)) (meaning_of (values_in (drop 2 f))))

    own-comes : to_all f ≡ false → to_own d f ≡ true → wrong_control f ≡ false
        → comes ≡ agreed_by d (offer_of (limit_of d) (drop 2 f))
    unfolding xid_answer xid_rows answered malformed_at value_rows_at xid_turn
    own-comes a n e =
        rw (size, address-own d f n, e, a) (offer-turn d (drop 2 f) ((to-own-exactly d f).0 n).2)

  -- ---- what a frame to all stations, and an XID at any address, comes to

  unassigned-link : (l : Link) → has_address l ≡ false → l ≡ NoAddress
  unassigned-link NoAddress e = refl
  unassigned-link AddressAssigned e = absurd (true-not-false e)
  unassigned-link (Connected s) e = absurd (true-not-false e)

  -- to all stations
  pub all-judged : get_or f 0 0 ≡ all_stations → judged_frame d f ≡ or_mute d (xid_answer d f)
  unfolding to_all wrong_control
  all-judged a = size (wrong_size (limit_of d) f) refl
    where
      to-all : to_all f ≡ true
      to-all = eq-eqb (get_or f 0 0) all_stations a

      control : wrong_size (limit_of d) f ≡ false → (c : Bool) → eqb (control_of f) xid_control ≡ c
          → judged_frame d f ≡ or_mute d (xid_answer d f)
      control s true c =
          everyone-is d f ((everyone-exactly d f).1 (s, to-all, ap not c)) ∙ sym (all-comes s to-all (ap not c))
      control s false c =
          unread-silent d f (unfit a (eqb-false (control_of f) xid_control c))
          ∙ sym (miscontrolled-mute s (address-all d f to-all) (ap not c))

      size : (b : Bool) → wrong_size (limit_of d) f ≡ b → judged_frame d f ≡ or_mute d (xid_answer d f)
      size true s = unread-silent d f (missized s) ∙ sym (missized-mute s)
      size false s = control s (eqb (control_of f) xid_control) refl

  -- an XID, whatever its address
  pub xid-judged : control_of f ≡ xid_control → judged_frame d f ≡ or_mute d (xid_answer d f)
  unfolding to_all to_own wrong_control
  xid-judged c = go (to_all f) refl (wrong_size (limit_of d) f) refl
    where
      right : wrong_control f ≡ false
      right = ap not (eq-eqb (control_of f) xid_control c)

      at_own : to_all f ≡ false → wrong_size (limit_of d) f ≡ false → (o : Bool) → is_own d (get_or f 0 0) ≡ o → (h : Bool)
          → has_address d.station.link ≡ h → judged_frame d f ≡ or_mute d (xid_answer d f)
      at_own a s true o true h =
          let n : to_own d f ≡ true = rw (o, h) in
          own-xid-is d f ((own-xid-exactly d f).1 (s, a, n, right)) ∙ sym (own-comes s a n right)
      at_own a s true o false h =
          unread-silent d f (unassigned (eqb-false (get_or f 0 0) all_stations a) (unassigned-link d.station.link h))
          ∙ sym (misaddressed-mute s (address-wrong d f a (rw (o, h))))
      at_own a s false o h e =
          unread-silent d f (elsewhere (eqb-false (get_or f 0 0) all_stations a) o)
          ∙ sym (misaddressed-mute s (address-wrong d f a (rw o)))

      go : (a : Bool) → to_all f ≡ a → (b : Bool) → wrong_size (limit_of d) f ≡ b
          → judged_frame d f ≡ or_mute d (xid_answer d f)
      go true a b s = all-judged (eqb-true (get_or f 0 0) all_stations a)
      go false a true s = unread-silent d f (missized s) ∙ sym (missized-mute s)
      go false a false s = at_own a s (is_own d (get_or f 0 0)) refl (has_address d.station.link) refl

-- ---- the ten numbers, in their order

module _ (d : Device) (f : List ℕ) where
  abbrev size : Bool
  size = wrong_size (limit_of d) f

  abbrev values : Values
  values = values_in (drop 2 f)

  abbrev who : List ℕ
  who = identity_of d.plate

  -- the rows, to all stations or not
  abbrev rows_by : Bool → List TestRow
  rows_by all =
      1 when size
      ∷ 2 when wrong_address d f
      ∷ 3 when wrong_control f ∷ 4 when malformed_at f ∷ cond all (value_rows who values) []

  by_rows : (k : ℕ) (all : Bool) → to_all f ≡ all → xid_answer d f ≡ refuses k ↔ TestsFor k (rows_by all)
  unfolding xid_answer xid_rows value_rows_at
  by_rows k all a = rw (← a) (exactly-tests k (xid_rows d f) (xid_turn d f))

  -- 1 to 4 are of every frame
  pub row-1 : xid_answer d f ≡ refuses 1 ↔ (size ≡ true)
  unfolding TestsFor numbers_of holds value_rows
  row-1 = go (to_all f) refl
    where
      go : (all : Bool) → to_all f ≡ all → xid_answer d f ≡ refuses 1 ↔ (size ≡ true)
      go true a = by_rows 1 true a
      go false a = by_rows 1 false a

  pub row-2 : xid_answer d f ≡ refuses 2 ↔ (size ≡ false) × (wrong_address d f ≡ true)
  unfolding TestsFor numbers_of holds value_rows
  row-2 = go (to_all f) refl
    where
      go : (all : Bool) → to_all f ≡ all → xid_answer d f ≡ refuses 2 ↔ (size ≡ false) × (wrong_address d f ≡ true)
      go true a = by_rows 2 true a
      go false a = by_rows 2 false a

  pub row-3 : xid_answer d f ≡ refuses 3 ↔ (size ≡ false) × (wrong_address d f ≡ false) × (wrong_control f ≡ true)
  unfolding TestsFor numbers_of holds value_rows
  row-3 = go (to_all f) refl
    where
      go : (all : Bool) → to_all f ≡ all
          → xid_answer d f ≡ refuses 3 ↔ (size ≡ false) × (wrong_address d f ≡ false) × (wrong_control f ≡ true)
      go true a = Iff.trans (by_rows 3 true a) (λ g. (search), λ w. (search))
      go false a = Iff.trans (by_rows 3 false a) (λ g. (search), λ w. (search))

  pub row-4 : xid_answer d f ≡ refuses 4
      ↔ (size ≡ false) × (wrong_address d f ≡ false) × (wrong_control f ≡ false) × (malformed_at f ≡ true)
  unfolding TestsFor numbers_of holds value_rows
  row-4 = go (to_all f) refl
    where
      go : (all : Bool) → to_all f ≡ all → xid_answer d f ≡ refuses 4
          ↔ (size ≡ false) × (wrong_address d f ≡ false) × (wrong_control f ≡ false) × (malformed_at f ≡ true)
      go true a = Iff.trans (by_rows 4 true a) (λ g. (search), λ w. (search))
      go false a = Iff.trans (by_rows 4 false a) (λ g. (search), λ w. (search))

  -- at the own address there is no other number
  pub row-own : to_all f ≡ false → (k : ℕ) → xid_answer d f ≡ refuses k → holds k (1 ∷ 2 ∷ 3 ∷ 4 ∷ []) ≡ true
  unfolding xid_answer xid_rows value_rows_at numbers_of
  row-own a k e =
      ⊎_elim (λ g. absurd (gives-not-refuses (sym g ∙ e)))
      (λ (j, h, r). rw (refuses-same (sym e ∙ r)) (rw a at h))
      (answered-all (xid_rows d f) (xid_turn d f))

  -- 5 to 10 are of a frame to all stations
  module _ (all : to_all f ≡ true) where
    abbrev Formed : Type 0
    Formed = (size ≡ false) × (wrong_address d f ≡ false) × (wrong_control f ≡ false) × (malformed_at f ≡ false)

    pub row-5 : xid_answer d f ≡ refuses 5 ↔ Formed × (neither values ≡ true)
    unfolding TestsFor numbers_of holds value_rows
    row-5 = Iff.trans (by_rows 5 true all) (λ g. (search), λ w. (search))

    pub row-6 : xid_answer d f ≡ refuses 6 ↔ Formed × (neither values ≡ false) × (bad_address values ≡ true)
    unfolding TestsFor numbers_of holds value_rows
    row-6 = Iff.trans (by_rows 6 true all) (λ g. (search), λ w. (search))

    pub row-7 : xid_answer d f ≡ refuses 7
        ↔ Formed × (neither values ≡ false) × (bad_address values ≡ false) × (other_identity who values ≡ true)
    unfolding TestsFor numbers_of holds value_rows
    row-7 = Iff.trans (by_rows 7 true all) (λ g. (search), λ w. (search))

    pub row-8 : xid_answer d f ≡ refuses 8
        ↔ Formed × (neither values ≡ false) × (bad_address values ≡ false) × (other_identity who values ≡ false)
        × (other_type values ≡ true)
    unfolding TestsFor numbers_of holds value_rows
    row-8 = Iff.trans (by_rows 8 true all) (λ g. (search), λ w. (search))

    pub row-9 : xid_answer d f ≡ refuses 9
        ↔ Formed × (neither values ≡ false) × (bad_address values ≡ false) × (other_identity who values ≡ false)
        × (other_type values ≡ false) × (other_vendor who values ≡ true)
    unfolding TestsFor numbers_of holds value_rows
    row-9 = Iff.trans (by_rows 9 true all) (λ g. (search), λ w. (search))

    pub row-10 : xid_answer d f ≡ refuses 10
        ↔ Formed × (neither values ≡ false) × (bad_address values ≡ false) × (other_identity who values ≡ false)
        × (other_type values ≡ false) × (other_vendor who values ≡ false) × (other_scan who values ≡ true)
    unfolding TestsFor numbers_of holds value_rows
    row-10 = Iff.trans (by_rows 10 true all) (λ g. (search), λ w. (search))

  -- none of the ten holds: a scan that is answered, an assignment that is taken, a negotiation that is agreed on
  pub row-none : (t : Turn) → xid_answer d f ≡ gives t ↔ Clear (xid_rows d f) × (xid_turn d f ≡ t)
  unfolding xid_answer
  row-none t = exactly-given (xid_rows d f) (xid_turn d f) t

-- ---- a device answers exactly if no row holds

meaning-spoken : (d : Device) (w : Values) → (xid_by d (meaning_of w)).say ≡ Say.Silence → ⊥
unfolding xid_by meaning_of saying
meaning-spoken d w = go (is_scan w)
  where
    go : (b : Bool) → (xid_by d (cond b xids.Xid.Scan (xids.Xid.Assignment (address_of w)))).say ≡ Say.Silence → ⊥
    go true e = let z : ◌≡◌ {A = ℕ} 0 1 = cc in omega arith
    go false e = let z : ◌≡◌ {A = ℕ} 0 1 = cc in omega arith

offer-spoken : (d : Device) (x : Option (List Param)) → no_params x ≡ false
    → (agreed_by d (offered (limit_of d) x)).say ≡ Say.Silence → ⊥
unfolding no_params offered agreed_by saying
offer-spoken d none n e = true-not-false n
offer-spoken d (some ps) n e = let z : ◌≡◌ {A = ℕ} 0 1 = cc in omega arith

spoken : (d : Device) (f : List ℕ) → Clear (xid_rows d f) → (xid_turn d f).say ≡ Say.Silence → ⊥
unfolding Clear xid_rows malformed_at xid_turn negotiated_by offer_of wrong_address
spoken d f (s, (a, (c, (m, rest)))) = go (to_all f) refl
  where
    go : (all : Bool) → to_all f ≡ all
        → (cond all (xid_by d (meaning_of (values_in (drop 2 f)))) (negotiated_by d (drop 2 f))).say ≡ Say.Silence → ⊥
    go true all e = meaning-spoken d (values_in (drop 2 f)) e
    go false all e =
        let n : to_own d f ≡ true = rw all at (not-false (to_all f || to_own d f) a) in
        let h = ((to-own-exactly d f).0 n).2 in
        offer-spoken d (params_of negotiating (drop 2 f)) (rw all at m) (rw h at e)

-- a negotiation to all stations is silence
pub negotiation-unheard : (d : Device) (f : List ℕ) (ps : List Param) → Everyone d f
    → WellFormed negotiating (drop 2 f) ps → judged_frame d f ≡ mute d
unfolding xid_by
negotiation-unheard d f ps w m = everyone-is d f w ∙ ap (xid_by d) (malformed-read (identity_of d.plate) (drop 2 f) none_read)
  where
    none_read : params_of addressing (drop 2 f) ≡ none
    none_read = go (params_of addressing (drop 2 f)) refl
      where
        go : (x : Option (List Param)) → params_of addressing (drop 2 f) ≡ x → x ≡ none
        go none e = refl
        go (some qs) e = absurd (groups-apart (drop 2 f) qs ps ((params-exactly addressing (drop 2 f) qs).0 e) m)

module _ (d : Device) (f : List ℕ) (xid : control_of f ≡ xid_control) where
  -- a number is silence, and the device as it was
  pub number-silent : (k : ℕ) → xid_answer d f ≡ refuses k → judged_frame d f ≡ mute d
  unfolding or_mute
  number-silent k e = xid-judged d f xid ∙ ap (or_mute d) e

  pub clear-answered : Clear (xid_rows d f) → judged_frame d f ≡ xid_turn d f
  unfolding or_mute
  clear-answered c = xid-judged d f xid ∙ ap (or_mute d) ((row-none d f _).1 (c, refl))

  pub answers-exactly : ((judged_frame d f).say ≡ Say.Silence → ⊥) ↔ Clear (xid_rows d f)
  unfolding xid_answer saying
  answers-exactly = (
    λ n.
        ⊎_elim (λ g. ((row-none d f _).0 g).0)
        (λ r. absurd (n (ap (λ (t : Turn). t.say) (number-silent r.0 r.2))))
        (answered-all (xid_rows d f) (xid_turn d f)),
    λ c e. spoken d f c (sym (ap (λ (t : Turn). t.say) (clear-answered c)) ∙ e),
  )
