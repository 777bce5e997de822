-- All that can come of a frame: every frame does one of thirteen things, each with its reason (`judged-cases`). Assumes
-- nothing.
use mathlib.Core.Path.{◌≡◌, refl, sym, ap, ◌∙◌}
use mathlib.Core.Bool.{Bool, true, false, cond}
use mathlib.Core.List.{List}
use mathlib.Core.Option.{none, some}
use Prim.Native.Nat.{ℕ, ◌≤◌}
use borrow.Author.Tests.{eqb-true, eqb-false, ne_eqb}
use lib.Dec.{eqb}
use lib.ListN.{length, get_or, drop}
use Rattle.octets.proofs.Words.{true-not-false}
use Rattle.limits.specs.Limits.{frame_most}
use Rattle.control.specs.Control.{polled, xid_control, asked_by}
use Rattle.control.specs.declared.Order.{Order}
use Rattle.control.specs.declared.Order.TheVariants.{Xid, Snrm, Disc, Info, Rr, Rnr, Unknown}
use Rattle.record.specs.declared.Session.{Session}
use Rattle.record.specs.declared.Link.{Link}
use Rattle.record.specs.declared.Link.TheVariants.{NoAddress, AddressAssigned, Connected}
use Rattle.record.specs.declared.Device.{Device}
use Rattle.record.specs.Allowed.{identity_of, limit_of}
use Rattle.record.specs.Changes.{ended_as, limited_to}
use Rattle.control.specs.declared.AskedFor.{AskedFor}
use Rattle.std.specs.Prelude.{Ok, Err}
use Rattle.negotiation.specs.Negotiation.{OfferRead, agrees_on, offer_of}
use Rattle.negotiation.proofs.Exactly.{offer-malformed}
use Rattle.session.specs.Session.{good_number}
use Rattle.xid.specs.Match.{read_of}
use Rattle.xid.specs.declared.Xid as xids
use Rattle.xid.proofs.Told.{silence-numbered}
use Rattle.station.specs.declared.Say.{Say}
use Rattle.station.specs.declared.Turn.{Turn}
use Rattle.station.specs.Turns.{saying, mute}
use Rattle.states.specs.States.{begun, renewed, released, ua, dm, rejected, informed_by, polled_by, paused_by}
use Rattle.states.specs.States.{info_by, rr_by, rnr_by, connected_by, is_snrm, assigned_by, linked_by}
use Rattle.link.specs.Link.{all_stations, quiet, ordered_by, has_address, agreed_by, negotiated_by, own_by, xid_by}
use Rattle.link.specs.Link.{everyone_by, is_own, addressed_by, controlled_by, wrong_size, judged_frame}
use Rattle.link.specs.Frames.{control_of, Own, number_in, Numbered, Everyone, OwnXid, Unread}
use Rattle.link.specs.Frames.{missized, unpolled, unfit, unmeant, elsewhere, unheeded, unagreed, unassigned}
use Rattle.link.proofs.Judged.{size-right, judged-is}

-- an order that is read is no XID
pub own-no-xid : (d : Device) (f : List ℕ) (o : Order) → Own d f o → eqb (control_of f) xid_control ≡ false
unfolding asked_by
own-no-xid d f o w = go (eqb (control_of f) xid_control) refl
  where
    go : (b : Bool) → eqb (control_of f) xid_control ≡ b → b ≡ false
    go true e =
        let asks : asked_by (control_of f) ≡ Xid = rw e in
        absurd (true-not-false (sym (ap (λ (x : Order). quiet x (eqb (length (drop 2 f)) 0)) (sym w.order ∙ asks)) ∙ w.read))
    go false e = refl

pub own_is : (d : Device) (f : List ℕ) (o : Order) → Own d f o
    → judged_frame d f ≡ linked_by d d.station.link o (control_of f) (drop 2 f)
unfolding controlled_by addressed_by own_by ordered_by
own_is d f o w =
    judged-is d f w.least w.most
    ∙ rw (w.poll, w.all, w.own, own-no-xid d f o w, w.order) (rw w.read)

-- a negotiation, at the own address
pub own-xid-is : (d : Device) (f : List ℕ) → OwnXid d f
    → judged_frame d f ≡ agreed_by d (offer_of (limit_of d) (drop 2 f))
unfolding controlled_by addressed_by own_by negotiated_by polled
own-xid-is d f w =
    judged-is d f w.least w.most ∙ rw (w.all, w.own, w.control) (rw w.link)

pub everyone-is : (d : Device) (f : List ℕ) → Everyone d f
    → judged_frame d f ≡ xid_by d (read_of (identity_of d.plate) (drop 2 f))
unfolding controlled_by addressed_by everyone_by polled
everyone-is d f w = judged-is d f w.least w.most ∙ rw (w.address, w.control)

-- ---- silence

either : (b : Bool) {x y z : Turn} → x ≡ z → y ≡ z → cond b x y ≡ z
either true e h = e
either false e h = h

module _ (d : Device) (f : List ℕ) where
  controlled-silent : controlled_by d (get_or f 0 0) (control_of f) (drop 2 f) ≡ mute d → judged_frame d f ≡ mute d
  unfolding judged_frame
  controlled-silent e = either (wrong_size (limit_of d) f) refl e

  addressed-silent : addressed_by d (get_or f 0 0) (control_of f) (drop 2 f) ≡ mute d → judged_frame d f ≡ mute d
  unfolding controlled_by
  addressed-silent e = controlled-silent (either (polled (control_of f)) e refl)

  -- at the own address, in whichever of the two ways
  own-silent : (get_or f 0 0 ≡ all_stations → ⊥) → own_by d (control_of f) (drop 2 f) ≡ mute d → judged_frame d f ≡ mute d
  unfolding addressed_by
  own-silent a e =
      addressed-silent (rw (ne_eqb (get_or f 0 0) all_stations a) (either (is_own d (get_or f 0 0)) e refl))

  -- every reason is one
  pub unread-silent : Unread d f → judged_frame d f ≡ mute d
  unfolding judged_frame controlled_by addressed_by everyone_by own_by ordered_by negotiated_by agreed_by xid_by linked_by
  unread-silent (missized e) = rw e
  unread-silent (unpolled e) = controlled-silent (rw e)
  unread-silent (unfit a c) = addressed-silent (rw (a, ne_eqb (control_of f) xid_control c))
  unread-silent (unmeant k w g) =
      everyone-is d f w ∙ ap (xid_by d) ((silence-numbered (identity_of d.plate) (drop 2 f)).1 (k, g))
  unread-silent (elsewhere a o) = addressed-silent (rw (ne_eqb (get_or f 0 0) all_stations a, o))
  unread-silent (unheeded a c q) = own-silent a (rw (ne_eqb (control_of f) xid_control c) (rw q))
  unread-silent (unagreed a c n) =
      own-silent a
      (rw c (either (has_address d.station.link) (ap (agreed_by d) ((offer-malformed (limit_of d) (drop 2 f)).1 n)) refl))
  unread-silent (unassigned a l) =
      own-silent a
      (either (eqb (control_of f) xid_control) (rw l)
      (either (quiet (asked_by (control_of f)) (eqb (length (drop 2 f)) 0)) refl (rw l)))

-- ---- every frame

-- an order with an N(R) is I, RR or RNR
pub order-cases : (P : Order → Type 0) (r : ℕ) → ((n : ℕ) → P (Info n r)) → P (Rr r) → P (Rnr r)
    → (o : Order) → number_in o ≡ some r → P o
order-cases P r info rr rnr o e = go o e
  where
    none_apart : none ≡ some r → ⊥
    none_apart h = true-not-false (cc)

    go : (o : Order) → number_in o ≡ some r → P o
    go Xid e = absurd (none_apart e)
    go Snrm e = absurd (none_apart e)
    go Disc e = absurd (none_apart e)
    go (Info n q) e = let same : q ≡ r = cc in rw same (info n)
    go (Rr q) e = let same : q ≡ r = cc in rw same rr
    go (Rnr q) e = let same : q ≡ r = cc in rw same rnr
    go Unknown e = absurd (none_apart e)

module _ (d : Device) (f : List ℕ) (P : Turn → Type 0)
    (silent : Unread d f → P (mute d))
    (scanned : Everyone d f → read_of (identity_of d.plate) (drop 2 f) ≡ xids.Xid.Scan → P (saying d Say.Scanned))
    (assigned : (a : ℕ) → Everyone d f → read_of (identity_of d.plate) (drop 2 f) ≡ xids.Xid.Assignment a
    → P (saying (ended_as d a AddressAssigned) Say.Assigned))
    (negotiated : (n : ℕ) (a : AskedFor) → OwnXid d f → offer_of (limit_of d) (drop 2 f) ≡ agrees_on n a
    → P (saying (limited_to d n) (Say.Negotiated a)))
    (begins : Own d f Snrm → d.station.link ≡ AddressAssigned → P (saying (begun d) ua))
    (refuses : (o : Order) → Own d f o → is_snrm o ≡ false → d.station.link ≡ AddressAssigned → P (saying d dm))
    (renews : (s : Session) → Own d f Snrm → d.station.link ≡ Connected s → P (saying (renewed d) ua))
    (ends : (s : Session) → Own d f Disc → d.station.link ≡ Connected s → P (saying (released d) ua))
    (miscounts : (s : Session) (o : Order) (r : ℕ) → Own d f o → d.station.link ≡ Connected s
    → number_in o ≡ some r → good_number s r ≡ false → P (rejected d s (control_of f) 8))
    (unknown : (s : Session) → Own d f Unknown → d.station.link ≡ Connected s
    → P (rejected d s (control_of f) 1))
    (informs : (s : Session) (n r : ℕ) → Numbered d f (Info n r) r s → P (informed_by d s n r (drop 2 f)))
    (polls : (s : Session) (r : ℕ) → Numbered d f (Rr r) r s → P (polled_by d s r))
    (pauses : (s : Session) (r : ℕ) → Numbered d f (Rnr r) r s → P (paused_by d s r)) where
  -- an I-frame, RR or RNR with N(R) = r
  number-cases : (s : Session) (o : Order) (r : ℕ) (t : Turn) → number_in o ≡ some r → Own d f o
      → d.station.link ≡ Connected s → (Numbered d f o r s → P t) → (b : Bool) → good_number s r ≡ b
      → P (cond b t (rejected d s (control_of f) 8))
  number-cases s o r t e w l good true g = good (record { own = w; link = l; good = g })
  number-cases s o r t e w l good false g = miscounts s o r w l e g

  -- an XID is not read here
  connected-cases : (s : Session) (o : Order) → Own d f o → d.station.link ≡ Connected s
      → P (connected_by d s o (control_of f) (drop 2 f))
  unfolding connected_by info_by rr_by rnr_by
  connected-cases s Xid w l = absurd (true-not-false w.read)
  connected-cases s Snrm w l = renews s w l
  connected-cases s Disc w l = ends s w l
  connected-cases s (Info n r) w l = number-cases s (Info n r) r _ refl w l (informs s n r) (good_number s r) refl
  connected-cases s (Rr r) w l = number-cases s (Rr r) r _ refl w l (polls s r) (good_number s r) refl
  connected-cases s (Rnr r) w l = number-cases s (Rnr r) r _ refl w l (pauses s r) (good_number s r) refl
  connected-cases s Unknown w l = unknown s w l

  assigned-cases : (o : Order) → Own d f o → d.station.link ≡ AddressAssigned → P (assigned_by d o)
  unfolding assigned_by
  assigned-cases Xid w l = refuses Xid w refl l
  assigned-cases Snrm w l = begins w l
  assigned-cases Disc w l = refuses Disc w refl l
  assigned-cases (Info n r) w l = refuses (Info n r) w refl l
  assigned-cases (Rr r) w l = refuses (Rr r) w refl l
  assigned-cases (Rnr r) w l = refuses (Rnr r) w refl l
  assigned-cases Unknown w l = refuses Unknown w refl l

  linked-cases : (o : Order) → Own d f o → (l : Link) → d.station.link ≡ l
      → P (linked_by d l o (control_of f) (drop 2 f))
  unfolding linked_by
  linked-cases o w NoAddress e = silent (unassigned (eqb-false (get_or f 0 0) all_stations w.all) e)
  linked-cases o w AddressAssigned e = assigned-cases o w e
  linked-cases o w (Connected s) e = connected-cases s o w e

  offer-cases : OwnXid d f → (x : OfferRead) → offer_of (limit_of d) (drop 2 f) ≡ x → P (agreed_by d x)
  unfolding agreed_by
  offer-cases w (Err x) e =
      silent
      (unagreed (eqb-false (get_or f 0 0) all_stations w.all) w.control ((offer-malformed (limit_of d) (drop 2 f)).0 e))
  offer-cases w (Ok x) e = negotiated x.limit x.asked w e

  xid-cases : Everyone d f → (x : xids.Xid) → read_of (identity_of d.plate) (drop 2 f) ≡ x → P (xid_by d x)
  unfolding xid_by
  xid-cases w xids.Xid.Silence e =
      let (k, g) = (silence-numbered (identity_of d.plate) (drop 2 f)).0 e in
      silent (unmeant k w g)
  xid-cases w xids.Xid.Scan e = scanned w e
  xid-cases w (xids.Xid.Assignment a) e = assigned a w e

  module _ (least : 2 ≤ length f) (most : length f ≤ frame_most (limit_of d)) where
    everyone-cases : get_or f 0 0 ≡ all_stations → (b : Bool) → eqb (control_of f) xid_control ≡ b
        → P (cond b (xid_by d (read_of (identity_of d.plate) (drop 2 f))) (mute d))
    everyone-cases a true e =
        xid-cases (record { least = least; most = most; address = a; control = eqb-true _ _ e }) _ refl
    everyone-cases a false e = silent (unfit a (eqb-false (control_of f) xid_control e))

    module _ (a : eqb (get_or f 0 0) all_stations ≡ false) (o : is_own d (get_or f 0 0) ≡ true) where
      ordered-cases : polled (control_of f) ≡ true → (control_of f ≡ xid_control → ⊥)
          → (b : Bool) → quiet (asked_by (control_of f)) (eqb (length (drop 2 f)) 0) ≡ b → P
          (cond b (mute d) (linked_by d d.station.link (asked_by (control_of f)) (control_of f) (drop 2 f)))
      ordered-cases p n true e = silent (unheeded (eqb-false (get_or f 0 0) all_stations a) n e)
      ordered-cases p n false e =
          linked-cases (asked_by (control_of f))
          (record { least = least; most = most; poll = p; all = a; own = o; order = refl; read = e }) _ refl

      negotiated-cases : control_of f ≡ xid_control → (l : Link) → d.station.link ≡ l
          → P (cond (has_address l) (agreed_by d (offer_of (limit_of d) (drop 2 f))) (mute d))
      negotiated-cases c NoAddress l = silent (unassigned (eqb-false (get_or f 0 0) all_stations a) l)
      negotiated-cases c AddressAssigned l =
          offer-cases
          (record { least = least; most = most; all = a; own = o; control = c; link = ap has_address l }) _ refl
      negotiated-cases c (Connected s) l =
          offer-cases
          (record { least = least; most = most; all = a; own = o; control = c; link = ap has_address l }) _ refl

      own-cases : polled (control_of f) ≡ true → (b : Bool) → eqb (control_of f) xid_control ≡ b
          → P (cond b (negotiated_by d (drop 2 f)) (ordered_by d (asked_by (control_of f)) (control_of f) (drop 2 f)))
      unfolding negotiated_by ordered_by
      own-cases p true c = negotiated-cases (eqb-true _ _ c) d.station.link refl
      own-cases p false c = ordered-cases p (eqb-false (control_of f) xid_control c) _ refl

    addressed-cases : polled (control_of f) ≡ true → (a : Bool) → eqb (get_or f 0 0) all_stations ≡ a → (o : Bool)
        → is_own d (get_or f 0 0) ≡ o → P
        (cond a (everyone_by d (control_of f) (drop 2 f))
        (cond o (own_by d (control_of f) (drop 2 f)) (mute d)))
    unfolding everyone_by own_by
    addressed-cases p true a o e = everyone-cases (eqb-true _ _ a) (eqb (control_of f) xid_control) refl
    addressed-cases p false a true e = own-cases a e p (eqb (control_of f) xid_control) refl
    addressed-cases p false a false e = silent (elsewhere (eqb-false (get_or f 0 0) all_stations a) e)

    controlled-cases : (p : Bool) → polled (control_of f) ≡ p
        → P (cond p (addressed_by d (get_or f 0 0) (control_of f) (drop 2 f)) (mute d))
    unfolding addressed_by
    controlled-cases true p = addressed-cases p (eqb (get_or f 0 0) all_stations) refl (is_own d (get_or f 0 0)) refl
    controlled-cases false p = silent (unpolled p)

  -- each frame does one of these things
  pub judged-cases : P (judged_frame d f)
  unfolding judged_frame controlled_by
  judged-cases = go (wrong_size (limit_of d) f) refl
    where
      go : (b : Bool) → wrong_size (limit_of d) f ≡ b
          → P (cond b (mute d) (controlled_by d (get_or f 0 0) (get_or f 1 0) (drop 2 f)))
      go true e = silent (missized e)
      go false e = let (least, most) = size-right (limit_of d) f e in controlled-cases least most (polled (control_of f)) refl
