-- SNRM to an assigned device gets UA and a new session, in a session too. In every state a scan that matches is
-- answered and changes nothing, and an assignment that matches ends any session, takes the address and is answered
-- from it; one that does not match is silence. Assumes nothing.
use mathlib.Core.Path.{◌≡◌, refl, sym, ap, ◌∙◌}
use mathlib.Core.Bool.{Bool, true, false, cond}
use mathlib.Core.List.{List, [], ◌∷◌}
use mathlib.Core.Option.{Option}
use Prim.Native.Nat.{ℕ, ◌+◌, ◌≤◌}
use native.Mathlib.Omega.{arith}
use borrow.Author.Tests.{eq-eqb, ne_eqb}
use lib.Dec.{eqb}
use lib.ListN.{length, drop}
use Rattle.octets.proofs.Words.{true-not-false}
use Rattle.identity.specs.Bits.{masked}
use Rattle.identity.specs.Identity.{padded, answers_scan}
use Rattle.identity.proofs.Scans.{same-is}
use Rattle.control.specs.Control.{polled, asked_by}
use Rattle.control.specs.declared.Order.TheVariants.{Snrm}
use Rattle.record.specs.declared.Link.{Link}
use Rattle.record.specs.declared.Link.TheVariants.{NoAddress, AddressAssigned, Connected}
use Rattle.record.specs.declared.Device.{Device}
use Rattle.record.specs.Allowed.{identity_of, limit_of, allowed_device}
use Rattle.record.specs.Changes.{unsaid_at, emptied_as, ended_as}
use Rattle.record.proofs.Stays.{sound, limited}
use Rattle.xid.specs.Match.{read_of}
use Rattle.xid.specs.Meaning.{ScanOf, AssignmentOf, Meant, Answers, Takes}
use Rattle.xid.specs.declared.Xid.{Xid}
use Rattle.xid.specs.declared.Xid.TheVariants as xid
use Rattle.xid.proofs.Exactly.{scan-read, scan-exactly, meant-silent, assignment-exactly}
use Rattle.station.specs.declared.Say.{Say}
use Rattle.station.specs.declared.Turn.{Turn}
use Rattle.station.specs.Turns.{saying, mute}
use Rattle.states.specs.States.{new_session, begun, released, renewed, on_snrm, ua, connected_by, assigned_by, linked_by}
use Rattle.link.specs.Link.{has_address, is_own}
use Rattle.link.specs.Link.{xid_by}
use Rattle.link.specs.Link.{judged_frame}
use Rattle.link.specs.Frames.{control_of, Own, Everyone}
use Rattle.link.proofs.Cases.{own_is, everyone-is}
use Rattle.limits.specs.Limits.{frame_most}
use Rattle.conduct.specs.Conduct.{after}
use Rattle.conduct.proofs.Addressed.{link-addressed, addressed-bounds}

-- ---- SNRM

snrm-linked : (d : Device) (l : Link) (c : ℕ) (p : List ℕ) → has_address l ≡ true
    → linked_by d l Snrm c p ≡ saying (on_snrm d l) ua
unfolding linked_by assigned_by connected_by on_snrm
snrm-linked d NoAddress c p h = absurd (true-not-false (sym h))
snrm-linked d AddressAssigned c p h = refl
snrm-linked d (Connected s) c p h = refl

-- a new session, in either state
snrm-session : (d : Device) (l : Link) → has_address l ≡ true → (on_snrm d l).station.link ≡ Connected new_session
unfolding on_snrm renewed begun emptied_as unsaid_at
snrm-session d NoAddress h = absurd (true-not-false (sym h))
snrm-session d AddressAssigned h = refl
snrm-session d (Connected s) h = refl

-- at the address that it was
pub snrm-address : (d : Device) (l : Link) → (on_snrm d l).station.desk.address ≡ d.station.desk.address
unfolding on_snrm renewed begun released emptied_as unsaid_at
snrm-address d NoAddress = refl
snrm-address d AddressAssigned = refl
snrm-address d (Connected s) = refl

-- every SNRM that is read, where an address is assigned
pub snrm-begins : (d : Device) (f : List ℕ) → Own d f Snrm → has_address d.station.link ≡ true
    → judged_frame d f ≡ saying (on_snrm d d.station.link) ua
snrm-begins d f w h = own_is d f Snrm w ∙ snrm-linked d d.station.link (control_of f) (drop 2 f) h

-- and the state says which session it is
pub snrm-in : (d : Device) (f : List ℕ) {l : Link} → d.station.link ≡ l
    → saying (on_snrm d d.station.link) ua ≡ saying (on_snrm d l) ua
snrm-in d f e = ap (λ (x : Link). saying (on_snrm d x) ua) e

module _ (d : Device) (allowed : allowed_device d ≡ true) (assigned : has_address d.station.link ≡ true) where
  snrm-own : Own d (d.station.desk.address ∷ 0x93 ∷ []) Snrm
  unfolding polled asked_by is_own
  snrm-own =
      let a = d.station.desk.address in
      let bounds =
      addressed-bounds a
      (link-addressed d.station.desk d.station.link (sound d allowed).link assigned) in
      let zero : eqb a 0 ≡ false = ne_eqb a 0 (λ e. omega (arith, bounds.0, e)) in
      let self : eqb a a ≡ true = eq-eqb a a refl in
      record {
        least = omega arith;
        most = omega (arith, (limited d allowed).0);
        poll = refl;
        all = ne_eqb a 0xFF (λ e. omega (arith, bounds.1, e));
        own = rw (zero, self);
        order = refl;
        read = refl;
      }

  pub snrm-answered : judged_frame d (d.station.desk.address ∷ 0x93 ∷ []) ≡ saying (on_snrm d d.station.link) ua
  snrm-answered = snrm-begins d (d.station.desk.address ∷ 0x93 ∷ []) snrm-own assigned

  pub snrm-connects : (after d (d.station.desk.address ∷ 0x93 ∷ [])).station.link ≡ Connected new_session
  unfolding saying
  snrm-connects =
      ap (λ (t : Turn). t.device.station.link) snrm-answered ∙ snrm-session d d.station.link assigned

-- ---- XID

xid-means : (d : Device) (f : List ℕ) → Everyone d f → (x : Xid) → read_of (identity_of d.plate) (drop 2 f) ≡ x
    → judged_frame d f ≡ xid_by d x
xid-means d f w x e = everyone-is d f w ∙ ap (xid_by d) e

-- every scan that is read and matches
pub scan-answers : (d : Device) (f : List ℕ) → Everyone d f → Answers (identity_of d.plate) (drop 2 f)
    → judged_frame d f ≡ saying d Say.Scanned
unfolding xid_by
scan-answers d f w a = xid-means d f w xid.Scan ((scan-exactly (identity_of d.plate) (drop 2 f)).1 a)

-- every assignment that is read and matches
pub assignment-ends : (d : Device) (f : List ℕ) (a : ℕ) → Everyone d f → Takes (identity_of d.plate) (drop 2 f) a
    → judged_frame d f ≡ saying (ended_as d a AddressAssigned) Say.Assigned
unfolding xid_by
assignment-ends d f a w t =
    xid-means d f w (xid.Assignment a) ((assignment-exactly (identity_of d.plate) (drop 2 f) a).1 t)

-- a frame to everyone with the payload m
module _ (d : Device) (m : List ℕ) (fits : length m + 2 ≤ frame_most (limit_of d)) where
  to-everyone : Everyone d (0xFF ∷ 0xBF ∷ m)
  to-everyone = record { least = omega arith; most = omega arith; address = refl; control = refl }

  -- a payload that means nothing to the device: it stays as it was, and is silent
  pub xid-silent : read_of (identity_of d.plate) m ≡ xid.Silence → judged_frame d (0xFF ∷ 0xBF ∷ m) ≡ mute d
  unfolding xid_by
  xid-silent e = xid-means d (0xFF ∷ 0xBF ∷ m) to-everyone xid.Silence e

  pub scan-answered : Answers (identity_of d.plate) m → judged_frame d (0xFF ∷ 0xBF ∷ m) ≡ saying d Say.Scanned
  scan-answered w = scan-answers d (0xFF ∷ 0xBF ∷ m) to-everyone w

  pub scan-silent : (v k : List ℕ) → ScanOf m v k → (masked (padded (identity_of d.plate)) k ≡ v → ⊥)
      → judged_frame d (0xFF ∷ 0xBF ∷ m) ≡ mute d
  unfolding answers_scan
  scan-silent v k w other = go (answers_scan (identity_of d.plate) k v) refl
    where
      go : (b : Bool) → answers_scan (identity_of d.plate) k v ≡ b → judged_frame d (0xFF ∷ 0xBF ∷ m) ≡ mute d
      go true e = absurd (other (same-is _ _ e))
      go false e =
          xid-silent
          (scan-read (identity_of d.plate) m v k w ∙ ap (λ (b : Bool). cond b xid.Scan xid.Silence) e)

  module _ (a : ℕ) where
    pub assignment-taken : Takes (identity_of d.plate) m a
        → judged_frame d (0xFF ∷ 0xBF ∷ m) ≡ saying (ended_as d a AddressAssigned) Say.Assigned
    assignment-taken w = assignment-ends d (0xFF ∷ 0xBF ∷ m) a to-everyone w

    -- "the address is taken, the state is AddressAssigned"
    pub assignment-addresses : Takes (identity_of d.plate) m a
        → ((after d (0xFF ∷ 0xBF ∷ m)).station.desk.address ≡ a)
        × ((after d (0xFF ∷ 0xBF ∷ m)).station.link ≡ AddressAssigned)
    unfolding saying emptied_as unsaid_at
    assignment-addresses w = (
      ap (λ (t : Turn). t.device.station.desk.address) (assignment-taken w),
      ap (λ (t : Turn). t.device.station.link) (assignment-taken w),
    )

    pub assignment-silent : (x y z : Option (List ℕ)) → AssignmentOf m a x y z
        → (Meant (identity_of d.plate) a x y z → ⊥) → judged_frame d (0xFF ∷ 0xBF ∷ m) ≡ mute d
    assignment-silent x y z w other = xid-silent (meant-silent (identity_of d.plate) m a x y z w other)
