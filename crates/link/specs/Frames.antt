-- Which frames are read, and how: the words of the theorems about frames.
--   control_of f       == the control octet of the frame f
--   Own d f o          == f is read at the own address of the device d, and its control asks o
--   Numbered d f o r s == the same in the session s, and the N(R) = r of the order o is good
--   Everyone d f       == f is an XID frame to all stations, of a right size for the device d
--   OwnXid d f         == f is an XID frame to the own address of d, of a right size, where an address is assigned
--   number_in o        == the N(R) of the order o, if it has one
--   Supervised o       == o is "SNRM, DISC, RR or RNR", which have no payload
--   Unread d f         == d is silent to f, and why
-- Assumes nothing.
use Rattle.std.specs.Prelude.{◌≡◌, true, false, List, ℕ, ◌≤◌, eqb, length, get_or, drop}
use Rattle.std.proofs.Math.Option.{Option, none, some}
use Rattle.limits.specs.Limits.{frame_most}
use Rattle.refusal.specs.Answer.{Given}
use Rattle.control.specs.Control.{polled, xid_control, asked_by}
use Rattle.control.specs.declared.Order.{Order}
use Rattle.control.specs.declared.Order.TheVariants.{Xid, Snrm, Disc, Info, Rr, Rnr, Unknown}
use Rattle.record.specs.declared.Session.{Session}
use Rattle.record.specs.declared.Link.TheVariants.{NoAddress, Connected}
use Rattle.record.specs.declared.Device.{Device}
use Rattle.record.specs.Allowed.{identity_of, limit_of}
use Rattle.params.specs.Field.{Param, WellFormed}
use Rattle.negotiation.specs.Negotiation.{negotiating}
use Rattle.xid.specs.Match.{payload_rows}
use Rattle.session.specs.Session.{good_number}
use Rattle.link.specs.Link.{all_stations, quiet, has_address, is_own, wrong_size}

abbrev pub control_of : List ℕ → ℕ
control_of f = get_or f 1 0

pub record Own (d : Device) (f : List ℕ) (o : Order) : Type 0 where
  pub least : 2 ≤ length f
  pub most : length f ≤ frame_most (limit_of d)
  pub poll : polled (control_of f) ≡ true
  pub all : eqb (get_or f 0 0) all_stations ≡ false
  pub own : is_own d (get_or f 0 0) ≡ true
  pub order : asked_by (control_of f) ≡ o
  pub read : quiet o (eqb (length (drop 2 f)) 0) ≡ false

pub record Numbered (d : Device) (f : List ℕ) (o : Order) (r : ℕ) (s : Session) : Type 0 where
  pub own : Own d f o
  pub link : d.station.link ≡ Connected s
  pub good : good_number s r ≡ true

pub record Everyone (d : Device) (f : List ℕ) : Type 0 where
  pub least : 2 ≤ length f
  pub most : length f ≤ frame_most (limit_of d)
  pub address : get_or f 0 0 ≡ all_stations
  pub control : control_of f ≡ xid_control

pub record OwnXid (d : Device) (f : List ℕ) : Type 0 where
  pub least : 2 ≤ length f
  pub most : length f ≤ frame_most (limit_of d)
  pub all : eqb (get_or f 0 0) all_stations ≡ false
  pub own : is_own d (get_or f 0 0) ≡ true
  pub control : control_of f ≡ xid_control
  pub link : has_address d.station.link ≡ true

-- the N(R) of "I, RR and RNR"
abbrev pub number_in : Order → Option ℕ
number_in Xid = none
number_in Snrm = none
number_in Disc = none
number_in (Info n r) = some r
number_in (Rr r) = some r
number_in (Rnr r) = some r
number_in Unknown = none

-- "SNRM, DISC, RR or RNR with payload: silence."
pub data Supervised (o : Order) : Type 0 where
  snrm : o ≡ Snrm → Supervised o
  disc : o ≡ Disc → Supervised o
  rr : (r : ℕ) → o ≡ Rr r → Supervised o
  rnr : (r : ℕ) → o ≡ Rnr r → Supervised o

pub data Unread (d : Device) (f : List ℕ) : Type 0 where
  -- "fewer than 2 or more than 76 octets, silence", and N - 2 for 76
  missized : wrong_size (limit_of d) f ≡ true → Unread d f
  -- "Control octets below have the poll bit set; with it clear, silence."
  unpolled : polled (control_of f) ≡ false → Unread d f
  -- "Address 0xFF: only XID (0xBF) is read."
  unfit : get_or f 0 0 ≡ all_stations → (control_of f ≡ xid_control → ⊥) → Unread d f
  -- an XID that is malformed, neither scan nor assignment, or does not match: the first of its rows that holds has k
  unmeant : (k : ℕ) → Everyone d f → Given k (payload_rows (identity_of d.plate) (drop 2 f)) → Unread d f
  -- "Any other address than the device's own nonzero one: silence."
  elsewhere : (get_or f 0 0 ≡ all_stations → ⊥) → is_own d (get_or f 0 0) ≡ false → Unread d f
  -- "SNRM, DISC, RR or RNR with payload: silence."
  unheeded : (get_or f 0 0 ≡ all_stations → ⊥) → (control_of f ≡ xid_control → ⊥)
      → quiet (asked_by (control_of f)) (eqb (length (drop 2 f)) 0) ≡ true → Unread d f
  -- 02 (iv): "'own address, XID: silence' now holds for other groups and malformed ones"
  unagreed : (get_or f 0 0 ≡ all_stations → ⊥) → control_of f ≡ xid_control
      → ((ps : List Param) → WellFormed negotiating (drop 2 f) ps → ⊥) → Unread d f
  -- a frame to one address in NoAddress: no allowed record has one there
  unassigned : (get_or f 0 0 ≡ all_stations → ⊥) → d.station.link ≡ NoAddress → Unread d f
