-- A decoded frame judged. 01, "The link", and 02 (iv).
--   all_stations     == 0xFF, the address of a frame to every device
--   quiet o bare     == the states do not read the order o, with payload or bare
--   ordered_by d o c p == at the own address, an order that is no XID
--   has_address l    == an address is assigned in the link state l
--   agreed_by d x, negotiated_by d p == at the own address, an XID that comes to the offer x; that has the payload p
--   own_by d c p     == at the own address
--   xid_by d x       == to all stations, an XID that means x
--   wrong_size N f   == f has "fewer than 2 or more than 76 octets", and N - 2 for 76
--   judged_frame d f == the frame f, of address, control and payload
-- Assumes nothing.
use Rattle.std.specs.Prelude.{Bool, true, false, cond, not, ◌&&◌, ◌||◌, List, ℕ, ltb, eqb, length, get_or, drop, Ok, Err}
use Rattle.limits.specs.Limits.{frame_most}
use Rattle.control.specs.Control.{polled, xid_control, asked_by}
use Rattle.control.specs.declared.Order.{Order}
use Rattle.control.specs.declared.Order.TheVariants.{Xid, Snrm, Disc, Info, Rr, Rnr, Unknown}
use Rattle.record.specs.declared.Link.{Link}
use Rattle.record.specs.declared.Link.TheVariants.{NoAddress, AddressAssigned, Connected}
use Rattle.record.specs.declared.Device.{Device}
use Rattle.record.specs.Allowed.{identity_of, limit_of}
use Rattle.record.specs.Changes.{ended_as, limited_to}
use Rattle.negotiation.specs.Negotiation.{OfferRead, offer_of}
use Rattle.xid.specs.Match.{read_of}
use Rattle.xid.specs.declared.Xid as xids
use Rattle.station.specs.declared.Say.{Say}
use Rattle.station.specs.declared.Turn.{Turn}
use Rattle.station.specs.Turns.{saying, mute}
use Rattle.states.specs.States.{linked_by}

-- "Address 0xFF"
abbrev pub all_stations : ℕ
all_stations = 0xFF

-- "SNRM, DISC, RR or RNR with payload: silence." No XID comes here (`own_by`)
abbrev pub quiet : Order → Bool → Bool
quiet Xid bare = true
quiet Snrm bare = not bare
quiet Disc bare = not bare
quiet (Info n r) bare = false
quiet (Rr r) bare = not bare
quiet (Rnr r) bare = not bare
quiet Unknown bare = false

unfoldable pub ordered_by : Device → Order → ℕ → List ℕ → Turn
ordered_by d o c p = cond (quiet o (eqb (length p) 0)) (mute d) (linked_by d d.station.link o c p)

abbrev pub has_address : Link → Bool
has_address NoAddress = false
has_address AddressAssigned = true
has_address (Connected s) = true

-- 02 (iv): "the device answers with its own limit where that is lower"; "'own address, XID: silence' now holds for other
-- groups and malformed ones"
unfoldable pub agreed_by : Device → OfferRead → Turn
agreed_by d (Err e) = mute d
agreed_by d (Ok x) = saying (limited_to d x.limit) (Say.Negotiated x.asked)

-- in AddressAssigned and in Connected
unfoldable pub negotiated_by : Device → List ℕ → Turn
negotiated_by d p = cond (has_address d.station.link) (agreed_by d (offer_of (limit_of d) p)) (mute d)

-- "A master sends XID to the device's own address"
unfoldable pub own_by : Device → ℕ → List ℕ → Turn
own_by d c p = cond (eqb c xid_control) (negotiated_by d p) (ordered_by d (asked_by c) c p)

-- "Answer, in any state"; "Then any session ends, the address is taken, the state is AddressAssigned"
unfoldable pub xid_by : Device → xids.Xid → Turn
xid_by d xids.Xid.Silence = mute d
xid_by d xids.Xid.Scan = saying d Say.Scanned
xid_by d (xids.Xid.Assignment a) = saying (ended_as d a AddressAssigned) Say.Assigned

-- "Address 0xFF: only XID (0xBF) is read."
unfoldable pub everyone_by : Device → ℕ → List ℕ → Turn
everyone_by d c p = cond (eqb c xid_control) (xid_by d (read_of (identity_of d.plate) p)) (mute d)

-- "Any other address than the device's own nonzero one: silence."
unfoldable pub is_own : Device → ℕ → Bool
is_own d a = eqb a d.station.desk.address && not (eqb a 0)

unfoldable pub addressed_by : Device → ℕ → ℕ → List ℕ → Turn
addressed_by d a c p =
    cond (eqb a all_stations) (everyone_by d c p) (cond (is_own d a) (own_by d c p) (mute d))

-- "Control octets below have the poll bit set; with it clear, silence."
unfoldable pub controlled_by : Device → ℕ → ℕ → List ℕ → Turn
controlled_by d a c p = cond (polled c) (addressed_by d a c p) (mute d)

-- "fewer than 2 or more than 76 octets, silence"; 02 (iv): "76 and 158 become N - 2 and 2N + 2"
unfoldable pub wrong_size : ℕ → List ℕ → Bool
wrong_size N f = ltb (length f) 2 || ltb (frame_most N) (length f)

unfoldable pub judged_frame : Device → List ℕ → Turn
judged_frame d f = cond (wrong_size (limit_of d) f) (mute d) (controlled_by d (get_or f 0 0) (get_or f 1 0) (drop 2 f))
