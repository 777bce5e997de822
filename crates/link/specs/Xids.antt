-- Why a device does not answer an XID frame: the first that holds of ten conditions, by the law of rows that the numbers
-- for "no" have (refusal/specs/Answer); these are not those numbers. The conditions are 01's, "The link" and "XID: scan and
-- assignment", and 02 (iv)'s; their order, and so the number of a row, is that of (viii) in 02.
--   to_all f          == the address octet of the frame f is that of all stations
--   to_own d f        == it is the own one of the device d, where a negotiation is answered
--   wrong_address d f == 2: it is neither
--   wrong_control f   == 3: the control of f is not that of an XID
--   malformed_at f    == 4: the payload is not well formed, of the group 0xF0 to all stations, of 0x80 at the own
--                        address
--   value_rows_at d f == the rows of what is given, 5 to 10: to all stations alone
--   xid_rows d f      == the ten rows of f, for the device d
--   xid_turn d f      == what comes of f where no row holds: a scan or an assignment to all stations, else a
--                        negotiation
--   xid_answer d f    == that, or the number of the first row that holds
--   or_mute d x       == a number is silence
-- 1, `wrong_size`, stands in specs/Link; 4 to 10, to all stations, in xid/specs/Match. Assumes nothing.
use Rattle.std.specs.Prelude.{Bool, cond, not, ◌&&◌, ◌||◌, List, [], ◌∷◌, ℕ, eqb, get_or, drop}
use Rattle.refusal.specs.Answer.{Answer, gives, refuses, TestRow, ◌when◌, answered}
use Rattle.record.specs.declared.Device.{Device}
use Rattle.record.specs.Allowed.{identity_of, limit_of}
use Rattle.params.specs.Field.{params_of}
use Rattle.negotiation.specs.Negotiation.{negotiating}
use Rattle.xid.specs.Match.{no_params, malformed, values_in, value_rows, meaning_of}
use Rattle.control.specs.Control.{xid_control}
use Rattle.station.specs.declared.Turn.{Turn}
use Rattle.station.specs.Turns.{mute}
use Rattle.link.specs.Link.{all_stations, has_address, is_own, xid_by, negotiated_by, wrong_size}
use Rattle.link.specs.Frames.{control_of}

-- "Address 0xFF"
unfoldable pub to_all : List ℕ → Bool
to_all f = eqb (get_or f 0 0) all_stations

-- 02 (iv): "XID to the device's own address"
unfoldable pub to_own : Device → List ℕ → Bool
to_own d f = is_own d (get_or f 0 0) && has_address d.station.link

-- "The only right address octet is 0xFF, or the own one where a negotiation is answered."
unfoldable pub wrong_address : Device → List ℕ → Bool
wrong_address d f = not (to_all f || to_own d f)

-- "only XID (0xBF) is read"
unfoldable pub wrong_control : List ℕ → Bool
wrong_control f = not (eqb (control_of f) xid_control)

-- "malformed, as is all but a negotiation at the own address"
unfoldable pub malformed_at : List ℕ → Bool
malformed_at f = cond (to_all f) (malformed (drop 2 f)) (no_params (params_of negotiating (drop 2 f)))

unfoldable pub value_rows_at : Device → List ℕ → List TestRow
value_rows_at d f = cond (to_all f) (value_rows (identity_of d.plate) (values_in (drop 2 f))) []

unfoldable pub xid_rows : Device → List ℕ → List TestRow
xid_rows d f =
    1 when wrong_size (limit_of d) f
    ∷ 2 when wrong_address d f ∷ 3 when wrong_control f ∷ 4 when malformed_at f ∷ value_rows_at d f

unfoldable pub xid_turn : Device → List ℕ → Turn
xid_turn d f = cond (to_all f) (xid_by d (meaning_of (values_in (drop 2 f)))) (negotiated_by d (drop 2 f))

unfoldable pub xid_answer : Device → List ℕ → Answer Turn
xid_answer d f = answered (xid_rows d f) (xid_turn d f)

unfoldable pub or_mute : Device → Answer Turn → Turn
or_mute d (gives t) = t
or_mute d (refuses k) = mute d
