-- Longer frames by negotiation: the payload of an XID frame to the own address. 02 (iv), annex B of source 003.
--   sent_id, received_id, sending_id, receiving_id == the identifiers 5 and 6, the I-field length in bits, sent and
--                      received, and 7 and 8, the windows
--   negotiating     == the group: 0x80, and the table of its identifiers with their lengths
--   bits_in v       == the number that the octets v stand for, highest first; bits_from n v == of v behind the number n
--   smaller_of v w  == the smaller of two I-field lengths, in bits; the one that is given; none where none is
--   limit_for b     == the frame limit that a length of b bits asks for
--   limit_asked N b == the frame limit after N where the length b is asked, or none
--   agreed_limit N ps == the frame limit after N by the parameters ps
--   asked_in ps     == which identifiers ps have
--   OfferRead       == what a payload comes to: agrees_on N a == the frame limit N, where a was asked; no_offer == it
--                      is no negotiation
--   offered N x     == what comes of the parameters x, where there are such; offer_of N m == of the payload m
-- Assumes nothing.
use Rattle.std.specs.Prelude.{List, [], ◌∷◌, ℕ, ◌+◌, ◌*◌, ◌/◌, min, max, Ok, Err}
use Rattle.std.specs.declared.result.Result.{Result}
use Rattle.std.proofs.Math.Option.{Option, none, some}
use Rattle.limits.specs.Limits.{limit_least, limit_most, around, payload_most}
use Rattle.params.specs.Walk.{Malformed}
use Rattle.params.specs.declared.Group.{Group}
use Rattle.params.specs.declared.Identifier.{Identifier}
use Rattle.params.specs.Field.{Param, ◌has◌to◌, params_of, value_for, given}
use Rattle.control.specs.declared.AskedFor.{AskedFor}
use Rattle.negotiation.specs.declared.Agreed.{Agreed}

-- "5 and 6, the I-field length in bits, sent and received, .. 7 and 8, the windows": identifiers of ISO/IEC 13239
abbrev pub sent_id : ℕ
sent_id = 5

abbrev pub received_id : ℕ
received_id = 6

abbrev pub sending_id : ℕ
sending_id = 7

abbrev pub receiving_id : ℕ
receiving_id = 8

abbrev pub negotiating_octet : ℕ
negotiating_octet = 0x80

-- the row of the identifier 0: no length is right
abbrev pub no_row : Identifier
no_row = 0 has 1 to 0

-- "0x81, 0x80": lengths of 1 to 4 octets, windows of one
abbrev pub negotiating : Group
negotiating =
    record {
      octet = negotiating_octet;
      table = sent_id has 1 to 4
          ∷ received_id has 1 to 4 ∷ sending_id has 1 to 1 ∷ receiving_id has 1 to 1 ∷ no_row ∷ [];
    }

-- "highest octet first"
unfoldable pub bits_from : ℕ → List ℕ → ℕ
bits_from n [] = n
bits_from n (x ∷ xs) = bits_from (n * 256 + x) xs

abbrev pub bits_in : List ℕ → ℕ
bits_in v = bits_from 0 v

-- "the smaller I-field length asked"
unfoldable pub smaller_of : Option (List ℕ) → Option (List ℕ) → Option ℕ
smaller_of none none = none
smaller_of (some v) none = some (bits_in v)
smaller_of none (some w) = some (bits_in w)
smaller_of (some v) (some w) = some (min (bits_in v) (bits_in w))

-- "N - 4 is the whole octets in the smaller I-field length asked"; "its own limit where that is lower": its own is 260; "an N
-- below 78 is answered 78"
unfoldable pub limit_for : ℕ → ℕ
limit_for bits = max (payload_most limit_least) (min (payload_most limit_most) (bits / 8)) + around

-- "none asked keeps N"
unfoldable pub limit_asked : ℕ → Option ℕ → ℕ
limit_asked N none = N
limit_asked N (some bits) = limit_for bits

unfoldable pub agreed_limit : ℕ → List Param → ℕ
agreed_limit N ps = limit_asked N (smaller_of (value_for sent_id ps) (value_for received_id ps))

unfoldable pub asked_in : List Param → AskedFor
asked_in ps =
    record {
      sent = given (value_for sent_id ps);
      received = given (value_for received_id ps);
      sending = given (value_for sending_id ps);
      receiving = given (value_for receiving_id ps);
    }

abbrev pub OfferRead : Type 0
OfferRead = Result Agreed Malformed

abbrev pub agrees_on : ℕ → AskedFor → OfferRead
agrees_on N a = Ok (record { limit = N; asked = a })

abbrev pub no_offer : OfferRead
no_offer = Err (record {})

-- "'own address, XID: silence' now holds for other groups and malformed ones"
unfoldable pub offered : ℕ → Option (List Param) → OfferRead
offered N none = no_offer
offered N (some ps) = agrees_on (agreed_limit N ps) (asked_in ps)

unfoldable pub offer_of : ℕ → List ℕ → OfferRead
offer_of N m = offered N (params_of negotiating m)
