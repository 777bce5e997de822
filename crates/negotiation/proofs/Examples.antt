-- Computed, for a link whose frame limit is 100: lengths of one to four octets and the limit that each comes to,
-- windows, nothing asked, and payloads that are no negotiations. Assumes nothing.
use mathlib.Core.Path.{◌≡◌, refl}
use mathlib.Core.Bool.{Bool, true, false}
use mathlib.Core.List.{List, [], ◌∷◌}
use Prim.Native.Nat.{ℕ}
use Rattle.octets.specs.Octets.{holds}
use Rattle.params.specs.Field.{opened, triples_after, before, checked, all_right, right_length, identifiers}
use Rattle.params.specs.Field.{none_twice, params_of, value_for, given}
use Rattle.control.specs.declared.AskedFor.{AskedFor}
use Rattle.negotiation.specs.Negotiation.{bits_from, smaller_of, limit_for, limit_asked, agreed_limit, asked_in}
use Rattle.negotiation.specs.Negotiation.{OfferRead, agrees_on, no_offer, offered, offer_of}

infix 70 ◌gets◌
pub data Row : Type 0 where
  ◌gets◌ : List ℕ → OfferRead → Row

-- which of 5, 6, 7 and 8 are asked
abbrev pub asks : Bool → Bool → Bool → Bool → AskedFor
asks five six seven eight = record { sent = five; received = six; sending = seven; receiving = eight }

-- each payload comes to that
abbrev pub All : List Row → Type 0
All [] = Unit {0}
All (m gets x ∷ rows) = (offer_of 100 m ≡ x) × All rows

-- 2,048 bits, 591 and 592, 600, and 2^32 - 1; 600 in three octets, 800 in four; 800 bits of two lengths; 255 in one octet
abbrev pub lengths : List Row
lengths =
    (0x81 ∷ 0x80 ∷ 4 ∷ 5 ∷ 2 ∷ 0x08 ∷ 0x00 ∷ []) gets agrees_on 260 (asks true false false false)
    ∷ (0x81 ∷ 0x80 ∷ 4 ∷ 5 ∷ 2 ∷ 0x02 ∷ 0x4F ∷ []) gets agrees_on 78 (asks true false false false)
    ∷ (0x81 ∷ 0x80 ∷ 4 ∷ 6 ∷ 2 ∷ 0x02 ∷ 0x50 ∷ []) gets agrees_on 78 (asks false true false false)
    ∷ (0x81 ∷ 0x80 ∷ 4 ∷ 6 ∷ 2 ∷ 0x02 ∷ 0x58 ∷ []) gets agrees_on 79 (asks false true false false)
    ∷ (0x81 ∷ 0x80 ∷ 6 ∷ 5 ∷ 4 ∷ 0xFF ∷ 0xFF ∷ 0xFF ∷ 0xFF ∷ []) gets agrees_on 260 (asks true false false false)
    ∷ (0x81 ∷ 0x80 ∷ 5 ∷ 5 ∷ 3 ∷ 0x00 ∷ 0x02 ∷ 0x58 ∷ []) gets agrees_on 79 (asks true false false false)
    ∷ (0x81 ∷ 0x80 ∷ 6 ∷ 6 ∷ 4 ∷ 0x00 ∷ 0x00 ∷ 0x03 ∷ 0x20 ∷ []) gets agrees_on 104 (asks false true false false)
    ∷ (0x81 ∷ 0x80 ∷ 8 ∷ 6 ∷ 2 ∷ 0x08 ∷ 0x00 ∷ 5 ∷ 2 ∷ 0x03 ∷ 0x20 ∷ []) gets agrees_on 104 (asks true true false false)
    ∷ (0x81 ∷ 0x80 ∷ 3 ∷ 5 ∷ 1 ∷ 0xFF ∷ []) gets agrees_on 78 (asks true false false false) ∷ []

-- nothing asked, windows of any value, and windows with a length between them
abbrev pub windows : List Row
windows =
    (0x81 ∷ 0x80 ∷ 0 ∷ []) gets agrees_on 100 (asks false false false false)
    ∷ (0x81 ∷ 0x80 ∷ 6 ∷ 8 ∷ 1 ∷ 0 ∷ 7 ∷ 1 ∷ 7 ∷ []) gets agrees_on 100 (asks false false true true)
    ∷ (0x81 ∷ 0x80 ∷ 10 ∷ 8 ∷ 1 ∷ 1 ∷ 6 ∷ 2 ∷ 0x03 ∷ 0x20 ∷ 7 ∷ 1 ∷ 1 ∷ []) gets agrees_on 104 (asks false true true true)
    ∷ []

-- a repeat, another identifier, a window of two octets, lengths of none and of five; another group, a wrong length
-- field, a last triple that runs past the end
abbrev pub misformed : List Row
misformed =
    (0x81 ∷ 0x80 ∷ 6 ∷ 7 ∷ 1 ∷ 1 ∷ 7 ∷ 1 ∷ 1 ∷ []) gets no_offer
    ∷ (0x81 ∷ 0x80 ∷ 3 ∷ 9 ∷ 1 ∷ 1 ∷ []) gets no_offer
    ∷ (0x81 ∷ 0x80 ∷ 4 ∷ 7 ∷ 2 ∷ 0 ∷ 1 ∷ []) gets no_offer
    ∷ (0x81 ∷ 0x80 ∷ 2 ∷ 5 ∷ 0 ∷ []) gets no_offer
    ∷ (0x81 ∷ 0x80 ∷ 7 ∷ 5 ∷ 5 ∷ 0 ∷ 0 ∷ 0 ∷ 0x08 ∷ 0x00 ∷ []) gets no_offer
    ∷ (0x81 ∷ 0xF0 ∷ 4 ∷ 5 ∷ 2 ∷ 0x08 ∷ 0x00 ∷ []) gets no_offer
    ∷ (0x81 ∷ 0x80 ∷ 5 ∷ 5 ∷ 2 ∷ 0x08 ∷ 0x00 ∷ []) gets no_offer
    ∷ (0x81 ∷ 0x80 ∷ 3 ∷ 5 ∷ 2 ∷ 0x08 ∷ []) gets no_offer ∷ []

pub computed : All lengths × All windows × All misformed
unfolding offer_of offered agreed_limit asked_in limit_asked limit_for smaller_of bits_from params_of opened triples_after before
    checked all_right right_length identifiers none_twice holds value_for given
computed = (
  (refl, (refl, (refl, (refl, (refl, (refl, (refl, (refl, (refl, tt))))))))),
  (refl, (refl, (refl, tt))),
  (refl, (refl, (refl, (refl, (refl, (refl, (refl, (refl, tt)))))))),
)
