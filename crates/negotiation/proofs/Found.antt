-- What the walk finds of a negotiation: the limit by the parts of the two lengths, and which identifiers are asked,
-- each by the part at its place in the table. Assumes nothing.
use mathlib.Core.Path.{◌≡◌, refl, ap, ◌∙◌}
use mathlib.Core.List.{List}
use Prim.Native.Nat.{ℕ, ◌*◌, min}
use lib.Dec.{lit<}
use lib.ListN.{take, drop}
use Rattle.limits.specs.Limits.{limit_most, payload_most}
use Rattle.std.specs.Prelude.{Some, None, Ok, Err, is_some}
use Rattle.params.specs.declared.Place.{Place}
use Rattle.params.specs.Field.{given}
use Rattle.params.specs.Walk.{place_in, Part, part_in, Found, Malformed, found_in, value_at}
use Rattle.params.proofs.Values.{walk-formed, walk-malformed}
use Rattle.control.specs.declared.AskedFor.{AskedFor}
use Rattle.negotiation.specs.Negotiation.{negotiating, bits_in, smaller_of, limit_for, limit_asked, agreed_limit}
use Rattle.negotiation.specs.Negotiation.{asked_in, agrees_on, no_offer, offered, offer_of}
use Rattle.negotiation.proofs.Bits.{limit-as-far, smaller-as-far}

-- ---- the lengths asked

-- the number n tells the bits of a part: the same, or both past the most
abbrev Tells : List ℕ → Place → ℕ → Type 0
Tells m p n =
    min n (payload_most limit_most * 8) ≡ min (bits_in (take p.len (drop p.from m))) (payload_most limit_most * 8)

module _ (m : List ℕ) (N : ℕ) {p q : Part} where
  pub none-asked : p ≡ None → q ≡ None → N ≡ limit_asked N (smaller_of (value_at m p) (value_at m q))
  unfolding limit_asked smaller_of value_at
  none-asked a b = rw (a, b)

  module _ {r : ℕ} (n : ℕ) (e : r ≡ limit_for n) where
    pub received-asked : {x : Place} → p ≡ None → q ≡ Some x → Tells m x n
        → r ≡ limit_asked N (smaller_of (value_at m p) (value_at m q))
    unfolding limit_asked smaller_of value_at
    received-asked a b t = rw (a, b) (e ∙ limit-as-far n _ t)

    pub sent-asked : {x : Place} → p ≡ Some x → q ≡ None → Tells m x n
        → r ≡ limit_asked N (smaller_of (value_at m p) (value_at m q))
    unfolding limit_asked smaller_of value_at
    sent-asked a b t = rw (a, b) (e ∙ limit-as-far n _ t)

    pub both-asked : (k l : ℕ) {x y : Place} → p ≡ Some x → q ≡ Some y → Tells m x k → Tells m y l
        → n ≡ min k l → r ≡ limit_asked N (smaller_of (value_at m p) (value_at m q))
    unfolding limit_asked smaller_of value_at
    both-asked k l a b t u f =
        rw (a, b) (e ∙ limit-as-far n _ (rw f (smaller-as-far (payload_most limit_most * 8) k l _ _ t u)))

-- ---- all of it

given_is : (m : List ℕ) (p : Part) → is_some p ≡ given (value_at m p)
unfolding given value_at
given_is m None = refl
given_is m (Some x) = refl

module _ (m : List ℕ) (N : ℕ) {r : Found} (e : r ≡ found_in negotiating m) where
  pub read-malformed : {x : Malformed} → r ≡ Err x → no_offer ≡ offer_of N m
  unfolding offer_of offered
  read-malformed f = rw (walk-malformed negotiating m e f)

  pub read-agreed : {f : List Part} {a : AskedFor} {x : ℕ} → r ≡ Ok f
      → (a.sent ≡ is_some (part_in f 0)) × (a.received ≡ is_some (part_in f 1))
      × (a.sending ≡ is_some (part_in f 2)) × (a.receiving ≡ is_some (part_in f 3))
      → x ≡ limit_asked N (smaller_of (value_at m (part_in f 0)) (value_at m (part_in f 1)))
      → agrees_on x a ≡ offer_of N m
  unfolding offer_of offered agreed_limit asked_in place_in
  read-agreed {f} {a} {x} g (sent, received, sending, receiving) l =
      let (ps, formed, at) = walk-formed negotiating m e g in
      let most : x ≡ agreed_limit N ps = l ∙ rw (at 5 (lit< tt), at 6 (lit< tt)) in
      let five = sent ∙ given_is m _ ∙ ap given (at 5 (lit< tt)) in
      let six = received ∙ given_is m _ ∙ ap given (at 6 (lit< tt)) in
      let seven = sending ∙ given_is m _ ∙ ap given (at 7 (lit< tt)) in
      let eight = receiving ∙ given_is m _ ∙ ap given (at 8 (lit< tt)) in
      let asked : a ≡ asked_in ps = rw (← five, ← six, ← seven, ← eight) in
      rw (formed, most, asked)
