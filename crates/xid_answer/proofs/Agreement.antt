-- What a master reads in the answer to a negotiation: the identifiers that it asked, and the frame limit agreed
-- on. Its octets, spelt out. Assumes nothing.
use mathlib.Core.Path.{◌≡◌, refl, sym, ap, ◌∙◌}
use mathlib.Core.Bool.{Bool, true, false, cond}
use mathlib.Core.List.{List, [], ◌∷◌}
use mathlib.Core.Logic.{◌⊎◌, ⊎_elim}
use mathlib.Core.Option.{none, some}
use Prim.Native.Nat.{ℕ, ◌*◌, ◌≤◌, min, max}
use native.Mathlib.Omega.{arith}
use borrow.Author.Tests.{eq-eqb}
use lib.Dec.{eqb}
use lib.ListN.{length}
use Rattle.octets.specs.Octets.{holds}
use Rattle.octets.proofs.Words.{true-not-false}
use Rattle.limits.specs.Limits.{payload_most, is_limit}
use Rattle.limits.proofs.Exactly.{is-limit-exactly}
use Rattle.params.specs.declared.Identifier.{Identifier}
use Rattle.params.specs.Field.{Param, ◌is◌, triple_of, field_of, xid_payload, right_length, identifiers, AllRight}
use Rattle.params.specs.Field.{WellFormed, none_twice, value_for, given}
use Rattle.params.proofs.Exact.{once-different}
use Rattle.control.specs.declared.AskedFor.{AskedFor}
use Rattle.negotiation.specs.Negotiation.{received_id, sending_id, receiving_id, negotiating, bits_in, smaller_of}
use Rattle.negotiation.specs.Negotiation.{agreed_limit, asked_in, agrees_on, offer_of}
use Rattle.negotiation.proofs.Bits.{bits-two}
use Rattle.negotiation.proofs.Exactly.{offer-agreed, limit-kept, limit-agreed, agreed-least, never-above}
use Rattle.xid_answer.specs.Answer.{if_asked, length_value, window_value, negotiation_params, negotiation_answer}

-- ---- a parameter that is there where it was asked

value-other : (n k : ℕ) (v : List ℕ) (ps : List Param) (b : Bool) → eqb k n ≡ false
    → value_for n (if_asked b (k is v) ps) ≡ value_for n ps
unfolding if_asked value_for
value-other n k v ps true other = rw other
value-other n k v ps false other = refl

-- an identifier that has no value is none of them
value-free : (n : ℕ) (ps : List Param) → value_for n ps ≡ none → holds n (identifiers ps) ≡ false
unfolding value_for identifiers holds
value-free n [] e = refl
value-free n (k is v ∷ ps) e = go (value-free n ps) (eqb k n) e
  where
    go : (value_for n ps ≡ none → holds n (identifiers ps) ≡ false) → (b : Bool) → cond b (some v) (value_for n ps) ≡ none
        → cond b true (holds n (identifiers ps)) ≡ false
    go more true f = let z : ◌≡◌ {A = ℕ} 0 1 = cc in let no : ⊥ = omega arith in absurd no
    go more false f = more f

module _ (n : ℕ) (v : List ℕ) (ps : List Param) where
  value_same : (b : Bool) → value_for n ps ≡ none → value_for n (if_asked b (n is v) ps) ≡ cond b (some v) none
  unfolding if_asked value_for
  value_same true h = rw (eq-eqb n n refl)
  value_same false h = h

  right-same : (t : List Identifier) (b : Bool) → right_length t n (length v) ≡ true → AllRight t ps
      → AllRight t (if_asked b (n is v) ps)
  unfolding if_asked
  right-same t true r h = (r, h)
  right-same t false r h = h

  once-same : (b : Bool) → value_for n ps ≡ none → none_twice (identifiers ps) ≡ true
      → none_twice (identifiers (if_asked b (n is v) ps)) ≡ true
  unfolding if_asked identifiers none_twice
  once-same true h o = rw (value-free n ps h, o)
  once-same false h o = o

given-asked : (b : Bool) (v : List ℕ) → given (cond b (some v) none) ≡ b
unfolding given
given-asked true v = refl
given-asked false v = refl

-- ---- the answer

-- (N - 4) · 8
pub bits-answered : (N : ℕ) → is_limit N ≡ true → bits_in (length_value N) ≡ payload_most N * 8
unfolding length_value
bits-answered N ok = bits-two _ _ ∙ omega (arith, ((is-limit-exactly N).0 ok).0, ((is-limit-exactly N).0 ok).1)

module _ (a : AskedFor) (N : ℕ) where
  -- the parameters from 8, 7 and 6 on
  abbrev from_eight : List Param
  from_eight = if_asked a.receiving (receiving_id is window_value) []

  abbrev from_seven : List Param
  from_seven = if_asked a.sending (sending_id is window_value) from_eight

  abbrev from_six : List Param
  from_six = if_asked a.received (received_id is length_value N) from_seven

  none-from-8 : (n : ℕ) → eqb 8 n ≡ false → value_for n from_eight ≡ none
  unfolding value_for
  none-from-8 n = value-other n 8 window_value [] a.receiving

  none-from-7 : (n : ℕ) → eqb 7 n ≡ false → eqb 8 n ≡ false → value_for n from_seven ≡ none
  none-from-7 n h k = value-other n 7 window_value from_eight a.sending h ∙ none-from-8 n k

  none-from-6 : (n : ℕ) → eqb 6 n ≡ false → eqb 7 n ≡ false → eqb 8 n ≡ false → value_for n from_six ≡ none
  none-from-6 n h k l = value-other n 6 (length_value N) from_seven a.received h ∙ none-from-7 n k l

  -- each identifier has its value, where it was asked
  pub answered-values : (value_for 5 (negotiation_params a N) ≡ cond a.sent (some (length_value N)) none)
      × (value_for 6 (negotiation_params a N) ≡ cond a.received (some (length_value N)) none)
      × (value_for 7 (negotiation_params a N) ≡ cond a.sending (some (1 ∷ [])) none)
      × (value_for 8 (negotiation_params a N) ≡ cond a.receiving (some (1 ∷ [])) none)
  unfolding negotiation_params value_for
  answered-values = (
    value_same 5 (length_value N) from_six a.sent (none-from-6 5 refl refl refl),
    past-five 6 refl ∙ value_same 6 (length_value N) from_seven a.received (none-from-7 6 refl refl),
    past-six 7 refl refl ∙ value_same 7 window_value from_eight a.sending (none-from-8 7 refl),
    past-six 8 refl refl ∙ value-other 8 7 window_value from_eight a.sending refl
        ∙ value_same 8 window_value [] a.receiving refl,
  )
    where
      past-five : (n : ℕ) → eqb 5 n ≡ false
          → value_for n (if_asked a.sent (5 is length_value N) from_six) ≡ value_for n from_six
      past-five n = value-other n 5 (length_value N) from_six a.sent

      past-six : (n : ℕ) → eqb 5 n ≡ false → eqb 6 n ≡ false
          → value_for n (if_asked a.sent (5 is length_value N) from_six) ≡ value_for n from_seven
      past-six n h k = past-five n h ∙ value-other n 6 (length_value N) from_seven a.received k

  pub negotiation-formed : WellFormed negotiating (negotiation_answer a N) (negotiation_params a N)
  unfolding negotiation_answer negotiation_params length_value right_length identifiers none_twice value_for
  negotiation-formed =
      let t = negotiating.table in
      let right₈ = right-same 8 window_value [] t a.receiving refl tt in
      let right₇ = right-same 7 window_value from_eight t a.sending refl right₈ in
      let right₆ = right-same 6 (length_value N) from_seven t a.received refl right₇ in
      let once₈ = once-same 8 window_value [] a.receiving refl refl in
      let once₇ = once-same 7 window_value from_eight a.sending (none-from-8 7 refl) once₈ in
      let once₆ = once-same 6 (length_value N) from_seven a.received (none-from-7 6 refl refl) once₇ in
      let once₅ = once-same 5 (length_value N) from_six a.sent (none-from-6 5 refl refl refl) once₆ in
      record {
        octets = refl;
        right = right-same 5 (length_value N) from_six t a.sent refl right₆;
        once = once-different (identifiers (negotiation_params a N)) once₅;
      }

  -- the identifiers that were asked, and no others
  pub asked-again : asked_in (negotiation_params a N) ≡ a
  unfolding asked_in
  asked-again =
      let (five, six, seven, eight) = answered-values in
      simp (five, six, seven, eight, given-asked)

  -- whatever the master's limit was, it is the one agreed on where a length was asked
  pub answer-agrees : (M : ℕ) → is_limit N ≡ true → (a.sent ≡ true) ⊎ (a.received ≡ true)
      → agreed_limit M (negotiation_params a N) ≡ N
  unfolding smaller_of
  answer-agrees M ok s =
      let (five, six, seven, eight) = answered-values in
      let bits = bits-answered N ok in
      let (least, most) = (is-limit-exactly N).0 ok in
      limit-agreed M (negotiation_params a N) (bits_in (length_value N)) (rw (five, six) (go a.sent a.received s))
      ∙ rw bits (omega arith)
    where
      same : min (bits_in (length_value N)) (bits_in (length_value N)) ≡ bits_in (length_value N)
      same = omega arith

      go : (b c : Bool) → (b ≡ true) ⊎ (c ≡ true)
          → smaller_of (cond b (some (length_value N)) none) (cond c (some (length_value N)) none)
          ≡ some (bits_in (length_value N))
      go true true s = ap some same
      go true false s = refl
      go false true s = refl
      go false false s = ⊎_elim (λ e. absurd (true-not-false (sym e))) (λ e. absurd (true-not-false (sym e))) s

  pub answer-read : (M : ℕ) → is_limit N ≡ true → (a.sent ≡ true) ⊎ (a.received ≡ true)
      → offer_of M (negotiation_answer a N) ≡ agrees_on N a
  answer-read M ok s =
      offer-agreed M (negotiation_answer a N) (negotiation_params a N) negotiation-formed
      ∙ rw (answer-agrees M ok s, asked-again)

  -- and stays where none was
  pub answer_keeps : (M : ℕ) → a.sent ≡ false → a.received ≡ false → offer_of M (negotiation_answer a N) ≡ agrees_on M a
  answer_keeps M s r =
      let (five, six, seven, eight) = answered-values in
      let kept = limit-kept M (negotiation_params a N) (five ∙ rw s) (six ∙ rw r) in
      offer-agreed M (negotiation_answer a N) (negotiation_params a N) negotiation-formed
      ∙ rw (kept, asked-again)

-- "N - 4 is the whole octets in the smaller I-field length asked": the length that is answered is at most each one asked,
-- but for the floor of 592 bits
pub answered-within : (N : ℕ) (ps : List Param) {v : List ℕ} → is_limit N ≡ true
    → (value_for 5 ps ≡ some v) ⊎ (value_for 6 ps ≡ some v)
    → bits_in (length_value (agreed_limit N ps)) ≤ max 592 (bits_in v)
answered-within N ps ok s =
    rw (bits-answered (agreed_limit N ps) (agreed-least N ps ok)) (omega (arith, never-above N ps s))

-- ---- spelt out

pub none-spelt : (N : ℕ)
    → negotiation_answer (record { sent = false; received = false; sending = false; receiving = false }) N
    ≡ 0x81 ∷ 0x80 ∷ 0 ∷ []
unfolding negotiation_answer negotiation_params if_asked xid_payload field_of triple_of
none-spelt N = refl

pub all-spelt : negotiation_answer (record { sent = true; received = true; sending = true; receiving = true }) 260
    ≡ 0x81 ∷ 0x80 ∷ 0x0E ∷ 5 ∷ 2 ∷ 0x08 ∷ 0x00 ∷ 6 ∷ 2 ∷ 0x08 ∷ 0x00 ∷ 7 ∷ 1 ∷ 1 ∷ 8 ∷ 1 ∷ 1 ∷ []
unfolding negotiation_answer negotiation_params if_asked length_value xid_payload field_of triple_of
all-spelt = refl
