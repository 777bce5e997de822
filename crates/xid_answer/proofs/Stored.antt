-- How an answer comes to stand in a payload, triple by triple. Assumes nothing.
use Rattle.octets.specs.Text.{laid}
use mathlib.Core.Path.{◌≡◌, refl, sym, ◌∙◌}
use mathlib.Core.List.{List, [], ◌∷◌, ◌++◌, append-nil}
use mathlib.Core.Bool.{Bool, true, false, cond}
use Prim.Native.Nat.{ℕ, ◌+◌, ◌-◌, ◌*◌, ◌/◌, ◌%◌, ◌≤◌}
use native.Mathlib.Nat.{add-zero, zero-add}
use native.Mathlib.Omega.{arith}
use lib.ListN.{length, replicate, length-append}
use lib.Seq.{sets}
use mir.Syntax.{w16}
use Rattle.std.specs.Int.{to_be_bytes}
use Rattle.octets.proofs.Runs.{Run, run-all, run-some, run-put, run-done}
use Rattle.octets.proofs.Stores.{sets-start}
use Rattle.identity.specs.Identity.{width}
use Rattle.record.specs.Allowed.{reply_most}
use Rattle.params.specs.Field.{Param, ◌is◌, triple_of, field_of, xid_payload}
use Rattle.control.specs.declared.AskedFor.{AskedFor}
use Rattle.negotiation.specs.Negotiation.{sent_id, received_id, sending_id, receiving_id, negotiating_octet}
use Rattle.xid.specs.Addressing.{identity_id, address_id, kind_id, group_octet}
use Rattle.xid.specs.Match.{device_type}
use Rattle.xid_answer.specs.Answer.{opening, scan_params, assignment_params, scan_answer, assignment_answer}
use Rattle.xid_answer.specs.Answer.{if_asked, length_value, window_value, negotiation_params, negotiation_answer}
use Rattle.octets.specs.Puts.{Puts}
use Rattle.payload.specs.Payloads.{payload_of as held}

-- identifier, length, value
pub param-stored : (at n : ℕ) (v o : List ℕ) {o₁ o₂ : List ℕ} → o₁ ≡ sets o at (n ∷ length v ∷ [])
    → o₂ ≡ sets o₁ (at + 2) v → Puts o at (triple_of (n is v)) (at + 2 + length v) o₂
unfolding triple_of
param-stored at n v o {o₂ = o₂} s₁ s₂ =
    let all : Run o at (n ∷ length v ∷ v) o at (n ∷ length v ∷ v) = run-all in
    let done : Run o₂ (at + 2 + length v) [] o at (n ∷ length v ∷ v) =
    run-some v s₂ refl (sym (append-nil v)) (run-some (n ∷ length v ∷ []) s₁ refl refl all) in
    run-done refl done

-- how many octets a triple has, and the triples of the answers to a scan and an assignment
pub length-triple : (n : ℕ) (v : List ℕ) → length (triple_of (n is v)) ≡ length v + 2
unfolding triple_of
length-triple n v = omega arith

pub scan-length : (i : List ℕ) (a : ℕ) → length (field_of (scan_params i a)) ≡ length i + 8
unfolding field_of triple_of scan_params
scan-length i a = simp length-append (omega arith)

pub assignment-length : (i : List ℕ) → length (field_of (assignment_params i)) ≡ length i + 5
unfolding field_of triple_of assignment_params
assignment-length i = simp length-append (omega arith)

-- all of them, one behind the other
module _ (i o : List ℕ) {o₁ o₂ o₃ : List ℕ} {a : ℕ} where
  pub scan-stored : (address : ℕ) {o₄ : List ℕ} {b n : ℕ} → o₁ ≡ sets o 0 (opening group_octet (length i + 8))
      → Puts o₁ 3 (triple_of (identity_id is i)) a o₂ → Puts o₂ a (triple_of (address_id is (address ∷ []))) b o₃
      → Puts o₃ b (triple_of (kind_id is (device_type ∷ []))) n o₄ → Puts o 0 (scan_answer i address) n o₄
  unfolding scan_answer xid_payload scan_params field_of
  scan-stored address {o₄} {b} {n} s p q r =
      let own = triple_of (identity_id is i) in
      let from = triple_of (address_id is (address ∷ [])) in
      let kind = triple_of (kind_id is (device_type ∷ [])) in
      let xs = opening group_octet (length i + 8) ++ (own ++ (from ++ (kind ++ []))) in
      let all : Run o 0 xs o 0 xs = run-all in
      let opened : Run o₁ 3 (own ++ (from ++ (kind ++ []))) o 0 xs =
      run-some (opening group_octet (length i + 8)) s refl refl all in
      let first : Run o₂ a (from ++ (kind ++ [])) o 0 xs = run-put own p refl opened in
      let second : Run o₃ b (kind ++ []) o 0 xs = run-put from q refl first in
      let third : Run o₄ n [] o 0 xs = run-put kind r refl second in
      rw (scan-length i address) (run-done refl third)

  pub assignment-stored : {n : ℕ} → o₁ ≡ sets o 0 (opening group_octet (length i + 5))
      → Puts o₁ 3 (triple_of (identity_id is i)) a o₂ → Puts o₂ a (triple_of (kind_id is (device_type ∷ []))) n o₃
      → Puts o 0 (assignment_answer i) n o₃
  unfolding assignment_answer xid_payload assignment_params field_of
  assignment-stored {n} s p r =
      let own = triple_of (identity_id is i) in
      let kind = triple_of (kind_id is (device_type ∷ [])) in
      let xs = opening group_octet (length i + 5) ++ (own ++ (kind ++ [])) in
      let all : Run o 0 xs o 0 xs = run-all in
      let opened : Run o₁ 3 (own ++ (kind ++ [])) o 0 xs =
      run-some (opening group_octet (length i + 5)) s refl refl all in
      let first : Run o₂ a (kind ++ []) o 0 xs = run-put own p refl opened in
      let second : Run o₃ n [] o 0 xs = run-put kind r refl first in
      rw (assignment-length i) (run-done refl second)

-- ---- the answer to a negotiation, whose triples are there where they were asked

abbrev pub asking : Bool → ℕ → List ℕ → List ℕ
asking asked n v = cond asked (triple_of (n is v)) []

-- the triple, or nothing; and where the place behind it is at most
module _ (n : ℕ) (v : List ℕ) {asked : Bool} {at : ℕ} {o : List ℕ} where
  pub asked-stored : {r : ℕ} {o' : List ℕ} → asked ≡ true → Puts o at (triple_of (n is v)) r o'
      → Puts o at (asking asked n v) r o' × (r ≤ at + (length v + 2))
  asked-stored e w = (rw e w, omega (arith, w.count, length-triple n v))

  pub none-stored : asked ≡ false → Puts o at (asking asked n v) at o × (at ≤ at + (length v + 2))
  none-stored e = (rw e (record { count = sym (add-zero at); octets = refl }), omega arith)

length-asking : (asked : Bool) (n : ℕ) (v : List ℕ) → length (asking asked n v) ≡ cond asked (length v + 2) 0
length-asking true n v = length-triple n v
length-asking false n v = refl

-- the octets of (N - 4) · 8, of which those above the sixteenth bit do not count
pub length_octets : (N : ℕ) → to_be_bytes w16 ((N - 4) % 8192 * 8) ≡ length_value N
unfolding length_value
length_octets N =
    let h : (N - 4) % 8192 * 8 / 256 % 256 ≡ (N - 4) * 8 / 256 % 256 = omega arith in
    let l : (N - 4) % 8192 * 8 % 256 ≡ (N - 4) * 8 % 256 = omega arith in
    rw (h, l)

field-asked : (asked : Bool) (n : ℕ) (v : List ℕ) (ps : List Param)
    → field_of (if_asked asked (n is v) ps) ≡ asking asked n v ++ field_of ps
unfolding if_asked field_of
field-asked true n v ps = refl
field-asked false n v ps = refl

module _ (a : AskedFor) (N : ℕ) where
  pub negotiation-field : field_of (negotiation_params a N)
      ≡ asking a.sent sent_id (length_value N) ++ (asking a.received received_id (length_value N)
      ++ (asking a.sending sending_id window_value ++ (asking a.receiving receiving_id window_value ++ [])))
  unfolding negotiation_params field_of
  negotiation-field = rw (field-asked, field-asked, field-asked, field-asked)

  pub negotiation-length : length (field_of (negotiation_params a N))
      ≡ cond a.sent 4 0 + cond a.received 4 0 + cond a.sending 3 0 + cond a.receiving 3 0
  unfolding length_value
  negotiation-length = rw negotiation-field (simp (length-append, length-asking) (omega arith))

  pub negotiation-stored : (o : List ℕ) {v o₁ o₂ o₃ o₄ o₅ : List ℕ} {k p q r n : ℕ} → v ≡ length_value N
      → k ≡ cond a.sent 4 0 + cond a.received 4 0 + cond a.sending 3 0 + cond a.receiving 3 0
      → o₁ ≡ sets o 0 (opening negotiating_octet k) → Puts o₁ 3 (asking a.sent sent_id v) p o₂
      → Puts o₂ p (asking a.received received_id v) q o₃ → Puts o₃ q (asking a.sending sending_id window_value) r o₄
      → Puts o₄ r (asking a.receiving receiving_id window_value) n o₅ → Puts o 0 (negotiation_answer a N) n o₅
  unfolding negotiation_answer xid_payload
  negotiation-stored o {v} {o₁} {o₂} {o₃} {o₄} {o₅} {k} {p} {q} {r} {n} e f s five six seven eight =
      let t₅ = asking a.sent sent_id v in
      let t₆ = asking a.received received_id v in
      let t₇ = asking a.sending sending_id window_value in
      let t₈ = asking a.receiving receiving_id window_value in
      let xs = opening negotiating_octet k ++ (t₅ ++ (t₆ ++ (t₇ ++ (t₈ ++ [])))) in
      let all : Run o 0 xs o 0 xs = run-all in
      let opened : Run o₁ 3 (t₅ ++ (t₆ ++ (t₇ ++ (t₈ ++ [])))) o 0 xs =
      run-some (opening negotiating_octet k) s refl refl all in
      let sent : Run o₂ p (t₆ ++ (t₇ ++ (t₈ ++ []))) o 0 xs = run-put t₅ five refl opened in
      let received : Run o₃ q (t₇ ++ (t₈ ++ [])) o 0 xs = run-put t₆ six refl sent in
      let sending : Run o₄ r (t₈ ++ []) o 0 xs = run-put t₇ seven refl received in
      let receiving : Run o₅ n [] o 0 xs = run-put t₈ eight refl sending in
      rw (negotiation-length, ← f, negotiation-field, ← e) (run-done refl receiving)

-- ---- at the start of a payload of zeros

pub length-scan : (i : List ℕ) (a : ℕ) → length (scan_answer i a) ≡ length i + 11
unfolding scan_answer xid_payload
length-scan i a = omega (arith, scan-length i a)

pub length-assignment : (i : List ℕ) → length (assignment_answer i) ≡ length i + 8
unfolding assignment_answer xid_payload
length-assignment i = omega (arith, assignment-length i)

held-is : (b : List ℕ) {n : ℕ} {o : List ℕ} → Puts (replicate reply_most 0) 0 b n o → length b ≤ reply_most
    → record { octets = o; len = n } ≡ held b
unfolding laid
held-is b w h = rw (w.octets ∙ sets-start b (replicate reply_most 0) h, w.count, zero-add (length b))

module _ (i : List ℕ) (few : length i ≤ width) {r : ℕ} {o : List ℕ} where
  pub scan-held : (a : ℕ) → Puts (replicate reply_most 0) 0 (scan_answer i a) r o
      → record { octets = o; len = r } ≡ held (scan_answer i a)
  scan-held a w = held-is (scan_answer i a) w (omega (arith, few, length-scan i a))

  pub assignment-held : Puts (replicate reply_most 0) 0 (assignment_answer i) r o
      → record { octets = o; len = r } ≡ held (assignment_answer i)
  assignment-held w = held-is (assignment_answer i) w (omega (arith, few, length-assignment i))

pub length-negotiation : (a : AskedFor) (N : ℕ) → length (negotiation_answer a N) ≤ 17
unfolding negotiation_answer xid_payload
length-negotiation a N =
    let long = negotiation-length a N in
    omega (arith, long, most a.sent 4, most a.received 4, most a.sending 3, most a.receiving 3)
  where
    most : (asked : Bool) (n : ℕ) → cond asked n 0 ≤ n
    most true n = omega arith
    most false n = omega arith

pub negotiation-held : (a : AskedFor) (N : ℕ) {r : ℕ} {o : List ℕ}
    → Puts (replicate reply_most 0) 0 (negotiation_answer a N) r o
    → record { octets = o; len = r } ≡ held (negotiation_answer a N)
negotiation-held a N w = held-is (negotiation_answer a N) w (omega (arith, length-negotiation a N))
