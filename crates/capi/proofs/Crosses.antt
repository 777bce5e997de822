-- What a promise by `Crosses` is shown from, and what the number tells a caller in C: which answer it is, since no
-- length reaches the refusals. Assumes nothing.
use Rattle.std.proofs.Common.{Option, Some, None, Result, Ok, Err}
use mathlib.Core.Path.{◌≡◌, refl, sym, ap, ◌∙◌}
use mathlib.Core.List.{List}
use Prim.Native.Nat.{ℕ, ◌+◌, ◌-◌, ◌<◌, ◌≤◌}
use native.Mathlib.Omega.{arith}
use lib.ListN.{length, take}
use Rattle.octets.specs.Octets.{◌at_start_of◌}
use Rattle.octets.proofs.Stores.{take-start}
use Rattle.refusal.specs.Numbers.{number_of}
use Rattle.refusal.specs.Answer.{Answer, gives, refuses, answer_of, counted, out_after, Hands}
use Rattle.refusal.specs.declared.Refusal.{Refusal}
use Rattle.refusal.proofs.Answers.{gives-not-refuses}
use Rattle.receiver.specs.Call.{Took, handed_of, heard_of, code_took, told_by, took_by}
use Rattle.receiver.specs.declared.Received.{Received}
use Rattle.block.specs.Block.{Blocks}
use Rattle.capi.specs.Crossing.{refusals, crossed, Crosses, heard_crossed, taken_after, Hears}

pub refusal-crosses : {h : Result ℕ Refusal} {k : Refusal} {n : ℕ}
    → h ≡ Err k → n ≡ number_of k → refusals + n ≡ crossed (answer_of h)
unfolding crossed answer_of
refusal-crosses e q = rw (e, q) refl

-- the code's answer, crossed
pub handed-crosses : {x : Answer (List ℕ)} {o o' : List ℕ} {h : Result ℕ Refusal} {r : ℕ}
    → Hands x o h o' → r ≡ crossed (answer_of h) → Crosses x o r o'
handed-crosses h e = record { number = e ∙ ap crossed h.answer; octets = h.octets }

module _ {o o' : List ℕ} {r : ℕ} where
  -- a number below the refusals: so many octets, and they stand at the start of the output, whose rest is as it was
  pub low_told : (x : Answer (List ℕ)) → Crosses x o r o' → r < refusals
      → (x ≡ gives (take r o')) × (r ≡ length (take r o')) × (o' ≡ take r o' at_start_of o)
  unfolding crossed counted out_after
  low_told (gives b) c h =
      let these : take r o' ≡ b = rw (c.number, c.octets) (take-start b o) in
      let back = sym these in
      (ap gives back, c.number ∙ ap length back, c.octets ∙ ap (λ (x : List ℕ). x at_start_of o) back)
  low_told (refuses k) c h = let e = c.number in absurd (omega arith)

  -- any other: that refusal, and the output is as it was
  pub high-told : (x : Answer (List ℕ)) → ((b : List ℕ) → x ≡ gives b → length b < refusals)
      → Crosses x o r o' → refusals ≤ r → (x ≡ refuses (r - refusals)) × (o' ≡ o)
  unfolding crossed counted out_after
  high-told (gives b) short c h = let e = c.number in let s = short b refl in absurd (omega arith)
  high-told (refuses k) short c h = let e = c.number in (ap refuses (omega arith), c.octets)

-- the code's answer to a call of the receiver, by its cases: nothing was handed out, or something, or the call is refused
module _ {b o b' o' : List ℕ} {t : ℕ} where
  pub hears-none : (x : Answer Took) {w : Received} → Blocks x b o (Ok w) b' o' → w.handed ≡ None → Hears x b o t 0 b' o' w.taken
  unfolding heard_crossed heard_of handed_of code_took told_by took_by taken_after
  hears-none (gives u) c e =
      record {
        number = ap (λ (h : Option (Result ℕ Refusal)). heard_crossed (gives (handed_of h))) (sym e) ∙ ap heard_crossed c.answer;
        block = c.block;
        octets = c.octets;
        taken = c.count;
      }
  hears-none (refuses k) c e = absurd (gives-not-refuses c.answer)

  pub hears-handed : (x : Answer Took) {w : Received} {a : Result ℕ Refusal} {r : ℕ} → Blocks x b o (Ok w) b' o' → w.handed ≡ Some a
      → r ≡ crossed (answer_of a) → Hears x b o t r b' o' w.taken
  unfolding heard_crossed heard_of handed_of code_took told_by took_by taken_after
  hears-handed (gives u) c e f =
      record {
        number = f ∙ ap (λ (h : Option (Result ℕ Refusal)). heard_crossed (gives (handed_of h))) (sym e) ∙ ap heard_crossed c.answer;
        block = c.block;
        octets = c.octets;
        taken = c.count;
      }
  hears-handed (refuses k) c e f = absurd (gives-not-refuses c.answer)

  pub hears-refused : (x : Answer Took) {k : Refusal} {r : ℕ} → Blocks x b o (Err k) b' o'
      → r ≡ crossed (answer_of (Err k)) → Hears x b o t r b' o' t
  unfolding crossed answer_of heard_crossed heard_of told_by taken_after
  hears-refused (gives u) c f = absurd (gives-not-refuses (sym c.answer))
  hears-refused (refuses k) c f =
      record {
        number = f ∙ ap heard_crossed c.answer;
        block = c.block;
        octets = c.octets;
        taken = refl;
      }
