-- Octets that fill a part of the block, and what the parts make of the whole. Assumes nothing.
use mathlib.Core.Path.{◌≡◌, refl, sym, ap, ap₂, ◌∙◌}
use mathlib.Core.Bool.{Bool, true, false}
use mir.Val.{bool_byte}
use Rattle.std.proofs.Common.{Ok, Err}
use mathlib.Core.List.{List, ◌++◌, append-nil}
use Prim.Native.Nat.{ℕ, ◌-◌}
use native.Mathlib.Omega.{arith}
use borrow.Rule.Slice.PartMut.{put_mid}
use lib.ListN.{length, take, drop, drop_of_length-le, length-append, length-drop, take-append-drop}
use lib.Seq.{sets, take-append_seam, drop-append_seam}
use Rattle.octets.specs.Octets.{◌at_start_of◌}
use Rattle.octets.proofs.Stores.{sets-start}
use Rattle.octets.proofs.Takes.{take_rest}
use Rattle.refusal.specs.Answer.{Answer, gives, refuses}
use Rattle.refusal.specs.declared.Refusal.{Refusal}
use Rattle.refusal.proofs.Answers.{gives-not-refuses}
use Rattle.receiver.specs.declared.Receiver.{Receiver}
use Rattle.receiver.specs.declared.Received.{Received}
use Rattle.receiver.specs.Held.{Held, held_of, places}
use Rattle.receiver.specs.Call.{Took, heard_of, told_by, held_by, Receives}
use Rattle.block.specs.Block.{block_size, marks_in, yes_octet, marks_octets, held_in, block_after, Blocks}

-- the octet of a yes or a no, as the library writes it
pub yes_byte : (b : Bool) → bool_byte b ≡ yes_octet b
unfolding yes_octet
yes_byte true = refl
yes_byte false = refl

-- as many octets as there are places
pub sets-whole : (b o : List ℕ) → length b ≡ length o → sets o 0 b ≡ b
unfolding ◌at_start_of◌
sets-whole b o e =
    sets-start b o (omega arith)
    ∙ ap (λ (l : List ℕ). b ++ l) (drop_of_length-le o {i = length b} (omega arith))
    ∙ append-nil b

-- the record that the block holds, as the code lends its parts
pub held-parts : (b : List ℕ) {r : Receiver} → r ≡ marks_in (take (length b - places) (drop places b))
    → held_of r (take places b) ≡ held_in b
unfolding held_in
held-parts b e = ap (λ (r : Receiver). held_of r (take places b)) (e ∙ ap marks_in (take_rest places b))

-- the store's part of a block
pub store-whole : (m b : List ℕ) → length (m ++ drop places b) ≡ length b → length b ≡ block_size → length m ≡ places
store-whole m b e l = omega (arith, length-append m (drop places b), length-drop places b)

-- as many octets behind the first as there are places left fill the rest
rest-filled : (m d t : List ℕ) {k : ℕ} → length m ≡ k → put_mid k (length (m ++ d) - k) (m ++ d) t ≡ m ++ t
rest-filled m d t e =
    rw (← e)
    (ap₂ (λ (l r : List ℕ). l ++ (t ++ drop (length (m ++ d) - length m) r)) (take-append_seam m d) (drop-append_seam m d)
    ∙ ap (λ (l : List ℕ). m ++ (t ++ l))
    (drop_of_length-le d {i = length (m ++ d) - length m} (omega (arith, length-append m d)))
    ∙ ap (λ (l : List ℕ). m ++ l) (append-nil t))

module _ (b : List ℕ) {o o' m : List ℕ} {v : Receiver} where
  -- a refused call leaves the block as it was
  pub block_refused : (x : Answer Took) {k : Refusal} → Receives x (held_in b) o (Err k) (held_of v m) o'
      → Blocks x b o (Err k) (m ++ drop places b) o'
  unfolding heard_of told_by held_by block_after held_in
  block_refused (gives t) w = absurd (gives-not-refuses (sym w.answer))
  block_refused (refuses k) w =
      record {
        answer = w.answer;
        count = w.count;
        block = ap (λ (h : Held). h.store ++ drop places b) w.held ∙ take-append-drop places b;
        octets = w.octets;
      }

  -- any other has its record there, octet by octet
  pub block-taken : (x : Answer Took) {r : Received} → Receives x (held_in b) o (Ok r) (held_of v m) o'
      → length m ≡ places → {t : List ℕ} → t ≡ marks_octets v
      → Blocks x b o (Ok r)
      (put_mid places (length (m ++ drop places b) - places) (m ++ drop places b) t) o'
  unfolding heard_of told_by held_by block_after
  block-taken (refuses k) w n {t} f = absurd (gives-not-refuses w.answer)
  block-taken (gives u) w n {t} f =
      record {
        answer = w.answer;
        count = w.count;
        block =
            rest-filled m (drop places b) t n
            ∙ ap (λ (l : List ℕ). m ++ l) f
            ∙ ap (λ (h : Held). h.store ++ marks_octets h.marks) w.held;
        octets = w.octets;
      }
