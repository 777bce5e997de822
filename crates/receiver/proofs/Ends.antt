-- What a closing flag hands out, by the tests of the code; and a call that is over. Assumes nothing.
use Rattle.std.proofs.Common.{Some, None, Result, Ok}
use Rattle.refusal.specs.declared.Refusal.{Refusal}
use mathlib.Core.Path.{◌≡◌, refl, sym, ap, ◌∙◌}
use mathlib.Core.Bool.{true, false}
use mathlib.Core.List.{List, ◌∷◌}
use Prim.Native.Nat.{ℕ, ◌+◌, ◌<◌, ◌≤◌}
use native.Mathlib.Nat.{add-zero}
use native.Mathlib.Omega.{arith}
use lib.ListN.{length, get_or, take, drop, drop_of_length-le}
use Rattle.octets.proofs.Rest.{rest}
use Rattle.refusal.specs.Answer.{Answer, gives, refuses, Hands}
use Rattle.refusal.proofs.Answers.{answered-here, answered-later}
use Rattle.frame.specs.Line.{flag}
use Rattle.frame.specs.Decode.{framed}
use Rattle.receiver.specs.Held.{Held, Usable, held_of, places, open_marks, after_flag, after_octet, stretched, closes, stretch_says}
use Rattle.receiver.specs.Call.{handed, takes, Receives, handed_of, heard_of, code_took, told_by, took_by, held_by, out_by, told_counted, out_told}
use Rattle.receiver.specs.Pieces.{further_by, Passes}
use Rattle.receiver.specs.declared.Receiver.{Receiver}

module _ (N room : ℕ) (r : Receiver) (m : List ℕ) where
  pub says-broken : r.last ≡ true → stretch_says N room (held_of r m) ≡ refuses 4
  unfolding stretch_says
  says-broken e = answered-here 4 _ _ e

  pub says-more : r.last ≡ false → r.more ≡ true → stretch_says N room (held_of r m) ≡ refuses 2
  unfolding stretch_says
  says-more e f = answered-later 4 _ _ e ∙ answered-here 2 _ _ f

  pub says-framed : r.last ≡ false → r.more ≡ false → stretch_says N room (held_of r m) ≡ framed N (take r.count m) room
  unfolding stretch_says
  says-framed e f = answered-later 4 _ _ e ∙ answered-later 2 _ _ f

-- a store that is not full has a place
pub place-free : (h : Held) → Usable h → (h.marks.count ≡ places → ⊥) → h.marks.count < length h.store
place-free h u n = omega (arith, u.0, u.1, n)

-- all of the run was taken
module _ (N : ℕ) (h g : Held) (s o : List ℕ) {k : ℕ} (p : Passes h s k g) where
  pub all-taken : length s ≤ k → Receives (gives (takes N (length o) h s)) h o
      (Ok (record { taken = k; handed = None })) g o
  unfolding takes further_by handed_of heard_of code_took told_by took_by held_by out_by told_counted out_told
  all-taken e =
      let over = p.same N (length o) ∙ ap (λ (t : List ℕ). further_by k (takes N (length o) g t)) (drop_of_length-le s e) in
      rw over
      (record { answer = refl; count = sym (add-zero k); held = refl; octets = refl })

  -- a flag closes a stretch that has octets
  pub flag-closes : {a : Result ℕ Refusal} {o' : List ℕ} → k < length s → get_or s k 0 ≡ flag → stretched g.marks ≡ true
      → Hands (stretch_says N (length o) g) o a o'
      → Receives (gives (takes N (length o) h s)) h o
      (Ok (record { taken = k + 1; handed = Some a })) (held_of open_marks g.store) o'
  unfolding takes further_by handed_of heard_of code_took told_by took_by held_by out_by told_counted out_told after_octet after_flag closes
  flag-closes i e f w =
      let here : drop k s ≡ flag ∷ drop (k + 1) s = rest s k i ∙ ap (λ (x : ℕ). x ∷ drop (k + 1) s) e in
      let over = p.same N (length o) ∙ ap (λ (t : List ℕ). further_by k (takes N (length o) g t)) here in
      rw (over, f)
      (record {
        answer = ap (λ (b : Answer ℕ). gives (handed b)) w.answer;
        count = refl;
        held = refl;
        octets = w.octets;
      })
