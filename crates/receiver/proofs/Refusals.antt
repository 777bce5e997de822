-- A call that is refused, by the tests of the code, and one that is not. Assumes nothing.
use Rattle.std.proofs.Common.{Result, Err}
use mathlib.Core.Path.{◌≡◌, refl, ap, ◌∙◌}
use mathlib.Core.Bool.{true, false, not}
use mathlib.Core.List.{List}
use Prim.Native.Nat.{ℕ, ◌<◌, ◌≤◌}
use borrow.Author.Tests.{eq-eqb, ne_eqb, lt-ltb, le-ltb}
use lib.ListN.{length}
use Rattle.refusal.specs.Numbers.{number_of}
use Rattle.refusal.specs.Answer.{Answer, gives, refuses, Clear}
use Rattle.refusal.specs.declared.Refusal.{Refusal}
use Rattle.refusal.proofs.Answers.{answered-here, answered-later}
use Rattle.refusal.proofs.Exactly.{exactly-given}
use Rattle.limits.specs.Limits.{is_limit, frame_most}
use Rattle.receiver.specs.Held.{Held, places}
use Rattle.receiver.specs.Call.{Took, takes, receive_rows, received, heard_of, code_took, told_by, took_by, held_by, out_by, Receives}
use Rattle.receiver.specs.declared.Received.{Received}

module _ (N : ℕ) (h : Held) (s : List ℕ) (room : ℕ) where
  pub no-limit : is_limit N ≡ false → received N h s room ≡ refuses 6
  unfolding received receive_rows
  no-limit e = answered-here 6 _ _ (ap not e)

  module _ (limit : is_limit N ≡ true) where
    pub no_store : (length h.store ≡ places → ⊥) → received N h s room ≡ refuses 6
    unfolding received receive_rows
    no_store n = answered-later 6 _ _ (ap not limit) ∙ answered-here 6 _ _ (ap not (ne_eqb (length h.store) places n))

    module _ (store : length h.store ≡ places) where
      pub no_record : places < h.marks.count → received N h s room ≡ refuses 6
      unfolding received receive_rows
      no_record l =
          answered-later 6 _ _ (ap not limit)
          ∙ answered-later 6 _ _ (ap not (eq-eqb (length h.store) places store))
          ∙ answered-here 6 _ _ (lt-ltb places h.marks.count l)

      module _ (few : h.marks.count ≤ places) where
        pub no_room : room < frame_most N → received N h s room ≡ refuses 5
        unfolding received receive_rows
        no_room l =
            answered-later 6 _ _ (ap not limit)
            ∙ answered-later 6 _ _ (ap not (eq-eqb (length h.store) places store))
            ∙ answered-later 6 _ _ (le-ltb places h.marks.count few)
            ∙ answered-here 5 _ _ (lt-ltb room (frame_most N) l)

        pub in_order : frame_most N ≤ room → received N h s room ≡ gives (takes N room h s)
        unfolding received receive_rows Clear
        in_order l =
            (exactly-given (receive_rows N h room) (takes N room h s) (takes N room h s)).1 (
              (
                ap not limit,
                (
                  ap not (eq-eqb (length h.store) places store),
                  (le-ltb places h.marks.count few, (le-ltb room (frame_most N) l, tt)),
                ),
              ),
              refl,
            )

-- nothing is taken, and nothing is changed
pub refused-call : {x : Answer Took} {h : Held} {o : List ℕ} (k : Refusal) → x ≡ refuses (number_of k)
    → Receives x h o (Err k) h o
unfolding heard_of code_took told_by took_by held_by out_by
refused-call k e = rw e (record { answer = refl; count = refl; held = refl; octets = refl })

-- the same answer, written otherwise
pub receives-is : {x y : Answer Took} {h g : Held} {o o' : List ℕ} {r : Result Received Refusal} → x ≡ y → Receives x h o r g o'
    → Receives y h o r g o'
receives-is e w =
    record {
      answer = rw (← e) w.answer;
      count = rw (← e) w.count;
      held = rw (← e) w.held;
      octets = rw (← e) w.octets;
    }
