-- What a promise by `Hands` or by `Changes` is shown from, and what its caller learns. Assumes nothing.
use Rattle.std.proofs.Common.{Result, Ok, Err}
use mathlib.Core.Path.{◌≡◌, sym, ap, ◌∙◌}
use mathlib.Core.Bool.{Bool, true, false}
use mathlib.Core.List.{List, [], ◌∷◌}
use Prim.Native.Nat.{ℕ, ◌<◌, ◌≤◌}
use native.Mathlib.Omega.{arith}
use borrow.Author.Tests.{lt-ltb, le-ltb}
use lib.ListN.{length, take}
use lib.Seq.{sets}
use Rattle.octets.proofs.Stores.{sets-start, take-start}
use Rattle.refusal.specs.Numbers.{number_of}
use Rattle.refusal.specs.Answer.{Answer, gives, refuses, TestRow, ◌when◌, answered, handed_out}
use Rattle.refusal.specs.Answer.{answer_of, counted, out_after, Hands, outcome_of, settled, state_after, Changes}
use Rattle.refusal.specs.declared.Refusal.{Refusal}

pub gives-not-refuses : {A : Type 0} {a : A} {k : ℕ} → gives a ≡ refuses k → ⊥
gives-not-refuses e = let z : ◌≡◌ {A = ℕ} 0 1 = cc in omega arith

pub refuses-same : {A : Type 0} {j k : ℕ} → ◌≡◌ {A = Answer A} (refuses j) (refuses k) → j ≡ k
refuses-same e = cc

pub gives_same : {A : Type 0} {a b : A} → gives a ≡ gives b → a ≡ b
gives_same e = cc

-- the number alone, and the output as it was
pub refused : {x : Answer (List ℕ)} {o : List ℕ} (k : Refusal) → x ≡ refuses (number_of k) → Hands x o (Err k) o
unfolding answer_of counted out_after
refused {o = o} k e =
    record { answer = sym (ap counted e); octets = sym (ap (λ (y : Answer (List ℕ)). out_after y o) e) }

-- the octets b at the start, the rest unchanged
pub handed : {x : Answer (List ℕ)} {o o' : List ℕ} (b : List ℕ)
    → x ≡ gives b → length b ≤ length o → o' ≡ sets o 0 b → Hands x o (Ok (length b)) o'
unfolding answer_of counted out_after
handed {o = o} b e h s =
    record {
      answer = sym (ap counted e);
      octets = s ∙ sets-start b o h ∙ sym (ap (λ (y : Answer (List ℕ)). out_after y o) e);
    }

-- the same answer, written otherwise
pub hands-is : {x y : Answer (List ℕ)} {o o' : List ℕ} {r : Result ℕ Refusal} → x ≡ y → Hands x o r o' → Hands y o r o'
hands-is e h = record { answer = rw (← e) h.answer; octets = rw (← e) h.octets }

module _ {o o' : List ℕ} where
  -- a caller that got octets knows which: those at the start of its output
  pub octets-told : (x : Answer (List ℕ)) {n : ℕ} → Hands x o (Ok n) o'
      → (x ≡ gives (take n o')) × (n ≡ length (take n o'))
  unfolding answer_of counted out_after
  octets-told (gives b) {n} h =
      let e : n ≡ length b = gives_same h.answer in
      let t : take n o' ≡ b = rw (e, h.octets) (take-start b o) in
      (ap gives (sym t), e ∙ ap length (sym t))
  octets-told (refuses k) h = absurd (gives-not-refuses h.answer)

  -- and one that got a number, that its output is as it was
  pub refusal-told : (x : Answer (List ℕ)) {k : Refusal} → Hands x o (Err k) o'
      → (x ≡ refuses (number_of k)) × (o' ≡ o)
  unfolding answer_of counted out_after
  refusal-told (gives b) h = absurd (gives-not-refuses (sym h.answer))
  refusal-told (refuses k) h = (sym (ap refuses (refuses-same h.answer)), h.octets)

module _ (b : List ℕ) (room : ℕ) where
  pub no_room : room < length b → handed_out b room ≡ refuses 5
  unfolding handed_out answered
  no_room h = simp (lt-ltb room (length b) h)

  pub in-room : length b ≤ room → handed_out b room ≡ gives b
  unfolding handed_out answered
  in-room h = simp (le-ltb room (length b) h)

module _ {A : Type 0} (k : ℕ) (rows : List TestRow) (a : A) {t : Bool} where
  -- the first row holds
  pub answered-here : t ≡ true → answered (k when t ∷ rows) a ≡ refuses k
  unfolding answered
  answered-here e = rw e

  -- the first row does not hold
  pub answered-later : t ≡ false → answered (k when t ∷ rows) a ≡ answered rows a
  unfolding answered
  answered-later e = rw e

module _ {S : Type 0} {s : S} where
  -- the number alone, and the state as it was
  pub unchanged : {x : Answer S} (k : Refusal) → x ≡ refuses (number_of k) → Changes x s (Err k) s
  unfolding outcome_of settled state_after
  unchanged k e = record { outcome = sym (ap settled e); state = sym (ap (λ (y : Answer S). state_after y s) e) }

  -- a change that was made
  pub changed : {x : Answer S} {t : S} → x ≡ gives t → Changes x s (Ok tt) t
  unfolding outcome_of settled state_after
  changed e = record { outcome = sym (ap settled e); state = sym (ap (λ (y : Answer S). state_after y s) e) }

  -- the same answer, written otherwise
  pub changes-is : {x y : Answer S} {r : Result (Unit {0}) Refusal} {t : S} → x ≡ y → Changes x s r t → Changes y s r t
  changes-is e c = record { outcome = rw (← e) c.outcome; state = rw (← e) c.state }

  -- a caller whose call was done knows the state, and one that was refused that it is as it was
  pub change-told : (x : Answer S) {t : S} → Changes x s (Ok tt) t → x ≡ gives t
  unfolding outcome_of settled state_after
  change-told (gives u) c = ap gives (sym c.state)
  change-told (refuses k) c = absurd (gives-not-refuses c.outcome)

  pub unchange-told : (x : Answer S) {t : S} {k : Refusal}
      → Changes x s (Err k) t → (x ≡ refuses (number_of k)) × (t ≡ s)
  unfolding outcome_of settled state_after
  unchange-told (gives u) c = absurd (gives-not-refuses (sym c.outcome))
  unchange-told (refuses k) c = (sym (ap refuses (refuses-same c.outcome)), c.state)

-- a change of a part is the same change of the whole
pub changes-through : {S T : Type 0} (f : S → T) (rows : List TestRow) (a : S) {s t : S} {r : Result (Unit {0}) Refusal}
    → Changes (answered rows a) s r t → Changes (answered rows (f a)) (f s) r (f t)
unfolding answered settled state_after
changes-through f [] a c = record { outcome = c.outcome; state = ap f c.state }
changes-through f (k when true ∷ rows) a c = record { outcome = c.outcome; state = ap f c.state }
changes-through f (k when false ∷ rows) a c =
    let d = changes-through f rows a (record { outcome = c.outcome; state = c.state }) in
    record { outcome = d.outcome; state = d.state }
