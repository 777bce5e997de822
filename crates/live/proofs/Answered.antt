-- One call of the receiver, for any record: when it is refused, what is handed out and where, and how far it goes.
--   held_octets h     == the decoded octets that a record holds
--   fitting_rows N h  == the rows of what is handed out, but for that of 5
--   TookAll, TookUpTo == a call goes over all octets, or up to the flag at the place k; HowFar == one of the two
-- Assumes nothing.
use Rattle.std.proofs.Common.{Option, Some, None, Result, Ok, Err}
use Rattle.refusal.specs.declared.Refusal.{Refusal}
use mathlib.Core.Path.{◌≡◌, refl, sym, ap, ◌∙◌, subst}
use mathlib.Core.Bool.{Bool, true, false, not}
use mathlib.Core.List.{List, [], ◌∷◌, ◌++◌}
use mathlib.Core.Logic.{◌↔◌, ◌⊎◌, inl, inr, ⊎_elim, ⊎_map}
use Prim.Native.Nat.{ℕ, suc, ◌+◌, ◌-◌, ◌<◌, ◌≤◌}
use native.Mathlib.Omega.{arith}
use borrow.Author.Tests.{ltb-true, ltb-false, lt-ltb, le-ltb, eqb-true, eq-eqb, not-false}
use lib.Dec.{eqb, ltb}
use lib.ListN.{length, take, get_or, length-take}
use Rattle.octets.specs.Octets.{Octets, holds, pair_of}
use Rattle.octets.proofs.Bounds.{octets-take}
use Rattle.octets.proofs.Words.{true-not-false, and_parts, holds-exactly}
use Rattle.refusal.specs.Answer.{Answer, gives, refuses, TestRow, ◌when◌, answered, Clear, numbers_of, shorter}
use Rattle.refusal.specs.Answer.{out_after, Hands}
use Rattle.refusal.proofs.Answers.{gives-not-refuses, refuses-same, gives_same, octets-told, refusal-told}
use Rattle.refusal.proofs.Exactly.{TestsFor, exactly-tests, exactly-given, answered-all}
use Rattle.fcs.specs.Check.{check_of, with_check}
use Rattle.limits.specs.Limits.{is_limit, Limited, frame_most}
use Rattle.limits.proofs.Exactly.{is-limit-exactly}
use Rattle.frame.specs.Line.{flag}
use Rattle.frame.specs.Decode.{body, right_check, decode_rows}
use Rattle.frame.proofs.Checks.{split-two, check-exactly}
use Rattle.receiver.specs.Held.{Held, Usable, places, after_flag, after_octet, closes, stretch_says}
use Rattle.receiver.specs.Call.{Told, nothing, handed, Took, further, takes, receive_rows, received}
use Rattle.receiver.specs.Call.{handed_of, heard_of, code_took, told_counted, told_by, took_by, held_by, out_told, out_by, Receives}
use Rattle.receiver.proofs.After.{by-test}
use Rattle.receiver.proofs.Refusals.{in_order}
use Rattle.receiver.proofs.Only.{nothing-not-handed}
use Rattle.receiver.specs.declared.Received.{Received}
use Rattle.live.specs.Calls.{after_all, hand_outs, told_outs, outs_by, HeardTells, CallTells, handed_read, read_out}

module _ {A : Type 0} (a : A) where
  -- a number that is given is that of a row
  pub numbered : (rows : List TestRow) {k : ℕ} → answered rows a ≡ refuses k → holds k (numbers_of rows) ≡ true
  numbered rows e =
      ⊎_elim (λ g. absurd (gives-not-refuses (sym g ∙ e))) (λ q. rw (refuses-same (sym e ∙ q.2)) q.1)
      (answered-all rows a)

  -- a last row that does not hold where no other one does is idle
  idle-row : (rows : List TestRow) (k : ℕ) (t : Bool) → (Clear rows → t ≡ false)
      → answered (rows ++ k when t ∷ []) a ≡ answered rows a
  unfolding answered Clear
  idle-row [] k t f = rw (f tt)
  idle-row (n when true ∷ rows) k t f = refl
  idle-row (n when false ∷ rows) k t f = idle-row rows k t (λ c. f (refl, c))

abbrev pub held_octets : Held → List ℕ
held_octets h = take h.marks.count h.store

unfoldable pub fitting_rows : ℕ → Held → List TestRow
fitting_rows N h =
    4 when h.marks.last
    ∷ 2 when h.marks.more
    ∷ 4 when false
    ∷ 1 when ltb (length (held_octets h)) 4
    ∷ 2 when ltb N (length (held_octets h))
    ∷ 3 when not (right_check (held_octets h))
    ∷ []

body-length : (d : List ℕ) → length (body d) ≡ length d - 2
unfolding body
body-length d = omega (arith, length-take (length d - 2) d)

module _ (N room : ℕ) (h : Held) (fits : frame_most N ≤ room) where
  -- an output of N - 2 octets has room for every frame, so the row of 5 never holds
  pub says-fitting : stretch_says N room h ≡ answered (fitting_rows N h) (body (held_octets h))
  unfolding stretch_says decode_rows fitting_rows Clear
  says-fitting =
      let d : List ℕ = held_octets h in
      idle-row (body d) (fitting_rows N h) 5 (shorter room (body d)) (λ c.
      let small = ltb-false N (length d) c.1.1.1.1.0 in
      le-ltb room (length (body d)) (omega (arith, body-length d)))

  -- the numbers that are handed out are those of the other rows
  pub numbers-said : {k : ℕ} → stretch_says N room h ≡ refuses k → holds k (4 ∷ 2 ∷ 4 ∷ 1 ∷ 2 ∷ 3 ∷ []) ≡ true
  unfolding fitting_rows numbers_of
  numbers-said e = numbered (body (held_octets h)) (fitting_rows N h) (sym says-fitting ∙ e)

  pub says-no-5 : stretch_says N room h ≡ refuses 5 → ⊥
  unfolding holds
  says-no-5 e = true-not-false (sym (numbers-said e))

  pub says-no-6 : stretch_says N room h ≡ refuses 6 → ⊥
  unfolding holds
  says-no-6 e = true-not-false (sym (numbers-said e))

-- what is handed out is the same in any output of N - 2 octets or more
pub says-room : (N room : ℕ) (h : Held) → frame_most N ≤ room → stretch_says N room h ≡ stretch_says N (frame_most N) h
says-room N room h fits = says-fitting N room h fits ∙ sym (says-fitting N (frame_most N) h (omega arith))

module _ (N room : ℕ) (h : Held) {b : List ℕ} (frame : stretch_says N room h ≡ gives b) where
  -- no row holds of a frame that is handed out: it has 4 to N octets, with a right check, which is left out
  frame-said : (4 ≤ length (held_octets h)) × (length (held_octets h) ≤ N)
      × (right_check (held_octets h) ≡ true) × (body (held_octets h) ≡ b)
  unfolding stretch_says decode_rows Clear
  frame-said =
      let rows = 4 when h.marks.last ∷ 2 when h.marks.more ∷ decode_rows N false (held_octets h) room in
      let g = (exactly-given rows (body (held_octets h)) b).0 frame in
      let c = g.0.1.1.1 in
      (ltb-false _ _ c.0, ltb-false _ _ c.1.0, not-false _ c.1.1.0, g.1)

  pub frame-size : (2 ≤ length b) × (length b + 2 ≤ N)
  frame-size =
      let s = frame-said in
      let n : length b ≡ length (held_octets h) - 2 = sym (ap length s.3) ∙ body-length (held_octets h) in
      (omega arith, omega arith)

  -- what is held is the frame with its check behind it, "low one first"
  pub right-check : (low : ℕ) × (high : ℕ) × (held_octets h ≡ b ++ low ∷ high ∷ []) × (check_of b ≡ pair_of low high)
  unfolding body right_check
  right-check =
      let s = frame-said in
      let d : List ℕ = held_octets h in
      let k : ℕ = length d - 2 in
      let n : length d - 1 ≡ suc k = omega arith in (
        get_or d k 0,
        get_or d (suc k) 0,
        rw (← s.3) (sym (split-two d k (omega arith))),
        rw (← s.3, ← n) (eqb-true _ _ s.2),
      )

  -- and it is the very octets of the check where the store holds octets
  pub right-check-octets : Octets h.store → held_octets h ≡ with_check b
  right-check-octets os =
      let s = frame-said in
      rw (← s.3)
      ((check-exactly (held_octets h) (octets-take h.marks.count h.store os) (omega arith)).0 s.2)

-- one of two tests, in the order of the tests
pub first_of : (t : Bool) {A : Type 0} → (t ≡ true) ⊎ A → (t ≡ true) ⊎ ((t ≡ false) × A)
first_of true w = inl refl
first_of false w = inr (refl, ⊎_elim (λ e. absurd (true-not-false (sym e))) (λ a. a) w)

-- a test that says no is the negation of what it says yes to
pub denied : (t : Bool) {A : Type 0} → (t ≡ true ↔ A) → not t ≡ true ↔ (A → ⊥)
denied true e = (λ q. absurd (true-not-false (sym q)), λ n. absurd (n (e.0 refl)))
denied false e = (λ q a. true-not-false (sym (e.1 a)), λ n. refl)

module _ (N : ℕ) (h : Held) (s : List ℕ) (room : ℕ) where
  limit-denied : not (is_limit N) ≡ true ↔ (Limited N → ⊥)
  limit-denied = denied (is_limit N) (is-limit-exactly N)

  store-denied : not (eqb (length h.store) places) ≡ true ↔ (length h.store ≡ 260 → ⊥)
  store-denied = denied (eqb (length h.store) places) (eqb-true _ _, eq-eqb _ _)

  -- 6: "outside 78 to 260", a store of other than 260 places, or "A record holding more octets than its store"
  pub refused-6 : received N h s room ≡ refuses 6
      ↔ (Limited N → ⊥) ⊎ ((length h.store ≡ 260 → ⊥) ⊎ (260 < h.marks.count))
  unfolding received receive_rows TestsFor numbers_of holds
  refused-6 =
      let rows = exactly-tests 6 (receive_rows N h room) (takes N room h s) in (
        λ e.
            ⊎_map limit-denied.0 (λ w. ⊎_map store-denied.0 (λ q. ltb-true _ _ q.1) w.1) (rows.0 e),
        λ w.
            rows.1
            (first_of _ (⊎_map limit-denied.1 (λ v. first_of _ (⊎_map store-denied.1 (lt-ltb _ _) v)) w)),
      )

  -- 5: none of that, and "an output shorter than" N - 2
  pub refused-5 : received N h s room ≡ refuses 5
      ↔ Limited N × (length h.store ≡ 260) × (h.marks.count ≤ 260) × (room < N - 2)
  unfolding received receive_rows TestsFor numbers_of holds
  refused-5 =
      let rows = exactly-tests 5 (receive_rows N h room) (takes N room h s) in (
        λ e.
            let t = rows.0 e in (
              (is-limit-exactly N).0 (not-false _ t.0),
              eqb-true _ _ (not-false _ t.1.0),
              ltb-false _ _ t.1.1.0,
              ltb-true _ _ t.1.1.1,
            ),
        λ w.
            rows.1 (
              ap not ((is-limit-exactly N).1 w.0),
              (ap not (eq-eqb _ _ w.1), (le-ltb _ _ w.2, lt-ltb _ _ w.3)),
            ),
      )

  -- neither: what is taken
  pub call-given : {t : Took} → received N h s room ≡ gives t
      → Limited N × Usable h × (frame_most N ≤ room) × (takes N room h s ≡ t)
  unfolding received receive_rows Clear
  call-given {t} e =
      let g = (exactly-given (receive_rows N h room) (takes N room h s) t).0 e in
      let c = g.0 in (
        (is-limit-exactly N).0 (not-false _ c.0),
        (eqb-true _ _ (not-false _ c.1.0), ltb-false _ _ c.1.1.0),
        ltb-false _ _ c.1.1.1.0,
        g.1,
      )

  -- no other number
  pub refused-other : {k : ℕ} → received N h s room ≡ refuses k → (k ≡ 5) ⊎ (k ≡ 6)
  unfolding received receive_rows numbers_of
  refused-other e =
      ⊎_elim inr (⊎_elim inr (⊎_elim inr (⊎_elim inl absurd)))
      ((holds-exactly _ (6 ∷ 6 ∷ 6 ∷ 5 ∷ [])).0 (numbered (takes N room h s) (receive_rows N h room) e))

  pub not-refused : is_limit N ≡ true → Usable h → frame_most N ≤ room → received N h s room ≡ gives (takes N room h s)
  not-refused l u fits = in_order N h s room l u.0 u.1 fits

  -- "nothing is taken", and the record and the output are as they were
  pub refusal-changes-nothing : {k : ℕ} (o : List ℕ) → received N h s room ≡ refuses k
      → (took_by (received N h s room) ≡ 0) × (held_by (received N h s room) h ≡ h)
      × (out_by (received N h s room) o ≡ o)
  unfolding took_by held_by out_by
  refusal-changes-nothing o e = rw e (refl, refl, refl)

-- every octet is taken, and nothing handed out
pub record TookAll (N : ℕ) (h : Held) (s : List ℕ) (t : Took) : Type 0 where
  pub told : t.told ≡ nothing
  pub count : t.count ≡ length s
  pub held : t.held ≡ after_all h s
  pub outs : hand_outs N h s ≡ []

-- the flag at the place k is the last one taken, and the only one that hands something out
pub record TookUpTo (N room : ℕ) (h : Held) (s : List ℕ) (k : ℕ) (t : Took) : Type 0 where
  pub place : k < length s
  pub closing : get_or s k 0 ≡ flag
  pub told : t.told ≡ handed (stretch_says N room (after_all h (take k s)))
  pub count : t.count ≡ suc k
  pub opens : t.held ≡ after_flag (after_all h (take k s))
  pub held : t.held ≡ after_all h (take (suc k) s)
  pub outs : hand_outs N h (take (suc k) s) ≡ stretch_says N (frame_most N) (after_all h (take k s)) ∷ []

abbrev pub HowFar : ℕ → ℕ → Held → List ℕ → Took → Type 0
HowFar N room h s t = TookAll N h s t ⊎ (k : ℕ) × TookUpTo N room h s k t

module _ (N room : ℕ) where
  module _ (h : Held) (x : ℕ) (xs : List ℕ) where
    far-here : closes h x ≡ true
        → HowFar N room h (x ∷ xs) (record { held = after_octet h x; count = 1; told = handed (stretch_says N room h) })
    unfolding closes after_octet after_all hand_outs
    far-here e =
        let f = (and_parts (eqb x flag) _ e).0 in
        inr (
          0,
          record {
            place = omega arith;
            closing = eqb-true x flag f;
            told = refl;
            count = refl;
            opens = rw f;
            held = refl;
            outs = rw e;
          },
        )

    far-more : (t : Took) → closes h x ≡ false → HowFar N room (after_octet h x) xs t → HowFar N room h (x ∷ xs) (further t)
    unfolding further after_all hand_outs
    far-more t e (inl a) =
        inl (record { told = a.told; count = ap suc a.count; held = a.held; outs = rw e a.outs })
    far-more t e (inr (k, u)) =
        inr (
          suc k,
          record {
            place = omega (arith, u.place);
            closing = u.closing;
            told = u.told;
            count = ap suc u.count;
            opens = u.opens;
            held = u.held;
            outs = rw e u.outs;
          },
        )

  -- a call goes over all octets, or up to and with the first flag that hands something out
  pub how-far : (h : Held) (s : List ℕ) → HowFar N room h s (takes N room h s)
  unfolding takes after_all hand_outs
  how-far h [] = inl (record { told = refl; count = refl; held = refl; outs = refl })
  how-far h (x ∷ xs) =
      by-test (HowFar N room h (x ∷ xs)) (closes h x) (far-here h x xs)
      (λ e. far-more h x xs _ e (how-far (after_octet h x) xs))

module _ (N room : ℕ) (h : Held) (s : List ℕ) where
  pub takes-at-least-one : 0 < length s → 0 < (takes N room h s).count
  takes-at-least-one some =
      ⊎_elim (λ a. omega (arith, a.count)) (λ u. omega (arith, u.1.count)) (how-far N room h s)

  pub takes-at-most : (takes N room h s).count ≤ length s
  takes-at-most =
      ⊎_elim (λ a. omega (arith, a.count)) (λ u. omega (arith, u.1.count, u.1.place)) (how-far N room h s)

  -- a call hands out only at a flag, and only what is to be said of the octets before it
  pub told-at-flag : {a : Answer (List ℕ)} → (takes N room h s).told ≡ handed a
      → (k : ℕ) × ((takes N room h s).count ≡ suc k) × (get_or s k 0 ≡ flag)
      × (a ≡ stretch_says N room (after_all h (take k s))) × ((takes N room h s).held ≡ after_flag (after_all h (take k s)))
  told-at-flag e =
      ⊎_elim (λ a. absurd (nothing-not-handed (sym a.told ∙ e)))
      (λ u. (u.0, u.1.count, u.1.closing, cc u.1.told, u.1.opens)) (how-far N room h s)

  -- a call that hands out nothing goes over all octets
  pub told-nothing : (takes N room h s).told ≡ nothing
      → ((takes N room h s).count ≡ length s) × ((takes N room h s).held ≡ after_all h s) × (hand_outs N h s ≡ [])
  told-nothing e =
      ⊎_elim (λ a. (a.count, a.held, a.outs))
      (λ u. absurd (nothing-not-handed (sym e ∙ u.1.told)))
      (how-far N room h s)

-- a call that is not refused and hands out nothing takes every octet
pub quiet_all : (N : ℕ) (h : Held) (s : List ℕ) (room : ℕ) {u : Took} → received N h s room ≡ gives u
    → u.told ≡ nothing → u.count ≡ length s
quiet_all N h s room e q =
    let these = (call-given N h s room e).3 in
    sym (ap (λ (w : Took). w.count) these) ∙ (told-nothing N room h s (ap (λ (w : Took). w.told) these ∙ q)).0

handed-same : {A : Type 0} {a b : Answer A} → handed a ≡ handed b → a ≡ b
handed-same e = cc

-- what a caller learns of the promise, for any record
module _ (N : ℕ) (h : Held) (s o : List ℕ) (g : Held) (o' : List ℕ) where
  -- a call that was not refused, by what it told
  module _ (t : Took) (e : received N h s (length o) ≡ gives t) {k : ℕ} (count : k ≡ t.count) (held : g ≡ t.held) where
    quiet_told : t.told ≡ nothing → o' ≡ o → HeardTells None (gives t) s o k g o'
    quiet_told q octets =
        (t, refl, q, count ∙ quiet_all N h s (length o) e q, held, octets)

    handed-told : (a : Answer (List ℕ)) (q : Result ℕ Refusal) → t.told ≡ handed a → Hands a o q o'
        → HeardTells (Some q) (gives t) s o k g o'
    unfolding out_after
    handed-told a (Ok n) told w =
        let (this, size) = octets-told a w in
        let there = w.octets ∙ ap (λ (b : Answer (List ℕ)). out_after b o) this in
        (t, refl, told ∙ ap handed this, count, held, size, there)
    handed-told a (Err j) told w =
        let (this, same) = refusal-told a w in (t, refl, told ∙ ap handed this, count, held, same)

    taken-tells : (w : Option (Result ℕ Refusal)) (d : Told (List ℕ)) → t.told ≡ d → handed_of w ≡ told_counted d → o' ≡ out_told d o
        → HeardTells w (gives t) s o k g o'
    unfolding handed_of told_counted out_told
    taken-tells None nothing q f octets = quiet_told q octets
    taken-tells None (handed a) q f octets = absurd (nothing-not-handed f)
    taken-tells (Some w) nothing q f octets = absurd (nothing-not-handed (sym f))
    taken-tells (Some w) (handed a) q f octets =
        handed-told a w q (record { answer = handed-same f; octets = octets })

  handed-reads : (x : Answer Took) (w : Option (Result ℕ Refusal)) (k : ℕ) → HeardTells w x s o k g o' → handed_read w o' ≡ outs_by x
  unfolding handed_read outs_by told_outs
  handed-reads x None k w = rw (w.1, w.2)
  handed-reads x (Some (Ok n)) k w = rw (w.1, w.2)
  handed-reads x (Some (Err j)) k w = rw (w.1, w.2)

  read-tells : (x : Answer Took) (r : Result Received Refusal) → CallTells x h s o r g o' → read_out r o' ≡ outs_by x
  unfolding read_out outs_by
  read-tells x (Ok c) w = handed-reads x c.handed c.taken w
  read-tells x (Err k) w = rw w.0

module _ (N : ℕ) (h : Held) (s o : List ℕ) {g : Held} {o' : List ℕ} where
  pub receives-tells : {r : Result Received Refusal} → Receives (received N h s (length o)) h o r g o'
      → CallTells (received N h s (length o)) h s o r g o'
  unfolding heard_of code_took told_by took_by held_by out_by
  receives-tells {r} = go (received N h s (length o)) r refl
    where
      go : (x : Answer Took) (r : Result Received Refusal) → received N h s (length o) ≡ x → Receives x h o r g o' → CallTells x h s o r g o'
      go (gives t) (Ok c) e w =
          taken-tells N h s o g o' t e w.count w.held c.handed t.told refl (gives_same w.answer) w.octets
      go (gives t) (Err k) e w = absurd (gives-not-refuses (sym w.answer))
      go (refuses k) (Ok c) e w = absurd (gives-not-refuses w.answer)
      go (refuses k) (Err j) e w = (ap refuses (sym (refuses-same w.answer)), w.held, w.octets)

  -- what a caller reads, how far it goes on, and with which record
  pub call-reads : {r : Result Received Refusal} → Receives (received N h s (length o)) h o r g o'
      → (read_out r o' ≡ outs_by (received N h s (length o)))
      × (code_took r ≡ took_by (received N h s (length o)))
      × (g ≡ held_by (received N h s (length o)) h)
  call-reads {r} w =
      (read-tells N h s o g o' (received N h s (length o)) r (receives-tells w), w.count, w.held)

  -- a call that is not refused and has octets takes at least one, and no more than it was lent
  pub call-takes : is_limit N ≡ true → Usable h → frame_most N ≤ length o → {r : Result Received Refusal}
      → Receives (received N h s (length o)) h o r g o' → (0 < length s → 0 < code_took r) × (code_took r ≤ length s)
  unfolding took_by
  call-takes l u fits w =
      let count = w.count ∙ ap took_by (not-refused N h s (length o) l u fits) in (
        λ some. omega (arith, takes-at-least-one N (length o) h s some),
        omega (arith, takes-at-most N (length o) h s),
      )

  -- for every record: a frame that is handed out has the right check for the octets that the caller reads
  pub right-check-call : {n : ℕ} {c : Received} → Receives (received N h s (length o)) h o (Ok c) g o' → c.handed ≡ Some (Ok n)
      → (k : ℕ) × (low : ℕ) × (high : ℕ) × (c.taken ≡ suc k) × (get_or s k 0 ≡ flag)
      × (held_octets (after_all h (take k s)) ≡ take n o' ++ low ∷ high ∷ []) × (check_of (take n o') ≡ pair_of low high)
  right-check-call {n} {c} w is =
      let (t, e, told, count, held, long, there) =
      subst (λ (q : Option (Result ℕ Refusal)). HeardTells q (received N h s (length o)) s o c.taken g o') is (receives-tells w) in
      let these = (call-given N h s (length o) e).3 in
      let (k, size, closing, said, opens) =
      told-at-flag N (length o) h s (ap (λ (u : Took). u.told) these ∙ told) in
      let (low, high, octets, check) = right-check N (length o) (after_all h (take k s)) (sym said) in
      (k, low, high, count ∙ sym (ap (λ (u : Took). u.count) these) ∙ size, closing, octets, check)
