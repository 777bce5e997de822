-- Calls with any limits, any outputs and any record: every octet that is not left is taken once, in order, and what is
-- handed out goes by the limit of the call that takes the flag.
--   closings h s    == the record before each flag of s that hands something out
--   Limits Ns       == each of Ns is a frame limit
--   AskedFar h s t w Ns == a caller that began with the record h has come as far as w: t of the octets s are taken, and
--                      Ns are the limits of what was handed out
-- Assumes nothing.
use mathlib.Core.Path.{◌≡◌, refl, sym, ap, ap₂, ◌∙◌, subst}
use mathlib.Core.Bool.{Bool, true, false, cond}
use mathlib.Core.List.{List, [], ◌∷◌, ◌++◌, map, zip_with}
use Prim.Native.Nat.{ℕ, zero, suc, ◌+◌, ◌≤◌}
use native.Mathlib.Omega.{arith}
use lib.ListN.{length, take, drop, replicate, length-append, length-take, length-drop, length-map, length-replicate}
use lib.Seq.{take-take, take-add, drop-drop}
use Rattle.refusal.specs.Answer.{Answer, gives, refuses}
use Rattle.limits.specs.Limits.{is_limit, frame_most}
use Rattle.limits.proofs.Exactly.{is-limit-exactly, limit-least}
use Rattle.frame.specs.Decode.{decoded}
use Rattle.receiver.specs.Held.{Held, Usable, places, after_octet, closes, stretch_says}
use Rattle.receiver.specs.Call.{Took, takes, took_by, held_by}
use Rattle.live.specs.Stretches.{stretches, answers_to, heard_line}
use Rattle.live.specs.Calls.{after_all, hand_outs, Worked, told_outs, outs_by, with_outs}
use Rattle.live.specs.Asks.{Ask, answer_asked, ask_all, limits_out, nonempty, answers_by}
use Rattle.live.proofs.Steps.{fresh, after-append, front-append}
use Rattle.live.proofs.Answered.{call-given, takes-at-most}
use Rattle.live.proofs.Cuts.{one-call}
use Rattle.live.proofs.Decoder.{it-is-the-decoder}

unfoldable closings : Held → List ℕ → List Held
closings h [] = []
closings h (x ∷ xs) = cond (closes h x) (h ∷ closings (after_octet h x) xs) (closings (after_octet h x) xs)

closings-append : (h : Held) (a b : List ℕ) → closings h (a ++ b) ≡ closings h a ++ closings (after_all h a) b
unfolding closings after_all
closings-append h [] b = refl
closings-append h (x ∷ a) b =
    rw (closings-append (after_octet h x) a b) (front-append (closes h x) h (closings (after_octet h x) a) _)

abbrev says_by : ℕ → Held → Answer (List ℕ)
says_by N h = stretch_says N (frame_most N) h

abbrev decoded_by : ℕ → List ℕ → Answer (List ℕ)
decoded_by N p = decoded N p (frame_most N)

-- what is handed out is what is said of each of them
outs-closings : (N : ℕ) (h : Held) (s : List ℕ) → hand_outs N h s ≡ map (says_by N) (closings h s)
unfolding hand_outs closings
outs-closings N h [] = refl
outs-closings N h (x ∷ xs) = go (closes h x) (outs-closings N (after_octet h x) xs)
  where
    go : (t : Bool) → hand_outs N (after_octet h x) xs ≡ map (says_by N) (closings (after_octet h x) xs)
        → cond t (says_by N h ∷ hand_outs N (after_octet h x) xs) (hand_outs N (after_octet h x) xs)
        ≡ map (says_by N) (cond t (h ∷ closings (after_octet h x) xs) (closings (after_octet h x) xs))
    go true e = ap (λ (l : List (Answer (List ℕ))). says_by N h ∷ l) e
    go false e = e

answers-nonempty : (N : ℕ) (ps : List (List ℕ)) → answers_to N ps ≡ map (decoded_by N) (nonempty ps)
unfolding answers_to nonempty
answers-nonempty N [] = refl
answers-nonempty N ([] ∷ ps) = answers-nonempty N ps
answers-nonempty N ((x ∷ p) ∷ ps) =
    ap (λ (l : List (Answer (List ℕ))). decoded_by N (x ∷ p) ∷ l) (answers-nonempty N ps)

abbrev Limits : List ℕ → Type 0
Limits [] = Unit {0}
Limits (N ∷ Ns) = (is_limit N ≡ true) × Limits Ns

limits-append : (Ns Ms : List ℕ) → Limits Ns → Limits Ms → Limits (Ns ++ Ms)
limits-append [] Ms a b = b
limits-append (N ∷ Ns) Ms a b = (a.0, limits-append Ns Ms a.1 b)

limits-same : (N n : ℕ) → is_limit N ≡ true → Limits (replicate n N)
limits-same N zero l = tt
limits-same N (suc n) l = (l, limits-same N n l)

module _ {A C : Type 0} (f : ℕ → A → C) where
  -- one limit for all
  zip-same : (N : ℕ) (l : List A) → zip_with f (replicate (length l) N) l ≡ map (f N) l
  unfolding zip_with
  zip-same N [] = refl
  zip-same N (a ∷ l) = ap (λ (k : List C). f N a ∷ k) (zip-same N l)

  zip-append : (Ns Ms : List ℕ) (k l : List A) → length Ns ≡ length k
      → zip_with f (Ns ++ Ms) (k ++ l) ≡ zip_with f Ns k ++ zip_with f Ms l
  unfolding zip_with
  zip-append [] Ms [] l e = refl
  zip-append [] Ms (a ∷ k) l e = absurd (omega (arith, e))
  zip-append (N ∷ Ns) Ms [] l e = absurd (omega (arith, e))
  zip-append (N ∷ Ns) Ms (a ∷ k) l e =
      ap (λ (m : List C). f N a ∷ m) (zip-append Ns Ms k l (omega (arith, e)))

  -- lists of which the same is said with each limit are said the same of with any limits
  module _ {B : Type 0} (g : ℕ → B → C) where
    zip-alike : (Ns : List ℕ) (k : List A) (l : List B) → Limits Ns
        → ((N : ℕ) → is_limit N ≡ true → map (f N) k ≡ map (g N) l) → zip_with f Ns k ≡ zip_with g Ns l
    unfolding zip_with
    zip-alike [] k l limits same = refl
    zip-alike (N ∷ Ns) [] [] limits same = refl
    zip-alike (N ∷ Ns) [] (b ∷ l) limits same = absurd (omega (arith, ap length (same N limits.0)))
    zip-alike (N ∷ Ns) (a ∷ k) [] limits same = absurd (omega (arith, ap length (same N limits.0)))
    zip-alike (N ∷ Ns) (a ∷ k) (b ∷ l) limits same =
        ap₂ ◌∷◌ (first (same N limits.0)) (zip-alike Ns k l limits.1 (λ M e. others (same M e)))
      where
        first : {c d : C} {m n : List C} → c ∷ m ≡ d ∷ n → c ≡ d
        first e = cc

        others : {c d : C} {m n : List C} → c ∷ m ≡ d ∷ n → m ≡ n
        others e = cc

record AskedFar (h : Held) (s : List ℕ) (t : ℕ) (w : Worked) (Ns : List ℕ) : Type 0 where
  pub most : t ≤ length s
  pub left : w.left ≡ drop t s
  pub held : w.held ≡ after_all h (take t s)
  pub outs : w.outs ≡ zip_with says_by Ns (closings h (take t s))
  pub size : length Ns ≡ length (closings h (take t s))
  pub limits : Limits Ns

-- nothing is taken
far_none : (h : Held) (s : List ℕ) → AskedFar h s 0 (record { held = h; left = s; outs = [] }) []
unfolding after_all closings zip_with
far_none h s =
    record { most = omega arith; left = refl; held = refl; outs = refl; size = refl; limits = tt }

-- one call that is not refused
far-took : (N room : ℕ) (h : Held) (s : List ℕ) (n : ℕ) → is_limit N ≡ true → frame_most N ≤ room
    → let u : Took = takes N room h (take n s) in
    AskedFar h s u.count (record { held = u.held; left = drop u.count s; outs = told_outs u.told })
    (replicate (length (told_outs u.told)) N)
far-took N room h s n limit fits =
    let u : Took = takes N room h (take n s) in
    let most = takes-at-most N room h (take n s) in
    let same = take-take u.count n s (omega (arith, length-take n s)) in
    let p : List ℕ = take u.count s in
    let call = one-call N room h (take n s) fits in
    let said = call.1 ∙ ap (hand_outs N h) same ∙ outs-closings N h p in
    let long = ap length said ∙ length-map (closings h p) (says_by N) in
    record {
      most = omega (arith, length-take n s);
      left = refl;
      held = call.0 ∙ ap (after_all h) same;
      outs =
          said
          ∙ sym (zip-same says_by N (closings h p))
          ∙ ap (λ (k : ℕ). zip_with says_by (replicate k N) (closings h p)) (sym long);
      size = length-replicate (length (told_outs u.told)) N ∙ long;
      limits = limits-same N (length (told_outs u.told)) limit;
    }

-- what one call leaves
abbrev after_call : Held → List ℕ → Answer Took → Worked
after_call h s a = record { held = held_by a h; left = drop (took_by a) s; outs = outs_by a }

far_call : (h : Held) (s : List ℕ) (c : Ask) → let a : Answer Took = answer_asked h s c in
    (t : ℕ) × AskedFar h s t (after_call h s a) (replicate (length (outs_by a)) c.limit)
unfolding held_by took_by outs_by
far_call h s c = go (answer_asked h s c) refl
  where
    go : (a : Answer Took) → answer_asked h s c ≡ a
        → (t : ℕ) × AskedFar h s t (after_call h s a) (replicate (length (outs_by a)) c.limit)
    go (gives u) e =
        let (limit, usable, fits, these) = call-given c.limit h (take c.octets s) c.room e in (
          u.count,
          rw (← these)
              (far-took c.limit c.room h s c.octets ((is-limit-exactly c.limit).1 limit) fits),
        )
    go (refuses k) e = (0, far_none h s)

-- calls behind others
module _ {h : Held} {s : List ℕ} {n : ℕ} {v : Worked} {Ns : List ℕ} (a : AskedFar h s n v Ns) where
  far-on : {t : ℕ} {w : Worked} {Ms : List ℕ} → AskedFar v.held v.left t w Ms
      → AskedFar (after_all h (take n s)) (drop n s) t w Ms
  far-on {t} {w} {Ms} b =
      subst (λ (q : List ℕ). AskedFar (after_all h (take n s)) q t w Ms) a.left
      (subst (λ (g : Held). AskedFar g v.left t w Ms) a.held b)

  far-join : {m : ℕ} {w : Worked} {Ms : List ℕ} → AskedFar (after_all h (take n s)) (drop n s) m w Ms
      → AskedFar h s (n + m) (with_outs v.outs w) (Ns ++ Ms)
  unfolding with_outs
  far-join {m} {w} {Ms} b =
      let p : List ℕ = take n s in
      let q : List ℕ = take m (drop n s) in
      let both = take-add n m s in
      let flags = ap (closings h) both ∙ closings-append h p q in
      record {
        most = omega (arith, a.most, b.most, length-drop n s);
        left = b.left ∙ drop-drop m n s;
        held = b.held ∙ sym (after-append h p q) ∙ ap (after_all h) (sym both);
        outs =
            ap₂ ◌++◌ a.outs b.outs
            ∙ sym (zip-append says_by Ns Ms (closings h p) (closings (after_all h p) q) a.size)
            ∙ ap (zip_with says_by (Ns ++ Ms)) (sym flags);
        size =
            length-append Ns Ms
            ∙ ap₂ ◌+◌ a.size b.size
            ∙ sym (length-append (closings h p) (closings (after_all h p) q))
            ∙ ap length (sym flags);
        limits = limits-append Ns Ms a.limits b.limits;
      }

asked-far : (h : Held) (s : List ℕ) (cs : List Ask) → (t : ℕ) × AskedFar h s t (ask_all h s cs) (limits_out h s cs)
unfolding ask_all limits_out
asked-far h s [] = (0, far_none h s)
asked-far h s (c ∷ cs) =
    let (n, first) = far_call h s c in
    let a : Answer Took = answer_asked h s c in
    let (m, more) = asked-far (held_by a h) (drop (took_by a) s) cs in
    (n + m, far-join first (far-on first more))

module _ (h : Held) (s : List ℕ) (cs : List Ask) where
  -- every octet that is not left is taken once, in order: a call that is refused takes and changes nothing
  pub asks-are : (t : ℕ) × (t ≤ length s) × ((ask_all h s cs).left ≡ drop t s)
      × ((ask_all h s cs).held ≡ after_all h (take t s))
  asks-are = let (t, far) = asked-far h s cs in (t, far.most, far.left, far.held)

-- every call with a record that is refused takes nothing
pub asks-refused : (h : Held) (s : List ℕ) (cs : List Ask) → (Usable h → ⊥)
    → ask_all h s cs ≡ record { held = h; left = s; outs = [] }
unfolding ask_all with_outs outs_by held_by took_by
asks-refused h s [] never = refl
asks-refused h s (c ∷ cs) never = go (answer_asked h s c) refl (asks-refused h s cs never)
  where
    go : (a : Answer Took) → answer_asked h s c ≡ a → ask_all h s cs ≡ record { held = h; left = s; outs = [] }
        → with_outs (outs_by a) (ask_all (held_by a h) (drop (took_by a) s) cs) ≡ record { held = h; left = s; outs = [] }
    go (gives u) e less = absurd (never (call-given c.limit h (take c.octets s) c.room e).1)
    go (refuses k) e less = less

module _ (m : List ℕ) (store : length m ≡ places) where
  said-alike : (s : List ℕ) (N : ℕ) → is_limit N ≡ true
      → map (says_by N) (closings (fresh m) s) ≡ map (decoded_by N) (nonempty (stretches s))
  unfolding heard_line
  said-alike s N limit =
      sym (outs-closings N (fresh m) s) ∙ it-is-the-decoder N limit m store s ∙ answers-nonempty N (stretches s)

  -- from a fresh record: what is handed out is, in order, what the decoder says of each stretch that has octets, with the
  -- limit of the call that took its closing flag
  pub asked-decoder : (s : List ℕ) (cs : List Ask) → (t : ℕ) × (t ≤ length s)
      × ((ask_all (fresh m) s cs).left ≡ drop t s) × ((ask_all (fresh m) s cs).held ≡ after_all (fresh m) (take t s))
      × ((ask_all (fresh m) s cs).outs ≡ answers_by (limits_out (fresh m) s cs) (nonempty (stretches (take t s))))
      × (length (limits_out (fresh m) s cs) ≡ length (nonempty (stretches (take t s))))
  unfolding answers_by
  asked-decoder s cs =
      let (t, far) = asked-far (fresh m) s cs in
      let p : List ℕ = take t s in
      let k : List Held = closings (fresh m) p in
      let l : List (List ℕ) = nonempty (stretches p) in (
        t,
        far.most,
        far.left,
        far.held,
        far.outs ∙ zip-alike says_by decoded_by (limits_out (fresh m) s cs) k l far.limits (said-alike p),
        far.size
            ∙ sym (length-map k (says_by 78))
            ∙ ap length (said-alike p 78 limit-least)
            ∙ length-map l (decoded_by 78),
      )
