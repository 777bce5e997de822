-- What a walk comes to by any answers at all, from the three ways in which it can end. Assumes nothing.
use mathlib.Core.Path.{◌≡◌, refl, sym, ap, ◌∙◌, subst}
use mathlib.Core.Bool.{Bool, true, false, cond, true≢false}
use mathlib.Core.List.{List, [], ◌∷◌, ◌++◌, append_assoc, map}
use Prim.Native.Nat.{ℕ, suc, ◌≤◌, ◌<◌, min}
use native.Mathlib.Omega.{arith}
use borrow.Author.Tests.{ltb-true, ltb-false}
use lib.Dec.{ltb}
use lib.ListN.{length, take, get_or, length-append}
use lib.Seq.{take_all, take_at}
use Rattle.identity.specs.Bits.{Bits}
use Rattle.walk.specs.Probes.{Mark, hit, beginnings_of, hits, place, Doubt}
use Rattle.walk.specs.Machine.{Phase, asking, complete, doubtful, limited, full, Ended, Walk, start, run}
use Rattle.walk.specs.Demand.{AsksNext, AnyEnd, AnyAnswers}
use Rattle.walk.proofs.Play.{phase-is}
use Rattle.walk.proofs.Doubts.{doubts, doubts-in, doubts-out}
use Rattle.walk.proofs.Places.{hits-append, hits_more, place-hit, place-late, place-all, asked-at, heard-at}
use Rattle.walk.proofs.Endings.{last, probes, Ending, all_asked, at-limit, at-full, ending}
use Rattle.walk.proofs.Stops.{stops}
use Rattle.walk.proofs.Sent.{asks-next}
use Rattle.walk.proofs.Once.{asked-once}

-- a number for each phase, to tell them apart
abbrev pub tag : Phase → ℕ
tag (asking p q w) = 0
tag complete = 1
tag doubtful = 2
tag (limited p) = 3
tag (full p) = 4

pub flag-tag : (t : Bool) → tag (cond t doubtful complete) ≤ 2
flag-tag true = omega arith
flag-tag false = omega arith

pub same_flag : (t u : Bool) → cond t doubtful complete ≡ cond u doubtful complete → t ≡ u
same_flag true true e = refl
same_flag false false e = refl
same_flag true false e = absurd (omega (arith, ap tag e))
same_flag false true e = absurd (omega (arith, ap tag e))

pub limited-same : {p q : Bits} → limited p ≡ limited q → p ≡ q
limited-same e = cc

pub full-same : {p q : Bits} → full p ≡ full q → p ≡ q
full-same e = cc

module _ {A : Type 0} (name : Bits → A) (d cap limit : ℕ) (heard : Bits → Bool) where
  abbrev end : Walk A
  end = last name d cap limit heard

  abbrev ms : List Mark
  ms = probes name d cap limit heard

  abbrev flag : Bool
  flag = doubts heard d []

  count : Ending name d cap limit heard → end.count ≡ min limit (place cap ms)
  count (all_asked a b r) = ap (λ (s : Walk A). s.count) r ∙ omega (arith, place-all cap ms b)
  count (at-limit ys m zs e a b r) =
      ap (λ (s : Walk A). s.count) r ∙ omega (arith, ap (place cap) e, place-late cap ys m zs b)
  count (at-full ys p zs e a b r) =
      ap (λ (s : Walk A). s.count) r ∙ omega (arith, ap (place cap) e, place-hit cap ys p zs b)

  -- the probes answered, and what they found
  found : Ending name d cap limit heard → end.listed ≡ map name (take cap (hits (take end.count ms)))
  unfolding hits
  found (all_asked a b r) =
      rw r (ap (map name)
      (sym (ap (λ (x : List Mark). take cap (hits x)) (take_all (length ms) ms (omega arith))
      ∙ take_all cap (hits ms) b)))
  found (at-limit ys m zs e a b r) =
      rw r (ap (map name)
      (sym (ap (λ (x : List Mark). take cap (hits (take limit x))) e
      ∙ ap (λ (x : List Mark). take cap (hits x)) (take_at ys (m ∷ zs) limit a) ∙ take_all cap (hits ys) b)))
  found (at-full ys p zs e a b r) =
      let h : List Mark = hit p ∷ [] in
      let cut : take (suc (length ys)) (ys ++ hit p ∷ zs) ≡ ys ++ h =
      ap (take (suc (length ys))) (sym (append_assoc ys h zs))
      ∙ take_at (ys ++ h) zs (suc (length ys)) (omega (arith, length-append ys h)) in
      rw r (ap (map name)
      (sym (ap (λ (x : List Mark). take cap (hits (take (suc (length ys)) x))) e
      ∙ ap (λ (x : List Mark). take cap (hits x)) cut
      ∙ ap (take cap) (hits-append ys h) ∙ take_at (hits ys) (p ∷ []) cap b)))

  flag-ended : (t : Bool) → Ended (cond t doubtful complete)
  flag-ended true = tt
  flag-ended false = tt

  over : Ending name d cap limit heard → Ended end.phase
  over (all_asked a b r) = rw r (flag-ended flag)
  over (at-limit ys m zs e a b r) = rw r tt
  over (at-full ys p zs e a b r) = rw r tt

  abbrev IsFull : Bits → Type 0
  IsFull p = (cap < length (hits ms)) × (place cap ms ≤ limit) × (get_or (hits ms) cap [] ≡ p)

  is-full : Ending name d cap limit heard → (p : Bits) → end.phase ≡ full p → IsFull p
  is-full (all_asked a b r) p h = absurd (omega (arith, ap tag (phase-is r h), flag-tag flag))
  is-full (at-limit ys m zs e a b r) p h = absurd (omega (arith, ap tag (phase-is r h)))
  is-full (at-full ys q zs e a b r) p h = (
    omega (arith, ap (λ (x : List Mark). length (hits x)) e, hits_more ys q zs),
    omega (arith, ap (place cap) e, place-hit cap ys q zs b),
    ap (λ (x : List Mark). get_or (hits x) cap []) e ∙ heard-at ys q zs cap b ∙ full-same (phase-is r h),
  )

  full_is : Ending name d cap limit heard → (p : Bits) → IsFull p → end.phase ≡ full p
  full_is (all_asked a b r) p (x, y, z) = absurd (omega arith)
  full_is (at-limit ys m zs e a b r) p (x, y, z) =
      absurd (omega (arith, ap (place cap) e, place-late cap ys m zs b))
  full_is (at-full ys q zs e a b r) p (x, y, z) =
      ap (λ (s : Walk A). s.phase) r
      ∙ ap full (sym (heard-at ys q zs cap b) ∙ sym (ap (λ (x : List Mark). get_or (hits x) cap []) e) ∙ z)

  abbrev IsLimit : Bits → Type 0
  IsLimit p = (limit < place cap ms) × (get_or (beginnings_of ms) limit [] ≡ p)

  is-limit : Ending name d cap limit heard → (p : Bits) → end.phase ≡ limited p → IsLimit p
  is-limit (all_asked a b r) p h = absurd (omega (arith, ap tag (phase-is r h), flag-tag flag))
  is-limit (at-limit ys m zs e a b r) p h = (
    omega (arith, ap (place cap) e, place-late cap ys m zs b),
    ap (λ (x : List Mark). get_or (beginnings_of x) limit []) e ∙ asked-at ys m zs limit a ∙ limited-same (phase-is r h),
  )
  is-limit (at-full ys q zs e a b r) p h = absurd (omega (arith, ap tag (phase-is r h)))

  limit_is : Ending name d cap limit heard → (p : Bits) → IsLimit p → end.phase ≡ limited p
  limit_is (all_asked a b r) p (x, y) = absurd (omega (arith, place-all cap ms b))
  limit_is (at-limit ys m zs e a b r) p (x, y) =
      ap (λ (s : Walk A). s.phase) r
      ∙ ap limited
      (sym (asked-at ys m zs limit a) ∙ sym (ap (λ (x : List Mark). get_or (beginnings_of x) limit []) e) ∙ y)
  limit_is (at-full ys q zs e a b r) p (x, y) = absurd (omega (arith, ap (place cap) e, place-hit cap ys q zs b))

  -- no probe remains, and the list was not full
  abbrev Whole : Type 0
  Whole = (length (hits ms) ≤ cap) × (length ms ≤ limit)

  is_whole : Ending name d cap limit heard → (t : Bool) → end.phase ≡ cond t doubtful complete → Whole × (flag ≡ t)
  is_whole (all_asked a b r) t h = ((b, a), same_flag flag t (phase-is r h))
  is_whole (at-limit ys m zs e a b r) t h = absurd (omega (arith, ap tag (phase-is r h), flag-tag t))
  is_whole (at-full ys q zs e a b r) t h = absurd (omega (arith, ap tag (phase-is r h), flag-tag t))

  whole_is : Ending name d cap limit heard → (t : Bool) → Whole → flag ≡ t → end.phase ≡ cond t doubtful complete
  whole_is (all_asked a b r) t (x, y) g =
      ap (λ (s : Walk A). s.phase) r ∙ ap (λ (u : Bool). cond u doubtful complete) g
  whole_is (at-limit ys m zs e a b r) t (x, y) g =
      absurd (omega (arith, ap length e, length-append ys (m ∷ zs)))
  whole_is (at-full ys q zs e a b r) t (x, y) g =
      absurd (omega (arith, ap (λ (x : List Mark). length (hits x)) e, hits_more ys q zs))

  no-doubt : (Doubt heard d [] → ⊥) → flag ≡ false
  no-doubt f = by_flag flag refl
    where
      by_flag : (t : Bool) → flag ≡ t → flag ≡ false
      by_flag true e = absurd (f (doubts-in heard d [] e))
      by_flag false e = e

  asks : Ending name d cap limit heard → (i : ℕ) → i < end.count
      → AsksNext (get_or (beginnings_of ms) i []) (run name d cap heard i (start limit))
  asks at i h = asks-next name d cap heard i limit (omega (arith, count at)) (omega (arith, count at))

  -- as many answers as are counted, and no more, are taken
  stands : Ending name d cap limit heard → (i : ℕ) → end.count ≤ i → run name d cap heard i (start limit) ≡ end
  stands at i h = stops name d cap heard limit i (start limit) (over at) (omega arith)

  ended-late : Ending name d cap limit heard → (i : ℕ) → Ended (run name d cap heard i (start limit)).phase
      → end.count ≤ i
  ended-late at i h = by-test (ltb i end.count) refl
    where
      by-test : (t : Bool) → ltb i end.count ≡ t → end.count ≤ i
      by-test true e = let (q, w, g) = asks at i (ltb-true i end.count e) in absurd (subst Ended g h)
      by-test false e = ltb-false i end.count e

  any-end : AnyEnd name d cap limit heard end (λ i. run name d cap heard i (start limit)) ms
  any-end = record {
    ended-from = λ i. (ended-late at i, λ h. subst (λ (s : Walk A). Ended s.phase) (sym (stands at i h)) (over at));
    stays = stands at;
    count = count at;
    list = found at;
    ended = over at;
    fulls = λ p. (is-full at p, full_is at p);
    limits = λ p. (is-limit at p, limit_is at p);
    doubtfuls = (
      λ h. let ((x, y), g) = is_whole at true h in (x, y, doubts-in heard d [] g),
      λ (x, y, k). whole_is at true (x, y) (doubts-out heard d [] k),
    );
    completes = (
      λ h. let ((x, y), g) = is_whole at false h in (x, y, λ k. true≢false (sym (doubts-out heard d [] k) ∙ g)),
      λ (x, y, k). whole_is at false (x, y) (no-doubt k),
    );
    sent = asks at;
    once = asked-once heard d [];
  }
    where
      at : Ending name d cap limit heard
      at = ending name d cap limit heard

pub any-answers : AnyAnswers
any-answers A name d cap limit heard = any-end name d cap limit heard
