-- What one call tells a caller, for any record, any number for the frame limit and any run. Assumes nothing.
use Rattle.std.proofs.Common.{Option, Some, None, Result, Ok, Err}
use mathlib.Core.Path.{◌≡◌, refl, sym, ap, ◌∙◌}
use mathlib.Core.Bool.{false}
use mathlib.Core.List.{List, [], ◌∷◌}
use Prim.Native.Nat.{ℕ, suc, ◌+◌, ◌-◌, ◌≤◌}
use native.Mathlib.Omega.{arith}
use lib.Dec.{eqb}
use borrow.Author.Tests.{eqb-true, ne_eqb}
use lib.ListN.{length, get_or}
use Rattle.octets.specs.Octets.{holds, ◌at_start_of◌}
use Rattle.octets.proofs.Words.{holds-head, holds-tail}
use Rattle.octets.proofs.Stores.{take-start}
use Rattle.refusal.specs.declared.Refusal.{Refusal}
use Rattle.refusal.specs.Answer.{Answer, gives, refuses}
use Rattle.refusal.proofs.Answers.{gives_same, gives-not-refuses, refuses-same}
use Rattle.frame.specs.Line.{flag}
use Rattle.receiver.proofs.After.{by-test}
use Rattle.salvage.specs.Holding.{Holding, raw_most, add64, with_octet, verdict_of, closed_by, behind_flag, behind_flag_in}
use Rattle.salvage.specs.Holding.{stretch_over, onward_from, past_flag, tallied}
use Rattle.salvage.specs.Work.{no_stretch, a_stretch, Progress, in_front, at_flag, works, salvaged, dropping_of, listing_of, taken_of, written_of, ending_of, left_by}
use Rattle.salvage.specs.Work.{taken_by, wrote_by, holding_by, Salvages, Finishes, AtEnd, end_listing, end_salvage}
use Rattle.salvage.specs.Work.{stretch_of, finished, at_end, end_verdict, end_left, emptied}
use Rattle.salvage.proofs.Only.{none-not-one}
use Rattle.salvage.specs.declared.Stretch.{Stretch}
use Rattle.salvage.specs.declared.Salvage.{Salvage}
use Rattle.salvage.specs.declared.Salvaged.{Salvaged}
use Rattle.salvage.specs.declared.Verdict.{Verdict}
use Rattle.salvage.specs.declared.Verdict.TheVariants.{Still, Empty, Kept, Dropped}
use Rattle.capture.specs.Turns.{ListingTells, ReadTells, EndTells, FinishTells, Stops, Turn, Sifted, sifted, Allowed}
use Rattle.capture.proofs.Numbers.{salvage-given, finish-given, finish-done}
use Rattle.capture.proofs.Drained.{Drained, all-drained}
use Rattle.salvage.proofs.Going.{verdict-over}

-- a call that leaves out nothing takes the whole run
Quiets : Progress → ℕ → Type 0
Quiets t n = t.left ≡ no_stretch → t.count ≡ n

quiet-flag : (f : Verdict) (c : Holding) (t : Progress) (n : ℕ) → (f ≡ Still → ⊥) → Quiets t n → Quiets (at_flag f c t) (suc n)
unfolding Quiets at_flag in_front
quiet-flag Still c t n q less e = absurd (q refl)
quiet-flag Empty c t n q less e = omega (arith, less e)
quiet-flag Kept c t n q less e = omega (arith, less e)
quiet-flag (Dropped k) c t n q less e = absurd (none-not-one (sym e))

works-quiets : (N : ℕ) (c : Holding) (s : List ℕ) → Quiets (works N c s) (length s)
unfolding works Quiets in_front
works-quiets N c [] = λ e. refl
works-quiets N c (x ∷ xs) =
    let less = works-quiets N (closed_by (verdict_of N c) c) xs in
    let more = works-quiets N (with_octet c x) xs in
    by-test (λ (t : Progress). t.left ≡ no_stretch → t.count ≡ suc (length xs)) (eqb x flag)
    (λ e. quiet-flag (verdict_of N c) c _ (length xs) (verdict-over N c) less) (λ e q. omega (arith, more q))

pub works-quiet : (N : ℕ) (c : Holding) (s : List ℕ) → (works N c s).left ≡ no_stretch → (works N c s).count ≡ length s
unfolding Quiets
works-quiet N c s e = works-quiets N c s e

-- one that leaves out a stretch stops behind the flag that closed it
Halts : List ℕ → Progress → Type 0
Halts s t = (e : Stretch) → t.left ≡ a_stretch e → Stops s e t.count t.holding.salvage

stretch-same : {d e : Stretch} → a_stretch d ≡ a_stretch e → d ≡ e
stretch-same q = cc

halts-further : (x : ℕ) (xs ws : List ℕ) (t : Progress) → Halts xs t → Halts (x ∷ xs) (in_front 1 ws t)
unfolding Halts in_front
halts-further x xs ws t less e q =
    let (some, here, marks, open_at) = less e q in
    let n : 1 + t.count - 1 ≡ suc (t.count - 1) = omega arith in
    (omega arith, ap (λ (k : ℕ). get_or (x ∷ xs) k 0) n ∙ here, marks, open_at)

halts-none : (c : Holding) → Halts [] (record { holding = c; count = 0; written = []; left = no_stretch })
unfolding Halts
halts-none c e q = absurd (none-not-one q)

halts-dropped : (k : ℕ) (c : Holding) (x : ℕ) (xs : List ℕ) → x ≡ flag → Halts (x ∷ xs)
    (record { holding = closed_by (Dropped k) c; count = 1; written = []; left = a_stretch (stretch_of c.salvage k) })
unfolding Halts stretch_of closed_by behind_flag_in behind_flag stretch_over onward_from past_flag
halts-dropped k c x xs e d q = rw (← stretch-same q) (omega arith, e, refl, refl)

halts-flag : (f : Verdict) (c : Holding) (x : ℕ) (xs : List ℕ) (t : Progress) → (f ≡ Still → ⊥) → x ≡ flag → Halts xs t
    → Halts (x ∷ xs) (at_flag f c t)
unfolding at_flag
halts-flag Still c x xs t q e less = absurd (q refl)
halts-flag Empty c x xs t q e less = halts-further x xs [] t less
halts-flag Kept c x xs t q e less = halts-further x xs _ t less
halts-flag (Dropped k) c x xs t q e less = halts-dropped k c x xs e

works-halts : (N : ℕ) (c : Holding) (s : List ℕ) → Halts s (works N c s)
unfolding works
works-halts N c [] = halts-none c
works-halts N c (x ∷ xs) =
    let less = works-halts N (closed_by (verdict_of N c) c) xs in
    let more = works-halts N (with_octet c x) xs in
    by-test (Halts (x ∷ xs)) (eqb x flag)
    (λ e. halts-flag (verdict_of N c) c x xs _ (verdict-over N c) (eqb-true x flag e) less)
    (λ e. halts-further x xs [] _ more)

-- octets without a flag make of a record the same, whatever the frame limit: no octet is dropped for an earlier call's
pub flagless-any-limit : (N M : ℕ) (c : Holding) (s : List ℕ) → holds flag s ≡ false → works N c s ≡ works M c s
unfolding works
flagless-any-limit N M c [] f = refl
flagless-any-limit N M c (x ∷ xs) f =
    rw (ne_eqb x flag (holds-head flag x xs f))
    (ap (in_front 1 []) (flagless-any-limit N M (with_octet c x) xs (holds-tail flag x xs f)))

-- a call, by what it lists
module _ (N : ℕ) (c : Holding) (s o : List ℕ) (d : Holding) (o' : List ℕ) where
  given-tells : (t : Progress) → works N c s ≡ t → (q : Option Stretch) {k n : ℕ} → dropping_of q ≡ t.left → k ≡ t.count
      → n ≡ length t.written → d ≡ t.holding → o' ≡ t.written at_start_of o → ListingTells q (gives t) s o k n d o'
  unfolding dropping_of Halts
  given-tells t e None a count written holding octets = (
    t,
    refl,
    sym a,
    count,
    count ∙ ap (λ (u : Progress). u.count) (sym e) ∙ works-quiet N c s (ap (λ (u : Progress). u.left) e ∙ sym a),
    (holding, rw (written, octets) (take-start t.written o), octets),
  )
  given-tells t e (Some x) a count written holding octets = (
    t,
    refl,
    sym a,
    count,
    (holding, rw (written, octets) (take-start t.written o), octets),
    rw (count, ap (λ (h : Holding). h.salvage) holding)
        (rw e at (works-halts N c s) x (sym a)),
  )

  by_answer : (x : Answer Progress) (r : Result Salvaged Refusal) → salvaged N c s (length o) ≡ x → Salvages x c o r d o'
      → ReadTells x c s o r d o'
  unfolding listing_of taken_of written_of left_by taken_by wrote_by holding_by ◌at_start_of◌
  by_answer (gives t) (Ok r) e a =
      given-tells t (salvage-given N c s (length o) e) r.left_out (gives_same a.answer) a.count a.written a.holding a.octets
  by_answer (gives t) (Err k) e a = absurd (gives-not-refuses (sym a.answer))
  by_answer (refuses k) (Ok r) e a = absurd (gives-not-refuses a.answer)
  by_answer (refuses k) (Err j) e a = (ap refuses (sym (refuses-same a.answer)), a.holding, a.octets)

  pub read-tells : (r : Result Salvaged Refusal) → Salvages (salvaged N c s (length o)) c o r d o'
      → ReadTells (salvaged N c s (length o)) c s o r d o'
  read-tells r a = by_answer (salvaged N c s (length o)) r refl a

-- the last call, by what it lists
end-given : (u : Salvage) (t : AtEnd) (q : Option Stretch) → dropping_of q ≡ t.left → u ≡ t.salvage → EndTells q (gives t) u
unfolding dropping_of
end-given u t None a e = (t, refl, sym a, e)
end-given u t (Some x) a e = (t, refl, sym a, e)

pub finish-tells : (x : Answer AtEnd) (v : Salvage) (r : Result (Option Stretch) Refusal) (u : Salvage) → Finishes x v r u
    → FinishTells x v r u
unfolding ending_of end_listing end_salvage
finish-tells (gives t) v (Ok q) u a = end-given u t q (gives_same a.answer) a.salvage
finish-tells (gives t) v (Err k) u a = absurd (gives-not-refuses (sym a.answer))
finish-tells (refuses k) v (Ok q) u a = absurd (gives-not-refuses a.answer)
finish-tells (refuses k) v (Err j) u a = (ap refuses (sym (refuses-same a.answer)), a.salvage)

sifted-is : {c d : Holding} {s t v w : List ℕ} {es fs : List Stretch} → c ≡ d → s ≡ t → v ≡ w → es ≡ fs
    → ◌≡◌ {A = Sifted} (record { holding = c; left = s; written = v; listed = es })
    (record { holding = d; left = t; written = w; listed = fs })
sifted-is e f g h = rw (e, f, g, h)

-- "The same however the capture is cut into runs": from any record, with any number for the frame limit
pub cut-anyhow : (N : ℕ) (c : Holding) (s : List ℕ) (ts us : List Turn) → Allowed N c s ts → Allowed N c s us
    → (sifted c s ts).left ≡ [] → (sifted c s us).left ≡ [] → sifted c s ts ≡ sifted c s us
cut-anyhow N c s ts us all also none nor =
    let same = sym (all-drained N c s ts all none) ∙ all-drained N c s us also nor in
    sifted-is (ap (λ (d : Drained). d.holding) same) (none ∙ sym nor) (ap (λ (d : Drained). d.written) same)
    (ap (λ (d : Drained). d.list) same)

marks-few : (v : Salvage) → (at_end v).salvage.receiver.count ≤ 260
unfolding at_end emptied
marks-few v = omega arith

raw-few : (v : Salvage) → (at_end v).salvage.stretch.held ≤ raw_most
unfolding at_end emptied onward_from
raw-few v = omega arith

begun_kept : (v : Salvage) → (at_end v).salvage.begun ≡ v.begun
unfolding at_end emptied
begun_kept v = refl

sum-again : (a b : ℕ) → add64 (add64 (add64 (add64 a b) 0) 0) 0 ≡ add64 (add64 a b) 0
unfolding add64
sum-again a b = omega arith

ended-twice : (v : Salvage) → at_end (at_end v).salvage ≡ record { salvage = (at_end v).salvage; left = no_stretch }
unfolding at_end end_verdict end_left emptied onward_from tallied
ended-twice v = rw (sum-again v.stretch.offset v.stretch.length)

-- the last call made again: nothing more is open, the record stays as it is, and so does whether the first flag is written
pub finish-again : (v : Salvage) {t : AtEnd} → finished v ≡ gives t
    → (finished t.salvage ≡ gives (record { salvage = t.salvage; left = no_stretch })) × (t.salvage.begun ≡ v.begun)
finish-again v {t} e =
    let these = finish-given v e in
    rw (← these) (finish-done (at_end v).salvage (marks-few v) (raw-few v) ∙ ap gives (ended-twice v), begun_kept v)
