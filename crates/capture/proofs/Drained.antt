-- A salvage that never stops: octet by octet over all octets. However the octets are cut into calls, and whatever answers
-- the promise allows, what is written and listed and the record after them are those of the octets one by one.
--   Drained         == the record after octets, what was written and what was listed
--   kept_by f c, entries_by f c == what is written and listed of the open stretch of c, where it has the verdict f
--   before ws es d  == the same, with ws written and es listed in front
--   drained N c s   == what is made of all the octets s
--   left_list d     == what one call lists
-- Assumes nothing.
use Rattle.std.proofs.Common.{Option, Some, None, Result, Ok, Err}
use mathlib.Core.Path.{◌≡◌, refl, sym, ap, ◌∙◌}
use mathlib.Core.Bool.{Bool, true, false, cond}
use mathlib.Core.List.{List, [], ◌∷◌, ◌++◌, append_assoc, append-nil}
use Prim.Native.Nat.{ℕ, suc, ◌+◌, ◌<◌, ◌≤◌}
use native.Mathlib.Omega.{arith}
use lib.Dec.{eqb}
use lib.ListN.{length, take, drop, take-append-drop}
use lib.Seq.{drop-append-le}
use Rattle.octets.specs.Octets.{◌at_start_of◌}
use Rattle.octets.proofs.Stores.{take-start}
use Rattle.refusal.specs.declared.Refusal.{Refusal}
use Rattle.refusal.specs.Answer.{Answer, gives, refuses}
use Rattle.refusal.proofs.Answers.{gives-not-refuses, gives_same}
use Rattle.frame.specs.Line.{flag}
use Rattle.receiver.proofs.After.{by-test}
use Rattle.salvage.specs.Holding.{Holding, Workable, with_octet, verdict_of}
use Rattle.salvage.specs.Holding.{past_flag, behind_flag_in, closed_by, kept_octets}
use Rattle.salvage.specs.Work.{Dropping, no_stretch, a_stretch, stretch_of, Progress, in_front, at_flag, works, salvaged}
use Rattle.salvage.specs.Work.{dropping_of, listing_of, taken_of, written_of, left_by, taken_by, wrote_by, holding_by, Salvages}
use Rattle.salvage.specs.declared.Stretch.{Stretch}
use Rattle.salvage.specs.declared.Verdict.{Verdict}
use Rattle.salvage.specs.declared.Verdict.TheVariants.{Still, Empty, Kept, Dropped}
use Rattle.salvage.specs.declared.Salvaged.{Salvaged}
use Rattle.salvage.proofs.Going.{verdict-over, octet-workable, past-workable, behind-workable}
use Rattle.capture.specs.Turns.{Turn, out_listed, read_listing, Sifted, with_sifted, sifted, Allowed}
use Rattle.capture.proofs.Numbers.{salvage-given}

pub record Drained : Type 0 where
  pub holding : Holding
  pub written : List ℕ
  pub list : List Stretch

unfoldable pub kept_by : Verdict → Holding → List ℕ
kept_by Still c = []
kept_by Empty c = []
kept_by Kept c = kept_octets c.salvage.begun c.salvage.stretch.held c.raw
kept_by (Dropped k) c = []

unfoldable pub entries_by : Verdict → Holding → List Stretch
entries_by Still c = []
entries_by Empty c = []
entries_by Kept c = []
entries_by (Dropped k) c = stretch_of c.salvage k ∷ []

unfoldable pub before : List ℕ → List Stretch → Drained → Drained
before ws es d = record { holding = d.holding; written = ws ++ d.written; list = es ++ d.list }

unfoldable pub drained : ℕ → Holding → List ℕ → Drained
drained N c [] = record { holding = c; written = []; list = [] }
drained N c (x ∷ xs) =
    cond (eqb x flag)
    (before (kept_by (verdict_of N c) c) (entries_by (verdict_of N c) c) (drained N (closed_by (verdict_of N c) c) xs))
    (drained N (with_octet c x) xs)

unfoldable pub left_list : Dropping → List Stretch
left_list no_stretch = []
left_list (a_stretch s) = s ∷ []

module _ (N : ℕ) where
  pub drained-flag : (c : Holding) (x : ℕ) (xs : List ℕ) → eqb x flag ≡ true
      → drained N c (x ∷ xs)
      ≡ before (kept_by (verdict_of N c) c) (entries_by (verdict_of N c) c) (drained N (closed_by (verdict_of N c) c) xs)
  unfolding drained
  drained-flag c x xs e = rw e

  pub drained-other : (c : Holding) (x : ℕ) (xs : List ℕ) → eqb x flag ≡ false
      → drained N c (x ∷ xs) ≡ drained N (with_octet c x) xs
  unfolding drained
  drained-other c x xs e = rw e

-- what stands in front, in two parts
before-twice : (ws vs : List ℕ) (es fs : List Stretch) (d : Drained)
    → before ws es (before vs fs d) ≡ before (ws ++ vs) (es ++ fs) d
unfolding before
before-twice ws vs es fs d = rw (append_assoc ws vs d.written, append_assoc es fs d.list)

module _ (N : ℕ) where
  -- what a call wrote and listed, and then the octets that it did not take
  abbrev gone_on : Progress → List ℕ → List ℕ → Drained
  gone_on t s rest = before t.written (left_list t.left) (drained N t.holding (drop t.count s ++ rest))

  -- one octet more in front
  gone-further : (t : Progress) (ws : List ℕ) (x : ℕ) (xs rest : List ℕ)
      → before ws [] (gone_on t xs rest) ≡ gone_on (in_front 1 ws t) (x ∷ xs) rest
  unfolding in_front
  gone-further t ws x xs rest =
      let n : 1 + t.count ≡ suc t.count = omega arith in rw n (before-twice ws t.written [] _ _)

  gone-flag : (c : Holding) (x : ℕ) (xs rest : List ℕ) (f : Verdict) → (f ≡ Still → ⊥)
      → drained N (closed_by f c) (xs ++ rest) ≡ gone_on (works N (closed_by f c) xs) xs rest
      → before (kept_by f c) (entries_by f c) (drained N (closed_by f c) (xs ++ rest))
      ≡ gone_on (at_flag f c (works N (closed_by f c) xs)) (x ∷ xs) rest
  unfolding at_flag kept_by entries_by left_list
  gone-flag c x xs rest Still q less = absurd (q refl)
  gone-flag c x xs rest Empty q less = ap (before [] []) less ∙ gone-further _ [] x xs rest
  gone-flag c x xs rest Kept q less = ap (before (kept_by Kept c) []) less ∙ gone-further _ (kept_by Kept c) x xs rest
  gone-flag c x xs rest (Dropped k) q less = refl

  -- a call takes octets one by one, from the front
  pub works-drained : (c : Holding) (s rest : List ℕ) → drained N c (s ++ rest) ≡ gone_on (works N c s) s rest
  unfolding works before left_list
  works-drained c [] rest = refl
  works-drained c (x ∷ xs) rest =
      go (eqb x flag) refl (works-drained (closed_by (verdict_of N c) c) xs rest) (works-drained (with_octet c x) xs rest)
    where
      go : (t : Bool) → eqb x flag ≡ t
          → drained N (closed_by (verdict_of N c) c) (xs ++ rest)
          ≡ gone_on (works N (closed_by (verdict_of N c) c) xs) xs rest
          → drained N (with_octet c x) (xs ++ rest) ≡ gone_on (works N (with_octet c x) xs) xs rest
          → drained N c (x ∷ (xs ++ rest))
          ≡ gone_on (cond t (at_flag (verdict_of N c) c (works N (closed_by (verdict_of N c) c) xs))
          (in_front 1 [] (works N (with_octet c x) xs))) (x ∷ xs) rest
      go true t less more =
          drained-flag N c x (xs ++ rest) t ∙ gone-flag c x xs rest (verdict_of N c) (verdict-over N c) less
      go false t less more =
          drained-other N c x (xs ++ rest) t ∙ more ∙ gone-further (works N (with_octet c x) xs) [] x xs rest

  -- no more octets are taken than were lent
  flag-count : (f : Verdict) (c : Holding) (t : Progress) (n : ℕ) → (f ≡ Still → ⊥) → t.count ≤ n
      → (0 < (at_flag f c t).count) × ((at_flag f c t).count ≤ suc n)
  unfolding at_flag in_front
  flag-count Still c t n q less = absurd (q refl)
  flag-count Empty c t n q less = omega arith
  flag-count Kept c t n q less = omega arith
  flag-count (Dropped k) c t n q less = omega arith

  pub works-within : (c : Holding) (s : List ℕ) → (works N c s).count ≤ length s
  unfolding works in_front
  works-within c [] = omega arith
  works-within c (x ∷ xs) =
      let less = works-within (closed_by (verdict_of N c) c) xs in
      let more = works-within (with_octet c x) xs in
      by-test (λ (t : Progress). t.count ≤ suc (length xs)) (eqb x flag)
      (λ e. (flag-count (verdict_of N c) c _ (length xs) (verdict-over N c) less).1) (λ e. omega arith)

  -- and at least one, where there is one
  pub works-some : (c : Holding) (s : List ℕ) → 0 < length s → 0 < (works N c s).count
  unfolding works in_front
  works-some c [] h = omega arith
  works-some c (x ∷ xs) h =
      let less = works-within (closed_by (verdict_of N c) c) xs in
      by-test (λ (t : Progress). 0 < t.count) (eqb x flag)
      (λ e. (flag-count (verdict_of N c) c _ (length xs) (verdict-over N c) less).0) (λ e. omega arith)

-- a caller reads what a call lists, and nothing where it is refused
pub out-given : (q : Option Stretch) (d : Dropping) → dropping_of q ≡ d → out_listed q ≡ left_list d
unfolding dropping_of out_listed left_list
out-given None d e = rw (← e)
out-given (Some s) d e = rw (← e)

listing-given : (r : Result Salvaged Refusal) (d : Dropping) → listing_of r ≡ gives d → read_listing r ≡ left_list d
unfolding listing_of read_listing
listing-given (Ok r) d e = out-given r.left_out d (gives_same e)
listing-given (Err k) d e = absurd (gives-not-refuses (sym e))

listing-refused : (r : Result Salvaged Refusal) (k : ℕ) → listing_of r ≡ refuses k → read_listing r ≡ []
unfolding listing_of read_listing
listing-refused (Ok r) k e = absurd (gives-not-refuses e)
listing-refused (Err j) k e = refl

-- what a caller reads at the start of its output
written_read : (b o after : List ℕ) (n : ℕ) → n ≡ length b → after ≡ b at_start_of o → take n after ≡ b
written_read b o after n e q = rw (e, q) (take-start b o)

module _ (N : ℕ) where
  -- one call over the front of the octets s
  call-drained : (c : Holding) (s : List ℕ) (n : ℕ) (u : Progress) → works N c (take n s) ≡ u
      → drained N c s ≡ before u.written (left_list u.left) (drained N u.holding (drop u.count s))
  call-drained c s n u e =
      let within : u.count ≤ length (take n s) = rw (← e) (works-within N c (take n s)) in
      let seam = sym (drop-append-le u.count (take n s) (drop n s) within) in
      ap (drained N c) (sym (take-append-drop n s))
      ∙ works-drained N c (take n s) (drop n s)
      ∙ ap (λ (t : Progress). gone_on N t (take n s) (drop n s)) e
      ∙ ap (λ (l : List ℕ). before u.written (left_list u.left) (drained N u.holding l))
      (seam ∙ ap (drop u.count) (take-append-drop n s))

  -- one turn: what is read of it, and the octets that it leaves
  turn-drained : (c : Holding) (s : List ℕ) (t : Turn) (x : Answer Progress)
      → salvaged N c (take t.octets s) (length t.output) ≡ x
      → Salvages x c t.output t.answer t.holding t.after
      → drained N c s
      ≡ before (take (written_of t.answer) t.after) (read_listing t.answer)
      (drained N t.holding (drop (taken_of t.answer) s))
  unfolding left_by taken_by wrote_by holding_by before
  turn-drained c s t (gives u) e w =
      rw (
        written_read u.written t.output t.after _ w.written w.octets,
        listing-given t.answer u.left w.answer,
        w.holding,
        w.count,
      ) (call-drained c s t.octets u (salvage-given N c (take t.octets s) (length t.output) e))
  turn-drained c s t (refuses k) e w =
      rw (
        written_read [] t.output t.after _ w.written w.octets,
        listing-refused t.answer k w.answer,
        w.holding,
        w.count,
      )

  -- turns that the promise allows: what was read of them, and the octets that they leave
  sifted-drained : (c : Holding) (s : List ℕ) (ts : List Turn) → Allowed N c s ts
      → drained N c s
      ≡ before (sifted c s ts).written (sifted c s ts).listed
      (drained N (sifted c s ts).holding (sifted c s ts).left)
  unfolding sifted Allowed with_sifted before
  sifted-drained c s [] all = refl
  sifted-drained c s (t ∷ ts) all =
      let rest : List ℕ = drop (taken_of t.answer) s in
      let ws : List ℕ = take (written_of t.answer) t.after in
      let es : List Stretch = read_listing t.answer in
      turn-drained c s t (salvaged N c (take t.octets s) (length t.output)) refl all.0
      ∙ ap (before ws es) (sifted-drained t.holding rest ts all.1)
      ∙ before-twice ws (sifted t.holding rest ts).written es (sifted t.holding rest ts).listed _

  -- turns that leave nothing: all octets, one by one
  pub all-drained : (c : Holding) (s : List ℕ) (ts : List Turn) → Allowed N c s ts → (sifted c s ts).left ≡ []
      → drained N c s
      ≡ record { holding = (sifted c s ts).holding; written = (sifted c s ts).written; list = (sifted c s ts).listed }
  unfolding drained before
  all-drained c s ts all none =
      let u : Sifted = sifted c s ts in
      sifted-drained c s ts all
      ∙ ap (λ (l : List ℕ). before u.written u.listed (drained N u.holding l)) none
      ∙ rw (append-nil u.written, append-nil u.listed)

-- a record that is not refused stays so
flag-workable : (f : Verdict) (c : Holding) → Workable c → Workable (closed_by f c)
unfolding closed_by behind_flag_in
flag-workable f c u =
    let past : Holding = past_flag c in behind-workable f past.salvage past.store past.raw (past-workable c u)

pub drained-workable : (N : ℕ) (c : Holding) (s : List ℕ) → Workable c → Workable (drained N c s).holding
unfolding drained before
drained-workable N c [] u = u
drained-workable N c (x ∷ xs) u =
    let f : Verdict = verdict_of N c in
    let closed = drained-workable N (closed_by f c) xs (flag-workable f c u) in
    let more = drained-workable N (with_octet c x) xs (octet-workable c x u) in
    by-test (λ (d : Drained). Workable d.holding) (eqb x flag) (λ e. closed) (λ e. more)
