-- The sentence: whatever answers the promise allows, in whatever cuts, once every octet is taken and the last call made,
-- what was written and listed, the counts and the length are those of the definition over the whole capture.
-- 02 (vii): "writes a capture of the good frames only, and lists what it left out".
--   good_from begun ks == what is written of the pieces ks: the first flag, unless it is written
--   Through N c s qs n == the octets s from the record c on, and the last call behind them, make of the pieces qs what the
--                       definition says, and end at the place n
-- Assumes nothing.
use Rattle.std.proofs.Common.{Option, Result, Ok, Err}
use mathlib.Core.Path.{◌≡◌, refl, sym, ap, ap₂, ◌∙◌}
use mathlib.Core.Bool.{Bool, true, false, cond}
use mathlib.Core.List.{List, [], ◌∷◌, ◌++◌, append_assoc, append-nil}
use Prim.Native.Nat.{ℕ, suc, ◌+◌, ◌^◌, ◌<◌, ◌≤◌}
use native.Mathlib.Omega.{arith}
use lib.Dec.{eqb}
use lib.ListN.{length, take, length-append}
use Rattle.refusal.specs.declared.Refusal.{Refusal}
use Rattle.refusal.specs.Answer.{Answer, gives, refuses}
use Rattle.refusal.proofs.Answers.{gives_same, gives-not-refuses}
use Rattle.limits.specs.Limits.{is_limit, frame_most}
use Rattle.frame.specs.Line.{flag}
use Rattle.frame.specs.Decode.{decoded}
use Rattle.receiver.specs.Held.{places}
use Rattle.receiver.proofs.After.{by-test}
use Rattle.live.proofs.Decoder.{Holds, some}
use Rattle.salvage.specs.Capture.{parted_after, Piece, pieces_from, all_pieces, piece_if, some_pieces, pieces_in, kept_if}
use Rattle.salvage.specs.Capture.{kept_pieces, entry, listed, flag_behind, good_of, flags_in, totals_of}
use Rattle.salvage.specs.Holding.{Holding, receiver_in, raw_most, Workable, add64, with_octet, said_verdict, verdict_of}
use Rattle.salvage.specs.Holding.{tallied, flag_counted, past_flag, kept_octets, first_flag, stretch_over, onward_from}
use Rattle.salvage.specs.Work.{stretch_of, works, spare_most, salvaged, AtEnd, end_verdict, end_left, emptied, at_end}
use Rattle.salvage.specs.Work.{Dropping, ending_of, finished, end_listing, end_salvage, Finishes}
use Rattle.salvage.specs.declared.Totals.{Totals}
use Rattle.salvage.specs.declared.Salvage.{Salvage}
use Rattle.salvage.specs.declared.Stretch.{Stretch}
use Rattle.salvage.specs.declared.Verdict.{Verdict}
use Rattle.salvage.specs.declared.Verdict.TheVariants.{Still, Empty, Kept, Dropped}
use Rattle.capture.specs.Turns.{fresh_holding, Turn, end_listed, sifted, Allowed}
use Rattle.capture.proofs.Numbers.{salvage-done, finish-done}
use Rattle.capture.proofs.Drained.{Drained, kept_by, entries_by, before, drained, drained-flag, drained-other}
use Rattle.capture.proofs.Drained.{drained-workable, left_list, works-within, works-some, out-given}
use Rattle.capture.proofs.Drained.{all-drained}
use Rattle.capture.proofs.Opened.{add64-small, read_held, Opens, opens-more, all_held, verdict_for}
use Rattle.capture.proofs.Opened.{verdict-never-still, begun_after, next, closed-next, opens-next, holds-next}
use Rattle.capture.proofs.Opened.{holds-octet, octet-before, end-verdict, verdict-before, verdict-behind}
use Rattle.capture.proofs.Counts.{Within, within-verdict, within-octet, within-next, piece_of, summed}
use Rattle.capture.proofs.Counts.{summed-verdict, summed-flag, summed-none, summed-all}

-- a call that is not refused and has octets takes at least one, and no more than it was lent
pub read-takes-some : (N : ℕ) (c : Holding) (s : List ℕ) (room : ℕ) → is_limit N ≡ true → Workable c
    → spare_most + length s ≤ room → 0 < length s
    → (salvaged N c s room ≡ gives (works N c s)) × (0 < (works N c s).count) × ((works N c s).count ≤ length s)
read-takes-some N c s room l u fits some =
    (salvage-done N c s room l u fits, works-some N c s some, works-within N c s)

-- what is written of the pieces ks: the first flag, unless it is written
good_from : Bool → List Piece → List ℕ
good_from begun ks = cond begun (flag_behind ks) (good_of ks)

-- a stretch that is kept, and those behind it
kept-written : (begun : Bool) (held : ℕ) (raw : List ℕ) (a : Piece) (ks : List Piece) → take held raw ≡ a.octets
    → kept_octets begun held raw ++ flag_behind ks ≡ good_from begun (a ∷ ks)
unfolding kept_octets first_flag good_from good_of flag_behind
kept-written true held raw a ks e = rw e (append_assoc a.octets (flag ∷ []) (flag_behind ks))
kept-written false held raw a ks e =
    rw e (ap (λ (l : List ℕ). flag ∷ l) (append_assoc a.octets (flag ∷ []) (flag_behind ks)))

-- a stretch at the flag behind it: what is written of it, and what is listed
module _ (at : ℕ) (c : Holding) (qs : List Piece) where
  written-verdict : (p : List ℕ) (a : Answer (List ℕ)) → Opens p at c
      → ((b : List ℕ) → a ≡ gives b → length p ≤ raw_most)
      → kept_by (verdict_for p a) c ++ good_from (begun_after (verdict_for p a) c.salvage.begun) (kept_pieces qs)
      ≡ good_from c.salvage.begun (kept_pieces (piece_if (piece_of at p a) p qs))
  unfolding kept_by verdict_for said_verdict begun_after piece_if kept_pieces kept_if good_from
  written-verdict [] a was small = refl
  written-verdict (x ∷ p) (gives b) was small =
      kept-written _ _ c.raw (piece_of at (x ∷ p) (gives b)) (kept_pieces qs)
      (all_held (x ∷ p) at c was (small b refl))
  written-verdict (x ∷ p) (refuses k) was small = refl

  listed-verdict : (p : List ℕ) (a : Answer (List ℕ)) → Opens p at c
      → entries_by (verdict_for p a) c ++ listed qs ≡ listed (piece_if (piece_of at p a) p qs)
  unfolding entries_by verdict_for said_verdict piece_if listed entry stretch_of
  listed-verdict [] a was = refl
  listed-verdict (x ∷ p) (gives b) was = refl
  listed-verdict (x ∷ p) (refuses k) was = rw (was.offset, was.long)

-- the octets s from the record c on, and the last call behind them: of the pieces qs, up to the place n
record Through (N : ℕ) (c : Holding) (s : List ℕ) (qs : List Piece) (n : ℕ) : Type 0 where
  written : (drained N c s).written ≡ good_from c.salvage.begun (kept_pieces qs)
  list : (drained N c s).list ++ left_list (at_end (drained N c s).holding.salvage).left ≡ listed qs
  totals : (at_end (drained N c s).holding.salvage).salvage.totals ≡ summed c.salvage.totals qs (flags_in s)
  offset : (at_end (drained N c s).holding.salvage).salvage.stretch.offset ≡ n

-- the last call lists what a flag would
end_list : (f : Verdict) (c : Holding) → left_list (end_left c.salvage f) ≡ entries_by f c
unfolding left_list end_left entries_by
end_list Still c = refl
end_list Empty c = refl
end_list Kept c = refl
end_list (Dropped k) c = refl

-- nothing is kept of it
end_kept : (p : List ℕ) (at : ℕ) (begun : Bool)
    → good_from begun (kept_pieces (piece_if (piece_of at p (refuses 0)) p [])) ≡ []
unfolding piece_if kept_pieces kept_if good_from flag_behind good_of
end_kept [] at true = refl
end_kept [] at false = refl
end_kept (x ∷ p) at true = refl
end_kept (x ∷ p) at false = refl

-- no octet is left: the last call
through-end : (N : ℕ) (p : List ℕ) (at : ℕ) (c : Holding) → at + length p < 2 ^ 64 → Opens p at c
    → Within c.salvage.totals at
    → Through N c [] (piece_if (piece_of at p (refuses 0)) p []) (at + length p)
unfolding drained at_end emptied onward_from flags_in listed
through-end N p at c small was w =
    let t : Totals = c.salvage.totals in
    let f : end_verdict c.salvage ≡ verdict_for p (refuses 0) = end-verdict p at c was in
    record {
      written = sym (end_kept p at c.salvage.begun);
      list =
          ap (λ (g : Verdict). left_list (end_left c.salvage g)) f
          ∙ end_list (verdict_for p (refuses 0)) c
          ∙ sym (append-nil (entries_by (verdict_for p (refuses 0)) c))
          ∙ listed-verdict at c [] p (refuses 0) was;
      totals =
          ap₂ (tallied t) was.long f
          ∙ summed-none (tallied t (length p) (verdict_for p (refuses 0)))
          ∙ summed-verdict t at p (refuses 0) [] 0 small w;
      offset =
          ap₂ (λ (i n : ℕ). add64 (add64 i n) 0) was.offset was.long
          ∙ ap (λ (i : ℕ). add64 i 0) (add64-small at (length p) small)
          ∙ add64-small (at + length p) 0 (omega arith)
          ∙ omega arith;
    }

-- an octet that is no flag
through-octet : (N : ℕ) (c : Holding) (x : ℕ) (xs : List ℕ) (qs : List Piece) (n : ℕ) → eqb x flag ≡ false
    → Through N (with_octet c x) xs qs n → Through N c (x ∷ xs) qs n
unfolding with_octet flags_in
through-octet N c x xs qs n e less =
    let d = drained-other N c x xs e in
    record {
      written = rw d less.written;
      list = rw d less.list;
      totals = rw (d, e) less.totals;
      offset = rw d less.offset;
    }

-- a flag, behind the octets p of which a is said
through-flag : (N : ℕ) (p : List ℕ) (at : ℕ) (c : Holding) (a : Answer (List ℕ)) (x : ℕ) (xs : List ℕ) (qs : List Piece)
    (n : ℕ) → eqb x flag ≡ true → at + length p + 1 < 2 ^ 64 → Opens p at c → Within c.salvage.totals at
    → ((b : List ℕ) → a ≡ gives b → length p ≤ raw_most) → verdict_of N c ≡ verdict_for p a
    → Through N (next (verdict_for p a) c) xs qs n → Through N c (x ∷ xs) (piece_if (piece_of at p a) p qs) n
unfolding before next past_flag stretch_over flags_in
through-flag N p at c a x xs qs n e small was w held v less =
    let f : Verdict = verdict_for p a in
    let t : Totals = c.salvage.totals in
    let d = drained-flag N c x xs e in
    let g = closed-next f c (verdict-never-still p a) in
    record {
      written =
          rw (d, v, g)
          (ap (λ (l : List ℕ). kept_by f c ++ l) less.written ∙ written-verdict at c qs p a was held);
      list =
          rw (d, v, g)
          (append_assoc (entries_by f c) _ _ ∙ ap (λ (l : List Stretch). entries_by f c ++ l) less.list
          ∙ listed-verdict at c qs p a was);
      totals =
          rw (d, v, g, e)
          (less.totals
          ∙ ap (λ (k : ℕ). summed (flag_counted (tallied t k f)) qs (flags_in xs)) was.long
          ∙ summed-flag (tallied t (length p) f) (at + length p) qs (flags_in xs) small (within-verdict t at p a w)
          ∙ summed-verdict t at p a qs (suc (flags_in xs)) (omega arith) w);
      offset = rw (d, v, g) less.offset;
    }

-- there is always a part behind the last flag
parted-some : (p s : List ℕ) → (q : List ℕ) × (qs : List (List ℕ)) × (parted_after p s ≡ q ∷ qs)
unfolding parted_after
parted-some p [] = (p, [], refl)
parted-some p (x ∷ xs) =
    let (q, qs, e) = parted-some (p ++ x ∷ []) xs in
    by-test (λ (l : List (List ℕ)). (q : List ℕ) × (qs : List (List ℕ)) × (l ≡ q ∷ qs)) (eqb x flag)
    (λ t. (p, parted_after [] xs, refl)) (λ t. (q, qs, e))

-- a part with a flag behind it
from-flag : (N at : ℕ) (p s : List ℕ)
    → pieces_from N at (p ∷ parted_after [] s)
    ≡ piece_of at p (decoded N p (frame_most N)) ∷ pieces_from N (at + length p + 1) (parted_after [] s)
unfolding pieces_from
from-flag N at p s = let (q, qs, e) = parted-some [] s in rw e

module _ (N : ℕ) (l : is_limit N ≡ true) where
  -- behind a flag and the octets p
  through-behind : (p : List ℕ) (at : ℕ) (c : Holding) (s : List ℕ) → Holds p (receiver_in c) → Opens p at c
      → Within c.salvage.totals at → at + length p + length s < 2 ^ 64
      → Through N c s (some_pieces (pieces_from N at (parted_after p s))) (at + length p + length s)
  unfolding parted_after some_pieces pieces_from
  through-behind p at c [] is was w small =
      let n : at + length p + 0 ≡ at + length p = omega arith in rw n (through-end N p at c (omega arith) was w)
  through-behind p at c (x ∷ xs) is was w small =
      let n = length-append p (x ∷ []) in
      go (eqb x flag) refl
      (through-behind [] (at + length p + 1) (next f c) xs (holds-next c f is.store)
      (opens-next p at c f (omega arith) was) (within-next p at c a was w) (omega arith))
      (λ e. through-behind (p ++ x ∷ []) at (with_octet c x) xs (holds-octet p c x is e)
      (opens-more p at c x (omega arith) was) (within-octet c x at w) (omega arith))
    where
      a : Answer (List ℕ)
      a = decoded N p (frame_most N)

      f : Verdict
      f = verdict_for p a

      go : (t : Bool) → eqb x flag ≡ t
          → Through N (next f c) xs (some_pieces (pieces_from N (at + length p + 1) (parted_after [] xs)))
          (at + length p + 1 + 0 + length xs)
          → (eqb x flag ≡ false
          → Through N (with_octet c x) xs (some_pieces (pieces_from N at (parted_after (p ++ x ∷ []) xs)))
          (at + length (p ++ x ∷ []) + length xs))
          → Through N c (x ∷ xs)
          (some_pieces (pieces_from N at (cond t (p ∷ parted_after [] xs) (parted_after (p ++ x ∷ []) xs))))
          (at + length p + suc (length xs))
      go true e less more =
          let n : at + length p + suc (length xs) ≡ at + length p + 1 + 0 + length xs = omega arith in
          rw (from-flag N at p xs, n)
          (through-flag N p at c a x xs _ _ e (omega arith) was w (λ b q. read_held N l p (frame_most N) q)
          (verdict-behind N l p at c is was) less)
      go false e less more =
          let n : at + length p + suc (length xs) ≡ at + length (p ++ x ∷ []) + length xs =
          omega (arith, length-append p (x ∷ [])) in
          rw n (through-octet N c x xs _ _ e (more e))

  -- before the first flag, behind the octets p
  through_before : (p : List ℕ) (c : Holding) (s : List ℕ) → c.salvage.receiver.seen ≡ false
      → length c.store ≡ places → Opens p 0 c → Within c.salvage.totals 0 → length p + length s < 2 ^ 64
      → Through N c s (some_pieces (all_pieces N (parted_after p s))) (length p + length s)
  unfolding parted_after some_pieces all_pieces pieces_from
  through_before p c [] none store was w small =
      let n : length p + 0 ≡ 0 + length p = omega arith in rw n (through-end N p 0 c (omega arith) was w)
  through_before p c (x ∷ xs) none store was w small =
      let n = length-append p (x ∷ []) in
      go (eqb x flag) refl
      (through-behind [] (0 + length p + 1) (next f c) xs (holds-next c f store) (opens-next p 0 c f (omega arith) was)
      (within-next p 0 c (refuses 0) was w) (omega arith))
      (λ e. through_before (p ++ x ∷ []) (with_octet c x) xs (octet-before c x e none).0
      ((octet-before c x e none).1 ∙ store) (opens-more p 0 c x (omega arith) was) (within-octet c x 0 w) (omega arith))
    where
      f : Verdict
      f = verdict_for p (refuses 0)

      go : (t : Bool) → eqb x flag ≡ t
          → Through N (next f c) xs (some_pieces (pieces_from N (0 + length p + 1) (parted_after [] xs)))
          (0 + length p + 1 + 0 + length xs)
          → (eqb x flag ≡ false
          → Through N (with_octet c x) xs (some_pieces (all_pieces N (parted_after (p ++ x ∷ []) xs)))
          (length (p ++ x ∷ []) + length xs))
          → Through N c (x ∷ xs)
          (some_pieces (all_pieces N (cond t (p ∷ parted_after [] xs) (parted_after (p ++ x ∷ []) xs))))
          (length p + suc (length xs))
      go true e less more =
          let n : length p + suc (length xs) ≡ 0 + length p + 1 + 0 + length xs = omega arith in
          let m : length p + 1 ≡ 0 + length p + 1 = omega arith in
          rw (n, m)
          (through-flag N p 0 c (refuses 0) x xs _ _ e (omega arith) was w (λ b q. absurd (gives-not-refuses (sym q)))
          (verdict-before N p 0 c none was) less)
      go false e less more =
          let n : length p + suc (length xs) ≡ length (p ++ x ∷ []) + length xs =
          omega (arith, length-append p (x ∷ [])) in
          rw n (through-octet N c x xs _ _ e (more e))

  -- from a fresh record
  through-fresh : (m w s : List ℕ) → length m ≡ places → length w ≡ raw_most → length s < 2 ^ 64
      → Through N (fresh_holding m w) s (pieces_in N s) (length s)
  unfolding pieces_in
  through-fresh m w s store raw small =
      let n : 0 + length s ≡ length s = omega arith in
      rw n at
      (through_before [] (fresh_holding m w) s refl store
      (record { long = refl; offset = refl; held = refl; octets = refl; raw = raw }) (omega arith) (omega arith))

-- the last call: what a caller reads, and the record after it
ending-given : (r : Result (Option Stretch) Refusal) (d : Dropping) → ending_of r ≡ gives d → end_listed r ≡ left_list d
unfolding ending_of end_listed
ending-given (Ok q) d e = out-given q d (gives_same e)
ending-given (Err k) d e = absurd (gives-not-refuses (sym e))

finish-read : (v : Salvage) (e : Result (Option Stretch) Refusal) (u : Salvage) → v.receiver.count ≤ 260 → v.stretch.held ≤ raw_most
    → Finishes (finished v) v e u
    → (end_listed e ≡ left_list (at_end v).left) × (u ≡ (at_end v).salvage)
unfolding end_listing end_salvage
finish-read v e u few held w =
    let g = finish-done v few held in (
      ending-given e (at_end v).left (w.answer ∙ ap end_listing g),
      w.salvage ∙ ap (λ (x : Answer AtEnd). end_salvage x v) g,
    )

-- whatever answers the promise allows, in whatever cuts, also with refused calls among them
pub salvage-is : (N : ℕ) → is_limit N ≡ true → (m w s : List ℕ) → length m ≡ places → length w ≡ raw_most
    → length s < 2 ^ 64 → (ts : List Turn) → Allowed N (fresh_holding m w) s ts
    → (sifted (fresh_holding m w) s ts).left ≡ [] → (e : Result (Option Stretch) Refusal) (u : Salvage)
    → Finishes (finished (sifted (fresh_holding m w) s ts).holding.salvage)
    (sifted (fresh_holding m w) s ts).holding.salvage e u
    → ((sifted (fresh_holding m w) s ts).written ≡ good_of (kept_pieces (pieces_in N s)))
    × ((sifted (fresh_holding m w) s ts).listed ++ end_listed e ≡ listed (pieces_in N s))
    × (u.totals ≡ totals_of N s)
    × (u.stretch.offset ≡ length s)
unfolding good_from
salvage-is N l m w s store raw small ts all none e u ends =
    let c : Holding = fresh_holding m w in
    let through = through-fresh N l m w s store raw small in
    let same = all-drained N c s ts all none in
    let held : Holding = (sifted c s ts).holding in
    let workable : Workable held =
    rw (ap (λ (d : Drained). d.holding) same) at (drained-workable N c s ((store, omega arith), raw, omega arith)) in
    let last = finish-read held.salvage e u workable.0.1 workable.2 ends in (
      rw same at through.written,
      rw last.0 (rw same at through.list),
      rw last.1 ((rw same at through.totals) ∙ summed-all N s),
      rw last.1 (rw same at through.offset),
    )
