-- The returns of the functions without a loop, by the tests of the code. Assumes nothing.
use Rattle.std.proofs.Common.{Option, Result, Ok, Err, ◌≡◌, ℕ, ◌+◌, ◌%◌, ◌^◌, ◌<◌, ◌≤◌, Bool, true, false, cond, not, ◌&&◌, eqb, ltb, List, [], ◌∷◌, length, refl, ap, ◌∙◌, arith, ltb-false}
use borrow.Author.Tests.{not-true, not-false}
use Rattle.octets.specs.Octets.{◌at_start_of◌}
use Rattle.octets.proofs.Words.{and_parts}
use Rattle.refusal.specs.Numbers.{number_of}
use Rattle.refusal.specs.Answer.{gives, refuses, TestRow, ◌when◌, answered}
use Rattle.refusal.proofs.Answers.{answered-here, answered-later}
use Rattle.refusal.specs.declared.Refusal.{Refusal}
use Rattle.refusal.specs.declared.Refusal.TheVariants.{NotAllowed, NoRoom}
use Rattle.limits.specs.Limits.{is_limit}
use Rattle.receiver.specs.Held.{places, fresh_marks}
use Rattle.receiver.specs.declared.Receiver.{Receiver}
use Rattle.salvage.specs.Holding.{Holding, raw_most, add64, tallied}
use Rattle.salvage.specs.Work.{spare_most, stretch_of, end_verdict, end_left, emptied, at_end, finish_rows, finished}
use Rattle.salvage.specs.Work.{dropping_of, listing_of, taken_of, written_of, ending_of, end_listing, end_salvage, Finishes, works, salvage_rows, salvaged}
use Rattle.salvage.specs.Work.{left_by, taken_by, wrote_by, holding_by, Salvages}
use Rattle.salvage.specs.Pieces.{followed, begun_by, flags_added, counted_by, settled_by, sound_by, listed_by}
use Rattle.salvage.specs.Pieces.{passed_verdict}
use Rattle.salvage.specs.declared.Totals.{Totals}
use Rattle.salvage.specs.declared.Salvage.{Salvage}
use Rattle.salvage.specs.declared.Salvaged.{Salvaged}
use Rattle.salvage.specs.declared.Verdict.{Verdict}
use Rattle.salvage.specs.declared.Verdict.TheVariants.{Empty, Dropped}
use Rattle.salvage.specs.declared.Stretch.{Stretch}

-- the two numbers that both calls refuse
module _ {A : Type 0} (k j : ℕ) (rest : List TestRow) (x : A) where
  pub sound-rows : sound_by k j ≡ true → answered (6 when ltb places k ∷ 6 when ltb raw_most j ∷ rest) x ≡ answered rest x
  unfolding sound_by
  sound-rows e =
      let parts = and_parts (not (ltb places k)) _ e in
      answered-later 6 _ x (not-true _ parts.0) ∙ answered-later 6 _ x (not-true _ parts.1)

  pub unsound-rows : sound_by k j ≡ false → answered (6 when ltb places k ∷ 6 when ltb raw_most j ∷ rest) x ≡ refuses 6
  unfolding sound_by
  unsound-rows = by_count (ltb places k) refl
    where
      by_count : (t : Bool) → ltb places k ≡ t → not t && not (ltb raw_most j) ≡ false
          → answered (6 when ltb places k ∷ 6 when ltb raw_most j ∷ rest) x ≡ refuses 6
      by_count true t e = answered-here 6 _ x t
      by_count false t e = answered-later 6 _ x t ∙ answered-here 6 _ x (not-false _ e)

pub sound-bounds : (k j : ℕ) → sound_by k j ≡ true → (k ≤ places) × (j ≤ raw_most)
unfolding sound_by
sound-bounds k j e =
    let parts = and_parts (not (ltb places k)) _ e in
    (ltb-false places k (not-true _ parts.0), ltb-false raw_most j (not-true _ parts.1))

-- no flag is counted at the end
none-flagged : (t : Totals) → t.flags < 2 ^ 64 → flags_added 0 t ≡ t
unfolding flags_added add64
none-flagged t h =
    let e : (t.flags + 0) % 2 ^ 64 ≡ t.flags = omega arith in rw e

-- the last call
module _ (v : Salvage) where
  pub finish-refused : sound_by v.receiver.count v.stretch.held ≡ false
      → Finishes (finished v) v (Err NotAllowed) v
  unfolding finished finish_rows ending_of end_listing end_salvage
  finish-refused e =
      rw (unsound-rows v.receiver.count v.stretch.held [] (at_end v) e) (record { answer = refl; salvage = refl })

  pub emptied-is : v.totals.flags < 2 ^ 64 → {f : Verdict} {m : Receiver} → f ≡ end_verdict v → m ≡ fresh_marks
      → settled_by 0 f m v.stretch v ≡ emptied f v
  unfolding end_verdict settled_by emptied followed begun_by counted_by tallied
  emptied-is small e marks = rw (e, marks) (by-length (eqb v.stretch.length 0))
    where
      by-length : (t : Bool)
          → settled_by 0 (cond t Empty (Dropped 0)) fresh_marks v.stretch v ≡ emptied (cond t Empty (Dropped 0)) v
      by-length true = rw (none-flagged v.totals small)
      by-length false = rw (none-flagged (tallied v.totals v.stretch.length (Dropped 0)) small)

  listed-is : (t : Bool)
      → dropping_of (listed_by v.stretch (cond t Empty (Dropped 0))) ≡ end_left v (cond t Empty (Dropped 0))
  unfolding dropping_of listed_by end_left stretch_of
  listed-is true = refl
  listed-is false = refl

  pub finish-ends : sound_by v.receiver.count v.stretch.held ≡ true → {f : Verdict} {u : Salvage} {l : Option Stretch}
      → f ≡ passed_verdict v.stretch.length → u ≡ emptied f v → l ≡ listed_by v.stretch f → Finishes (finished v) v (Ok l) u
  unfolding finished finish_rows answered ending_of end_listing end_salvage at_end end_verdict
  finish-ends e {f} {u} {l} verdict ended listed =
      rw (sound-rows v.receiver.count v.stretch.held [] (at_end v) e)
      (record {
        answer = ap gives (ap dropping_of (listed ∙ ap (listed_by v.stretch) verdict) ∙ listed-is (eqb v.stretch.length 0));
        salvage = ended ∙ ap (λ (g : Verdict). emptied g v) verdict;
      })

-- a call: its numbers in their order
module _ (N : ℕ) (c : Holding) (s o : List ℕ) where
  abbrev last_row : List TestRow
  last_row = 5 when ltb (length o) (spare_most + length s) ∷ []

  abbrev count : ℕ
  count = c.salvage.receiver.count

  abbrev held : ℕ
  held = c.salvage.stretch.held

  refused-is : (k : Refusal) → salvaged N c s (length o) ≡ refuses (number_of k)
      → Salvages (salvaged N c s (length o)) c o (Err k) c o
  unfolding listing_of taken_of written_of left_by taken_by wrote_by holding_by ◌at_start_of◌
  refused-is k e = rw e (record { answer = refl; count = refl; written = refl; holding = refl; octets = refl })

  pub read-refused : (is_limit N && sound_by count held) ≡ false → Salvages (salvaged N c s (length o)) c o
      (Err NotAllowed) c o
  unfolding salvaged salvage_rows
  read-refused = by-limit (is_limit N) refl
    where
      by-limit : (t : Bool) → is_limit N ≡ t → (t && sound_by count held) ≡ false → Salvages (salvaged N c s (length o)) c o
          (Err NotAllowed) c o
      by-limit false t e = refused-is NotAllowed (answered-here 6 _ (works N c s) (ap not t))
      by-limit true t e =
          refused-is NotAllowed
          (answered-later 6 _ (works N c s) (ap not t) ∙ unsound-rows count held last_row (works N c s) e)

  module _ (allowed : (is_limit N && sound_by count held) ≡ true) where
    last_row_lem : salvaged N c s (length o) ≡ answered last_row (works N c s)
    unfolding salvaged salvage_rows
    last_row_lem =
        let parts = and_parts (is_limit N) _ allowed in
        answered-later 6 _ (works N c s) (ap not parts.0) ∙ sound-rows count held last_row (works N c s) parts.1

    pub read-room : not (ltb (length o) (spare_most + length s)) ≡ false → Salvages (salvaged N c s (length o)) c o
        (Err NoRoom) c o
    read-room h = refused-is NoRoom (last_row_lem ∙ answered-here 5 _ (works N c s) (not-false _ h))

    pub read-works : not (ltb (length o) (spare_most + length s)) ≡ true → {r : Result Salvaged Refusal} {d : Holding} {o' : List ℕ}
        → Salvages (gives (works N c s)) c o r d o' → Salvages (salvaged N c s (length o)) c o r d o'
    unfolding answered
    read-works h done =
        let given : salvaged N c s (length o) ≡ gives (works N c s) =
        last_row_lem ∙ answered-later 5 [] (works N c s) {t = ltb (length o) (spare_most + length s)} (not-true _ h) in
        rw given done
