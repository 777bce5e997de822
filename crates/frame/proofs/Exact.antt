-- Each number is given exactly when 01 and 02 say: per number, both ways, for every number N, a frame limit or not. And
-- demand 1 for this layer: any octets get a frame or one of the numbers, and a number leaves the lent output as it was.
-- Assumes nothing.
use Rattle.std.proofs.Common.{Err}
use mathlib.Core.Path.{◌≡◌, refl, ap}
use mathlib.Core.Bool.{true, false, not}
use mathlib.Core.List.{List, [], ◌∷◌}
use mathlib.Core.Logic.{◌↔◌, ◌⊎◌}
use Prim.Native.Nat.{ℕ, ◌<◌, ◌≤◌}
use borrow.Author.Tests.{ltb-true, ltb-false, lt-ltb, le-ltb, not-true, not-false}
use lib.Dec.{eqb}
use lib.ListN.{length}
use Rattle.octets.specs.Octets.{holds}
use Rattle.refusal.specs.Answer.{Answer, gives, refuses, TestRow, ◌when◌, answered, Clear, numbers_of, Hands}
use Rattle.refusal.specs.Numbers.{number_of}
use Rattle.refusal.specs.declared.Refusal.{Refusal}
use Rattle.refusal.proofs.Exactly.{TestsFor, exactly-tests, exactly-given, answered-all}
use Rattle.refusal.proofs.Answers.{refusal-told}
use Rattle.limits.specs.Limits.{is_limit, payload_most}
use Rattle.frame.specs.Line.{broken, plain}
use Rattle.frame.specs.Decode.{body, right_check, decode_rows, decoded}
use Rattle.frame.specs.Write.{line_of, write_rows, written}

-- 6 before other rows
module _ (N : ℕ) (rows : List TestRow) (b : List ℕ) where
  -- another number: N is a frame limit, and the other rows give it
  other-rows : (k : ℕ) → eqb 6 k ≡ false → answered (6 when not (is_limit N) ∷ rows) b ≡ refuses k
      ↔ (is_limit N ≡ true) × TestsFor k rows
  unfolding TestsFor
  other-rows k e = (
    λ q.
        let g : (not (is_limit N) ≡ false) × TestsFor k rows =
        rw e at ((exactly-tests k (6 when not (is_limit N) ∷ rows) b).0 q) in
        (not-false _ g.0, g.1),
    λ w. (exactly-tests k (6 when not (is_limit N) ∷ rows) b).1 (rw e (ap not w.0, w.1)),
  )

  -- 6 itself, which no other row has: N is none
  six : holds 6 (numbers_of rows) ≡ false → answered (6 when not (is_limit N) ∷ rows) b ≡ refuses 6 ↔ is_limit N ≡ false
  unfolding TestsFor
  six e = (
    λ q. not-true _ (rw e at ((exactly-tests 6 (6 when not (is_limit N) ∷ rows) b).0 q)),
    λ w. (exactly-tests 6 (6 when not (is_limit N) ∷ rows) b).1 (rw e (ap not w)),
  )

-- the decoded octets are 4 to N, in a line that is not broken
abbrev pub Sized : ℕ → List ℕ → Type 0
Sized N s = (broken s ≡ false) × (4 ≤ length (plain s)) × (length (plain s) ≤ N)

module _ (N : ℕ) (s : List ℕ) (room : ℕ) where
  -- 6: "outside 78 to 260"
  pub decode-6 : decoded N s room ≡ refuses 6 ↔ is_limit N ≡ false
  unfolding decoded TestsFor numbers_of holds decode_rows
  decode-6 = six N (decode_rows N (broken s) (plain s) room) (body (plain s)) refl

  by_rows : (k : ℕ) → eqb 6 k ≡ false
      → decoded N s room ≡ refuses k ↔ (is_limit N ≡ true) × TestsFor k (decode_rows N (broken s) (plain s) room)
  unfolding decoded
  by_rows = other-rows N (decode_rows N (broken s) (plain s) room) (body (plain s))

  -- 4: "0x7E inside, or 0x7D as the last octet", and not 6
  pub decode-4 : decoded N s room ≡ refuses 4 ↔ (is_limit N ≡ true) × (broken s ≡ true)
  unfolding TestsFor numbers_of holds decode_rows
  decode-4 = by_rows 4 refl

  -- 1: "decoded octets fewer than 4", and neither of those
  pub decode-1 : decoded N s room ≡ refuses 1 ↔ (is_limit N ≡ true) × (broken s ≡ false) × (length (plain s) < 4)
  unfolding TestsFor numbers_of holds decode_rows
  decode-1 = (
    λ e. let g = (by_rows 1 refl).0 e in (g.0, g.1.0, ltb-true _ _ g.1.1),
    λ w. (by_rows 1 refl).1 (w.0, (w.1, lt-ltb _ _ w.2)),
  )

  -- 2: "refusal 2 means more than N", and none of those
  pub decode-2 : decoded N s room ≡ refuses 2
      ↔ (is_limit N ≡ true) × (broken s ≡ false) × (4 ≤ length (plain s)) × (N < length (plain s))
  unfolding TestsFor numbers_of holds decode_rows
  decode-2 = (
    λ e. let g = (by_rows 2 refl).0 e in (g.0, g.1.0, ltb-false _ _ g.1.1.0, ltb-true _ _ g.1.1.1),
    λ w. (by_rows 2 refl).1 (w.0, (w.1, (le-ltb _ _ w.2, lt-ltb _ _ w.3))),
  )

  -- 3: "frame check wrong", and none of those
  pub decode-3 : decoded N s room ≡ refuses 3 ↔ (is_limit N ≡ true) × Sized N s × (right_check (plain s) ≡ false)
  unfolding TestsFor numbers_of holds decode_rows
  decode-3 = (
    λ e.
        let g = (by_rows 3 refl).0 e in
        let t = g.1.1.1 in
        (g.0, (g.1.0, ltb-false _ _ g.1.1.0, ltb-false _ _ t.0), not-true _ t.1),
    λ w.
        (by_rows 3 refl).1 (w.0, (w.1.0, (le-ltb _ _ w.1.1, (le-ltb _ _ w.1.2, ap not w.2)))),
  )

  -- 5: "the lent output is too short", and none of those
  pub decode-5 : decoded N s room ≡ refuses 5
      ↔ (is_limit N ≡ true) × Sized N s × (right_check (plain s) ≡ true) × (room < length (body (plain s)))
  unfolding TestsFor numbers_of holds decode_rows
  decode-5 = (
    λ e.
        let g = (by_rows 5 refl).0 e in
        let t = g.1.1.1 in (
          g.0,
          (g.1.0, ltb-false _ _ g.1.1.0, ltb-false _ _ t.0),
          not-false _ t.1.0,
          ltb-true _ _ t.1.1,
        ),
    λ w.
        (by_rows 5 refl).1
        (w.0, (w.1.0, (le-ltb _ _ w.1.1, (le-ltb _ _ w.1.2, (ap not w.2, lt-ltb _ _ w.3))))),
  )

  -- a frame: none of the numbers; and it is address, control and payload of the decoded octets
  pub decode-frame : (b : List ℕ) → decoded N s room ≡ gives b
      ↔ (is_limit N ≡ true) × Sized N s × (right_check (plain s) ≡ true) × (length (body (plain s)) ≤ room)
      × (body (plain s) ≡ b)
  unfolding decoded Clear decode_rows
  decode-frame b = (
    λ e.
        let g = (exactly-given (6 when not (is_limit N) ∷ decode_rows N (broken s) (plain s) room) (body (plain s)) b).0 e in
        let t = g.0.1.1.1 in (
          not-false _ g.0.0,
          (g.0.1.0, ltb-false _ _ g.0.1.1.0, ltb-false _ _ t.0),
          not-false _ t.1.0,
          ltb-false _ _ t.1.1.0,
          g.1,
        ),
    λ w.
        (exactly-given (6 when not (is_limit N) ∷ decode_rows N (broken s) (plain s) room) (body (plain s)) b).1 (
          (
            ap not w.0,
            (w.1.0, (le-ltb _ _ w.1.1, (le-ltb _ _ w.1.2, (ap not w.2, (le-ltb _ _ w.3, tt))))),
          ),
          w.4,
        ),
  )

  -- any octets get a frame or one of 6, 4, 1, 2, 3, 5
  pub decode-all : (decoded N s room ≡ gives (body (plain s)))
      ⊎ ((k : ℕ) × (holds k (6 ∷ 4 ∷ 1 ∷ 2 ∷ 3 ∷ 5 ∷ []) ≡ true) × (decoded N s room ≡ refuses k))
  unfolding decoded decode_rows numbers_of
  decode-all = answered-all (6 when not (is_limit N) ∷ decode_rows N (broken s) (plain s) room) (body (plain s))

module _ (N a c : ℕ) (p : List ℕ) (room : ℕ) where
  -- 6: "outside 78 to 260"
  pub write-6 : written N a c p room ≡ refuses 6 ↔ is_limit N ≡ false
  unfolding written TestsFor numbers_of holds write_rows
  write-6 = six N (write_rows N p (line_of (a ∷ c ∷ p)) room) (line_of (a ∷ c ∷ p)) refl

  write-rows : (k : ℕ) → eqb 6 k ≡ false
      → written N a c p room ≡ refuses k ↔ (is_limit N ≡ true) × TestsFor k (write_rows N p (line_of (a ∷ c ∷ p)) room)
  unfolding written
  write-rows = other-rows N (write_rows N p (line_of (a ∷ c ∷ p)) room) (line_of (a ∷ c ∷ p))

  -- 9: "more than N - 4", and not 6
  pub write-9 : written N a c p room ≡ refuses 9 ↔ (is_limit N ≡ true) × (payload_most N < length p)
  unfolding TestsFor numbers_of holds write_rows
  write-9 = (
    λ e. let g = (write-rows 9 refl).0 e in (g.0, ltb-true _ _ g.1),
    λ w. (write-rows 9 refl).1 (w.0, lt-ltb _ _ w.1),
  )

  -- 5: "the lent output is too short", and neither of those
  pub write-5 : written N a c p room ≡ refuses 5
      ↔ (is_limit N ≡ true) × (length p ≤ payload_most N) × (room < length (line_of (a ∷ c ∷ p)))
  unfolding TestsFor numbers_of holds write_rows
  write-5 = (
    λ e. let g = (write-rows 5 refl).0 e in (g.0, ltb-false _ _ g.1.0, ltb-true _ _ g.1.1),
    λ w. (write-rows 5 refl).1 (w.0, (le-ltb _ _ w.1, lt-ltb _ _ w.2)),
  )

  -- a line: none of the numbers
  pub write-line : (l : List ℕ) → written N a c p room ≡ gives l
      ↔ (is_limit N ≡ true) × (length p ≤ payload_most N) × (length (line_of (a ∷ c ∷ p)) ≤ room)
      × (line_of (a ∷ c ∷ p) ≡ l)
  unfolding written Clear write_rows
  write-line l = (
    λ e.
        let g = (exactly-given (6 when not (is_limit N) ∷ write_rows N p (line_of (a ∷ c ∷ p)) room) (line_of (a ∷ c ∷ p)) l).0 e in
        (not-false _ g.0.0, ltb-false _ _ g.0.1.0, ltb-false _ _ g.0.1.1.0, g.1),
    λ w.
        (exactly-given (6 when not (is_limit N) ∷ write_rows N p (line_of (a ∷ c ∷ p)) room) (line_of (a ∷ c ∷ p)) l).1
        ((ap not w.0, (le-ltb _ _ w.1, (le-ltb _ _ w.2, tt))), w.3),
  )

-- a number leaves every octet of the lent output as it was, and is the paper's
pub refused-unchanged : (x : Answer (List ℕ)) {o o' : List ℕ} {k : Refusal}
    → Hands x o (Err k) o' → (x ≡ refuses (number_of k)) × (o' ≡ o)
refused-unchanged x = refusal-told x
