-- The parts of a step on the record, and the four ways of a step put together from them. Assumes nothing.
use mathlib.Core.Path.{◌≡◌, refl, sym, ◌∙◌}
use mathlib.Core.Bool.{Bool, true, false, cond, ◌||◌}
use mathlib.Core.List.{List, [], ◌∷◌, ◌++◌}
use mathlib.Core.Option.{some}
use Prim.Native.Nat.{ℕ, zero, suc, ◌+◌, ◌*◌, ◌-◌, ◌≤◌, ◌<◌}
use native.Mathlib.Numerals.{add-one}
use native.Mathlib.Omega.{arith}
use borrow.Author.Tests.{lt-ltb, le-ltb}
use lib.Dec.{ltb}
use lib.ListN.{length, take, drop, set, length-append, take-append-drop}
use lib.Seq.{length-take-le, append_snoc, set_split, sets}
use Rattle.identity.specs.Bits.{Bits}
use Rattle.identity.specs.Identity.{width, depth, octets_of}
use Rattle.identity.proofs.Words.{length-packed}
use Rattle.walk.specs.Beginnings.{then}
use Rattle.walk.specs.Machine.{asking, limited, named, go_on, settle, next, zero_half, listing, noted}
use Rattle.walk.specs.Machine.{step_in, step}
use Rattle.scan.specs.Record.{list_most, list_of, beginning_of, flat, phase_of, state_of, ◌onto◌}
use Rattle.scan.specs.Record.{walk_of, record_of}
use Rattle.scan.specs.Steps.{next_at, in_state, at, state_at, finished_by, going, scan_moved, noted_in}
use Rattle.scan.specs.declared.Scan.{Scan}
use Rattle.scan.specs.declared.State.{State}
use Rattle.scan.specs.declared.State.TheVariants.{Asking, Limit, Full}
use Rattle.scan.proofs.Rows.{length-rows, rows_same, rows_more, length_more}

pub moved_none : (s : Scan) (n : ℕ) (quiet doubt : Bool) {t : State} → n ≡ 0 → t ≡ finished_by doubt
    → in_state (at s n s.beginning) t ≡ scan_moved s n quiet doubt
unfolding scan_moved
moved_none s n quiet doubt e g = rw (e, g)

pub moved-some : (s : Scan) (n : ℕ) (quiet doubt : Bool) → (n ≡ 0 → ⊥)
    → going (at s n (set s.beginning (n - 1) true)) quiet doubt ≡ scan_moved s n quiet doubt
unfolding scan_moved
moved-some s zero quiet doubt h = absurd (h refl)
moved-some s (suc m) quiet doubt h = let k : suc m - 1 ≡ m = omega arith in rw k

-- a record by its parts
abbrev pub made : ℕ → ℕ → ℕ → List ℕ → ℕ → Bits → State → Scan
made l c n list bits row st =
    record { limit = l; count = c; listed = n; list = list; bits = bits; beginning = row; state = st }

-- going on at a beginning that stands in the row
placed-is : (s : Scan) (l c listed : ℕ) (list : List ℕ) (bits : ℕ) (row : Bits) (st : State)
    (f : List (List ℕ)) (p : Bits) (q w : Bool)
    → listed ≡ length f → list ≡ (flat f onto s.list) → bits ≡ length p → row ≡ (p onto s.beginning)
    → going (made l c listed list bits row st) q w ≡ record_of s (settle l c f q w (some p))
unfolding named state_of state_at go_on
placed-is s l c listed list bits row st f p q w a b d e = rw (a, b, d, e) (by-test (ltb c l))
  where
    by-test : (t : Bool)
        → made l c (length f) (flat f onto s.list) (length p) (p onto s.beginning) (cond t (Asking q w) Limit)
        ≡ record_of s (record { limit = l; count = c; listed = f; phase = cond t (asking p q w) (limited p) })
    by-test true = refl
    by-test false = refl

-- going on at the next beginning, of which n bits are left in the row
moved-is : (s : Scan) (l c listed : ℕ) (list : List ℕ) (bits : ℕ) (row : Bits) (st : State)
    (f : List (List ℕ)) (n : ℕ) (q w : Bool)
    → listed ≡ length f → list ≡ (flat f onto s.list) → row ≡ s.beginning → n ≤ length row
    → scan_moved (made l c listed list bits row st) n q w ≡ record_of s (settle l c f q w (next_at row n))
unfolding scan_moved finished_by next_at go_on state_of named
moved-is s l c listed list bits row st f zero q true a b e h = rw (a, b, e)
moved-is s l c listed list bits row st f zero q false a b e h = rw (a, b, e)
moved-is s l c listed list bits row st f (suc m) q w a b e h =
    let p : Bits = then (take m row) true in
    let k : suc m ≡ length p =
    omega (arith, length-append (take m row) (true ∷ []), length-take-le m row (omega arith)) in
    placed-is s l c listed list (suc m) (set row m true) st f p q w a b k
    (rw (← k, ← e, append_snoc (take m row) true (drop (suc m) row)) (set_split row m true h))

-- one answer: silent; heard, with bits to go; heard whole, and listed; heard whole, and the list is full
module _ (s : Scan) (q w : Bool) where
  same_length : s.listed ≡ length (list_of s)
  same_length = sym (length-rows s.listed s.list)

  same-list : s.list ≡ (flat (list_of s) onto s.list)
  same-list = rows_same s.listed s.list

  bits_are : s.bits ≤ length s.beginning → length (beginning_of s) ≡ s.bits
  bits_are h = length-take-le s.bits s.beginning h

  pub note-silent : (n : ℕ) (z : Bool) → n ≤ length s.beginning
      → next (beginning_of s) ≡ next_at s.beginning n → z ≡ zero_half (beginning_of s)
      → scan_moved (made s.limit (s.count + 1) s.listed s.list s.bits s.beginning s.state) n z (w || q)
      ≡ noted_in s q w false
  unfolding scan_moved noted flat named state_of
  note-silent n z k e v =
      rw (e, ← v, ← (add-one s.count))
      (moved-is s s.limit (s.count + 1) s.listed s.list s.bits s.beginning s.state (list_of s) n z
      (w || q) same_length same-list refl k)

  pub note-deeper : s.bits < depth → length s.beginning ≡ depth
      → going (made s.limit (s.count + 1) s.listed s.list (s.bits + 1) (set s.beginning s.bits false)
      s.state) false w
      ≡ noted_in s q w true
  unfolding state_at noted flat named state_of
  note-deeper k e =
      let b : List Bool = beginning_of s in
      let n : length b ≡ s.bits = bits_are (omega arith) in
      let m : s.bits + 1 ≡ length (then b false) = omega (arith, length-append b (false ∷ [])) in
      rw (lt-ltb (length b) depth (omega arith), ← (add-one s.count))
      (placed-is s s.limit (s.count + 1) s.listed s.list (s.bits + 1) (set s.beginning s.bits false)
      s.state (list_of s) (then b false) false w same_length same-list m
      (rw (← m, add-one s.bits, append_snoc b false (drop (suc s.bits) s.beginning))
      (set_split s.beginning s.bits false (omega arith))))

  pub note-listed : (n : ℕ) {list : List ℕ} → list ≡ sets s.list (width * s.listed) (octets_of (beginning_of s))
      → length s.list ≡ width * list_most → s.bits ≡ depth → length s.beginning ≡ depth → s.listed < list_most
      → n ≤ length s.beginning → next (beginning_of s) ≡ next_at s.beginning n
      → scan_moved (made s.limit (s.count + 1) (s.listed + 1) list s.bits s.beginning s.state) n false w
      ≡ noted_in s q w true
  unfolding scan_moved noted flat named state_of listing
  note-listed n {list} g h b e k i v =
      let y : List ℕ = octets_of (beginning_of s) in
      let long : length (beginning_of s) ≡ s.bits = bits_are (omega arith) in
      let fits : width * s.listed + length y ≤ length s.list =
      omega (arith, length-packed width (beginning_of s)) in
      rw (
        le-ltb (length (beginning_of s)) depth (omega arith),
        lt-ltb (length (list_of s)) list_most (omega (arith, same_length)),
        v,
        ← (add-one s.count),
      )
      (moved-is s s.limit (s.count + 1) (s.listed + 1) list s.bits s.beginning s.state
      (list_of s ++ (y ∷ [])) n false w (length_more s.listed s.list y)
      (g ∙ rows_more s.listed s.list y fits) refl i)

  pub note-full : s.bits ≡ depth → length s.beginning ≡ depth → list_most ≤ s.listed
      → made s.limit (s.count + 1) s.listed s.list s.bits s.beginning Full ≡ noted_in s q w true
  unfolding noted flat named state_of listing
  note-full b e k =
      let n : length (beginning_of s) ≡ s.bits = bits_are (omega arith) in
      rw (
        le-ltb (length (beginning_of s)) depth (omega arith),
        le-ltb (length (list_of s)) list_most (omega (arith, same_length)),
        ← (add-one s.count),
        n,
        length-rows s.listed s.list,
        ← same-list,
        take-append-drop s.bits s.beginning,
      )

-- a step of the record's walk, where it asks
pub noted_step : (s : Scan) (a : Bool) {q w : Bool} → s.state ≡ Asking q w
    → noted_in s q w a ≡ record_of s (step octets_of depth list_most (walk_of s) a)
unfolding step step_in phase_of
noted_step s a e = rw e
