-- What the bench's functions come to, each by what the libraries promise. Assumes nothing.
use Rattle.std.proofs.Common.{Result, Ok, Err, IfOk}
use Rattle.refusal.specs.declared.Refusal.{Refusal}
use mathlib.Core.Path.{◌≡◌, refl, sym, ap, ap₂, ◌∙◌}
use mathlib.Core.Bool.{Bool, true, false, cond, ◌&&◌}
use mathlib.Core.List.{List, [], ◌∷◌, ◌++◌, map}
use mathlib.Core.Logic.{inl, inr}
use Prim.Native.Nat.{ℕ, suc, ◌+◌, ◌-◌, ◌*◌, ◌/◌, ◌%◌, ◌≤◌, ◌<◌, min}
use native.Mathlib.Omega.{arith}
use lib.Dec.{ltb, eqb}
use lib.ListN.{length, take, drop, get_or, set, replicate, length-take, drop_of_length-le}
use lib.Seq.{sets}
use borrow.Author.Tests.{eq-eqb, ne_eqb}
use Rattle.std.specs.Prelude.{Option, Some, None, unwrap_or, MatchOption}
use lib.Pointwise.{pointwise}
use denote.Ref.{Bor}
use Rattle.std.proofs.lemmas.List.{take_min, drop_min}
use Rattle.octets.specs.Octets.{last_of, place_of}
use Rattle.octets.proofs.Rest.{rest}
use Rattle.refusal.specs.Answer.{Answer, state_after, Hands}
use Rattle.refusal.proofs.Answers.{hands-is}
use Rattle.limits.specs.Limits.{limit_least}
use Rattle.frame.specs.Decode.{decoded}
use Rattle.frame.specs.Write.{written}
use Rattle.receiver.specs.declared.Received.{Received}
use Rattle.receiver.specs.Held.{Held}
use Rattle.receiver.specs.Call.{Took, received, held_by, told_by, took_by, out_by, Receives}
use Rattle.scan.specs.declared.Scan.{Scan}
use Rattle.scan.specs.Scan.{probed, reported}
use Rattle.script.specs.declared.Asked.{Asked}
use Rattle.script.specs.Words.{spelled, first_of, behind_first, word_at}
use Rattle.script.specs.Commands as command
use Rattle.bus.specs.declared.Row.{Row}
use Rattle.drives.specs.declared.Response.{Response}
use Rattle.drives.specs.Drives.{After, Came, Obeys, obeyed}
use Rattle.bench.specs.declared.Driven.{Driven}
use Rattle.bench.specs.declared.ear.Ear.{Ear}
use Rattle.bench.specs.Bench.{hex_in, value_in, lent_of, row_says, row_driven, scan_after}
use Rattle.bench.specs.Said.{back_in, Drives, Calls}
use Rattle.bench.specs.Bench.{fresh_ear, ear_call, ear_after}
use Rattle.bench.specs.Bench.{is_decode, is_limited, limit_in, octet_in, coded, hands_out, room_at}
use Rattle.bench.specs.Written.{digit_of, hexed}
use Rattle.bench.specs.Input.{line_kept, run_most}
use Rattle.bench.specs.Input.{rest_of, taken_to, line_taken, refilled, anew, Run, after_runs, Arrives, without_return}
use Rattle.bench.specs.declared.input.Input.{Input}

-- ---- what is handed back, if nothing failed

pub ok-same : {T E A : Type 0} (r : Result T E) (f : T → A) {x y : A} → IfOk r (λ v. f v ≡ x) → x ≡ y → IfOk r (λ v. f v ≡ y)
ok-same (Ok v) f e g = e ∙ g
ok-same (Err x) f e g = tt

-- ---- HEX

module _ (row s : List ℕ) (i : ℕ) {w : List ℕ} where
  -- one octet more, two digits
  pub hex-more : i < length s → sets row (2 * i + 1) (hexed (drop i s)) ≡ w
      → sets (set (set row (2 * i + 1) (digit_of (get_or s i 0 / 16))) (2 * i + 2) (digit_of (get_or s i 0)))
      (2 * (i + 1) + 1) (hexed (drop (i + 1) s)) ≡ w
  unfolding hexed
  hex-more h e =
      let m : 2 * i + 2 ≡ suc (2 * i + 1) = omega arith in
      let n : 2 * (i + 1) + 1 ≡ suc (suc (2 * i + 1)) = omega arith in
      rw (m, n) (sym (ap (λ (l : List ℕ). sets row (2 * i + 1) (hexed l)) (rest s i h)) ∙ e)

  pub hex-done : length s ≤ i → sets row (2 * i + 1) (hexed (drop i s)) ≡ w → row ≡ w
  unfolding hexed
  hex-done h e = sym (ap (λ (l : List ℕ). sets row (2 * i + 1) (hexed l)) (drop_of_length-le s h)) ∙ e

-- a turn of the loop
pub hex-turn : (row s : List ℕ) (i : ℕ) {x y : ℕ} {w : List ℕ} → i < length s
    → x ≡ digit_of (get_or s i 0 / 16) → y ≡ digit_of (get_or s i 0) → sets row (2 * i + 1) (hexed (drop i s)) ≡ w
    → sets (set (set row (2 * i + 1) x) (2 * i + 2) y) (2 * (i + 1) + 1) (hexed (drop (i + 1) s)) ≡ w
hex-turn row s i h e f g = rw (e, f) (hex-more row s i h g)

-- ---- a line

drop-last : (x : ℕ) (s : List ℕ) → drop (length s) (x ∷ s) ≡ last_of x s ∷ []
unfolding last_of
drop-last x [] = refl
drop-last x (y ∷ s) = drop-last y s

-- the end of a line, as `strip_suffix` says it
last-is : (s : List ℕ) → pointwise eqb (drop (length s - 1) s) (13 ∷ []) ≡ eqb (last_of 0 s) 13
unfolding last_of
last-is [] = refl
last-is (x ∷ s) =
    let n : suc (length s) - 1 ≡ length s = omega arith in
    rw (n, drop-last x s) (go (eqb (last_of x s) 13))
  where
    go : (t : Bool) → t && true ≡ t
    go true = refl
    go false = refl

pub return-dropped : (s : List ℕ) (r : Option (Bor (List ℕ))) (d : Bor (List ℕ)) (whole : Bool) (L : List ℕ → Type 0)
    → whole ≡ true → d.now ≡ s
    → MatchOption r (pointwise eqb (drop (length s - 1) s) (13 ∷ []) ≡ false)
    (λ x. (pointwise eqb (drop (length s - 1) s) (13 ∷ []) ≡ true) × (x.now ≡ take (length s - 1) s) × L x.now)
    → (unwrap_or r d).now ≡ without_return whole s
unfolding without_return
return-dropped s None d whole L t e h = rw (t, ← last-is s, h) e
return-dropped s (Some x) d whole L t e (h, i, l) = rw (t, ← last-is s, h) i

pub taken_is : (i : Input) {rest line : List ℕ} {n at from len : ℕ} → rest ≡ rest_of i → n ≡ place_of 0x0A rest
    → line ≡ sets i.line i.len (take n rest) → at ≡ min (i.from + n) run_most → from ≡ min (at + 1) run_most
    → len ≡ min (i.len + n) line_kept
    → record { whole = ltb n (length rest); run = i.run; from = from; end = i.end; line = line; len = len } ≡ line_taken i
unfolding line_taken taken_to
taken_is i e f g h k l = rw (k, h, l, g, f, e)

-- so far: the runs that were read, and where they led
abbrev pub Reads : Input → Input → Type 0
Reads i next = (runs : List Run) × (next ≡ after_runs i runs)

module _ (i : Input) {next t r : Input} (reads : Reads i next) (e : t ≡ line_taken next) where
  pub run_more : r ≡ refilled t r.run r.end → Reads i r
  unfolding after_runs
  run_more f = (
    record { octets = r.run; count = r.end } ∷ reads.0,
    f ∙ ap (λ (x : Input). refilled x r.run r.end) (e ∙ ap line_taken reads.1),
  )

module _ (i : Input) {next : Input} (reads : Reads (anew i) next) where
  pub comes-ended : Arrives i next
  comes-ended = record { runs = reads.0; came = inr reads.1 }

  pub comes-whole : {t : Input} → t ≡ line_taken next → t.whole ≡ true → Arrives i t
  comes-whole e w = record { runs = reads.0; came = inl (w, e ∙ ap line_taken reads.1) }

-- ---- what is handed out

-- each command of the codec by itself: "as `decode` and `write`, with the frame limit N"
module _ (a : Asked) (room : ℕ) where
  pub decode-codes : coded command.decode a room ≡ decoded 78 (hex_in a) room
  unfolding coded is_decode limit_in is_limited
  decode-codes = refl

  pub write-codes : coded command.write a room ≡ written 78 (value_in a 1 % 256) (value_in a 2 % 256) (hex_in a) room
  unfolding coded is_decode limit_in is_limited octet_in
  write-codes = refl

  pub decode-n-codes : coded command.decode_n a room ≡ decoded (value_in a 1) (hex_in a) room
  unfolding coded is_decode limit_in is_limited
  decode-n-codes = refl

  pub write-n-codes : coded command.write_n a room
      ≡ written (value_in a 1) (value_in a 2 % 256) (value_in a 3 % 256) (hex_in a) room
  unfolding coded is_decode limit_in is_limited octet_in
  write-n-codes = refl

-- "`probe ROOM`", .. "`write-n N ADDRESS CONTROL HEX ROOM`": ROOM is the last word of each
pub room-last : map room_at (command.probe ∷ command.decode ∷ command.write ∷ command.decode_n ∷ command.write_n ∷ [])
    ≡ map (λ (c : ℕ). Some (length (word_at c (spelled command.kinds))))
    (command.probe ∷ command.decode ∷ command.write ∷ command.decode_n ∷ command.write_n ∷ [])
unfolding room_at word_at first_of behind_first place_of spelled
room-last = refl

module _ (c : ℕ) (a : Asked) (room : ℕ) {n : ℕ} {os o o' : List ℕ} {r : Result ℕ Refusal} {b : Bool}
    (l : n ≡ cond (is_limited c) (value_in a 1) limit_least) (h : os ≡ hex_in a) (e : b ≡ is_decode c) where
  pub hands-decode : b ≡ true → Hands (decoded n os room) o r o' → Hands (coded c a room) o r o'
  unfolding coded limit_in
  hands-decode t = let y : is_decode c ≡ true = sym e ∙ t in hands-is (rw (y, l, h))

  pub hands-write : {u v x y : ℕ} → b ≡ false → u ≡ cond (is_limited c) (value_in a 2) (value_in a 1) → x ≡ u % 256
      → v ≡ cond (is_limited c) (value_in a 3) (value_in a 2) → y ≡ v % 256
      → Hands (written n x y os room) o r o' → Hands (coded c a room) o r o'
  unfolding coded limit_in octet_in
  hands-write t eu ex ev ey = let z : is_decode c ≡ false = sym e ∙ t in hands-is (rw (z, ex, eu, ey, ev, l, h))

module _ (c : ℕ) (s : Scan) (a : Asked) (room : ℕ) {o o' : List ℕ} {r : Result ℕ Refusal} where
  pub hands-probe : c ≡ command.probe → Hands (probed s room) o r o' → Hands (hands_out c s a room) o r o'
  unfolding hands_out
  hands-probe e = hands-is (rw (eq-eqb c command.probe e))

  pub hands-coded : (c ≡ command.probe → ⊥) → Hands (coded c a room) o r o' → Hands (hands_out c s a room) o r o'
  unfolding hands_out
  hands-coded n = hands-is (rw (ne_eqb c command.probe n))

-- ---- the row

-- a row of 600 of which so many octets as ROOM says are lent: what they hold, and the row with what stands in them now
module _ (a : Asked) {n : ℕ} (f : n ≡ min (value_in a 3) 600) where
  lent-filled : take n (replicate 600 0xA5) ≡ lent_of (value_in a 3)
  unfolding lent_of
  lent-filled = rw f (take_min (value_in a 3) (replicate 600 0xA5))

  lent-back : {o r : List ℕ} → o ≡ r → o ++ drop n (replicate 600 0xA5) ≡ back_in (value_in a 3) r
  lent-back e = ap₂ (λ (x y : List ℕ). x ++ y) e (rw f (drop_min (value_in a 3) (replicate 600 0xA5)))

pub driven-said : (c : ℕ) (row : Row) (a : Asked) {os o' : List ℕ} {w : Row} {r : Response} {n : ℕ} → os ≡ hex_in a
    → n ≡ min (value_in a 3) 600 → Obeys (obeyed c row a.values os (take n (replicate 600 0xA5))) w r o'
    → Drives (row_says c row a) (value_in a 3) (record { row = w; answer = r; lent = o' ++ drop n (replicate 600 0xA5) })
driven-said c row a {os} {n = n} e f h = record {
  after = h.after ∙ ap (λ (x : Came). x.after) same;
  lent = lent-back a f (h.lent ∙ ap (λ (x : Came). x.lent) same);
}
  where
    same : obeyed c row a.values os (take n (replicate 600 0xA5)) ≡ row_says c row a
    same = ap₂ (λ (os o : List ℕ). obeyed c row a.values os o) e (lent-filled a f)

pub driven-row : (c : ℕ) (row : Row) (a : Asked) {n : ℕ} {d : Driven} → Drives (row_says c row a) n d → d.row ≡ row_driven c row a
unfolding row_driven
driven-row c row a h = ap (λ (x : After). x.row) h.after

-- ---- the scan by hand

-- "`report heard` · `report silent` an answer to it": heard is 1, silent 0
pub report-heard : (s : Scan) → scan_after command.report s 1 ≡ state_after (reported s true) s
unfolding scan_after
report-heard s = refl

pub report-silent : (s : Scan) → scan_after command.report s 0 ≡ state_after (reported s false) s
unfolding scan_after
report-silent s = refl

-- ---- the receiver

-- "`ROOM` is the length of the lent output, 0 to 600"
pub lent-room : (room : ℕ) → room ≤ 600 → length (lent_of room) ≡ room
unfolding lent_of
lent-room room h = omega (arith, h, length-take {A = ℕ} room (replicate 600 0xA5))

-- "the octets are lent to the receiver, with .. an output of ROOM octets"
module _ (h : Held) (a : Asked) {os o' : List ℕ} {g : Held} {r : Result Received Refusal} {n : ℕ} (e : os ≡ hex_in a)
    (f : n ≡ min (value_in a 3) 600)
    (t : Receives (received (value_in a 1) h os (length {A = ℕ} (take n (replicate 600 0xA5)))) h (take n (replicate 600 0xA5)) r g o') where
  same : received (value_in a 1) h os (length {A = ℕ} (take n (replicate 600 0xA5))) ≡ ear_call h a
  unfolding ear_call
  same = ap₂ (λ (os o : List ℕ). received (value_in a 1) h os (length o)) e (lent-filled a f)

  pub ear-held : g ≡ held_by (ear_call h a) h
  ear-held = t.held ∙ ap (λ (x : Answer Took). held_by x h) same

  pub ear-said : (ear : Ear) → Calls (ear_call h a) (value_in a 3)
      (record { ear = ear; heard = r; lent = o' ++ drop n (replicate 600 0xA5) })
  ear-said ear = record {
    answer = t.answer ∙ ap told_by same;
    count = t.count ∙ ap took_by same;
    lent = lent-back a f (t.octets ∙ ap₂ (λ (x : Answer Took) (o : List ℕ). out_by x o) same (lent-filled a f));
  }

module _ (c : ℕ) (h : Held) (a : Asked) where
  pub ear-fresh : c ≡ command.listen → fresh_ear ≡ ear_after c h a
  unfolding ear_after
  ear-fresh e = rw (eq-eqb c command.listen e)

  pub ear-called : (c ≡ command.listen → ⊥) → c ≡ command.octets → held_by (ear_call h a) h ≡ ear_after c h a
  unfolding ear_after
  ear-called n e = rw (ne_eqb c command.listen n, eq-eqb c command.octets e)

  pub ear-kept : (c ≡ command.listen → ⊥) → (c ≡ command.octets → ⊥) → h ≡ ear_after c h a
  unfolding ear_after
  ear-kept n m = rw (ne_eqb c command.listen n, ne_eqb c command.octets m)
