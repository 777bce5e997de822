-- A receiver in C: the block that is lent holds the record from call to call, all zeros is a fresh one, the number that
-- crosses tells what was handed out, and the calls made again and again hand out what the decoder says.
-- Assumes nothing.
use Rattle.std.proofs.Common.{Result}
use mathlib.Core.Path.{◌≡◌, refl, sym, ap, ap₂, ◌∙◌}
use mathlib.Core.Bool.{Bool, true, false, cond, not}
use mathlib.Core.List.{List, [], ◌∷◌, ◌++◌, flatten}
use mathlib.Core.Logic.{◌↔◌, ◌⊎◌, inl, inr, ⊎_elim, ⊎_map}
use Prim.Native.Nat.{ℕ, suc, ◌+◌, ◌-◌, ◌<◌, ◌≤◌}
use native.Mathlib.Omega.{arith}
use borrow.Author.Tests.{eqb-true, eq-eqb, ne_eqb, lt-ltb, le-ltb, not-false}
use lib.ListN.{length, take, drop, get_or, replicate, length-append, length-take}
use lib.Seq.{take_at, drop_at, get_or-drop}
use Rattle.octets.specs.Octets.{holds, OneOf, pair_of}
use Rattle.octets.proofs.Bounds.{pair_parts}
use Rattle.octets.proofs.Stores.{take-start}
use Rattle.octets.proofs.Words.{holds-exactly}
use Rattle.refusal.specs.declared.Refusal.{Refusal}
use Rattle.refusal.specs.Answer.{Answer, gives, refuses, counted, out_after}
use Rattle.limits.specs.Limits.{is_limit, Limited, frame_most}
use Rattle.frame.specs.Line.{flag}
use Rattle.receiver.specs.Held.{Held, Usable, places, stretch_says}
use Rattle.receiver.specs.Call.{Told, nothing, handed, Took, takes, received}
use Rattle.receiver.specs.Call.{told_counted, told_by, took_by, held_by, out_told, out_by}
use Rattle.receiver.specs.declared.Receiver.{Receiver}
use Rattle.receiver.specs.declared.Received.{Received}
use Rattle.block.specs.Block.{yes, yes_octet, marks_in, marks_octets, held_in, block_after, block_size, Blocks}
use Rattle.capi.specs.Crossing.{refusals, crossed, heard_crossed, Crosses, taken_after, Hears}
use Rattle.capi.proofs.Crosses.{low_told}
use Rattle.live.specs.Stretches.{heard_line}
use Rattle.live.specs.Calls.{Offer, Worked, told_outs, outs_by, with_outs, offers, run_again, fed, CallTells}
use Rattle.live.specs.Sent.{Sent, sent, bodies, FitEach, all_given, Written, AllWritten, written_bodies, written_lines}
use Rattle.live.specs.InC.{zeros, ReceiveTells, read_c}
use Rattle.live.specs.InC.{Lent, held_lent, with_outs_c, offers_c, fed_c}
use Rattle.live.proofs.Steps.{fresh, after_all-usable}
use Rattle.live.proofs.Answered.{numbers-said, frame-size, refused-6, refused-other, call-given}
use Rattle.live.proofs.Answered.{quiet_all, told-at-flag, receives-tells}
use Rattle.live.proofs.Cuts.{one-call, cuts}
use Rattle.live.proofs.Called.{called-decoder, called-lines-and-rest, written-called}

-- "All zeros is a fresh one"
pub zeros-fresh : held_in zeros ≡ fresh (replicate places 0)
unfolding held_in marks_in
zeros-fresh = refl

-- an octet that stands for a yes or a no is no exactly if 0
pub yes-exactly : (x : ℕ) → yes x ≡ false ↔ x ≡ 0
yes-exactly x = (λ e. eqb-true x 0 (not-false _ e), λ e. ap not (eq-eqb x 0 e))

yes-back : (b : Bool) → yes (yes_octet b) ≡ b
yes-back true = refl
yes-back false = refl

-- a record is read as it was written
pub marks-back : (r : Receiver) → r.count < 65536 → marks_in (marks_octets r) ≡ r
unfolding marks_in marks_octets
marks-back r few =
    rw (
      pair_parts r.count few,
      yes-back r.more,
      yes-back r.escaping,
      yes-back r.last,
      yes-back r.any,
      yes-back r.seen,
    )

module _ (g : Held) (u : Usable g) where
  -- a record that is not refused, with its store
  held_back : held_in (g.store ++ marks_octets g.marks) ≡ g
  unfolding held_in
  held_back =
      rw (
        take_at g.store (marks_octets g.marks) places u.0,
        drop_at g.store (marks_octets g.marks) places u.0,
        marks-back g.marks (omega (arith, u.1)),
      )

  block-long : length (g.store ++ marks_octets g.marks) ≡ block_size
  unfolding marks_octets
  block-long = omega (arith, length-append g.store (marks_octets g.marks), u.0)

module _ (N : ℕ) (b s : List ℕ) (room : ℕ) (size : length b ≡ block_size) where
  took-usable : {t : Took} → received N (held_in b) s room ≡ gives t → Usable t.held
  took-usable e =
      let (l, u, fits, these) = call-given N (held_in b) s room e in
      rw (← these, (one-call N room (held_in b) s fits).0) (after_all-usable (held_in b) _ u)

  -- the block after a call holds the record after it, so that a caller that lends it again goes on with that record
  pub block-holds :
      (held_in (block_after (received N (held_in b) s room) b) ≡ held_by (received N (held_in b) s room) (held_in b))
      × (length (block_after (received N (held_in b) s room) b) ≡ block_size)
  unfolding block_after held_by
  block-holds = go (received N (held_in b) s room) refl
    where
      go : (x : Answer Took) → received N (held_in b) s room ≡ x
          → (held_in (block_after x b) ≡ held_by x (held_in b)) × (length (block_after x b) ≡ block_size)
      go (gives t) e = let u = took-usable e in (held_back t.held u, block-long t.held u)
      go (refuses k) e = (refl, size)

  -- 6 for an N outside 78 to 260 or a count past 260, and for nothing else
  pub block-refused-6 : received N (held_in b) s room ≡ refuses 6
      ↔ (Limited N → ⊥) ⊎ (260 < pair_of (get_or b 260 0) (get_or b 261 0))
  unfolding held_in marks_in
  block-refused-6 =
      let r = refused-6 N (held_in b) s room in
      let full : length (take places b) ≡ 260 = omega (arith, length-take places b) in
      let low = get_or-drop places b 0 0 in
      let high = get_or-drop places b 1 0 in (
        λ e. ⊎_map (λ n. n) (⊎_elim (λ n. absurd (n full)) (λ m. omega arith)) (r.0 e),
        λ w. r.1 (⊎_map (λ n. n) (λ m. inr (omega arith)) w),
      )

-- the numbers that are handed out, each once
numbers-once : {k : ℕ} → holds k (4 ∷ 2 ∷ 4 ∷ 1 ∷ 2 ∷ 3 ∷ []) ≡ true → OneOf k (1 ∷ 2 ∷ 3 ∷ 4 ∷ [])
numbers-once {k} e =
    ⊎_elim (λ q. inr (inr (inr (inl q))))
    (⊎_elim (λ q. inr (inl q))
    (⊎_elim (λ q. inr (inr (inr (inl q))))
    (⊎_elim inl (⊎_elim (λ q. inr (inl q)) (⊎_elim (λ q. inr (inr (inl q))) absurd)))))
    ((holds-exactly k (4 ∷ 2 ∷ 4 ∷ 1 ∷ 2 ∷ 3 ∷ [])).0 e)

-- a call that was not refused
module _ (N : ℕ) (h : Held) (s : List ℕ) (room : ℕ) {u : Took} (e : received N h s room ≡ gives u) where
  these : takes N room h s ≡ u
  these = (call-given N h s room e).3

  -- handed out what was to be said of a record: a flag is taken
  told-said : {a : Answer (List ℕ)} → u.told ≡ handed a → (0 < u.count) × (g : Held) × (stretch_says N room g ≡ a)
  told-said q =
      let (k, n, f, said, opens) = told-at-flag N room h s (ap (λ (w : Took). w.told) these ∙ q) in
      let taken = sym (ap (λ (w : Took). w.count) these) ∙ n in
      (omega arith, _, sym said)

module _ (N : ℕ) (b s o : List ℕ) {n r t : ℕ} {b' o' : List ℕ} where
  -- a call that was not refused, by what it told
  module _ (u : Took) (e : received N (held_in b) s (length o) ≡ gives u) (count : t ≡ u.count)
      (block : b' ≡ u.held.store ++ marks_octets u.held.marks) where
    quiet-tells : u.told ≡ nothing → r ≡ 0 → o' ≡ o → ReceiveTells (gives u) b s o n r b' o' t
    quiet-tells q number octets =
        let all = count ∙ quiet_all N (held_in b) s (length o) e q in (
          λ z. record { took = u; answer = refl; told = q; count = (count, all); block = block; octets = octets },
          λ p l. absurd (omega arith),
          λ l. absurd (omega arith),
        )

    frame-tells : (f : List ℕ) → u.told ≡ handed (gives f) → Crosses (gives f) o r o'
        → ReceiveTells (gives u) b s o n r b' o' t
    unfolding crossed counted
    frame-tells f q c =
        let (n, g, said) = told-said N (held_in b) s (length o) e q in
        let some : 0 < t = omega arith in
        let size = frame-size N (length o) g said in
        let limit = (call-given N (held_in b) s (length o) e).0 in
        let number = c.number in (
          λ z. absurd (omega arith),
          λ p l.
              let (this, long, octets) = low_told (gives f) c l in
              record {
                took = u;
                answer = refl;
                told = q ∙ ap handed this;
                size = long;
                count = (count, some);
                block = block;
                octets = octets;
              },
          λ l. absurd (omega arith),
        )

    number-tells : (k : ℕ) → u.told ≡ handed (refuses k) → Crosses (refuses k) o r o'
        → ReceiveTells (gives u) b s o n r b' o' t
    unfolding crossed counted out_after
    number-tells k q c =
        let (n, g, said) = told-said N (held_in b) s (length o) e q in
        let some : 0 < t = omega arith in
        let fits = (call-given N (held_in b) s (length o) e).2 in
        let among = numbers-once (numbers-said N (length o) g fits said) in
        let number = c.number in
        let same : k ≡ r - refusals = omega arith in (
          λ z. absurd (omega arith),
          λ p l. absurd (omega arith),
          λ l.
              inl (rw (← same)
              (record {
                among = among;
                took = u;
                answer = refl;
                told = q;
                count = (count, some);
                block = block;
                octets = c.octets;
              })),
        )

    took-tells : (d : Told (List ℕ)) → u.told ≡ d → r ≡ heard_crossed (gives (told_counted d)) → o' ≡ out_told d o
        → ReceiveTells (gives u) b s o n r b' o' t
    unfolding heard_crossed told_counted out_told
    took-tells nothing q number octets = quiet-tells q number octets
    took-tells (handed (gives f)) q number octets = frame-tells f q (record { number = number; octets = octets })
    took-tells (handed (refuses k)) q number octets = number-tells k q (record { number = number; octets = octets })

  -- a call that was
  declined-tells : (k : ℕ) → received N (held_in b) s (length o) ≡ refuses k → r ≡ refusals + k → t ≡ n → b' ≡ b
      → o' ≡ o → ReceiveTells (refuses k) b s o n r b' o' t
  declined-tells k e number count block octets =
      let among : OneOf k (5 ∷ 6 ∷ []) = ⊎_map (λ q. q) inl (refused-other N (held_in b) s (length o) e) in
      let same : k ≡ r - refusals = omega arith in (
        λ z. absurd (omega arith),
        λ p l. absurd (omega arith),
        λ l. inr (rw (← same) (record { among = among; answer = refl; block = block; octets = octets; count = count })),
      )

  -- 0: nothing was handed out; below 0x10000: a frame of so many octets, at the start of the output; from there on a
  -- number, of a stretch (1 to 4) or of the call (5, 6), which then took and changed nothing
  pub receive-tells : Hears (received N (held_in b) s (length o)) b o n r b' o' t
      → ReceiveTells (received N (held_in b) s (length o)) b s o n r b' o' t
  unfolding heard_crossed told_by taken_after block_after out_by
  receive-tells = go (received N (held_in b) s (length o)) refl
    where
      go : (x : Answer Took) → received N (held_in b) s (length o) ≡ x → Hears x b o n r b' o' t
          → ReceiveTells x b s o n r b' o' t
      go (gives u) e c = took-tells u e c.taken c.block u.told refl c.number c.octets
      go (refuses k) e c = declined-tells k e c.number c.taken c.block c.octets

module _ (N : ℕ) where
  -- calls with a block are those with the record that it holds, and it stays a block
  pub offered-holds : (b s : List ℕ) (cs : List Offer) → length b ≡ block_size
      → (held_lent (offers_c N b s cs) ≡ offers N (held_in b) s cs) × (length (offers_c N b s cs).block ≡ block_size)
  unfolding offers_c with_outs_c offers with_outs
  offered-holds b s [] size = (refl, size)
  offered-holds b s (c ∷ cs) size =
      let s' : List ℕ = take c.octets s in
      let a : Answer Took = received N (held_in b) s' c.room in
      let held = block-holds N b s' c.room size in
      let less = offered-holds (block_after a b) (drop (took_by a) s) cs held.1 in (
        ap (with_outs (outs_by a))
            (less.0 ∙ ap (λ (h : Held). offers N h (drop (took_by a) s) cs) held.0),
        less.1,
      )

  pub fed-holds : (room : ℕ) (b : List ℕ) (rs : List (List ℕ)) → length b ≡ block_size
      → (held_lent (fed_c N room b rs) ≡ fed N room (held_in b) rs) × (length (fed_c N room b rs).block ≡ block_size)
  unfolding fed_c fed
  fed-holds room b [] size = (refl, size)
  fed-holds room b (r ∷ rs) size =
      let k : List Offer = run_again (suc (length r)) (length r) room in
      let w : Lent = offers_c N b r k in
      let first = offered-holds b r k size in
      let less = fed-holds room w.block rs first.1 in
      let front : Worked → Worked → Worked =
      λ u v. record { held = v.held; left = u.left ++ v.left; outs = u.outs ++ v.outs } in (
        ap (front (held_lent w)) less.0
            ∙ ap (λ (u : Worked). front u (fed N room u.held rs)) first.0,
        less.1,
      )

  -- (a), in C: from a block of zeros, runs of any length hand out what the decoder says, and no octet is left
  pub c-decoder : is_limit N ≡ true → (room : ℕ) → frame_most N ≤ room → (rs : List (List ℕ))
      → ((fed_c N room zeros rs).outs ≡ heard_line N (flatten rs)) × ((fed_c N room zeros rs).left ≡ [])
  c-decoder limit room fits rs =
      let held : held_lent (fed_c N room zeros rs) ≡ fed N room (fresh (replicate places 0)) rs =
      (fed-holds room zeros rs refl).0 ∙ ap (λ (h : Held). fed N room h rs) zeros-fresh in
      let all = called-decoder N limit (replicate places 0) refl room fits rs in
      (ap (λ (w : Worked). w.outs) held ∙ all.0, ap (λ (w : Worked). w.left) held ∙ all.1)

-- what is read of a number that crosses
module _ (o : List ℕ) where
  read-frame : (r : ℕ) → 0 < r → r < refusals → read_c r o ≡ gives (take r o) ∷ []
  unfolding read_c
  read-frame r some few = rw (ne_eqb r 0 (λ e. omega arith), lt-ltb r refusals few)

  read_above : (k : ℕ) → read_c (refusals + k) o ≡ cond (holds k (1 ∷ 2 ∷ 3 ∷ 4 ∷ [])) (refuses k ∷ []) []
  unfolding read_c
  read_above k =
      let n : refusals + k - refusals ≡ k = omega arith in
      rw (ne_eqb (refusals + k) 0 (λ e. omega arith), le-ltb (refusals + k) refusals (omega arith), n)

module _ (N : ℕ) (h : Held) (s o : List ℕ) (r : ℕ) (o' : List ℕ) where
  read_told : (u : Took) → received N h s (length o) ≡ gives u → (d : Told (List ℕ)) → u.told ≡ d
      → r ≡ heard_crossed (gives (told_counted d)) → o' ≡ out_told d o → read_c r o' ≡ told_outs d
  unfolding heard_crossed told_counted out_told told_outs crossed counted out_after read_c
  read_told u e nothing q number octets = rw number
  read_told u e (handed (gives f)) q number octets =
      let (n, g, said) = told-said N h s (length o) e q in
      let size = frame-size N (length o) g said in
      let limit = (call-given N h s (length o) e).0 in
      let these : take r o' ≡ f = rw (number, octets) (take-start f o) in
      read-frame o' r (omega arith) (omega arith) ∙ ap (λ (l : List ℕ). gives l ∷ []) these
  read_told u e (handed (refuses k)) q number octets =
      let (n, g, said) = told-said N h s (length o) e q in
      let fits = (call-given N h s (length o) e).2 in
      let among = (holds-exactly k (1 ∷ 2 ∷ 3 ∷ 4 ∷ [])).1 (numbers-once (numbers-said N (length o) g fits said)) in
      ap (λ (j : ℕ). read_c j o') number ∙ read_above o' k ∙ rw among

  read-refused : (k : ℕ) → received N h s (length o) ≡ refuses k → r ≡ refusals + k → read_c r o' ≡ []
  unfolding holds
  read-refused k e number =
      ap (λ (j : ℕ). read_c j o') number
      ∙ read_above o' k
      ∙ ⊎_elim (λ q. rw q) (λ q. rw q) (refused-other N h s (length o) e)

  read-crossed : r ≡ heard_crossed (told_by (received N h s (length o))) → o' ≡ out_by (received N h s (length o)) o
      → read_c r o' ≡ outs_by (received N h s (length o))
  unfolding heard_crossed told_by out_by outs_by
  read-crossed = go (received N h s (length o)) refl
    where
      go : (x : Answer Took) → received N h s (length o) ≡ x → r ≡ heard_crossed (told_by x) → o' ≡ out_by x o
          → read_c r o' ≡ outs_by x
      go (gives u) e number octets = read_told u e u.told refl number octets
      go (refuses k) e number octets = read-refused k e number

-- what a caller reads is what is handed out
pub c-reads : (N : ℕ) (b s o : List ℕ) {n r t : ℕ} {b' o' : List ℕ}
    → Hears (received N (held_in b) s (length o)) b o n r b' o' t
    → read_c r o' ≡ outs_by (received N (held_in b) s (length o))
c-reads N b s o {r} {o' = o'} w = read-crossed N (held_in b) s o r o' w.number w.octets

module _ (N : ℕ) (limit : is_limit N ≡ true) where
  -- (b), in C: however octets are cut into runs, with any block that is not refused
  pub c-cuts : {room room' : ℕ} → frame_most N ≤ room → frame_most N ≤ room' → (b : List ℕ) (rs qs : List (List ℕ))
      → length b ≡ block_size → Usable (held_in b) → flatten rs ≡ flatten qs
      → held_lent (fed_c N room b rs) ≡ held_lent (fed_c N room' b qs)
  c-cuts {room} {room'} fits fits' b rs qs size usable e =
      (fed-holds N room b rs size).0
      ∙ cuts N limit fits fits' (held_in b) rs qs usable e
      ∙ sym (fed-holds N room' b qs size).0

  module _ (room : ℕ) (fits : frame_most N ≤ room) (rs : List (List ℕ)) where
    zeros-outs : (fed_c N room zeros rs).outs ≡ (fed N room (fresh (replicate places 0)) rs).outs
    zeros-outs =
        ap (λ (w : Worked). w.outs)
        ((fed-holds N room zeros rs refl).0 ∙ ap (λ (h : Held). fed N room h rs) zeros-fresh)

    -- (d), in C: frames behind a flag, with one flag between two of them or any number more; behind them any number of
    -- flags, and the beginning of something
    pub c-lines : (fs : List Sent) (n : ℕ) (rest : List ℕ) → FitEach N (bodies fs) → holds flag rest ≡ false
        → flatten rs ≡ flag ∷ (sent fs ++ (replicate n flag ++ rest)) → (fed_c N room zeros rs).outs ≡ all_given (bodies fs)
    c-lines fs n rest fit f e =
        zeros-outs ∙ called-lines-and-rest N limit (replicate places 0) refl room fits rs fs n rest fit f e

    -- and from the writer's answers
    pub c-written : (ws : List Written) → AllWritten N ws → flatten rs ≡ flatten (written_lines ws)
        → (fed_c N room zeros rs).outs ≡ all_given (written_bodies ws)
    c-written ws all e = zeros-outs ∙ written-called N limit (replicate places 0) refl room fits rs ws all e

-- what a block holds, octet by octet: the count, low octet first, and for each yes or no an octet that is no exactly if 0
pub block_words : (b : List ℕ) → ((held_in b).marks.count ≡ pair_of (get_or b 260 0) (get_or b 261 0))
    × ((held_in b).marks.more ≡ false ↔ get_or b 262 0 ≡ 0) × ((held_in b).marks.escaping ≡ false ↔ get_or b 263 0 ≡ 0)
    × ((held_in b).marks.last ≡ false ↔ get_or b 264 0 ≡ 0) × ((held_in b).marks.any ≡ false ↔ get_or b 265 0 ≡ 0)
    × ((held_in b).marks.seen ≡ false ↔ get_or b 266 0 ≡ 0) × ((held_in b).store ≡ take 260 b)
unfolding held_in marks_in
block_words b =
    let at : (i : ℕ) → get_or (drop places b) i 0 ≡ get_or b (places + i) 0 = λ i. get_or-drop places b i 0 in (
      ap₂ pair_of (at 0) (at 1),
      rw (at 2) (yes-exactly (get_or b 262 0)),
      rw (at 3) (yes-exactly (get_or b 263 0)),
      rw (at 4) (yes-exactly (get_or b 264 0)),
      rw (at 5) (yes-exactly (get_or b 265 0)),
      rw (at 6) (yes-exactly (get_or b 266 0)),
      refl,
    )

-- a yes is written as 1, and a no as 0
pub yes-written : (yes_octet true ≡ 1) × (yes_octet false ≡ 0)
yes-written = (refl, refl)

-- what a caller of the block's own function learns: as of `receive`, with the record that the block holds; and the block after it
pub block-tells : (N : ℕ) (b s o : List ℕ) {r : Result Received Refusal} {b' o' : List ℕ}
    → Blocks (received N (held_in b) s (length o)) b o r b' o'
    → CallTells (received N (held_in b) s (length o)) (held_in b) s o r
    (held_by (received N (held_in b) s (length o)) (held_in b)) o'
    × (b' ≡ block_after (received N (held_in b) s (length o)) b)
block-tells N b s o w = (
  receives-tells N (held_in b) s o
      (record { answer = w.answer; count = w.count; held = refl; octets = w.octets }),
  w.block,
)
