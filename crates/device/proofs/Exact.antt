-- Demand 1 for the device: each number is given exactly when 01 and 02 (iv) say, in 01's order, and any octets get a
-- number, silence or a frame. A number leaves the device and the buffer as they were, silence the buffer. Octets from the
-- line get the decoder's numbers with the link's frame limit first, at once. Assumes nothing.
use Rattle.std.proofs.Common.{Ok, Err, Some, None}
use mathlib.Core.Path.{◌≡◌, refl, sym, ap, ◌∙◌}
use mathlib.Core.Bool.{true, false, not}
use mathlib.Core.List.{List, [], ◌∷◌}
use mathlib.Core.Logic.Iff
use mathlib.Core.Logic.{◌↔◌, ◌⊎◌, inl, inr, ⊎_map, ⊎_elim}
use mathlib.Core.Option.{Option, none, some}
use Prim.Native.Nat.{ℕ, ◌<◌, ◌≤◌}
use borrow.Author.Tests.{ltb-true, ltb-false, lt-ltb, le-ltb, not-true, not-false}
use lib.ListN.{length}
use Rattle.octets.specs.Octets.{holds, ◌at_start_of◌}
use Rattle.refusal.specs.Answer.{Answer, gives, refuses, Clear, numbers_of}
use Rattle.refusal.specs.Numbers.{number_of}
use Rattle.refusal.specs.declared.Refusal.{Refusal}
use Rattle.refusal.proofs.Exactly.{TestsFor, exactly-tests, exactly-given, answered-all}
use Rattle.refusal.proofs.Answers.{gives-not-refuses, refuses-same, gives_same}
use Rattle.limits.specs.Limits.{limit_most, is_limit, frame_most}
use Rattle.frame.specs.Line.{broken, plain}
use Rattle.frame.specs.Decode.{body, right_check}
use Rattle.frame.proofs.Exact.{Sized, decode-6, decode-4, decode-1, decode-2, decode-3}
use Rattle.record.specs.declared.Device.{Device}
use Rattle.record.specs.Allowed.{limit_of, allowed_device}
use Rattle.link.specs.Link.{judged_frame}
use Rattle.device.specs.Judge.{Reaction, reaction_of, judge_rows, judged, heard, Said, said_of, size_of, told_of}
use Rattle.device.specs.Judge.{device_after, frame_at, buffer_after, Judges}
use Rattle.device.proofs.Only.{none-not-some, some_same}
use Rattle.device.proofs.Hearing.{Readable, hear-own-room, holds-six, heard-at-once, heard-readable}
use Rattle.device.proofs.Hearing.{heard-cases, by-decoder, by-either}

-- ---- a decoded frame

module _ (d : Device) (f : List ℕ) (room : ℕ) where
  by_rows : (k : ℕ) → judged d f room ≡ refuses k ↔ TestsFor k (judge_rows d room)
  unfolding judged
  by_rows k = exactly-tests k (judge_rows d room) (reaction_of (judged_frame d f))

  -- 6: "a device record handed in, not allowed"
  pub judge-6 : judged d f room ≡ refuses 6 ↔ allowed_device d ≡ false
  unfolding TestsFor numbers_of holds judge_rows
  judge-6 = (λ e. not-true _ ((by_rows 6).0 e), λ w. (by_rows 6).1 (ap not w))

  -- 5: "an answer buffer shorter than 76", and N - 2 for 76, and not 6
  pub judge-5 : judged d f room ≡ refuses 5 ↔ (allowed_device d ≡ true) × (room < frame_most (limit_of d))
  unfolding TestsFor numbers_of holds judge_rows
  judge-5 = (
    λ e. let g = (by_rows 5).0 e in (not-false _ g.0, ltb-true _ _ g.1),
    λ w. (by_rows 5).1 (ap not w.0, lt-ltb _ _ w.1),
  )

  -- an answer: neither; and it is what comes of the frame
  pub judge-answer : (x : Reaction) → judged d f room ≡ gives x
      ↔ (allowed_device d ≡ true) × (frame_most (limit_of d) ≤ room) × (reaction_of (judged_frame d f) ≡ x)
  unfolding judged Clear judge_rows
  judge-answer x = (
    λ e.
        let g = (exactly-given (judge_rows d room) (reaction_of (judged_frame d f)) x).0 e in
        (not-false _ g.0.0, ltb-false _ _ g.0.1.0, g.1),
    λ w.
        (exactly-given (judge_rows d room) (reaction_of (judged_frame d f)) x).1
        ((ap not w.0, (le-ltb _ _ w.1, tt)), w.2),
  )

  -- any frame gets an answer, or one of 6 and 5
  pub judge-all : (judged d f room ≡ gives (reaction_of (judged_frame d f)))
      ⊎ ((k : ℕ) × (holds k (6 ∷ 5 ∷ []) ≡ true) × (judged d f room ≡ refuses k))
  unfolding judged judge_rows numbers_of
  judge-all = answered-all (judge_rows d room) (reaction_of (judged_frame d f))

-- ---- octets from the line

module _ (d : Device) (line : List ℕ) (room : ℕ) where
  -- 4, 1, 2, 3: as the decoder gives them, with the frame limit of the link
  abbrev N : ℕ
  N = limit_of d

  pub hear-4 : heard d line room ≡ refuses 4 ↔ (is_limit N ≡ true) × (broken line ≡ true)
  unfolding holds
  hear-4 = Iff.trans (by-decoder d line room 4 refl) (decode-4 N line (frame_most limit_most))

  pub hear-1 : heard d line room ≡ refuses 1 ↔ (is_limit N ≡ true) × (broken line ≡ false) × (length (plain line) < 4)
  unfolding holds
  hear-1 = Iff.trans (by-decoder d line room 1 refl) (decode-1 N line (frame_most limit_most))

  pub hear-2 : heard d line room ≡ refuses 2
      ↔ (is_limit N ≡ true) × (broken line ≡ false) × (4 ≤ length (plain line)) × (N < length (plain line))
  unfolding holds
  hear-2 = Iff.trans (by-decoder d line room 2 refl) (decode-2 N line (frame_most limit_most))

  pub hear-3 : heard d line room ≡ refuses 3
      ↔ (is_limit N ≡ true) × Sized N line × (right_check (plain line) ≡ false)
  unfolding holds
  hear-3 = Iff.trans (by-decoder d line room 3 refl) (decode-3 N line (frame_most limit_most))

  -- 6: a frame limit that is none, before those numbers; any other record that is not allowed, after them
  pub hear-6 : heard d line room ≡ refuses 6
      ↔ (is_limit N ≡ false) ⊎ (Readable N line × (allowed_device d ≡ false))
  hear-6 =
      Iff.trans (by-either d line room 6) (
        ⊎_map (decode-6 N line (frame_most limit_most)).0 (λ w. (w.0, (judge-6 d _ room).0 w.1)),
        ⊎_map (decode-6 N line (frame_most limit_most)).1 (λ w. (w.0, (judge-6 d _ room).1 w.1)),
      )

  -- then 5
  pub hear-5 : heard d line room ≡ refuses 5 ↔ Readable N line × (allowed_device d ≡ true) × (room < frame_most N)
  hear-5 =
      Iff.trans (by-either d line room 5) (
        ⊎_elim (λ e. absurd (hear-own-room d line e))
            (λ w. let g = (judge-5 d _ room).0 w.1 in (w.0, g.0, g.1)),
        λ w. inr (w.0, (judge-5 d _ room).1 (w.1, w.2)),
      )

  -- an answer: none of the numbers; and it is what comes of the decoded frame
  pub hear-answer : (x : Reaction) → heard d line room ≡ gives x
      ↔ Readable N line × (allowed_device d ≡ true) × (frame_most N ≤ room)
      × (reaction_of (judged_frame d (body (plain line))) ≡ x)
  hear-answer x = (
    λ e.
        heard-cases d line room
        (λ w. let g = (judge-answer d _ room x).0 (sym (heard-readable d line room w) ∙ e) in (w, g.0, g.1, g.2))
        (λ j h q. absurd (gives-not-refuses (sym e ∙ heard-at-once d line room j q))),
    λ w. heard-readable d line room w.0 ∙ (judge-answer d _ room x).1 (w.1, w.2, w.3),
  )

  -- any octets get what comes of the frame in them, or one of 6, 4, 1, 2, 3, 5
  pub hear-all : (heard d line room ≡ gives (reaction_of (judged_frame d (body (plain line)))))
      ⊎ ((k : ℕ) × (holds k (6 ∷ 4 ∷ 1 ∷ 2 ∷ 3 ∷ 5 ∷ []) ≡ true) × (heard d line room ≡ refuses k))
  hear-all =
      heard-cases d line room
      (λ w.
      ⊎_elim (λ e. inl (heard-readable d line room w ∙ e))
      (λ (k, h, e). inr (k, holds-six k h, heard-readable d line room w ∙ e)) (judge-all d (body (plain line)) room))
      (λ k h e. inr (k, h, heard-at-once d line room k e))

-- ---- what a number and silence leave

module _ {d d' : Device} {o o' : List ℕ} {r : Said} where
  -- a number is the paper's, and leaves the device and every octet of the buffer as they were
  pub refused-keeps : (x : Answer Reaction) (k : Refusal) → r ≡ Err k → Judges x d o r d' o'
      → (x ≡ refuses (number_of k)) × (d' ≡ d) × (o' ≡ o)
  unfolding said_of told_of device_after buffer_after
  refused-keeps (gives x) k e w = absurd (gives-not-refuses (sym w.said ∙ ap said_of e))
  refused-keeps (refuses j) k e w =
      (ap refuses (refuses-same (sym w.said ∙ ap said_of e)), w.device, w.buffer)

  -- silence leaves every octet of the buffer as it was
  pub silence-keeps : (x : Answer Reaction) → r ≡ Ok None → Judges x d o r d' o' → o' ≡ o
  unfolding said_of told_of buffer_after size_of frame_at
  silence-keeps (gives x) e w = go x.frame (gives_same (sym w.said ∙ ap said_of e)) w.buffer
    where
      go : (f : Option (List ℕ)) → size_of f ≡ none → o' ≡ frame_at f o → o' ≡ o
      go none q b = b
      go (some f) q b = absurd (none-not-some (sym q))
  silence-keeps (refuses k) e w = w.buffer

  -- silence is an answer without a frame
  pub silence-tells : (x : Answer Reaction) → r ≡ Ok None → Judges x d o r d' o'
      → (y : Reaction) × (x ≡ gives y) × (y.frame ≡ none) × (d' ≡ y.device) × (o' ≡ o)
  unfolding said_of told_of buffer_after size_of frame_at device_after
  silence-tells (gives y) e w = go y.frame refl (gives_same (sym (ap said_of e) ∙ w.said)) w.buffer
    where
      go : (f : Option (List ℕ)) → y.frame ≡ f → none ≡ size_of f → o' ≡ frame_at f o
          → (z : Reaction) × (gives y ≡ gives z) × (z.frame ≡ none) × (d' ≡ z.device) × (o' ≡ o)
      go none q h b = (y, refl, q, w.device, b)
      go (some g) q h b = absurd (none-not-some h)
  silence-tells (refuses k) e w = absurd (gives-not-refuses (sym (ap said_of e) ∙ w.said))

  -- octets that are told stand at the start of the buffer, and are the frame that the answer gives
  pub frame-tells : (x : Answer Reaction) (n : ℕ) → r ≡ Ok (Some n) → Judges x d o r d' o'
      → (y : Reaction) × (g : List ℕ) × (x ≡ gives y) × (y.frame ≡ some g) × (n ≡ length g) × (d' ≡ y.device)
      × (o' ≡ g at_start_of o)
  unfolding said_of told_of buffer_after size_of frame_at device_after
  frame-tells (gives y) n e w = go y.frame refl (gives_same (sym (ap said_of e) ∙ w.said)) w.buffer
    where
      go : (f : Option (List ℕ)) → y.frame ≡ f → some n ≡ size_of f → o' ≡ frame_at f o
          → (z : Reaction) × (g : List ℕ) × (gives y ≡ gives z) × (z.frame ≡ some g) × (n ≡ length g)
          × (d' ≡ z.device) × (o' ≡ g at_start_of o)
      go none q h b = absurd (none-not-some (sym h))
      go (some g) q h b = (y, g, refl, q, some_same h, w.device, b)
  frame-tells (refuses k) n e w = absurd (gives-not-refuses (sym (ap said_of e) ∙ w.said))
