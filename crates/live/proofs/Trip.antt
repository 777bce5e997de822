-- The round trip on the line: frames that are written one behind the other, with a flag between two of them or more, come
-- out as they went in, in order, and nothing else does. Assumes nothing.
use mathlib.Core.Path.{◌≡◌, refl, sym, ap, ap₂, ◌∙◌}
use mathlib.Core.Bool.{true, false}
use mathlib.Core.List.{List, [], ◌∷◌, ◌++◌, append_assoc, append-nil}
use Prim.Native.Nat.{ℕ, zero, suc, ◌<◌}
use native.Mathlib.Nat.{not-suc-le-zero}
use native.Mathlib.Omega.{arith}
use lib.ListN.{length, replicate}
use Rattle.octets.specs.Octets.{holds}
use Rattle.refusal.specs.Answer.{gives}
use Rattle.refusal.proofs.Answers.{in-room}
use Rattle.fcs.specs.Check.{with_check}
use Rattle.limits.specs.Limits.{is_limit, frame_most}
use Rattle.frame.specs.Line.{flag, on_line, between}
use Rattle.frame.specs.Decode.{decoded}
use Rattle.frame.specs.Write.{line_of}
use Rattle.frame.proofs.Assembled.{length-with_check}
use Rattle.frame.proofs.Escapes.{on_line-long}
use Rattle.frame.proofs.Trip.{no_flag, inside-between, trip}
use Rattle.receiver.specs.Held.{places}
use Rattle.live.specs.Stretches.{stretches_after, stretches, answers_to, heard_line}
use Rattle.live.specs.Calls.{hand_outs}
use Rattle.live.specs.Sent.{Sent, sent, bodies, Fits, FitEach, lines_of, all_given}
use Rattle.live.proofs.Decoder.{it-is-the-decoder, stretch-open, stretch-closed}
use Rattle.live.proofs.Steps.{fresh}

module _ (N : ℕ) where
  answers-some : (p : List ℕ) (ps : List (List ℕ)) → 0 < length p
      → answers_to N (p ∷ ps) ≡ decoded N p (frame_most N) ∷ answers_to N ps
  unfolding answers_to
  answers-some [] ps h = absurd (not-suc-le-zero h)
  answers-some (x ∷ p) ps h = refl

  -- flags side by side
  idle : (n : ℕ) (s : List ℕ)
      → answers_to N (stretches_after [] (replicate n flag ++ s)) ≡ answers_to N (stretches_after [] s)
  unfolding answers_to stretches_after
  idle zero s = refl
  idle (suc n) s = idle n s

  module _ (l : is_limit N ≡ true) where
    frame-decoded : (b : List ℕ) → Fits N b → decoded N (on_line (with_check b)) (frame_most N) ≡ gives b
    unfolding line_of
    frame-decoded b fits =
        ap (λ (s : List ℕ). decoded N s (frame_most N)) (sym (inside-between (with_check b)))
        ∙ trip b fits.0 N l (frame_most N) fits.1 fits.2
        ∙ in-room b (frame_most N) (omega arith)

    -- with something behind them of which nothing is said
    frames-heard : (fs : List Sent) (rest : List ℕ) → FitEach N (bodies fs) → answers_to N (stretches_after [] rest) ≡ []
        → answers_to N (stretches_after [] (sent fs ++ rest)) ≡ all_given (bodies fs)
    unfolding sent bodies all_given FitEach
    frames-heard [] rest fit quiet = quiet
    frames-heard (f ∷ fs) rest fit quiet =
        let d : List ℕ = with_check f.body in
        let some : 0 < length (on_line d) = omega (arith, on_line-long d, length-with_check f.body) in
        ap (λ (s : List ℕ). answers_to N (stretches_after [] s))
        (append_assoc (replicate f.flags flag) (on_line d ++ flag ∷ sent fs) rest
        ∙ ap (λ (s : List ℕ). replicate f.flags flag ++ s) (append_assoc (on_line d) (flag ∷ sent fs) rest))
        ∙ idle f.flags (on_line d ++ flag ∷ (sent fs ++ rest))
        ∙ ap (answers_to N) (stretch-closed (on_line d) (sent fs ++ rest) (no_flag d))
        ∙ answers-some (on_line d) (stretches_after [] (sent fs ++ rest)) some
        ∙ ap₂ ◌∷◌ (frame-decoded f.body fit.0) (frames-heard fs rest fit.1 quiet)

    -- (d): frames behind a flag, with one flag between two of them or any number more; behind them any number of flags, and
    -- the beginning of something
    pub lines-and-rest : (fs : List Sent) (n : ℕ) (rest m : List ℕ) → FitEach N (bodies fs) → holds flag rest ≡ false
        → length m ≡ places → hand_outs N (fresh m) (flag ∷ (sent fs ++ (replicate n flag ++ rest))) ≡ all_given (bodies fs)
    unfolding heard_line stretches answers_to
    lines-and-rest fs n rest m fit f e =
        it-is-the-decoder N l m e (flag ∷ (sent fs ++ (replicate n flag ++ rest)))
        ∙ frames-heard fs (replicate n flag ++ rest) fit
        (idle n rest ∙ ap (answers_to N) (stretch-open [] rest f))

    pub lines-come-through : (fs : List Sent) (m : List ℕ) → FitEach N (bodies fs) → length m ≡ places
        → hand_outs N (fresh m) (flag ∷ sent fs) ≡ all_given (bodies fs)
    unfolding holds
    lines-come-through fs m fit e = rw append-nil at (lines-and-rest fs 0 [] m fit refl e)

-- each with its own two flags
ones : List (List ℕ) → List Sent
ones [] = []
ones (b ∷ bs) = record { flags = 1; body = b } ∷ ones bs

bodies-ones : (bs : List (List ℕ)) → bodies (ones bs) ≡ bs
unfolding bodies ones
bodies-ones [] = refl
bodies-ones (b ∷ bs) = ap (λ (l : List (List ℕ)). b ∷ l) (bodies-ones bs)

lines-sent : (bs : List (List ℕ)) → lines_of bs ≡ sent (ones bs)
unfolding lines_of line_of between sent ones
lines-sent [] = refl
lines-sent (b ∷ bs) =
    let d : List ℕ = with_check b in
    ap (λ (s : List ℕ). flag ∷ s)
    (append_assoc (on_line d) (flag ∷ []) (lines_of bs) ∙ ap (λ (s : List ℕ). on_line d ++ flag ∷ s) (lines-sent bs))

-- the lines as the writer gives them, one behind the other
pub written-lines : (N : ℕ) → is_limit N ≡ true → (bs : List (List ℕ)) (m : List ℕ) → FitEach N bs → length m ≡ places
    → hand_outs N (fresh m) (lines_of bs) ≡ all_given bs
unfolding hand_outs lines_of all_given FitEach bodies sent ones
written-lines N l [] m fit e = refl
written-lines N l (b ∷ bs) m fit e =
    ap (hand_outs N (fresh m)) (lines-sent (b ∷ bs))
    ∙ lines-come-through N l (record { flags = 0; body = b } ∷ ones bs) m (fit.0, rw (bodies-ones bs) fit.1) e
    ∙ ap (λ (cs : List (List ℕ)). all_given (b ∷ cs)) (bodies-ones bs)
