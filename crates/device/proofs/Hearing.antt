-- How what is heard comes of decoding and of judging: the decoder's number at once, else a readable line judged; and
-- the decoder has room in its own buffer for every frame. Assumes nothing.
use mathlib.Core.Path.{◌≡◌, refl, sym, ◌∙◌}
use mathlib.Core.Bool.{Bool, true, false, cond}
use mathlib.Core.List.{List, [], ◌∷◌}
use mathlib.Core.Logic.{◌↔◌, ◌⊎◌, inl, inr, ⊎_elim}
use Prim.Native.Nat.{ℕ, ◌≤◌}
use native.Mathlib.Omega.{arith}
use lib.Dec.{eqb}
use lib.ListN.{length, length-take}
use Rattle.octets.specs.Octets.{holds}
use Rattle.octets.proofs.Words.{true-not-false}
use Rattle.refusal.specs.Answer.{gives, refuses, numbers_of}
use Rattle.refusal.proofs.Exactly.{answered-all}
use Rattle.refusal.proofs.Answers.{gives-not-refuses, refuses-same}
use Rattle.limits.specs.Limits.{limit_most, is_limit, frame_most}
use Rattle.limits.proofs.Exactly.{is-limit-exactly}
use Rattle.frame.specs.Line.{plain}
use Rattle.frame.specs.Decode.{body, right_check}
use Rattle.frame.proofs.Exact.{Sized, decode-5, decode-frame, decode-all}
use Rattle.record.specs.declared.Device.{Device}
use Rattle.record.specs.Allowed.{limit_of}
use Rattle.link.specs.Link.{judged_frame}
use Rattle.device.specs.Judge.{reaction_of, judge_rows, judged, heard_by, decoded_here, heard}

-- ---- the numbers of both

module _ (k n : ℕ) where
  skip : (ns : List ℕ) → holds k ns ≡ true → holds k (n ∷ ns) ≡ true
  unfolding holds
  skip ns h = rw h (go (eqb n k))
    where
      go : (b : Bool) → cond b true true ≡ true
      go true = refl
      go false = refl

  keep : (ns ms : List ℕ) → (holds k ns ≡ true → holds k ms ≡ true) → holds k (n ∷ ns) ≡ true → holds k (n ∷ ms) ≡ true
  unfolding holds
  keep ns ms f = go (eqb n k)
    where
      go : (b : Bool) → cond b true (holds k ns) ≡ true → cond b true (holds k ms) ≡ true
      go true h = refl
      go false h = f h

pub holds-six : (k : ℕ) → holds k (6 ∷ 5 ∷ []) ≡ true → holds k (6 ∷ 4 ∷ 1 ∷ 2 ∷ 3 ∷ 5 ∷ []) ≡ true
holds-six k = keep k 6 _ _ (λ h. skip k 4 _ (skip k 1 _ (skip k 2 _ (skip k 3 _ h))))

module _ (d : Device) (f : List ℕ) (room : ℕ) where
  -- judging gives no number but 6 and 5
  judge-number : (k : ℕ) → judged d f room ≡ refuses k → holds k (6 ∷ 5 ∷ []) ≡ true
  unfolding judged judge_rows numbers_of
  judge-number k e = go (answered-all (judge_rows d room) (reaction_of (judged_frame d f)))
    where
      go : (judged d f room ≡ gives (reaction_of (judged_frame d f)))
          ⊎ ((j : ℕ) × (holds j (6 ∷ 5 ∷ []) ≡ true) × (judged d f room ≡ refuses j)) → holds k (6 ∷ 5 ∷ []) ≡ true
      go (inl g) = absurd (gives-not-refuses (sym g ∙ e))
      go (inr (j, h, g)) = rw (refuses-same (sym e ∙ g)) h

-- ---- the decoder

-- a line that can be read with the frame limit N: no number of the decoder
abbrev pub Readable : ℕ → List ℕ → Type 0
Readable N line = (is_limit N ≡ true) × Sized N line × (right_check (plain line) ≡ true)

body-short : (N : ℕ) (line : List ℕ) → is_limit N ≡ true → length (plain line) ≤ N
    → length (body (plain line)) ≤ frame_most limit_most
unfolding body
body-short N line ok h = simp length-take (omega (arith, ((is-limit-exactly N).0 ok).1))

module _ (d : Device) (line : List ℕ) where
  -- the decoder has room in its own buffer for every frame: it never says 5 there
  pub hear-own-room : decoded_here d line ≡ refuses 5 → ⊥
  hear-own-room e =
      let (ok, s, c, r) = (decode-5 (limit_of d) line (frame_most limit_most)).0 e in
      omega (arith, body-short (limit_of d) line ok s.2)

  readable-decoded : Readable (limit_of d) line → decoded_here d line ≡ gives (body (plain line))
  readable-decoded w =
      (decode-frame (limit_of d) line (frame_most limit_most) (body (plain line))).1
      (w.0, w.1, w.2, body-short (limit_of d) line w.0 w.1.2, refl)

module _ (d : Device) (line : List ℕ) (room : ℕ) where
  -- a number of the decoder is given at once
  pub heard-at-once : (k : ℕ) → decoded_here d line ≡ refuses k → heard d line room ≡ refuses k
  unfolding heard heard_by
  heard-at-once k e = rw e

  -- a readable line is judged
  pub heard-readable : Readable (limit_of d) line → heard d line room ≡ judged d (body (plain line)) room
  unfolding heard heard_by
  heard-readable w = rw (readable-decoded d line w)

  -- octets from the line are a readable line, or get a number of the decoder
  pub heard-cases : {A : Type 0} → (Readable (limit_of d) line → A)
      → ((k : ℕ) → holds k (6 ∷ 4 ∷ 1 ∷ 2 ∷ 3 ∷ 5 ∷ []) ≡ true → decoded_here d line ≡ refuses k → A) → A
  heard-cases {A} read not-read = go (decode-all (limit_of d) line (frame_most limit_most))
    where
      go : (decoded_here d line ≡ gives (body (plain line)))
          ⊎ ((k : ℕ) × (holds k (6 ∷ 4 ∷ 1 ∷ 2 ∷ 3 ∷ 5 ∷ []) ≡ true) × (decoded_here d line ≡ refuses k)) → A
      go (inl e) =
          let w = (decode-frame (limit_of d) line (frame_most limit_most) (body (plain line))).0 e in
          read (w.0, w.1, w.2)
      go (inr (k, h, e)) = not-read k h e

  -- a number that judging does not give is the decoder's
  pub by-decoder : (k : ℕ) → holds k (6 ∷ 5 ∷ []) ≡ false
      → heard d line room ≡ refuses k ↔ decoded_here d line ≡ refuses k
  by-decoder k other = (
    λ e.
        heard-cases
        (λ w.
        absurd (true-not-false (sym (judge-number d (body (plain line)) room k (sym (heard-readable w) ∙ e)) ∙ other)))
        (λ j h q. rw (refuses-same (sym e ∙ heard-at-once j q)) q),
    heard-at-once k,
  )

  -- any other is the decoder's, or judging gives it to a readable line
  pub by-either : (k : ℕ) → heard d line room ≡ refuses k
      ↔ (decoded_here d line ≡ refuses k) ⊎ (Readable (limit_of d) line × (judged d (body (plain line)) room ≡ refuses k))
  by-either k = (
    λ e.
        heard-cases (λ w. inr (w, sym (heard-readable w) ∙ e))
        (λ j h q. inl (rw (refuses-same (sym e ∙ heard-at-once j q)) q)),
    ⊎_elim (heard-at-once k) (λ w. heard-readable w.0 ∙ w.1),
  )
