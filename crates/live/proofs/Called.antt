-- The laws of the live line, over the public call made again and again with what it left: from a fresh receiver, with
-- any store of 260 places, a frame limit N and outputs of at least N - 2. And calls with other limits over the same octets.
-- Assumes nothing.
use mathlib.Core.Path.{◌≡◌, refl, sym, ap, ap₂, ◌∙◌}
use mathlib.Core.Bool.{Bool, true, false, cond}
use mathlib.Core.List.{List, [], ◌∷◌, ◌++◌, flatten}
use mathlib.Core.Logic.{inl, inr}
use Prim.Native.Nat.{ℕ, suc, ◌<◌, ◌≤◌}
use native.Mathlib.Nat.{not-suc-le-zero}
use native.Mathlib.Omega.{arith}
use lib.ListN.{length, replicate}
use Rattle.octets.specs.Octets.{Octets, holds}
use Rattle.octets.proofs.Words.{holds-tail}
use Rattle.refusal.specs.Answer.{Answer, gives}
use Rattle.limits.specs.Limits.{is_limit, frame_most}
use Rattle.limits.proofs.Exactly.{is-limit-exactly}
use Rattle.frame.specs.Line.{flag}
use Rattle.frame.specs.Decode.{decoded}
use Rattle.frame.specs.Write.{line_of, written}
use Rattle.frame.proofs.Exact.{write-line}
use Rattle.receiver.specs.Held.{Held, Usable, places, after_flag, after_octet, closes, stretch_says}
use Rattle.receiver.specs.Call.{nothing, handed, further, takes}
use Rattle.receiver.proofs.After.{after-flag, closes-other}
use Rattle.live.specs.Stretches.{heard_line}
use Rattle.live.specs.Calls.{after_all, hand_outs, Offer, Worked, offers, fed, Roomy, Alike, Likewise}
use Rattle.live.specs.Sent.{Sent, sent, bodies, Fits, FitEach, lines_of, all_given}
use Rattle.live.specs.Sent.{Written, written_body, AllWritten, written_bodies, written_lines}
use Rattle.live.proofs.Steps.{fresh, closes-flag, other-first}
use Rattle.live.proofs.Answered.{says-room}
use Rattle.live.proofs.Cuts.{all-passed, fed-all}
use Rattle.live.proofs.Decoder.{some, says-decoded, it-is-the-decoder, holds-always}
use Rattle.live.proofs.Noise.{Resynchronised, resynchronised}
use Rattle.live.proofs.Trip.{lines-and-rest, lines-come-through, written-lines}

pub fresh-usable : (m : List ℕ) → length m ≡ places → Usable (fresh m)
fresh-usable m store = (store, omega arith)

module _ (N : ℕ) (limit : is_limit N ≡ true) where
  -- what the calls hand out is what the octets do, one by one
  fed-outs : (room : ℕ) → frame_most N ≤ room → (h : Held) (rs : List (List ℕ)) → Usable h
      → (fed N room h rs).outs ≡ hand_outs N h (flatten rs)
  fed-outs room fits h rs u = ap (λ (w : Worked). w.outs) (fed-all N limit room fits h rs u)

  fed-held : (room : ℕ) → frame_most N ≤ room → (h : Held) (rs : List (List ℕ)) → Usable h
      → (fed N room h rs).held ≡ after_all h (flatten rs)
  fed-held room fits h rs u = ap (λ (w : Worked). w.held) (fed-all N limit room fits h rs u)

  module _ (m : List ℕ) (store : length m ≡ places) where
    -- octets offered in any way that leaves none
    pub offered-decoder : (s : List ℕ) (cs : List Offer) → Roomy N cs → (offers N (fresh m) s cs).left ≡ []
        → (offers N (fresh m) s cs).outs ≡ heard_line N s
    offered-decoder s cs roomy none =
        ap (λ (w : Worked). w.outs) (all-passed N limit (fresh m) s cs (fresh-usable m store) roomy none)
        ∙ it-is-the-decoder N limit m store s

    module _ (room : ℕ) (fits : frame_most N ≤ room) (rs : List (List ℕ)) where
      fresh-outs : (fed N room (fresh m) rs).outs ≡ hand_outs N (fresh m) (flatten rs)
      fresh-outs = fed-outs room fits (fresh m) rs (fresh-usable m store)

      -- (a): runs of any length; no octet is left
      pub called-decoder :
          ((fed N room (fresh m) rs).outs ≡ heard_line N (flatten rs)) × ((fed N room (fresh m) rs).left ≡ [])
      called-decoder = (
        fresh-outs ∙ it-is-the-decoder N limit m store (flatten rs),
        ap (λ (w : Worked). w.left) (fed-all N limit room fits (fresh m) rs (fresh-usable m store)),
      )

      -- (d): frames behind a flag, with one flag between two of them or any number more
      pub called-lines : (fs : List Sent) → FitEach N (bodies fs) → flatten rs ≡ flag ∷ sent fs
          → (fed N room (fresh m) rs).outs ≡ all_given (bodies fs)
      called-lines fs fit e =
          fresh-outs ∙ ap (hand_outs N (fresh m)) e ∙ lines-come-through N limit fs m fit store

      -- and behind them any number of flags, and the beginning of something
      pub called-lines-and-rest : (fs : List Sent) (n : ℕ) (rest : List ℕ) → FitEach N (bodies fs) → holds flag rest ≡ false
          → flatten rs ≡ flag ∷ (sent fs ++ (replicate n flag ++ rest))
          → (fed N room (fresh m) rs).outs ≡ all_given (bodies fs)
      called-lines-and-rest fs n rest fit f e =
          fresh-outs ∙ ap (hand_outs N (fresh m)) e ∙ lines-and-rest N limit fs n rest m fit f store

      -- lines, each with its own two flags
      pub called-lines-of : (bs : List (List ℕ)) → FitEach N bs → flatten rs ≡ lines_of bs
          → (fed N room (fresh m) rs).outs ≡ all_given bs
      called-lines-of bs fit e =
          fresh-outs ∙ ap (hand_outs N (fresh m)) e ∙ written-lines N limit bs m fit store

  -- (c): noise, a flag and s, from any record that is not refused, beside the flag and s from a fresh one
  module _ (room room' : ℕ) (fits : frame_most N ≤ room) (fits' : frame_most N ≤ room') where
    pub called-noise : (h : Held) (m noise s : List ℕ) (rs qs : List (List ℕ)) → Usable h → length m ≡ places
        → holds flag noise ≡ false → flatten rs ≡ noise ++ flag ∷ s → flatten qs ≡ flag ∷ s
        → (again : Resynchronised N h (fresh m) noise s)
        × ((fed N room h rs).outs ≡ again.first ++ (fed N room' (fresh m) qs).outs)
        × Alike (fed N room h rs).held (fed N room' (fresh m) qs).held
    called-noise h m noise s rs qs u store f e e' =
        let again = resynchronised N h m noise s u store f in
        let v = fresh-usable m store in (
          again,
          fed-outs room fits h rs u
              ∙ ap (hand_outs N h) e
              ∙ again.outs
              ∙ ap (λ (l : List ℕ). again.first ++ hand_outs N (fresh m) l) (sym e')
              ∙ ap (λ (l : List (Answer (List ℕ))). again.first ++ l) (sym (fed-outs room' fits' (fresh m) qs v)),
          rw (fed-held room fits h rs u, fed-held room' fits' (fresh m) qs v, e, e') again.alike,
        )

module _ (N : ℕ) where
  -- a line that the writer gave is the frame's, which is within the limit
  written-fits : (w : Written) → Octets (written_body w)
      → written N w.address w.control w.payload w.room ≡ gives w.line
      → Fits N (written_body w) × (line_of (written_body w) ≡ w.line)
  written-fits w os e =
      let f = (write-line N w.address w.control w.payload w.room w.line).0 e in
      let l = (is-limit-exactly N).0 f.0 in
      let few = f.1 in
      ((os, omega arith, omega arith), f.3)

  all-written : (ws : List Written) → AllWritten N ws
      → FitEach N (written_bodies ws) × (flatten (written_lines ws) ≡ lines_of (written_bodies ws))
  unfolding AllWritten FitEach written_bodies written_lines lines_of flatten
  all-written [] all = (tt, refl)
  all-written (w ∷ ws) all =
      let f = written-fits w all.0 all.1 in
      let less = all-written ws all.2 in
      ((f.0, less.0), ap₂ ◌++◌ (sym f.1) less.1)

  -- (d), from the writer's answers: the lines that it gave, one behind the other and cut in any way, hand out exactly
  -- what was handed to it, in order
  pub written-called : is_limit N ≡ true → (m : List ℕ) → length m ≡ places → (room : ℕ) → frame_most N ≤ room
      → (rs : List (List ℕ)) (ws : List Written) → AllWritten N ws → flatten rs ≡ flatten (written_lines ws)
      → (fed N room (fresh m) rs).outs ≡ all_given (written_bodies ws)
  written-called limit m store room fits rs ws all e =
      let both = all-written ws all in
      called-lines-of N limit m store room fits rs (written_bodies ws) both.0 (e ∙ both.1)

module _ (N M room room' : ℕ) where
  -- how far a call goes, and the record after it, do not depend on N: no octet is dropped because of an earlier call's N
  pub change-of-limit : (h : Held) (s : List ℕ) → Likewise (takes N room h s) (takes M room' h s)
  unfolding takes further
  change-of-limit h [] = record { held = refl; count = refl; told = inl (refl, refl) }
  change-of-limit h (x ∷ xs) = go (closes h x) (change-of-limit (after_octet h x) xs)
    where
      go : (t : Bool) → Likewise (takes N room (after_octet h x) xs) (takes M room' (after_octet h x) xs)
          → Likewise
          (cond t (record { held = after_octet h x; count = 1; told = handed (stretch_says N room h) })
          (further (takes N room (after_octet h x) xs)))
          (cond t (record { held = after_octet h x; count = 1; told = handed (stretch_says M room' h) })
          (further (takes M room' (after_octet h x) xs)))
      go true less = record { held = refl; count = refl; told = inr (stretch_says N room h, stretch_says M room' h, refl, refl) }
      go false less = record { held = less.held; count = ap suc less.count; told = less.told }

-- octets without a flag are taken whole, whatever N is
pub flagless-taken : (N room : ℕ) (h : Held) (p : List ℕ) → holds flag p ≡ false
    → takes N room h p ≡ record { held = after_all h p; count = length p; told = nothing }
unfolding takes further after_all
flagless-taken N room h [] f = refl
flagless-taken N room h (x ∷ p) f =
    rw (closes-other h x (other-first x p f), flagless-taken N room (after_octet h x) p (holds-tail flag x p f))

-- a hand-out goes by the N of the call that takes the flag, whatever that of the calls before it that took the octets p
pub limit-at-flag : (M room : ℕ) (h : Held) (p s : List ℕ) → is_limit M ≡ true → frame_most M ≤ room
    → length h.store ≡ places → holds flag p ≡ false → 0 < length p
    → takes M room (after_all (after_flag h) p) (flag ∷ s)
    ≡ record { held = after_flag (after_all (after_flag h) p); count = 1; told = handed (decoded M p (frame_most M)) }
unfolding takes
limit-at-flag M room h p s limit fits store f n =
    let g : Held = after_all (after_flag h) p in
    let was = holds-always h p store f in
    rw (closes-flag g flag refl was.seen (was.any ∙ some-octets p n), after-flag g flag refl)
    (ap (λ (a : Answer (List ℕ)). record { held = after_flag g; count = 1; told = handed a })
    (says-room M room g fits ∙ says-decoded M limit p g (frame_most M) was))
  where
    some-octets : (p : List ℕ) → 0 < length p → some p ≡ true
    some-octets [] n = absurd (not-suc-le-zero n)
    some-octets (x ∷ p) n = refl
