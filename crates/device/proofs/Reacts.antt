-- The ways out of judging and hearing: a number, silence, or a frame at the start of the buffer. Assumes nothing.
use Rattle.std.proofs.Common.{Result, Ok, Err, Some, None, Option as Optional}
use mathlib.Core.Path.{◌≡◌, refl, sym, ap, ◌∙◌}
use mathlib.Core.Bool.{true, false}
use mathlib.Core.List.{List}
use Prim.Native.Nat.{ℕ, ◌≤◌, ◌<◌}
use native.Mathlib.Omega.{arith}
use borrow.Author.Tests.{lt-ltb, le-ltb}
use lib.ListN.{length, take, replicate, length-take}
use lib.Seq.{sets}
use Rattle.octets.proofs.Stores.{sets-start, take-start}
use Rattle.refusal.specs.declared.Refusal.{Refusal}
use Rattle.refusal.specs.Numbers.{number_of}
use Rattle.refusal.specs.Answer.{Answer, gives, refuses, answered, Hands}
use Rattle.refusal.proofs.Answers.{octets-told, refusal-told}
use Rattle.record.specs.declared.Device.{Device}
use Rattle.record.specs.Allowed.{limit_of, allowed_device}
use Rattle.record.proofs.Stays.{limited}
use Rattle.station.specs.declared.Say.{Say}
use Rattle.station.specs.declared.Turn.{Turn}
use Rattle.link.specs.Link.{judged_frame}
use Rattle.octets.specs.declared.Text.{Text}
use Rattle.octets.specs.Text.{content, laid}
use mathlib.Core.Option.{Option, none, some}
use Rattle.speech.specs.Speech.{frame_by, spoken_most, spoken_of}
use Rattle.limits.specs.Limits.{frame_most}
use Rattle.device.specs.Judge.{Reaction, reacts, reaction_of, judge_rows, judged, heard_by, decoded_here, heard}
use Rattle.device.specs.Judge.{Said, said_of, size_of, told_of, device_after, frame_at, buffer_after, Judges}

pub judges-is : {x y : Answer Reaction} {d d' : Device} {o o' : List ℕ} {r : Said} → x ≡ y → Judges x d o r d' o'
    → Judges y d o r d' o'
judges-is e w = record { said = rw (← e) w.said; device = rw (← e) w.device; buffer = rw (← e) w.buffer }

-- the number alone: the device and the buffer as they were
pub refused : (x : Answer Reaction) (d : Device) (o : List ℕ) (k : Refusal) → x ≡ refuses (number_of k)
    → Judges x d o (Err k) d o
unfolding said_of told_of device_after buffer_after
refused x d o k e =
    record {
      said = sym (ap told_of e);
      device = sym (ap (λ (y : Answer Reaction). device_after y d) e);
      buffer = sym (ap (λ (y : Answer Reaction). buffer_after y o) e);
    }

-- ---- what is said

module _ (d : Device) (x : Say) (o : List ℕ) {r : Optional (Text spoken_most)} (e : r ≡ spoken_of (frame_by d x)) where
  pub silent : r ≡ None → Judges (gives (reacts d x)) d o (Ok None) d o
  unfolding spoken_of said_of told_of size_of device_after buffer_after frame_at reacts
  silent z = go (frame_by d x) refl
    where
      go : (f : Option (List ℕ)) → frame_by d x ≡ f → Judges (gives (reacts d x)) d o (Ok None) d o
      go none q = record { said = rw q; device = refl; buffer = rw q }
      go (some f) q =
          let p : None ≡ Some (laid spoken_most f) = sym z ∙ e ∙ ap spoken_of q in
          absurd (cc)

  pub framed : {t : Text spoken_most} → r ≡ Some t → t.len ≤ spoken_most → spoken_most ≤ length o → {o' : List ℕ}
      → o' ≡ sets o 0 (content t) → Judges (gives (reacts d x)) d o (Ok (Some t.len)) d o'
  unfolding spoken_of laid said_of told_of size_of device_after buffer_after frame_at reacts
  framed {t} is most room {o'} s = go (frame_by d x) refl
    where
      go : (f : Option (List ℕ)) → frame_by d x ≡ f → Judges (gives (reacts d x)) d o (Ok (Some t.len)) d o'
      go none q =
          let p : Some t ≡ None = sym is ∙ e ∙ ap spoken_of q in
          absurd (cc)
      go (some f) q =
          let p : Some t ≡ Some (laid spoken_most f) = sym is ∙ e ∙ ap spoken_of q in
          let same : t ≡ laid spoken_most f = cc in
          let n : t.len ≡ length f = ap (λ (y : Text spoken_most). y.len) same in
          let c : content t ≡ f = ap content same ∙ take-start f (replicate spoken_most 0) in
          record {
            said = rw (q, n);
            device = refl;
            buffer = rw q (s ∙ ap (sets o 0) c ∙ sets-start f o (omega (arith, n)));
          }

-- ---- a frame judged

module _ (d : Device) (f o : List ℕ) where
  pub judged-6 : allowed_device d ≡ false → judged d f (length o) ≡ refuses 6
  unfolding judged judge_rows answered
  judged-6 e = rw e

  pub judged-5 : allowed_device d ≡ true → length o < frame_most (limit_of d) → judged d f (length o) ≡ refuses 5
  unfolding judged judge_rows answered
  judged-5 e h = rw (e, lt-ltb (length o) (frame_most (limit_of d)) h)

  pub judged-turn : allowed_device d ≡ true → frame_most (limit_of d) ≤ length o
      → judged d f (length o) ≡ gives (reaction_of (judged_frame d f))
  unfolding judged judge_rows answered
  judged-turn e h = rw (e, le-ltb (length o) (frame_most (limit_of d)) h)

  -- the room that the frame limit asks for is enough for every answer
  pub roomy : allowed_device d ≡ true → frame_most (limit_of d) ≤ length o → spoken_most ≤ length o
  roomy e h = omega (arith, (limited d e).0, h)

  -- the turn's device and what it says
  pub turned : allowed_device d ≡ true → frame_most (limit_of d) ≤ length o → {t : Turn} {r : Said} {o' : List ℕ}
      → t ≡ judged_frame d f
      → Judges (gives (reacts t.device t.say)) t.device o r t.device o' → Judges (judged d f (length o)) d o r t.device o'
  unfolding device_after
  turned e h {t} {r} {o'} q w =
      let k : gives (reacts t.device t.say) ≡ judged d f (length o) =
      ap (λ (u : Turn). gives (reaction_of u)) q ∙ sym (judged-turn e h) in
      judges-is k (record { said = w.said; device = w.device; buffer = w.buffer })

-- ---- a line heard

module _ (d : Device) (line o store store' : List ℕ) where
  pub heard-refused : {h : Result ℕ Refusal} (k : Refusal) → Hands (decoded_here d line) store h store' → h ≡ Err k
      → Judges (heard d line (length o)) d o (Err k) d o
  unfolding heard heard_by
  heard-refused k w e =
      let t = refusal-told (decoded_here d line) {k = k} (rw e at w) in
      refused (heard d line (length o)) d o k (rw t.0)

  pub heard-judged : (n : ℕ) → {h : Result ℕ Refusal} → Hands (decoded_here d line) store h store' → h ≡ Ok n
      → judged d (take n store') (length o) ≡ heard d line (length o)
  unfolding heard heard_by
  heard-judged n w e = let t = octets-told (decoded_here d line) {n = n} (rw e at w) in rw t.0

-- the frame that was decoded stands in the decoder's buffer
pub heard-count : (x : Answer (List ℕ)) (n : ℕ) {store store' : List ℕ} {h : Result ℕ Refusal} → Hands x store h store'
    → h ≡ Ok n → n ≤ length store'
heard-count x n {store' = store'} w e =
    let t = octets-told x {n = n} (rw e at w) in
    omega (arith, t.1, length-take n store')
