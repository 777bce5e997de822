-- One line: the octets of the next probe as they are handed out, what lies between the flags, and what a device that
-- hears it says. Assumes nothing.
use Rattle.std.proofs.Common.{Result, Ok, Err, Some, None}
use Rattle.std.specs.Result.{result_unwrap_or}
use Rattle.refusal.specs.declared.Refusal.{Refusal}
use mathlib.Core.Path.{◌≡◌, refl, sym, ap, ◌∙◌}
use mathlib.Core.Bool.{Bool, true, false}
use mathlib.Core.List.{List, [], append-nil}
use mathlib.Core.Option.{Option, none, some}
use Prim.Native.Nat.{ℕ, ◌-◌, ◌≤◌, ◌<◌}
use native.Mathlib.Omega.{arith}
use lib.ListN.{length, take, drop, get_or, length-drop, drop_of_length-le}
use lib.Seq.{take_all}
use Rattle.octets.specs.Octets.{◌at_start_of◌}
use Rattle.refusal.specs.Answer.{Answer, gives, refuses, answer_of, counted, out_after, Hands}
use Rattle.refusal.proofs.Answers.{gives-not-refuses, gives_same, octets-told, in-room}
use Rattle.limits.specs.Limits.{limit_least, limit_most, frame_most, line_most}
use Rattle.frame.specs.Line.{inside}
use Rattle.frame.specs.Write.{written}
use Rattle.record.specs.declared.Device.{Device}
use Rattle.device.specs.Judge.{Reaction, heard, Said, said_of, size_of, told_of, device_after, Judges}
use Rattle.device.proofs.Only.{none-not-some}
use Rattle.scan.specs.declared.Scan.{Scan}
use Rattle.scan.specs.Record.{beginning_of}
use Rattle.scan.specs.Scan.{probe_length, probe_of, over, probed}
use Rattle.scan.proofs.Probes.{length-probe, probed-over, probed-open}
use Rattle.bus.specs.Cable.{octets_given, line_with, line_for, hears, is_frame, with_frame}
use Rattle.mast.specs.Steps.{line_in, frame_in, is_handed_out, Probing, Listens}
use Rattle.octets.specs.declared.Text.{Text}
use Rattle.limits.specs.Limits.{limit_least, line_most}

-- ---- the line of the probe that is next

module _ {o o' : List ℕ} where
  -- so many octets of the output are what was given; none where it was refused
  handed-line : (x : Answer (List ℕ)) (r : Result ℕ Refusal) → Hands x o r o' → take (result_unwrap_or r 0) o' ≡ octets_given x
  unfolding octets_given answer_of counted
  handed-line (gives b) (Ok n) h = gives_same (sym (octets-told (gives b) h).0)
  handed-line (gives b) (Err k) h = absurd (gives-not-refuses (sym h.answer))
  handed-line (refuses j) (Ok n) h = absurd (gives-not-refuses h.answer)
  handed-line (refuses j) (Err k) h = refl

  handed-given : (x : Answer (List ℕ)) {n : ℕ} → Hands x o (Ok n) o' → true ≡ is_handed_out x
  unfolding is_handed_out answer_of counted
  handed-given (gives b) h = refl
  handed-given (refuses j) h = absurd (gives-not-refuses h.answer)

  handed-none : (x : Answer (List ℕ)) {k : Refusal} → Hands x o (Err k) o' → false ≡ is_handed_out x
  unfolding is_handed_out answer_of counted
  handed-none (gives b) h = absurd (gives-not-refuses (sym h.answer))
  handed-none (refuses j) h = refl

-- a probe is written from its first octet, its second and the rest
pub probe-line : (f : List ℕ) (m : ℕ) {o o' : List ℕ} {r : Result ℕ Refusal} {n : ℕ} → length f ≤ m
    → Hands (written limit_least (get_or f 0 0) (get_or f 1 0) (take (m - 2) (drop 2 f)) (line_most limit_least)) o r o'
    → n ≡ result_unwrap_or r 0
    → take n o' ≡ line_for f
unfolding line_with
probe-line f m {o' = o'} {r = r} long h e =
    let all : take (m - 2) (drop 2 f) ≡ drop 2 f = take_all (m - 2) (drop 2 f) (omega (arith, length-drop 2 f)) in
    ap (λ (k : ℕ). take k o') e
    ∙ handed-line _ r h
    ∙ ap (λ (p : List ℕ). octets_given (written limit_least (get_or f 0 0) (get_or f 1 0) p (line_most limit_least))) all

-- a probe that is given has all its octets
given-all : (s : Scan) (f : List ℕ) → probed s probe_length ≡ gives f → length f ≡ probe_length
given-all s f g = go (over s) refl
  where
    go : (b : Bool) → over s ≡ b → length f ≡ probe_length
    go true e = absurd (gives-not-refuses (sym g ∙ probed-over s probe_length (sym e)))
    go false e =
        let b : List ℕ = probe_of (beginning_of s) in
        let gave : probed s probe_length ≡ gives b =
        sym (probed-open s probe_length e refl) ∙ in-room b probe_length (omega (arith, length-probe (beginning_of s))) in
        ap length (gives_same (sym g ∙ gave)) ∙ length-probe (beginning_of s)

-- and so it fills what was lent
given-fills : (s : Scan) (f : List ℕ) {o o' : List ℕ} {r : Result ℕ Refusal} → length o ≡ probe_length
    → Hands (probed s probe_length) o r o' → probed s probe_length ≡ gives f → o' ≡ f
unfolding out_after ◌at_start_of◌
given-fills s f {o} n h e =
    let size : length f ≡ probe_length = given-all s f e in
    h.octets ∙ ap (λ (x : Answer (List ℕ)). out_after x o) e
    ∙ rw (drop_of_length-le o {i = length f} (omega arith), append-nil f)

pub asks-line : (s : Scan) {o o' : List ℕ} {r : Result ℕ Refusal} {n : ℕ} {w : Text (line_most limit_least)} → length o ≡ probe_length
    → Hands (probed s probe_length) o r o' → r ≡ Ok n → line_in w ≡ line_for o'
    → Probing (probed s probe_length) (Some w)
asks-line s {r = r} {n} {w} size h e l =
    record {
      asks = handed-given (probed s probe_length) {n = n} (rw e at h);
      line = λ f v g q.
          let same : v ≡ w = cc in
          rw same (l ∙ ap line_for (given-fills s f size h g));
    }

pub asks-none : (s : Scan) {o o' : List ℕ} {r : Result ℕ Refusal} {k : Refusal} → Hands (probed s probe_length) o r o'
    → r ≡ Err k → Probing (probed s probe_length) None
asks-none s {k = k} h e =
    record { asks = handed-none (probed s probe_length) {k = k} (rw e at h); line = λ f w g q. absurd (cc) }

-- ---- what lies between the flags

module _ (l : List ℕ) where
  pub inside-none : length l < 2 → [] ≡ inside l
  unfolding inside
  inside-none h = let z : length l - 2 ≡ 0 = omega arith in rw z

  pub inside-some : take (length l - 1 - 1) (drop 1 l) ≡ inside l
  unfolding inside
  inside-some = let z : length l - 1 - 1 ≡ length l - 2 = omega arith in rw z

-- ---- a device that hears the line

said-frame : (x : Answer Reaction) (s : Said) → said_of s ≡ told_of x → frame_in s ≡ with_frame x
unfolding said_of told_of with_frame size_of is_frame
said-frame (refuses j) (Ok None) e = refl
said-frame (refuses j) (Ok (Some n)) e = absurd (gives-not-refuses e)
said-frame (refuses j) (Err k) e = refl
said-frame (gives x) s e = go x.frame s e
  where
    go : (f : Option (List ℕ)) (s : Said) → said_of s ≡ gives (size_of f) → frame_in s ≡ is_frame f
    go none (Ok None) e = refl
    go none (Ok (Some n)) e = absurd (none-not-some (sym (gives_same e)))
    go none (Err k) e = absurd (gives-not-refuses (sym e))
    go (some f) (Ok None) e = absurd (none-not-some (gives_same e))
    go (some f) (Ok (Some n)) e = refl
    go (some f) (Err k) e = absurd (gives-not-refuses (sym e))

pub listens-is : (d : Device) (l : List ℕ) {x o o' : List ℕ} {j : Said} {d' : Device} {b : Bool}
    → Judges (heard d x (frame_most limit_most)) d o j d' o' → x ≡ inside l → b ≡ frame_in j
    → Listens d l b d'
unfolding hears
listens-is d l {x} {j = j} h e f =
    let same : heard d x (frame_most limit_most) ≡ hears d l = ap (λ (s : List ℕ). heard d s (frame_most limit_most)) e in
    record {
      heard = f ∙ said-frame (heard d x (frame_most limit_most)) j h.said ∙ ap with_frame same;
      device = h.device ∙ ap (λ (a : Answer Reaction). device_after a d) same;
    }
