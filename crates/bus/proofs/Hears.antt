-- A frame that is written as a line comes to each allowed device as it was put in: the device judges that frame. And
-- what any of a row answers, and what all of it comes to. Assumes nothing.
use mathlib.Core.Path.{◌≡◌, refl, sym, ap, ap₂, ◌∙◌}
use mathlib.Core.Bool.{Bool, true, false, ◌||◌}
use mathlib.Core.Logic.{◌↔◌, ◌⊎◌, inl, inr}
use mathlib.Core.List.{List, [], ◌∷◌, map, Memᴰ}
use mathlib.Core.List.Memᴰ
use Prim.Native.Nat.{ℕ, ◌≤◌}
use native.Mathlib.Omega.{arith}
use lib.ListN.{length}
use Rattle.octets.specs.Octets.{Octets}
use Rattle.octets.proofs.Words.{or_parts, true-not-false}
use Rattle.refusal.specs.Answer.{gives}
use Rattle.refusal.proofs.Answers.{in-room}
use Rattle.limits.specs.Limits.{limit_least, limit_most, is_limit, frame_most, payload_most, line_most}
use Rattle.limits.proofs.Exactly.{is-limit-exactly, limit-least}
use Rattle.frame.specs.Line.{inside}
use Rattle.frame.specs.Write.{line_of}
use Rattle.frame.proofs.Lengths.{line-most, write-fits}
use Rattle.frame.proofs.Trip.{trip}
use Rattle.record.specs.declared.Device.{Device}
use Rattle.record.specs.Allowed.{limit_of, allowed_device}
use Rattle.record.proofs.Stays.{limit-allowed, limited}
use Rattle.link.specs.Link.{judged_frame}
use Rattle.device.specs.Judge.{reaction_of, heard_by, decoded_here, heard}
use Rattle.device.proofs.Exact.{judge-answer}
use Rattle.bus.specs.Cable.{octets_given, line_with, line_for, hears, replies_to, after_line, any_replies, all_after, after_lines}
use Rattle.bus.specs.Cable.{all_after_lines}

-- the writer never refuses a frame with a payload that may be written, and the longest line has room for it
module _ (N : ℕ) (ok : is_limit N ≡ true) (a c : ℕ) (p : List ℕ) (h : length p ≤ payload_most N) where
  pub line-with : line_with N (a ∷ c ∷ p) ≡ line_of (a ∷ c ∷ p)
  unfolding line_with octets_given
  line-with =
      let least = ((is-limit-exactly N).0 ok).0 in
      let fits = line-most N a c p (omega (arith, least)) h in
      ap octets_given (write-fits N ok a c p (line_most N) h fits)

pub line-written : (a c : ℕ) (p : List ℕ) → length p ≤ payload_most limit_least → line_for (a ∷ c ∷ p) ≡ line_of (a ∷ c ∷ p)
line-written = line-with limit_least limit-least

-- a line whose frame has room in the frame limit of the link is judged as it was put in
module _ (d : Device) (a c : ℕ) (p : List ℕ) (allowed : allowed_device d ≡ true) (os : Octets (a ∷ c ∷ p)) where
  pub hears-line : length p ≤ payload_most (limit_of d)
      → hears d (line_of (a ∷ c ∷ p)) ≡ gives (reaction_of (judged_frame d (a ∷ c ∷ p)))
  unfolding hears heard heard_by
  hears-line h =
      let b : List ℕ = a ∷ c ∷ p in
      let size = limited d allowed in
      let decodes : decoded_here d (inside (line_of b)) ≡ gives b =
      trip b os (limit_of d) (limit-allowed d allowed) (frame_most limit_most) (omega arith) (omega (arith, size.0))
      ∙ in-room b (frame_most limit_most) (omega (arith, size.0, size.1)) in
      ap (heard_by d (frame_most limit_most)) decodes
      ∙ (judge-answer d b (frame_most limit_most) _).1 (allowed, omega (arith, size.1), refl)

  -- written with the frame limit of the link: "the frame limit N, one for both ways"
  pub hears-with : length p ≤ payload_most (limit_of d)
      → hears d (line_with (limit_of d) (a ∷ c ∷ p)) ≡ gives (reaction_of (judged_frame d (a ∷ c ∷ p)))
  hears-with h = ap (hears d) (line-with (limit_of d) (limit-allowed d allowed) a c p h) ∙ hears-line h

  -- written with the least one, which every link has room for
  pub hears-written : length p ≤ payload_most limit_least
      → hears d (line_for (a ∷ c ∷ p)) ≡ gives (reaction_of (judged_frame d (a ∷ c ∷ p)))
  hears-written h =
      ap (hears d) (line-written a c p h) ∙ hears-line (omega (arith, (limited d allowed).0))

-- ---- a row

-- at least one answers: there is one that does
pub any-exactly : (ds : List Device) (l : List ℕ)
    → (any_replies ds l ≡ true) ↔ ((d : Device) × Memᴰ d ds × (replies_to d l ≡ true))
unfolding any_replies
any-exactly ds l = (there ds, λ (d, m, e). back ds d m e)
  where
    there : (ds : List Device) → any_replies ds l ≡ true → (d : Device) × Memᴰ d ds × (replies_to d l ≡ true)
    there [] e = absurd (true-not-false (sym e))
    there (d ∷ ds) e = go (there ds) (or_parts (replies_to d l) (any_replies ds l) e)
      where
        go : (any_replies ds l ≡ true → (b : Device) × Memᴰ b ds × (replies_to b l ≡ true))
            → (replies_to d l ≡ true) ⊎ (any_replies ds l ≡ true)
            → (b : Device) × Memᴰ b (d ∷ ds) × (replies_to b l ≡ true)
        go more (inl f) = (d, Memᴰ.head refl, f)
        go more (inr f) = let (b, m, g) = more f in (b, Memᴰ.tail m, g)

    one : (a b : Bool) → (a ≡ true) ⊎ (b ≡ true) → (a || b) ≡ true
    one true b e = refl
    one false b (inl e) = absurd (true-not-false (sym e))
    one false b (inr e) = e

    back : (ds : List Device) (d : Device) → Memᴰ d ds → replies_to d l ≡ true → any_replies ds l ≡ true
    back [] d m e = absurd (Memᴰ.not-nil m)
    back (b ∷ ds) d m e =
        one (replies_to b l) (any_replies ds l)
        (elim (Memᴰ.cases_cons m)
        [ inl f ↦ inl (ap (λ (x : Device). replies_to x l) (sym f) ∙ e) | inr t ↦ inr (back ds d t e) ])

-- a row goes device by device
pub row-lines : (ls : List (List ℕ)) (ds : List Device) → all_after_lines ls ds ≡ map (after_lines ls) ds
unfolding all_after_lines after_lines all_after
row-lines ls [] = none ls
  where
    none : (ls : List (List ℕ)) → all_after_lines ls [] ≡ []
    none [] = refl
    none (l ∷ ls) = none ls
row-lines ls (d ∷ ds) = one ls d ds ∙ ap (λ (es : List Device). after_lines ls d ∷ es) (row-lines ls ds)
  where
    one : (ls : List (List ℕ)) (d : Device) (ds : List Device)
        → all_after_lines ls (d ∷ ds) ≡ after_lines ls d ∷ all_after_lines ls ds
    one [] d ds = refl
    one (l ∷ ls) d ds = one ls (after_line d l) (all_after ds l)

-- a row that nothing changes
pub row_stays : (ds : List Device) (l : List ℕ) → ((d : Device) → Memᴰ d ds → after_line d l ≡ d)
    → all_after ds l ≡ ds
unfolding all_after
row_stays [] l same = refl
row_stays (d ∷ ds) l same =
    ap₂ (λ (b : Device) (bs : List Device). b ∷ bs) (same d (Memᴰ.head refl))
    (row_stays ds l (λ b m. same b (Memᴰ.tail m)))
