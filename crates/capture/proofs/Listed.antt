-- The list of what was left out, entry by entry: each is one of the pieces that are left out, and each of those has one;
-- where it began, how long it was and its number stand in the capture; and the entries ascend, none over another.
--   Entered ps e     == e is what is listed of one of the pieces ps; entry_of m n k == an entry by its three numbers
--   Behind k es      == the entries es ascend, do not touch, and the first of them begins at the place k or behind it
--   Stands N s e     == what the entry e says is so in the capture s
--   Inside s a       == a flag of s stands before the piece a, and one behind it
-- Assumes nothing.
use mathlib.Core.Path.{◌≡◌, refl, sym, ap, ap₂, ◌∙◌, subst}
use mathlib.Core.Bool.{Bool, true, false, cond, not}
use mathlib.Core.List.{List, [], ◌∷◌, ◌++◌, append_assoc}
use mathlib.Core.Logic.{◌↔◌, ◌⊎◌, inl, inr, ⊎_elim}
use Prim.Native.Nat.{ℕ, ◌+◌, ◌<◌, ◌≤◌}
use native.Mathlib.Omega.{arith}
use borrow.Author.Tests.{eq-eqb}
use lib.Dec.{eqb}
use lib.ListN.{length, take, drop, length-append}
use lib.Seq.{take_at, drop_at}
use Rattle.octets.specs.Octets.{holds, OneOf}
use Rattle.octets.proofs.Words.{true-not-false}
use Rattle.refusal.specs.Answer.{Answer, gives, refuses}
use Rattle.refusal.proofs.Answers.{refuses-same}
use Rattle.limits.specs.Limits.{is_limit, frame_most}
use Rattle.frame.specs.Line.{flag}
use Rattle.frame.specs.Decode.{decoded}
use Rattle.salvage.specs.Capture.{Piece, pieces_from, all_pieces, pieces_in, left_if, left_pieces, entry, listed}
use Rattle.salvage.specs.declared.Stretch.{Stretch}
use Rattle.capture.specs.Places.{Among, LeftAt, Edge}
use Rattle.capture.specs.Pinned.{ApartEntries}
use Rattle.capture.proofs.Parted.{behind, parted-is, said_of, from_cons, pieces_are}
use Rattle.capture.proofs.Filters.{is_given, is-refused, among-some, among-left}
use Rattle.capture.proofs.Places.{Apart, ascending, as-they-stood, piece-octets, left-is-refused}

abbrev Entered : List Piece → Stretch → Type 0
Entered ps e =
    (a : Piece) × Among a ps × (e.offset ≡ a.offset) × (e.length ≡ length a.octets)
    × (a.said ≡ refuses e.number)

abbrev entry_of : ℕ → ℕ → ℕ → Stretch
entry_of m n k = record { offset = m; length = n; number = k }

-- an entry is its three numbers
entry-is : (e : Stretch) (m n k : ℕ) → e.offset ≡ m → e.length ≡ n → e.number ≡ k → e ≡ entry_of m n k
entry-is e m n k o l q = ap₂ (λ (i j : ℕ). entry_of i j e.number) o l ∙ ap (entry_of m n) q

-- a piece with a number has its entry, and a piece with a frame has none
among-listed : (ps : List Piece) (e : Stretch) → Among e (listed ps) ↔ Entered (left_pieces ps) e
unfolding listed entry left_pieces left_if
among-listed [] e = (λ m. absurd m, λ w. absurd w.1)
among-listed (a ∷ ps) e = go a.said refl (among-listed ps e)
  where
    go : (w : Answer (List ℕ)) → a.said ≡ w → (Among e (listed ps) ↔ Entered (left_pieces ps) e)
        → Among e (entry a w (listed ps)) ↔ Entered (left_if a w (left_pieces ps)) e
    go (gives b) q less = less
    go (refuses k) q less = (
      ⊎_elim (λ p. (
        a,
        inl refl,
        ap (λ (x : Stretch). x.offset) p,
        ap (λ (x : Stretch). x.length) p,
        q ∙ ap (λ (x : Stretch). refuses x.number) (sym p),
      )) (λ m. let w = less.0 m in (w.0, inr w.1, w.2, w.3, w.4)),
      λ w. let (b, m, o, l, n) = w in
          ⊎_elim (λ p. inl (entry-is e a.offset (length a.octets) k (o ∙ ap (λ (x : Piece). x.offset) p)
          (l ∙ ap (λ (x : Piece). length x.octets) p)
          (refuses-same (sym n ∙ ap (λ (x : Piece). x.said) p ∙ q))))
          (λ r. inr (less.1 (b, r, o, l, n))) m,
    )

-- an entry for each piece that is left out, and none beside
pub listed-exactly : (N : ℕ) (s : List ℕ) (e : Stretch)
    → Among e (listed (pieces_in N s))
    ↔ ((a : Piece) × Among a (left_pieces (pieces_in N s)) × (e.offset ≡ a.offset) × (e.length ≡ length a.octets)
    × (a.said ≡ refuses e.number))
listed-exactly N s e = among-listed (pieces_in N s) e

abbrev Stands : ℕ → List ℕ → Stretch → Type 0
Stands N s e =
    (0 < e.length) × (holds flag (take e.length (drop e.offset s)) ≡ false)
    × (((e.number ≡ 0) × ((holds flag (take e.offset s) ≡ false) ⊎ (holds flag (drop e.offset s) ≡ false)))
    ⊎ (OneOf e.number (1 ∷ 2 ∷ 3 ∷ 4 ∷ [])
    × (decoded N (take e.length (drop e.offset s)) (frame_most N) ≡ refuses e.number)))

-- what stands at a piece's place, and its number, are what its entry says
stands-left : (N : ℕ) (s : List ℕ) (a : Piece) (k : ℕ) → is_limit N ≡ true → Among a (left_pieces (pieces_in N s))
    → a.said ≡ refuses k → Stands N s (entry_of a.offset (length a.octets) k)
stands-left N s a k l m q =
    let (one, why) = left-is-refused N s a l m in
    let here = piece-octets N s a one in
    rw (as-they-stood N s a one) (
      here.0,
      here.1,
      ⊎_elim (λ w. inl (refuses-same (sym q ∙ w.0), w.1))
          (λ w. let same : w.0 ≡ k = refuses-same (sym w.2 ∙ q) in
          inr (rw same at w.1, w.3 ∙ ap refuses same))
          why,
    )

-- what is listed stands in the capture: octets without a flag, outside all flags or refused with their number
pub listed-stands : (N : ℕ) (s : List ℕ) (e : Stretch) → is_limit N ≡ true → Among e (listed (pieces_in N s))
    → (0 < e.length) × (holds flag (take e.length (drop e.offset s)) ≡ false)
    × (((e.number ≡ 0) × ((holds flag (take e.offset s) ≡ false) ⊎ (holds flag (drop e.offset s) ≡ false)))
    ⊎ (OneOf e.number (1 ∷ 2 ∷ 3 ∷ 4 ∷ [])
    × (decoded N (take e.length (drop e.offset s)) (frame_most N) ≡ refuses e.number)))
listed-stands N s e l m =
    let (a, left, o, n, q) = (listed-exactly N s e).0 m in
    subst (Stands N s) (sym (entry-is e a.offset (length a.octets) e.number o n refl))
    (stands-left N s a e.number l left q)

-- a place is one of a stretch that is left out exactly if an entry of the list has it
pub left-listed : (N : ℕ) (s : List ℕ) (i : ℕ)
    → LeftAt N s i
    ↔ ((e : Stretch) × Among e (listed (pieces_in N s)) × (e.offset ≤ i) × (i < e.offset + e.length))
left-listed N s i = (
  λ w. let (a, m, c) = w in
      let (k, q) = is-refused a.said ((among-left (pieces_in N s) a).0 m).1 in
      let e : Stretch = entry_of a.offset (length a.octets) k in
      (e, (listed-exactly N s e).1 (a, m, refl, refl, q), c.0, c.1),
  λ w. let (e, m, low, high) = w in
      let (a, left, o, n, q) = (listed-exactly N s e).0 m in (a, left, (omega arith, omega arith)),
)

abbrev Behind : ℕ → List Stretch → Type 0
Behind k [] = Unit {0}
Behind k (e ∷ es) = (k ≤ e.offset) × Behind (e.offset + e.length + 1) es

behind-less : (j k : ℕ) (es : List Stretch) → j ≤ k → Behind k es → Behind j es
behind-less j k [] h w = tt
behind-less j k (e ∷ es) h w = (omega arith, w.1)

behind-apart : (k : ℕ) (es : List Stretch) → Behind k es → ApartEntries es
behind-apart k [] w = tt
behind-apart k (d ∷ []) w = tt
behind-apart k (d ∷ e ∷ es) w = (omega arith, behind-apart (d.offset + d.length + 1) (e ∷ es) w.1)

-- a piece with a frame has no entry, and leaves the others apart
behind-entry : (k : ℕ) (a : Piece) (w : Answer (List ℕ)) (es : List Stretch) → k ≤ a.offset
    → Behind (a.offset + length a.octets + 1) es → Behind k (entry a w es)
unfolding entry
behind-entry k a (gives b) es h r = behind-less k (a.offset + length a.octets + 1) es (omega arith) r
behind-entry k a (refuses n) es h r = (h, r)

behind-listed : (a : Piece) (ps : List Piece) → Apart (a ∷ ps) → Behind (a.offset + length a.octets + 1) (listed ps)
unfolding listed
behind-listed a [] w = tt
behind-listed a (b ∷ ps) w =
    behind-entry (a.offset + length a.octets + 1) b b.said (listed ps) (omega arith) (behind-listed b ps w.1)

apart-listed : (ps : List Piece) → Apart ps → ApartEntries (listed ps)
unfolding listed
apart-listed [] w = tt
apart-listed (a ∷ ps) w =
    behind-apart a.offset (listed (a ∷ ps))
    (behind-entry a.offset a a.said (listed ps) (omega arith) (behind-listed a ps w))

-- in the order of the capture, none over another and none twice
pub list-ascends : (N : ℕ) (s : List ℕ) → ApartEntries (listed (pieces_in N s))
list-ascends N s = apart-listed (pieces_in N s) (ascending N s)

abbrev Inside : List ℕ → Piece → Type 0
Inside s a = (holds flag (take a.offset s) ≡ true) × (holds flag (drop a.offset s) ≡ true)

holds-between : (x : ℕ) (p q : List ℕ) → holds x (p ++ x ∷ q) ≡ true
unfolding holds
holds-between x [] q = rw (eq-eqb x x refl)
holds-between x (y ∷ p) q = go (eqb y x) (holds-between x p q)
  where
    go : (t : Bool) → holds x (p ++ x ∷ q) ≡ true → cond t true (holds x (p ++ x ∷ q)) ≡ true
    go true less = refl
    go false less = less

module _ (N : ℕ) (s : List ℕ) where
  -- a part with a flag before it lies between two flags, or is the last
  inside-part : (before p : List ℕ) (ps : List (List ℕ)) (at : ℕ) → s ≡ before ++ flag ∷ (p ++ behind ps)
      → at ≡ length before + 1
      → (said_of N p ps ≡ refuses 0) ⊎ Inside s (record { offset = at; octets = p; said = said_of N p ps })
  inside-part before p [] at e n = inl refl
  inside-part before p (q ∷ ps) at e n =
      let front : List ℕ = before ++ flag ∷ [] in
      let rest : List ℕ = p ++ flag ∷ (q ++ behind ps) in
      let whole : s ≡ front ++ rest = e ∙ sym (append_assoc before (flag ∷ []) rest) in
      let long : length front ≡ at = length-append before (flag ∷ []) ∙ sym n in
      inr (
        ap (λ (l : List ℕ). holds flag (take at l)) whole ∙ ap (holds flag) (take_at front rest at long)
            ∙ holds-between flag before [],
        ap (λ (l : List ℕ). holds flag (drop at l)) whole ∙ ap (holds flag) (drop_at front rest at long)
            ∙ holds-between flag p (q ++ behind ps),
      )

  inside-from : (before : List ℕ) (at : ℕ) (ps : List (List ℕ)) → s ≡ before ++ behind ps → at ≡ length before + 1
      → (a : Piece) → Among a (pieces_from N at ps) → (a.said ≡ refuses 0) ⊎ Inside s a
  unfolding pieces_from
  inside-from before at [] e n a m = absurd m
  inside-from before at (p ∷ ps) e n a m =
      ⊎_elim (λ q. rw q (inside-part before p ps at e n))
      (inside-from (before ++ flag ∷ p) (at + length p + 1) ps (e ∙ sym (append_assoc before (flag ∷ p) (behind ps)))
      (omega (arith, length-append before (flag ∷ p))) a)
      (rw (from_cons N at p ps) at m)

  inside-in : (a : Piece) → Among a (pieces_in N s) → (a.said ≡ refuses 0) ⊎ Inside s a
  unfolding all_pieces
  inside-in a m =
      let parts = parted-is s in
      let p : List ℕ = parts.first in
      let ps : List (List ℕ) = parts.others in
      ⊎_elim (λ q. inl (ap (λ (x : Piece). x.said) q))
      (inside-from p (length p + 1) ps parts.whole refl a)
      ((among-some (all_pieces N (p ∷ ps)) a).0 (rw (pieces_are N s) at m)).0

not-0 : (k : ℕ) → OneOf k (1 ∷ 2 ∷ 3 ∷ 4 ∷ []) → k ≡ 0 → ⊥
not-0 k (inl p) z = omega arith
not-0 k (inr (inl p)) z = omega arith
not-0 k (inr (inr (inl p))) z = omega arith
not-0 k (inr (inr (inr (inl p)))) z = omega arith
not-0 k (inr (inr (inr (inr none)))) z = none

not-inside : (s : List ℕ) (a : Piece) → Edge s a → Inside s a → ⊥
not-inside s a (inl f) w = true-not-false (sym w.0 ∙ f)
not-inside s a (inr f) w = true-not-false (sym w.1 ∙ f)

-- what lies before the first flag or after the last has the number 0, and nothing else has
pub edge-exactly : (N : ℕ) (s : List ℕ) (a : Piece) → is_limit N ≡ true → Among a (pieces_in N s)
    → (Edge s a ↔ a.said ≡ refuses 0)
edge-exactly N s a l m = (
  λ edge. ⊎_elim (λ q. q) (λ w. absurd (not-inside s a edge w)) (inside-in N s a m),
  λ q. let left = (among-left (pieces_in N s) a).1 (m, ap (λ (x : Answer (List ℕ)). not (is_given x)) q) in
      ⊎_elim (λ w. w.1) (λ w. absurd (not-0 w.0 w.1 (refuses-same (sym w.2 ∙ q))))
      (left-is-refused N s a l left).1,
)
