-- The totals, counted place by place: at how many places of the capture stands an octet of a stretch that is kept, a flag,
-- an octet of a stretch that is left out.
--   Far k ps    == the pieces ps are in order, none over another, and the first of them begins at the place k or behind it
--   inside a i  == the piece a has an octet at the place i
-- Assumes nothing.
use mathlib.Core.Path.{◌≡◌, refl, sym, ap, ◌∙◌}
use mathlib.Core.Bool.{Bool, true, false, cond, ◌&&◌, ◌||◌}
use mathlib.Core.List.{List, [], ◌∷◌}
use mathlib.Core.Logic.{◌↔◌, inl, inr, ⊎_elim}
use Prim.Native.Nat.{ℕ, zero, suc, ◌+◌, ◌-◌, ◌≤◌}
use native.Mathlib.Omega.{arith}
use borrow.Author.Tests.{ltb-true, ltb-false, leb-true, leb-false, lt-ltb, le-leb}
use lib.Dec.{eqb, leb, ltb}
use lib.ListN.{length, drop, get_or, length-take, length-drop}
use Rattle.octets.proofs.Words.{true-not-false, and_parts, or_parts}
use Rattle.frame.specs.Line.{flag}
use Rattle.salvage.specs.Capture.{Piece, pieces_in, kept_pieces, left_pieces, octet_count, flags_in, totals_of}
use Rattle.capture.specs.Places.{Among, Covers}
use Rattle.capture.specs.Pinned.{covered, count_below}
use Rattle.capture.proofs.Filters.{is_kept, is_left, picked, kept-picked, left-picked, among-kept, among-left}
use Rattle.capture.proofs.Places.{Apart, ascending, as-they-stood, piece-octets}

abbrev inside : Piece → ℕ → Bool
inside a i = leb a.offset i && ltb i (a.offset + length a.octets)

inside-exactly : (a : Piece) (i : ℕ) → inside a i ≡ true ↔ Covers a i
inside-exactly a i = (
  λ e. let w = and_parts (leb a.offset i) (ltb i (a.offset + length a.octets)) e in
      (leb-true a.offset i w.0, ltb-true i (a.offset + length a.octets) w.1),
  λ c. rw (le-leb a.offset i c.0, lt-ltb i (a.offset + length a.octets) c.1),
)

or_right : (t : Bool) → (t || true) ≡ true
or_right true = refl
or_right false = refl

-- a place is covered exactly if one of the pieces has an octet there
pub covered-exactly : (ps : List Piece) (i : ℕ) → covered ps i ≡ true ↔ ((a : Piece) × Among a ps × Covers a i)
unfolding covered
covered-exactly [] i = (λ e. absurd (true-not-false (sym e)), λ w. absurd w.1)
covered-exactly (a ∷ ps) i = (
  λ e. ⊎_elim (λ t. (a, inl refl, (inside-exactly a i).0 t))
      (λ t. let w = (covered-exactly ps i).0 t in (w.0, inr w.1, w.2))
      (or_parts (inside a i) (covered ps i) e),
  λ w. let (b, m, c) = w in
      ⊎_elim (λ q. ap (λ (t : Bool). t || covered ps i) ((inside-exactly a i).1 (rw q at c)))
      (λ n. ap (λ (t : Bool). inside a i || t) ((covered-exactly ps i).1 (b, n, c)) ∙ or_right (inside a i)) m,
)

-- of two tests that never hold both, the places add up
count-or : (f g : ℕ → Bool) (n : ℕ) → ((i : ℕ) → f i ≡ true → g i ≡ true → ⊥)
    → count_below (λ i. f i || g i) n ≡ count_below f n + count_below g n
unfolding count_below
count-or f g zero never = refl
count-or f g (suc n) never = go (f n) (g n) (never n) (count-or f g n never)
  where
    go : (t u : Bool) → (t ≡ true → u ≡ true → ⊥) → count_below (λ i. f i || g i) n ≡ count_below f n + count_below g n
        → cond (t || u) (suc (count_below (λ i. f i || g i) n)) (count_below (λ i. f i || g i) n)
        ≡ cond t (suc (count_below f n)) (count_below f n) + cond u (suc (count_below g n)) (count_below g n)
    go true true never less = absurd (never refl refl)
    go true false never less = omega arith
    go false true never less = omega arith
    go false false never less = less

-- the places of one piece, below n
count-inside : (a : Piece) (n : ℕ)
    → count_below (inside a) n ≡ n - a.offset - (n - (a.offset + length a.octets))
unfolding count_below
count-inside a zero = omega arith
count-inside a (suc n) = go (leb a.offset n) refl (ltb n (a.offset + length a.octets)) refl (count-inside a n)
  where
    go : (t : Bool) → leb a.offset n ≡ t → (u : Bool) → ltb n (a.offset + length a.octets) ≡ u
        → count_below (inside a) n ≡ n - a.offset - (n - (a.offset + length a.octets))
        → cond (t && u) (suc (count_below (inside a) n)) (count_below (inside a) n)
        ≡ suc n - a.offset - (suc n - (a.offset + length a.octets))
    go true e true f less =
        omega (arith, leb-true a.offset n e, ltb-true n (a.offset + length a.octets) f)
    go true e false f less =
        omega (arith, leb-true a.offset n e, ltb-false n (a.offset + length a.octets) f)
    go false e true f less = omega (arith, leb-false a.offset n e)
    go false e false f less = omega (arith, leb-false a.offset n e)

count_none : (n : ℕ) → count_below (λ i. false) n ≡ 0
unfolding count_below
count_none zero = refl
count_none (suc n) = count_none n

abbrev Far : ℕ → List Piece → Type 0
Far k [] = Unit {0}
Far k (a ∷ ps) = (k ≤ a.offset) × Far (a.offset + length a.octets) ps

far-less : (j k : ℕ) (ps : List Piece) → j ≤ k → Far k ps → Far j ps
far-less j k [] h w = tt
far-less j k (a ∷ ps) h w = (omega arith, w.1)

far_apart : (a : Piece) (ps : List Piece) → Apart (a ∷ ps) → Far a.offset (a ∷ ps)
far_apart a [] w = (omega arith, tt)
far_apart a (b ∷ ps) w =
    (omega arith, far-less (a.offset + length a.octets) b.offset (b ∷ ps) (omega arith) (far_apart b ps w.1))

far-of : (ps : List Piece) → Apart ps → Far 0 ps
far-of [] w = tt
far-of (a ∷ ps) w = far-less 0 a.offset (a ∷ ps) (omega arith) (far_apart a ps w)

-- pieces that are left away leave the others in order
far-picked : (t : Piece → Bool) (k : ℕ) (ps : List Piece) → Far k ps → Far k (picked t ps)
far-picked t k [] w = tt
far-picked t k (a ∷ ps) w = go (t a) (far-picked t (a.offset + length a.octets) ps w.1)
  where
    go : (b : Bool) → Far (a.offset + length a.octets) (picked t ps)
        → Far k (cond b (a ∷ picked t ps) (picked t ps))
    go true less = (w.0, less)
    go false less = far-less k (a.offset + length a.octets) (picked t ps) (omega arith) less

far-among : (k : ℕ) (ps : List Piece) → Far k ps → (a : Piece) → Among a ps → k ≤ a.offset
far-among k [] w a m = absurd m
far-among k (b ∷ ps) w a (inl e) = rw e w.0
far-among k (b ∷ ps) w a (inr m) =
    let less = far-among (b.offset + length b.octets) ps w.1 a m in omega arith

-- of pieces in order, none behind the place n, the places that are covered are the octets
count-covered : (n k : ℕ) (ps : List Piece) → Far k ps
    → ((a : Piece) → Among a ps → a.offset + length a.octets ≤ n)
    → count_below (covered ps) n ≡ octet_count ps
unfolding covered octet_count
count-covered n k [] w most = count_none n
count-covered n k (a ∷ ps) w most =
    let e : ℕ = a.offset + length a.octets in
    let more = count-covered n e ps w.1 (λ b m. most b (inr m)) in
    let here = most a (inl refl) in
    count-or (inside a) (covered ps) n (λ i p q.
    let c = (inside-exactly a i).0 p in
    let (b, m, d) = (covered-exactly ps i).0 q in
    let far = far-among e ps w.1 b m in omega arith)
    ∙ omega (arith, count-inside a n)

-- the places of a test, with the first counted by itself
count-first : (f : ℕ → Bool) (n : ℕ) → count_below f (suc n) ≡ cond (f 0) 1 0 + count_below (λ i. f (suc i)) n
unfolding count_below
count-first f zero = go (f 0)
  where
    go : (t : Bool) → cond t 1 0 ≡ cond t 1 0 + 0
    go true = refl
    go false = refl
count-first f (suc n) = go (f (suc n)) (count-first f n)
  where
    go : (t : Bool) → count_below f (suc n) ≡ cond (f 0) 1 0 + count_below (λ i. f (suc i)) n
        → cond t (suc (count_below f (suc n))) (count_below f (suc n))
        ≡ cond (f 0) 1 0 + cond t (suc (count_below (λ i. f (suc i)) n)) (count_below (λ i. f (suc i)) n)
    go true less = omega arith
    go false less = less

count-flags : (s : List ℕ) → flags_in s ≡ count_below (λ i. eqb (get_or s i 0) flag) (length s)
unfolding flags_in count_below
count-flags [] = refl
count-flags (x ∷ s) =
    go (eqb x flag) (count-flags s) ∙ sym (count-first (λ i. eqb (get_or (x ∷ s) i 0) flag) (length s))
  where
    go : (t : Bool) → flags_in s ≡ count_below (λ i. eqb (get_or s i 0) flag) (length s)
        → cond t (suc (flags_in s)) (flags_in s)
        ≡ cond t 1 0 + count_below (λ i. eqb (get_or s i 0) flag) (length s)
    go true less = omega arith
    go false less = omega arith

module _ (N : ℕ) (s : List ℕ) where
  -- no piece ends behind the capture
  piece-within : (a : Piece) → Among a (pieces_in N s) → a.offset + length a.octets ≤ length s
  piece-within a m =
      omega (
        arith,
        (piece-octets N s a m).0,
        ap length (as-they-stood N s a m),
        length-take (length a.octets) (drop a.offset s),
        length-drop a.offset s,
      )

  -- each total is a number of places of the capture
  pub counts-by-place :
      ((totals_of N s).kept ≡ count_below (covered (kept_pieces (pieces_in N s))) (length s))
      × ((totals_of N s).flags ≡ count_below (λ i. eqb (get_or s i 0) flag) (length s))
      × ((totals_of N s).dropped ≡ count_below (covered (left_pieces (pieces_in N s))) (length s))
  unfolding totals_of
  counts-by-place =
      let ps : List Piece = pieces_in N s in
      let far = far-of ps (ascending N s) in (
        sym (count-covered (length s) 0 (kept_pieces ps) (rw (kept-picked ps) (far-picked is_kept 0 ps far))
            (λ a m. piece-within a ((among-kept ps a).0 m).0)),
        count-flags s,
        sym (count-covered (length s) 0 (left_pieces ps) (rw (left-picked ps) (far-picked is_left 0 ps far))
            (λ a m. piece-within a ((among-left ps a).0 m).0)),
      )
