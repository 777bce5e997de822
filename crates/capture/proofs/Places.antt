-- Every place of a capture is one of three: an octet of a stretch that is kept, a flag, an octet of a stretch that is left
-- out. The pieces are those that stand there, in order and apart; nothing is made up, and each number is the decoder's.
--   Apart ps       == each of the pieces ps ends before the next one begins, with a place between them
--   Beyond k ps    == the same, and the first of them begins at the place k or behind it
--   Stood N s a    == the piece a stands at its place in the capture s, has no flag, and is said what is to be said of it
--   Found t i ps j == at the place i of t stands a flag, or one of ps has an octet at the place j
-- Assumes nothing.
use mathlib.Core.Path.{◌≡◌, refl, sym, ap, ◌∙◌, subst}
use mathlib.Core.Bool.{Bool, true, false, cond, not}
use mathlib.Core.List.{List, [], ◌∷◌, ◌++◌, append_assoc, append-nil}
use mathlib.Core.Logic.{◌⊎◌, inl, inr, ⊎_elim}
use Prim.Native.Nat.{ℕ, zero, suc, ◌+◌, ◌-◌, ◌<◌, ◌≤◌}
use native.Mathlib.Nat.{not-suc-le-zero}
use native.Mathlib.Omega.{arith}
use borrow.Author.Tests.{ltb-true, ltb-false, not-true}
use lib.Dec.{ltb}
use lib.ListN.{length, take, drop, get_or, length-append}
use lib.Seq.{take-append_seam, drop_at, get_or-append-add, get_or-take, get_or-drop}
use Rattle.octets.specs.Octets.{holds, OneOf}
use Rattle.octets.proofs.Words.{true-not-false, holds-nowhere, holds-tail}
use Rattle.refusal.specs.Answer.{gives, refuses}
use Rattle.refusal.proofs.Answers.{gives-not-refuses}
use Rattle.limits.specs.Limits.{is_limit, frame_most}
use Rattle.frame.specs.Line.{flag}
use Rattle.frame.specs.Decode.{decoded}
use Rattle.live.proofs.Steps.{other-first}
use Rattle.live.proofs.Decoder.{Flagless}
use Rattle.salvage.specs.Capture.{Piece, pieces_from, all_pieces, pieces_in, kept_pieces, left_pieces}
use Rattle.salvage.specs.Capture.{listed, frames_of, octet_count, flags_in, totals_of}
use Rattle.capture.specs.Places.{Among, Covers, KeptAt, LeftAt, FlagAt, OneOfThree, Edge}
use Rattle.capture.proofs.Parted.{behind, parted-is, said_of, from_cons, pieces_are}
use Rattle.capture.proofs.Decoded.{numbers-decoded}
use Rattle.capture.proofs.Filters.{is_kept, picked, some-picked, has_octets, is-given, is-refused}
use Rattle.capture.proofs.Filters.{among-some, among-kept, among-left, count-both, count-some}
use Rattle.capture.proofs.Filters.{listed-left, frames-kept, listed-long, frames-long}

abbrev pub Apart : List Piece → Type 0
Apart [] = Unit {0}
Apart (a ∷ []) = Unit {0}
Apart (a ∷ b ∷ ps) = (a.offset + length a.octets < b.offset) × Apart (b ∷ ps)

abbrev Beyond : ℕ → List Piece → Type 0
Beyond k [] = Unit {0}
Beyond k (a ∷ ps) = (k ≤ a.offset) × Beyond (a.offset + length a.octets + 1) ps

beyond-less : (j k : ℕ) (ps : List Piece) → j ≤ k → Beyond k ps → Beyond j ps
beyond-less j k [] h w = tt
beyond-less j k (a ∷ ps) h w = (omega arith, w.1)

beyond-apart : (k : ℕ) (ps : List Piece) → Beyond k ps → Apart ps
beyond-apart k [] w = tt
beyond-apart k (a ∷ []) w = tt
beyond-apart k (a ∷ b ∷ ps) w = (omega arith, beyond-apart (a.offset + length a.octets + 1) (b ∷ ps) w.1)

beyond-among : (k : ℕ) (ps : List Piece) → Beyond k ps → (a : Piece) → Among a ps → k ≤ a.offset
beyond-among k [] w a m = absurd m
beyond-among k (b ∷ ps) w a (inl e) = rw e w.0
beyond-among k (b ∷ ps) w a (inr m) =
    let less = beyond-among (b.offset + length b.octets + 1) ps w.1 a m in omega arith

-- pieces that are left away leave the others apart
beyond-picked : (t : Piece → Bool) (k : ℕ) (ps : List Piece) → Beyond k ps → Beyond k (picked t ps)
beyond-picked t k [] w = tt
beyond-picked t k (a ∷ ps) w = go (t a) (beyond-picked t (a.offset + length a.octets + 1) ps w.1)
  where
    go : (b : Bool) → Beyond (a.offset + length a.octets + 1) (picked t ps)
        → Beyond k (cond b (a ∷ picked t ps) (picked t ps))
    go true less = (w.0, less)
    go false less = beyond-less k (a.offset + length a.octets + 1) (picked t ps) (omega arith) less

beyond-from : (N at : ℕ) (ps : List (List ℕ)) → Beyond at (pieces_from N at ps)
unfolding pieces_from
beyond-from N at [] = tt
beyond-from N at (p ∷ ps) = rw (from_cons N at p ps) (omega arith, beyond-from N (at + length p + 1) ps)

beyond-in : (N : ℕ) (s : List ℕ) → Beyond 0 (pieces_in N s)
unfolding all_pieces
beyond-in N s =
    let parts = parted-is s in
    let p : List ℕ = parts.first in
    let ps : List (List ℕ) = parts.others in
    rw (pieces_are N s, some-picked (all_pieces N (p ∷ ps)))
    (beyond-picked has_octets 0 (all_pieces N (p ∷ ps)) (
      omega arith,
      beyond-less (0 + length p + 1) (length p + 1) (pieces_from N (length p + 1) ps) (omega arith)
          (beyond-from N (length p + 1) ps),
    ))

-- in the order of the capture, none over another
pub ascending : (N : ℕ) (s : List ℕ) → Apart (pieces_in N s)
ascending N s = beyond-apart 0 (pieces_in N s) (beyond-in N s)

-- of two that have an octet at one place the later one would begin behind the end of the other
beyond-one : (k i : ℕ) (ps : List Piece) (a b : Piece) → Beyond k ps → Among a ps → Among b ps → Covers a i → Covers b i
    → a ≡ b
beyond-one k i [] a b w m n c d = absurd m
beyond-one k i (e ∷ ps) a b w (inl p) (inl q) c d = p ∙ sym q
beyond-one k i (e ∷ ps) a b w (inl p) (inr n) c d =
    let far = beyond-among (e.offset + length e.octets + 1) ps w.1 b n in
    let near = rw p at c in absurd (omega arith)
beyond-one k i (e ∷ ps) a b w (inr m) (inl q) c d =
    let far = beyond-among (e.offset + length e.octets + 1) ps w.1 a m in
    let near = rw q at d in absurd (omega arith)
beyond-one k i (e ∷ ps) a b w (inr m) (inr n) c d =
    beyond-one (e.offset + length e.octets + 1) i ps a b w.1 m n c d

pub one_piece : (N : ℕ) (s : List ℕ) (i : ℕ) (a b : Piece) → Among a (pieces_in N s) → Among b (pieces_in N s)
    → Covers a i → Covers b i → a ≡ b
one_piece N s i a b = beyond-one 0 i (pieces_in N s) a b (beyond-in N s)

record Stood (N : ℕ) (s : List ℕ) (a : Piece) : Type 0 where
  before : List ℕ
  after : List ℕ
  whole : s ≡ before ++ (a.octets ++ after)
  place : a.offset ≡ length before
  flagless : holds flag a.octets ≡ false
  says : ((a.said ≡ refuses 0) × Edge s a) ⊎ (a.said ≡ decoded N a.octets (frame_most N))

-- behind the last flag 0 is said, and the decoder's answer before it
says_of : (N : ℕ) (p : List ℕ) (ps : List (List ℕ)) (E : Type 0) → (behind ps ≡ [] → E)
    → ((said_of N p ps ≡ refuses 0) × E) ⊎ (said_of N p ps ≡ decoded N p (frame_most N))
says_of N p [] E h = inl (refl, h refl)
says_of N p (q ∷ ps) E h = inr refl

module _ (N : ℕ) (s : List ℕ) where
  stood-part : (before p : List ℕ) (ps : List (List ℕ)) (at : ℕ) → s ≡ before ++ (p ++ behind ps) → at ≡ length before
      → holds flag p ≡ false → Stood N s (record { offset = at; octets = p; said = said_of N p ps })
  stood-part before p ps at e n f =
      record {
        before = before;
        after = behind ps;
        whole = e;
        place = n;
        flagless = f;
        says = says_of N p ps _ (λ last.
            let rest : drop at s ≡ p =
            ap (drop at) e ∙ drop_at before (p ++ behind ps) at (sym n) ∙ rw (last, append-nil) in
            inr (rw rest f));
      }

  stood-from : (before : List ℕ) (at : ℕ) (ps : List (List ℕ)) → s ≡ before ++ behind ps → at ≡ length before + 1
      → Flagless ps → (a : Piece) → Among a (pieces_from N at ps) → Stood N s a
  unfolding pieces_from
  stood-from before at [] e n f a m = absurd m
  stood-from before at (p ∷ ps) e n f a m =
      let front : List ℕ = before ++ flag ∷ [] in
      let whole : s ≡ front ++ (p ++ behind ps) = e ∙ sym (append_assoc before (flag ∷ []) (p ++ behind ps)) in
      let long = length-append before (flag ∷ []) in
      let more = length-append front p in
      ⊎_elim (λ q. subst (Stood N s) (sym q) (stood-part front p ps at whole (omega arith) f.0))
      (stood-from (front ++ p) (at + length p + 1) ps (whole ∙ sym (append_assoc front p (behind ps))) (omega arith)
      f.1 a)
      (rw (from_cons N at p ps) at m)

  stood : (a : Piece) → Among a (pieces_in N s) → Stood N s a
  unfolding all_pieces holds
  stood a m =
      let parts = parted-is s in
      let p : List ℕ = parts.first in
      let ps : List (List ℕ) = parts.others in
      ⊎_elim (λ q. subst (Stood N s) (sym q) (record {
        before = [];
        after = behind ps;
        whole = parts.whole;
        place = refl;
        flagless = parts.flagless.0;
        says = inl (refl, inl refl);
      }))
      (stood-from p (length p + 1) ps parts.whole refl parts.flagless.1 a)
      ((among-some (all_pieces N (p ∷ ps)) a).0 (rw (pieces_are N s) at m)).0

module _ (N : ℕ) (s : List ℕ) (a : Piece) where
  -- the octets of a piece are those that stand in the capture at its place
  pub as-they-stood : Among a (pieces_in N s) → take (length a.octets) (drop a.offset s) ≡ a.octets
  as-they-stood m =
      let w = stood N s a m in
      ap (λ (l : List ℕ). take (length a.octets) (drop a.offset l)) w.whole
      ∙ ap (take (length a.octets)) (drop_at w.before (a.octets ++ w.after) a.offset (sym w.place))
      ∙ take-append_seam a.octets w.after

  pub piece-octets : Among a (pieces_in N s) → (0 < length a.octets) × (holds flag a.octets ≡ false)
  piece-octets m =
      let parts = parted-is s in (
        ((among-some (all_pieces N (parts.first ∷ parts.others)) a).0 (rw (pieces_are N s) at m)).1,
        (stood N s a m).flagless,
      )

  -- nothing is made up
  pub kept-is-decoded : Among a (kept_pieces (pieces_in N s))
      → (b : List ℕ) × (a.said ≡ gives b) × (decoded N a.octets (frame_most N) ≡ gives b) × Among a (pieces_in N s)
  kept-is-decoded m =
      let (one, kept) = (among-kept (pieces_in N s) a).0 m in
      let (b, e) = is-given a.said kept in (
        b,
        e,
        ⊎_elim (λ w. absurd (gives-not-refuses (sym e ∙ w.0))) (λ q. sym q ∙ e) (stood N s a one).says,
        one,
      )

  -- what is left out is before the first flag or after the last, or is what the decoder refuses
  pub left-is-refused : is_limit N ≡ true → Among a (left_pieces (pieces_in N s))
      → Among a (pieces_in N s)
      × (((a.said ≡ refuses 0) × Edge s a)
      ⊎ ((k : ℕ) × OneOf k (1 ∷ 2 ∷ 3 ∷ 4 ∷ []) × (a.said ≡ refuses k)
      × (decoded N a.octets (frame_most N) ≡ refuses k)))
  left-is-refused l m =
      let (one, left) = (among-left (pieces_in N s) a).0 m in
      let (k, e) = is-refused a.said left in (
        one,
        ⊎_elim inl (λ q. inr (k, numbers-decoded N a.octets k l (sym q ∙ e), e, sym q ∙ e)) (stood N s a one).says,
      )

  -- no flag stands where a piece has an octet
  flag-nowhere : (i : ℕ) → Among a (pieces_in N s) → Covers a i → FlagAt s i → ⊥
  flag-nowhere i m c e =
      let n : ℕ = i - a.offset in
      let inside : n < length a.octets = omega arith in
      let same : a.offset + n ≡ i = omega arith in
      holds-nowhere flag a.octets (piece-octets m).1 n inside
      (ap (λ (l : List ℕ). get_or l n 0) (sym (as-they-stood m))
      ∙ get_or-take (length a.octets) (drop a.offset s) n 0 inside
      ∙ get_or-drop a.offset s n 0
      ∙ ap (λ (j : ℕ). get_or s j 0) same
      ∙ e)

abbrev Found : List ℕ → ℕ → List Piece → ℕ → Type 0
Found t i ps j = (get_or t i 0 ≡ flag) ⊎ ((a : Piece) × Among a ps × Covers a j)

-- a piece, and what stands behind it
found_part : (a : Piece) (ps : List Piece) (rest : List ℕ) (i j : ℕ) → j ≡ a.offset + i → i < length (a.octets ++ rest)
    → ((m : ℕ) → m < length rest → i ≡ length a.octets + m → Found rest m ps j)
    → Found (a.octets ++ rest) i (a ∷ ps) j
found_part a ps rest i j e h more = go (ltb i (length a.octets)) refl
  where
    go : (t : Bool) → ltb i (length a.octets) ≡ t → Found (a.octets ++ rest) i (a ∷ ps) j
    go true t =
        let inside = ltb-true i (length a.octets) t in inr (a, inl refl, (omega arith, omega arith))
    go false t =
        let over = ltb-false i (length a.octets) t in
        let m : ℕ = i - length a.octets in
        let same : i ≡ length a.octets + m = omega arith in
        ⊎_elim (λ q. inl (ap (λ (n : ℕ). get_or (a.octets ++ rest) n 0) same ∙ get_or-append-add a.octets rest m 0 ∙ q))
        (λ w. inr (w.0, inr w.1, w.2))
        (more m (omega (arith, length-append a.octets rest)) same)

found_from : (N : ℕ) (ps : List (List ℕ)) (at i j : ℕ) → j + 1 ≡ at + i → i < length (behind ps)
    → Found (behind ps) i (pieces_from N at ps) j
found_from N [] at i j e h = absurd (not-suc-le-zero h)
found_from N (p ∷ ps) at zero j e h = inl refl
found_from N (p ∷ ps) at (suc i) j e h =
    rw (from_cons N at p ps)
    (found_part (record { offset = at; octets = p; said = said_of N p ps }) (pieces_from N (at + length p + 1) ps)
    (behind ps) i j (omega arith) (omega arith)
    (λ m g q. found_from N ps (at + length p + 1) m j (omega arith) g))

module _ (N : ℕ) (s : List ℕ) (i : ℕ) where
  found_in : i < length s → Found s i (pieces_in N s) i
  unfolding all_pieces
  found_in h =
      let parts = parted-is s in
      let p : List ℕ = parts.first in
      let ps : List (List ℕ) = parts.others in
      ⊎_elim (λ e. inl (ap (λ (l : List ℕ). get_or l i 0) parts.whole ∙ e))
      (λ w. let (a, m, c) = w in
      inr (a, rw (pieces_are N s) ((among-some (all_pieces N (p ∷ ps)) a).1 (m, omega arith)), c))
      (found_part (record { offset = 0; octets = p; said = refuses 0 }) (pieces_from N (length p + 1) ps) (behind ps) i i
      (omega arith) (omega (arith, ap length parts.whole))
      (λ m g q. found_from N ps (length p + 1) m i (omega arith) g))

  -- each place once
  pub every-place : i < length s → OneOfThree (KeptAt N s i) (FlagAt s i) (LeftAt N s i)
  every-place h =
      record {
        one = ⊎_elim (λ e. inr (inl e)) (λ w. let (a, m, c) = w in by_kind a m c (is_kept a) refl) (found_in h);
        not_ab = λ k e. flag-nowhere N s k.0 i ((among-kept (pieces_in N s) k.0).0 k.1).0 k.2 e;
        not_ac = λ k d.
            let (a, kept) = (among-kept (pieces_in N s) k.0).0 k.1 in
            let (b, left) = (among-left (pieces_in N s) d.0).0 d.1 in
            let same = one_piece N s i k.0 d.0 a b k.2 d.2 in
            true-not-false (sym (rw same at kept) ∙ not-true _ left);
        not_bc = λ e d. flag-nowhere N s d.0 i ((among-left (pieces_in N s) d.0).0 d.1).0 d.2 e;
      }
    where
      by_kind : (a : Piece) → Among a (pieces_in N s) → Covers a i → (t : Bool) → is_kept a ≡ t
          → KeptAt N s i ⊎ (FlagAt s i ⊎ LeftAt N s i)
      by_kind a m c true e = inl (a, (among-kept (pieces_in N s) a).1 (m, e), c)
      by_kind a m c false e = inr (inr (a, (among-left (pieces_in N s) a).1 (m, ap not e), c))

-- flags and octets, of parts with a flag before each
count-from : (N at : ℕ) (ps : List (List ℕ)) → octet_count (pieces_from N at ps) + length ps ≡ length (behind ps)
unfolding octet_count pieces_from
count-from N at [] = refl
count-from N at (p ∷ ps) =
    rw (from_cons N at p ps) (omega (arith, count-from N (at + length p + 1) ps, length-append p (behind ps)))

flags-append : (p s : List ℕ) → holds flag p ≡ false → flags_in (p ++ s) ≡ flags_in s
unfolding flags_in
flags-append [] s f = refl
flags-append (x ∷ p) s f = rw (other-first x p f) (flags-append p s (holds-tail flag x p f))

flags-behind : (ps : List (List ℕ)) → Flagless ps → flags_in (behind ps) ≡ length ps
unfolding flags_in
flags-behind [] f = refl
flags-behind (p ∷ ps) f = ap suc (flags-append p (behind ps) f.0 ∙ flags-behind ps f.1)

pub add-up : (N : ℕ) (s : List ℕ) → (totals_of N s).kept + (totals_of N s).flags + (totals_of N s).dropped ≡ length s
unfolding totals_of all_pieces octet_count
add-up N s =
    let parts = parted-is s in
    let p : List ℕ = parts.first in
    let ps : List (List ℕ) = parts.others in
    let flags : flags_in s ≡ length ps =
    ap flags_in parts.whole ∙ flags-append p (behind ps) parts.flagless.0 ∙ flags-behind ps parts.flagless.1 in
    let octets = ap octet_count (pieces_are N s) ∙ count-some (all_pieces N (p ∷ ps)) in
    omega (
      arith,
      count-both (pieces_in N s),
      flags,
      octets,
      count-from N (length p + 1) ps,
      ap length parts.whole,
      length-append p (behind ps),
    )

-- what is listed is what is left out, and the frames are those of the stretches that are kept, one of each
pub listed-are-left : (N : ℕ) (s : List ℕ) → let ps : List Piece = pieces_in N s in
    (listed ps ≡ listed (left_pieces ps)) × (frames_of ps ≡ frames_of (kept_pieces ps))
    × (length (listed ps) ≡ (totals_of N s).stretches) × (length (frames_of ps) ≡ (totals_of N s).frames)
unfolding totals_of
listed-are-left N s =
    let ps : List Piece = pieces_in N s in (listed-left ps, frames-kept ps, listed-long ps, frames-long ps)
