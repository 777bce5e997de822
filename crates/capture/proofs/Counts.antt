-- The counts of a salvage: no sum of them wraps over a capture of less than 2 ^ 64 octets, and they add up to those of the
-- definition.
--   Within t at      == no count of t is larger than the place at
--   piece_of at p a  == the octets p at the place at, of which a is said
--   summed t qs k    == the counts t, and those of the pieces qs with k flags
-- Assumes nothing.
use mathlib.Core.Path.{◌≡◌, refl, ap, ap₂, ◌∙◌}
use mathlib.Core.List.{List, [], ◌∷◌}
use Prim.Native.Nat.{ℕ, suc, ◌+◌, ◌^◌, ◌<◌, ◌≤◌}
use native.Mathlib.Nat.{mod-le}
use native.Mathlib.Omega.{arith}
use lib.ListN.{length}
use Rattle.refusal.specs.Answer.{Answer, gives, refuses}
use Rattle.salvage.specs.Capture.{Piece, piece_if, pieces_in, kept_if, kept_pieces, left_if, left_pieces, octet_count, flags_in}
use Rattle.salvage.specs.Capture.{totals_of}
use Rattle.salvage.specs.Holding.{Holding, add64, with_octet, said_verdict, tallied, flag_counted, past_flag, stretch_over}
use Rattle.salvage.specs.Holding.{no_totals}
use Rattle.salvage.specs.declared.Totals.{Totals}
use Rattle.capture.proofs.Opened.{add64-small, Opens, verdict_for, next}

-- a sum that wraps is smaller
add64-most : (a b : ℕ) → add64 a b ≤ a + b
unfolding add64
add64-most a b = mod-le (a + b) (2 ^ 64)

-- no count is larger than the place at
pub record Within (t : Totals) (at : ℕ) : Type 0 where
  pub frames : t.frames ≤ at
  pub kept : t.kept ≤ at
  pub flags : t.flags ≤ at
  pub stretches : t.stretches ≤ at
  pub dropped : t.dropped ≤ at

-- nor is one with a stretch more
pub within-verdict : (t : Totals) (at : ℕ) (p : List ℕ) (a : Answer (List ℕ)) → Within t at
    → Within (tallied t (length p) (verdict_for p a)) (at + length p)
unfolding tallied verdict_for said_verdict
within-verdict t at [] a w = omega arith
within-verdict t at (x ∷ p) (gives b) w =
    omega (arith, add64-most t.frames 1, add64-most t.kept (length (x ∷ p)))
within-verdict t at (x ∷ p) (refuses k) w =
    omega (arith, add64-most t.stretches 1, add64-most t.dropped (length (x ∷ p)))

-- or with a flag more
pub within-flag : (t : Totals) (at : ℕ) → Within t at → Within (flag_counted t) (at + 1)
unfolding flag_counted
within-flag t at w = omega (arith, add64-most t.flags 1)

-- an octet that is no flag counts nothing
pub within-octet : (c : Holding) (x at : ℕ) → Within c.salvage.totals at → Within (with_octet c x).salvage.totals at
unfolding with_octet
within-octet c x at w = w

-- a flag counts what lies before it, and itself
pub within-next : (p : List ℕ) (at : ℕ) (c : Holding) (a : Answer (List ℕ)) → Opens p at c → Within c.salvage.totals at
    → Within (next (verdict_for p a) c).salvage.totals (at + length p + 1)
unfolding next past_flag stretch_over
within-next p at c a was w =
    rw was.long
    (within-flag (tallied c.salvage.totals (length p) (verdict_for p a)) (at + length p)
    (within-verdict c.salvage.totals at p a w))

-- counts are equal by their parts
pub totals-same : (t u : Totals) → t.frames ≡ u.frames → t.kept ≡ u.kept → t.flags ≡ u.flags
    → t.stretches ≡ u.stretches → t.dropped ≡ u.dropped → t ≡ u
totals-same t u a b c d e =
    ap₂ (λ (m n : ℕ). totals m n t.flags t.stretches t.dropped) a b
    ∙ ap₂ (λ (m n : ℕ). totals u.frames u.kept m n t.dropped) c d
    ∙ ap (totals u.frames u.kept u.flags u.stretches) e
  where
    totals : ℕ → ℕ → ℕ → ℕ → ℕ → Totals
    totals f k n s d = record { frames = f; kept = k; flags = n; stretches = s; dropped = d }

-- the counts t, and those of the pieces qs with k flags
unfoldable pub summed : Totals → List Piece → ℕ → Totals
summed t qs k =
    record {
      frames = t.frames + length (kept_pieces qs);
      kept = t.kept + octet_count (kept_pieces qs);
      flags = t.flags + k;
      stretches = t.stretches + length (left_pieces qs);
      dropped = t.dropped + octet_count (left_pieces qs);
    }

-- the octets p at the place at, of which a is said
abbrev pub piece_of : ℕ → List ℕ → Answer (List ℕ) → Piece
piece_of at p a = record { offset = at; octets = p; said = a }

-- one stretch more is counted
pub summed-verdict : (t : Totals) (at : ℕ) (p : List ℕ) (a : Answer (List ℕ)) (qs : List Piece) (k : ℕ)
    → at + length p < 2 ^ 64 → Within t at
    → summed (tallied t (length p) (verdict_for p a)) qs k ≡ summed t (piece_if (piece_of at p a) p qs) k
unfolding tallied verdict_for said_verdict summed piece_if kept_pieces kept_if left_pieces left_if octet_count
summed-verdict t at [] a qs k small w = refl
summed-verdict t at (x ∷ p) (gives b) qs k small w =
    let one = add64-small t.frames 1 (omega (arith, w.frames)) in
    let many = add64-small t.kept (length (x ∷ p)) (omega (arith, w.kept)) in
    totals-same _ _ (omega arith) (omega arith) refl refl refl
summed-verdict t at (x ∷ p) (refuses k) qs j small w =
    let one = add64-small t.stretches 1 (omega (arith, w.stretches)) in
    let many = add64-small t.dropped (length (x ∷ p)) (omega (arith, w.dropped)) in
    totals-same _ _ refl refl refl (omega arith) (omega arith)

-- one flag more
pub summed-flag : (t : Totals) (at : ℕ) (qs : List Piece) (k : ℕ) → at + 1 < 2 ^ 64 → Within t at
    → summed (flag_counted t) qs k ≡ summed t qs (suc k)
unfolding flag_counted summed
summed-flag t at qs k small w =
    let one = add64-small t.flags 1 (omega (arith, w.flags)) in
    totals-same _ _ refl refl (omega arith) refl refl

-- nothing more
pub summed-none : (t : Totals) → t ≡ summed t [] 0
unfolding summed kept_pieces left_pieces octet_count
summed-none t = totals-same _ _ (omega arith) (omega arith) (omega arith) (omega arith) (omega arith)

-- from no counts, those of the definition
pub summed-all : (N : ℕ) (s : List ℕ) → summed no_totals (pieces_in N s) (flags_in s) ≡ totals_of N s
unfolding summed totals_of
summed-all N s = totals-same _ _ (omega arith) (omega arith) (omega arith) (omega arith) (omega arith)
