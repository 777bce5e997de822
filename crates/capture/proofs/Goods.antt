-- What is written, held against what the live receiver parts: between its flags lie the stretches that are kept, as they
-- are and in their order, and nothing else; and how long it is.
-- Assumes nothing.
use mathlib.Core.Path.{◌≡◌, refl, ap, ◌∙◌}
use mathlib.Core.Bool.{false, cond}
use mathlib.Core.List.{List, [], ◌∷◌}
use mathlib.Core.Logic.{inl, inr}
use Prim.Native.Nat.{ℕ, ◌+◌}
use native.Mathlib.Omega.{arith}
use lib.Dec.{eqb, eqb-suc-zero}
use lib.ListN.{length, length-append}
use Rattle.octets.specs.Octets.{holds}
use Rattle.frame.specs.Line.{flag}
use Rattle.live.specs.Stretches.{stretches_after, stretches}
use Rattle.live.proofs.Decoder.{stretch-closed}
use Rattle.salvage.specs.Capture.{Piece, pieces_in, kept_pieces, flag_behind, good_of, octet_count, totals_of}
use Rattle.capture.specs.Places.{Among}
use Rattle.capture.specs.Pinned.{octets_each}
use Rattle.capture.proofs.Filters.{among-kept}
use Rattle.capture.proofs.Places.{piece-octets}

-- each flag closes one of them
stretches-each : (ps : List Piece) → ((a : Piece) → Among a ps → holds flag a.octets ≡ false)
    → stretches_after [] (flag_behind ps) ≡ octets_each ps
unfolding stretches_after flag_behind octets_each
stretches-each [] f = refl
stretches-each (a ∷ ps) f =
    stretch-closed a.octets (flag_behind ps) (f a (inl refl))
    ∙ ap (λ (l : List (List ℕ)). a.octets ∷ l) (stretches-each ps (λ b m. f b (inr m)))

stretches-good : (ps : List Piece) → ((a : Piece) → Among a ps → holds flag a.octets ≡ false)
    → stretches (good_of ps) ≡ octets_each ps
unfolding stretches good_of octets_each
stretches-good [] f = refl
stretches-good (a ∷ ps) f = stretches-each (a ∷ ps) f

-- between the flags of what is written lie the stretches that are kept
pub good-stretches : (N : ℕ) (s : List ℕ)
    → stretches (good_of (kept_pieces (pieces_in N s))) ≡ octets_each (kept_pieces (pieces_in N s))
good-stretches N s =
    stretches-good (kept_pieces (pieces_in N s)) (λ a m. (piece-octets N s a ((among-kept (pieces_in N s) a).0 m).0).1)

long-behind : (ps : List Piece) → length (flag_behind ps) ≡ octet_count ps + length ps
unfolding flag_behind octet_count
long-behind [] = refl
long-behind (a ∷ ps) = omega (arith, length-append a.octets (flag ∷ flag_behind ps), long-behind ps)

long-good : (ps : List Piece) → length (good_of ps) ≡ cond (eqb (length ps) 0) 0 (octet_count ps + length ps + 1)
unfolding good_of
long-good [] = refl
long-good (a ∷ ps) = rw (eqb-suc-zero (length ps)) (omega (arith, long-behind (a ∷ ps)))

-- the octets that are kept, a flag behind each stretch and one before all; where nothing is kept, nothing
pub good_length : (N : ℕ) (s : List ℕ)
    → length (good_of (kept_pieces (pieces_in N s)))
    ≡ cond (eqb (totals_of N s).frames 0) 0 ((totals_of N s).kept + (totals_of N s).frames + 1)
unfolding totals_of
good_length N s = long-good (kept_pieces (pieces_in N s))
