-- What the list, the totals and the written capture are held against, said of places and of stretches and not of the
-- definitions that they pin.
--   ApartEntries es == each entry of the list es ends before the next one begins, with a place between them
--   covered ps i    == one of the pieces ps has an octet at the place i
--   count_below f n == at how many of the places below n the test f holds
--   octets_each ps  == the octets of each of the pieces ps
-- Assumes nothing.
use Rattle.std.specs.Prelude.{Bool, false, cond, ◌&&◌, ◌||◌, List, [], ◌∷◌, ℕ, zero, suc, ◌+◌, ◌<◌, leb, ltb, length}
use Rattle.salvage.specs.Capture.{Piece}
use Rattle.salvage.specs.declared.Stretch.{Stretch}

abbrev pub ApartEntries : List Stretch → Type 0
ApartEntries [] = Unit {0}
ApartEntries (d ∷ []) = Unit {0}
ApartEntries (d ∷ e ∷ es) = (d.offset + d.length < e.offset) × ApartEntries (e ∷ es)

unfoldable pub covered : List Piece → ℕ → Bool
covered [] i = false
covered (a ∷ ps) i = (leb a.offset i && ltb i (a.offset + length a.octets)) || covered ps i

unfoldable pub count_below : (ℕ → Bool) → ℕ → ℕ
count_below f zero = 0
count_below f (suc n) = cond (f n) (suc (count_below f n)) (count_below f n)

unfoldable pub octets_each : List Piece → List (List ℕ)
octets_each [] = []
octets_each (a ∷ ps) = a.octets ∷ octets_each ps
