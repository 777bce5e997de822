-- The probes of a scan in their order, for any answers at all: `heard p` says whether a reply to p is heard.
--   hit p         == the probe of p, which has all the bits and is heard: an identity
--   pass p        == the probe of p, any other
--   order d p     == the probes from the beginning p on, in their order, d bits deep
--   beginnings_of == the beginnings that are asked; hits == the identities that are heard
--   place n ms    == the place, counted from 1, of the heard identity that has n before it; all of ms if there is none
--   Doubt d p     == a heard beginning had both halves silent
-- Assumes nothing.
use Rattle.std.specs.Prelude.{◌≡◌, Bool, true, false, cond, ℕ, zero, suc}
use mathlib.Core.List.{List, [], ◌∷◌, ◌++◌, map, Memᴰ}
use Rattle.identity.specs.Bits.{Bits}
use Rattle.walk.specs.Beginnings.{then}

pub data Mark : Type 0 where
  pass hit : Bits → Mark

abbrev pub asked : Mark → Bits
asked (pass p) = p
asked (hit p) = p

abbrev pub beginnings_of : List Mark → List Bits
beginnings_of ms = map asked ms

unfoldable pub hits : List Mark → List Bits
hits [] = []
hits (pass p ∷ ms) = hits ms
hits (hit p ∷ ms) = p ∷ hits ms

unfoldable pub place : ℕ → List Mark → ℕ
place n [] = zero
place n (pass p ∷ ms) = suc (place n ms)
place zero (hit p ∷ ms) = suc zero
place (suc n) (hit p ∷ ms) = suc (place n ms)

module _ (heard : Bits → Bool) where
  -- 01: "A heard beginning under 152 bits is followed by its 0 half, then, that done, its 1 half.
  -- A heard one of 152 bits is listed."
  unfoldable pub order : ℕ → Bits → List Mark
  order zero p = cond (heard p) (hit p) (pass p) ∷ []
  order (suc d) p = let halves = order d (then p false) ++ order d (then p true) in pass p ∷ cond (heard p) halves []

  -- 01: "if a heard beginning had both halves silent"
  abbrev pub Doubt : ℕ → Bits → Type 0
  Doubt d p =
      (x : Bits) × Memᴰ (pass x) (order d p) × (heard x ≡ true)
      × (heard (then x false) ≡ false) × (heard (then x true) ≡ false)
