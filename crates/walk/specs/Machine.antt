-- The walk as a machine that takes one answer at a time. Beginnings are counted from where the walk starts; `name p`
-- is what its list holds for the identity p, `depth` the bits of an identity, `cap` the length of the list.
--   next p         == the beginning that is asked once all below p is done
--   zero_half p    == p is the 0 half of something
--   Phase          == where a walk stands: `asking p quiet doubt`, or one of the four ends
--                     p is the next beginning to ask; quiet: p is a 1 half whose 0 half was silent;
--                     doubt: some heard beginning had both halves silent
--   Walk           == the limit, the count of the probes answered, the list, the phase
--   start limit    == a walk that has asked nothing
--   noted .. a     == the walk after the answer a to the beginning p that it asked
--   step s a       == the walk s after the answer a; at an end it stays
--   run heard n s  == the walk s after n answers, each as `heard` says of the beginning that is asked
-- Assumes nothing.
use Rattle.std.specs.Prelude.{Bool, true, false, cond, ◌||◌, List, [], ◌∷◌, ◌++◌, ℕ, zero, suc, ltb, length}
use Rattle.std.proofs.Math.Option.{Option, none, some}
use Rattle.identity.specs.Bits.{Bits}
use Rattle.walk.specs.Beginnings.{then}

-- trailing ones dropped, and the last zero made a one
unfoldable pub carry : Bool → Option Bits → Option Bits
carry true none = none
carry false none = some (true ∷ [])
carry true (some q) = some (true ∷ q)
carry false (some q) = some (false ∷ q)

unfoldable pub next : Bits → Option Bits
next [] = none
next (b ∷ p) = carry b (next p)

unfoldable pub zero_half : Bits → Bool
zero_half [] = false
zero_half (true ∷ []) = false
zero_half (false ∷ []) = true
zero_half (b ∷ c ∷ p) = zero_half (c ∷ p)

pub data Phase : Type 0 where
  asking : Bits → Bool → Bool → Phase
  complete doubtful : Phase
  limited full : Bits → Phase

abbrev pub Ended : Phase → Type 0
Ended (asking p q w) = ⊥
Ended complete = Unit {0}
Ended doubtful = Unit {0}
Ended (limited p) = Unit {0}
Ended (full p) = Unit {0}

-- the beginning that a phase names: the next to ask, or where it ended; at "complete" and "doubtful" the empty one
unfoldable pub named : Phase → Bits
named (asking p q w) = p
named complete = []
named doubtful = []
named (limited p) = p
named (full p) = p

pub record Walk (A : Type 0) : Type 0 where
  pub limit : ℕ
  pub count : ℕ
  pub listed : List A
  pub phase : Phase

-- 01: "as "limit" when limit probes are answered and more remain, else when none remain: "doubtful" if a heard
-- beginning had both halves silent, "complete" if not"
unfoldable pub go_on : ℕ → ℕ → Bool → Bool → Option Bits → Phase
go_on l c q w none = cond w doubtful complete
go_on l c q w (some p) = cond (ltb c l) (asking p q w) (limited p)

module _ {A : Type 0} where
  abbrev pub settle : ℕ → ℕ → List A → Bool → Bool → Option Bits → Walk A
  settle l c f q w at = record { limit = l; count = c; listed = f; phase = go_on l c q w at }

  abbrev pub start : ℕ → Walk A
  start l = settle l 0 [] false false (some [])

module _ {A : Type 0} (name : Bits → A) (depth cap : ℕ) where
  -- 01: "as "full" when a 33rd identity is heard (not listed)"
  unfoldable pub listing : ℕ → ℕ → List A → Bool → Bits → Walk A
  listing l c f w p =
      cond (ltb (length f) cap)
      (settle l (suc c) (f ++ (name p ∷ [])) false w (next p))
      (record { limit = l; count = suc c; listed = f; phase = full p })

  unfoldable pub noted : ℕ → ℕ → List A → Bits → Bool → Bool → Bool → Walk A
  noted l c f p q w true =
      cond (ltb (length p) depth) (settle l (suc c) f false w (some (then p false))) (listing l c f w p)
  noted l c f p q w false = settle l (suc c) f (zero_half p) (w || q) (next p)

  unfoldable pub step_in : Walk A → Phase → Bool → Walk A
  step_in s (asking p q w) a = noted s.limit s.count s.listed p q w a
  step_in s complete a = s
  step_in s doubtful a = s
  step_in s (limited p) a = s
  step_in s (full p) a = s

  unfoldable pub step : Walk A → Bool → Walk A
  step s a = step_in s s.phase a

  unfoldable pub run : (Bits → Bool) → ℕ → Walk A → Walk A
  run heard zero s = s
  run heard (suc n) s = run heard n (step s (heard (named s.phase)))
