-- What the receiver's functions promise each other: many octets at once come to the same as one by one.
--   Plain s           == no octet of s is a flag or an escape
--   Copies s o at n o' == the first n octets of s, one at least, are such ones, and stand in o' from the place at on
--   further_by k t    == k octets more were taken in front
--   Passes h s k g    == the first k octets of s take the record h to g, and hand out nothing
-- Assumes nothing.
use Rattle.std.specs.Prelude.{◌≡◌, false, List, [], ◌∷◌, ℕ, ◌+◌, ◌<◌, ◌≤◌, length, take, drop}
use Rattle.std.proofs.lemmas.List.Edits.{sets}
use Rattle.frame.specs.Line.{special}
use Rattle.receiver.specs.Held.{Held, Usable}
use Rattle.receiver.specs.Call.{Took, takes}

abbrev pub Plain : List ℕ → Type 0
Plain [] = Unit {0}
Plain (x ∷ xs) = (special x ≡ false) × Plain xs

pub record Copies (s o : List ℕ) (at n : ℕ) (o' : List ℕ) : Type 0 where
  pub some : 0 < n
  pub few : n ≤ length s
  pub inside : at + n ≤ length o
  pub plain : Plain (take n s)
  pub octets : o' ≡ sets o at (take n s)

unfoldable pub further_by : ℕ → Took → Took
further_by k t = record { held = t.held; count = k + t.count; told = t.told }

pub record Passes (h : Held) (s : List ℕ) (k : ℕ) (g : Held) : Type 0 where
  pub few : k ≤ length s
  pub usable : Usable g
  pub same : (N room : ℕ) → takes N room h s ≡ further_by k (takes N room g (drop k s))
