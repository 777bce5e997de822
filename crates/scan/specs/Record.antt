-- The scan's record as a walk, and back.
--   list_most        == how many identities the list holds
--   beginning_of s   == the beginning of the record s: the first `bits` of its row
--   rows_of n l      == the first n identities of a list, 19 octets each; list_of s == those of the record s
--   walk_of s        == the record s as a walk
--   front onto l     == front at the start of l, the rest of l as it was
--   record_of s v    == the walk v as a record, with what lies past the list and past the beginning as it was in s
-- Assumes nothing.
use Rattle.std.specs.Prelude.{List, [], ◌∷◌, ◌++◌, ℕ, zero, suc, length, take, drop}
use Rattle.identity.specs.Bits.{Bits}
use Rattle.identity.specs.Identity.{width}
use Rattle.walk.specs.Machine.{Phase, asking, complete, doubtful, limited, full, named, Walk}
use Rattle.scan.specs.declared.Scan.{Scan}
use Rattle.scan.specs.declared.State.{State}
use Rattle.scan.specs.declared.State.TheVariants.{Asking, Complete, Doubtful, Limit, Full}

infixl 45 ◌onto◌
-- 01: "the list holds 32"
abbrev pub list_most : ℕ
list_most = 32

unfoldable pub rows_of : ℕ → List ℕ → List (List ℕ)
rows_of zero l = []
rows_of (suc n) l = take width l ∷ rows_of n (drop width l)

unfoldable pub flat : List (List ℕ) → List ℕ
flat [] = []
flat (x ∷ xs) = x ++ flat xs

-- 01: at "limit" and "full" the scan names a beginning; at "complete" and "doubtful" it names none
unfoldable pub phase_of : State → Bits → Phase
phase_of (Asking quiet doubt) p = asking p quiet doubt
phase_of Complete p = complete
phase_of Doubtful p = doubtful
phase_of Limit p = limited p
phase_of Full p = full p

unfoldable pub state_of : Phase → State
state_of (asking p quiet doubt) = Asking quiet doubt
state_of complete = Complete
state_of doubtful = Doubtful
state_of (limited p) = Limit
state_of (full p) = Full

abbrev pub beginning_of : Scan → Bits
beginning_of s = take s.bits s.beginning

abbrev pub list_of : Scan → List (List ℕ)
list_of s = rows_of s.listed s.list

abbrev pub walk_of : Scan → Walk (List ℕ)
walk_of s =
    record { limit = s.limit; count = s.count; listed = list_of s; phase = phase_of s.state (beginning_of s) }

abbrev pub ◌onto◌ : {A : Type 0} → List A → List A → List A
front onto l = front ++ drop (length front) l

abbrev pub record_of : Scan → Walk (List ℕ) → Scan
record_of s v =
    record {
      limit = v.limit;
      count = v.count;
      listed = length v.listed;
      list = flat v.listed onto s.list;
      bits = length (named v.phase);
      beginning = named v.phase onto s.beginning;
      state = state_of v.phase;
    }
