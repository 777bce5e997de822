-- The payload of an XID frame, over its group: the group's octet, and the table of its identifiers with their lengths.
-- 01, "XID: scan and assignment".
--   n is v             == a parameter: its identifier n, and the octets v of its value
--   triple_of p        == identifier, length, value; field_of ps == the triples of ps, one behind the other
--   format             == 0x81, the first octet of every payload;
--                         table_rows == 5, the most identifiers that a group has
--   xid_payload g ps   == 0x81, the octet of g, a length equal to all that follows, then the triples of ps
--   n has a to b       == a row of a table: the identifier n, and a to b octets for its value
--   right_length t n k == the table t has the identifier n, and its value may have k octets
--   identifiers ps     == the identifiers of ps, in their order
--   WellFormed g m ps  == the octets m are the payload of the parameters ps of the group g, and these are as 01 says
--   triples_of s       == the parameters whose triples fill s exactly, where there are such; triples_after k s == those
--                         of s without its first k octets
--   opened o m         == m begins 0x81, the octet o, the length of all that follows
--   all_right, none_twice, checked == the tests for right lengths and repeats
--   params_of g m      == the parameters of the payload m, where it is well formed
--   value_for n ps     == the value of the parameter n, where it is given
--   given x            == a value is given; octets_in x == its octets, none where it is not given
-- `params_of` computes what `WellFormed` says, for every group: proofs/Exact.antt. Assumes nothing.
use Rattle.std.specs.Prelude.{◌≡◌, Bool, true, false, cond, not, ◌&&◌, List, [], ◌∷◌, ◌++◌, ℕ, zero, suc, ◌-◌, leb, eqb, length, get_or, take, drop}
use Rattle.std.proofs.Math.Option.{Option, none, some}
use Rattle.octets.specs.Octets.{holds}
use Rattle.identity.specs.Order.{Different}
use Rattle.params.specs.declared.Identifier.{Identifier}
use Rattle.params.specs.declared.Group.{Group}

infix 70 ◌is◌
infix 70 ◌has◌to◌
pub data Param : Type 0 where
  ◌is◌ : ℕ → List ℕ → Param

-- "triples of identifier, length, value"
unfoldable pub triple_of : Param → List ℕ
triple_of (n is v) = n ∷ length v ∷ v

unfoldable pub field_of : List Param → List ℕ
field_of [] = []
field_of (p ∷ ps) = triple_of p ++ field_of ps

abbrev pub format : ℕ
format = 0x81

abbrev pub table_rows : ℕ
table_rows = 5

-- "Payload: 0x81, 0xF0, a length equal to all that follows, then triples .. that fill it exactly"; 0xF0 is a group's octet
unfoldable pub xid_payload : Group → List Param → List ℕ
xid_payload g ps = format ∷ g.octet ∷ length (field_of ps) ∷ field_of ps

-- "1 (identity, 1 to 19)"
abbrev pub ◌has◌to◌ : ℕ → ℕ → ℕ → Identifier
n has a to b = record { id = n; least = a; most = b }

-- the row of the identifier says how many octets; without a row no length is right
unfoldable pub right_length : List Identifier → ℕ → ℕ → Bool
right_length [] n k = false
right_length (r ∷ t) n k = cond (eqb r.id n) (leb r.least k && leb k r.most) (right_length t n k)

unfoldable pub identifiers : List Param → List ℕ
identifiers [] = []
identifiers (n is v ∷ ps) = n ∷ identifiers ps

-- none is "another identifier, another length"
abbrev pub AllRight : List Identifier → List Param → Type 0
AllRight t [] = Unit {0}
AllRight t (n is v ∷ ps) = (right_length t n (length v) ≡ true) × AllRight t ps

-- "any order. A repeat, another identifier, another length: silence"
pub record WellFormed (g : Group) (m : List ℕ) (ps : List Param) : Type 0 where
  pub octets : m ≡ xid_payload g ps
  pub right : AllRight g.table ps
  pub once : Different (identifiers ps)

-- the triples read off, one after the other; the number says how many octets of the last value are still to come
unfoldable pub before : Param → Option (List Param) → Option (List Param)
before p none = none
before p (some ps) = some (p ∷ ps)

unfoldable pub triples_after : ℕ → List ℕ → Option (List Param)
triples_after zero [] = some []
triples_after (suc k) [] = none
triples_after (suc k) (x ∷ xs) = triples_after k xs
triples_after zero (n ∷ []) = none
triples_after zero (n ∷ k ∷ xs) = before (n is take k xs) (triples_after k xs)

abbrev pub triples_of : List ℕ → Option (List Param)
triples_of s = triples_after 0 s

unfoldable pub all_right : List Identifier → List Param → Bool
all_right t [] = true
all_right t (n is v ∷ ps) = right_length t n (length v) && all_right t ps

unfoldable pub none_twice : List ℕ → Bool
none_twice [] = true
none_twice (n ∷ ns) = not (holds n ns) && none_twice ns

unfoldable pub checked : List Identifier → Option (List Param) → Option (List Param)
checked t none = none
checked t (some ps) = cond (all_right t ps && none_twice (identifiers ps)) (some ps) none

-- the three octets before the triples
unfoldable pub opened : ℕ → List ℕ → Bool
opened o m =
    leb 3 (length m) && (eqb (get_or m 0 0) format && (eqb (get_or m 1 0) o && eqb (get_or m 2 0) (length m - 3)))

unfoldable pub params_of : Group → List ℕ → Option (List Param)
params_of g m = cond (opened g.octet m) (checked g.table (triples_of (drop 3 m))) none

-- what is given, by identifier
unfoldable pub value_for : ℕ → List Param → Option (List ℕ)
value_for n [] = none
value_for n (k is v ∷ ps) = cond (eqb k n) (some v) (value_for n ps)

unfoldable pub given : Option (List ℕ) → Bool
given none = false
given (some v) = true

unfoldable pub octets_in : Option (List ℕ) → List ℕ
octets_in none = []
octets_in (some v) = v
