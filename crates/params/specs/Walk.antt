-- The walk through a payload: where the values of its parameters stand.
--   place_in n t      == the place of the identifier n in the table t, counted from 0; its length where there is none
--   Part              == a part: where the value of a parameter stands, if it is given; part from len == one that is
--   no_parts k        == k parts, none given
--   parts_at t at ps  == where the values of ps stand, whose triples begin at the place `at`: each at the place of its
--                        identifier in the table t
--   part_in f i       == the part at the place i of f; past its end there is none
--   Found             == what is found of a payload: its parts, or that it is not well formed: unformed
--   found_from at t x == what is found of the parameters x, whose triples begin at the place `at`, where there are such
--   found_in g m      == where the values of the parameters of m stand, where m is well formed
--   value_at m p      == the octets of the part p
-- Assumes nothing.
use Rattle.std.specs.Prelude.{cond, List, [], ◌∷◌, ℕ, suc, ◌+◌, eqb, length, get_or, set, take, drop, replicate, Some, None, Ok, Err}
use Rattle.std.specs.declared.option.Option as code
use Rattle.std.specs.declared.result.Result.{Result}
use Rattle.std.proofs.Math.Option.{Option, none, some}
pub use Rattle.reader.specs.declared.Malformed.{Malformed}
use Rattle.params.specs.Field.{Param, ◌is◌, params_of}
use Rattle.params.specs.declared.Identifier.{Identifier}
use Rattle.params.specs.declared.Group.{Group}
use Rattle.params.specs.declared.Place.{Place}

unfoldable pub place_in : ℕ → List Identifier → ℕ
place_in n [] = 0
place_in n (r ∷ t) = cond (eqb r.id n) 0 (suc (place_in n t))

abbrev pub Part : Type 0
Part = code.Option Place

abbrev pub part : ℕ → ℕ → Part
part from len = Some (record { from = from; len = len })

abbrev pub no_parts : ℕ → List Part
no_parts k = replicate k None

unfoldable pub parts_at : List Identifier → ℕ → List Param → List Part
parts_at t at [] = no_parts (length t)
parts_at t at (n is v ∷ ps) = set (parts_at t (at + 2 + length v) ps) (place_in n t) (part (at + 2) (length v))

abbrev pub part_in : List Part → ℕ → Part
part_in f i = get_or f i None

abbrev pub Found : Type 0
Found = Result (List Part) Malformed

abbrev pub unformed : Found
unformed = Err (record {})

unfoldable pub found_from : ℕ → List Identifier → Option (List Param) → Found
found_from at t none = unformed
found_from at t (some ps) = Ok (parts_at t at ps)

-- behind the three octets that open it
unfoldable pub found_in : Group → List ℕ → Found
found_in g m = found_from 3 g.table (params_of g m)

unfoldable pub value_at : List ℕ → Part → Option (List ℕ)
value_at m None = none
value_at m (Some p) = some (take p.len (drop p.from m))
