-- What the walk finds of a scan or an assignment: the values of its parameters, by name. Assumes nothing.
use mathlib.Core.Path.{◌≡◌}
use mathlib.Core.List.{List}
use mathlib.Core.Option.{some}
use Prim.Native.Nat.{ℕ}
use lib.Dec.{lit<}
use Rattle.params.specs.Field.{Param, params_of}
use Rattle.std.specs.Prelude.{Ok}
use Rattle.params.specs.Walk.{place_in, Part, Found, found_in}
use Rattle.params.proofs.Values.{walk-formed}
use Rattle.xid.specs.Addressing.{addressing, values_of, parts_by, values_at}

pub values-named : (m : List ℕ) {r : Found} → {f : List Part} → r ≡ found_in addressing m → r ≡ Ok f
    → (ps : List Param) × (params_of addressing m ≡ some ps) × (values_at m (parts_by f) ≡ values_of ps)
unfolding place_in values_of parts_by values_at
values-named m e g =
    let (ps, formed, at) = walk-formed addressing m e g in
    let identity = at 1 (lit< tt) in
    let address = at 2 (lit< tt) in
    let mask = at 3 (lit< tt) in
    let kind = at 4 (lit< tt) in
    let vendor = at 6 (lit< tt) in
    (ps, formed, rw (identity, address, mask, kind, vendor))
