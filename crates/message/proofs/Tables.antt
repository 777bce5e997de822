-- The checks that a message alone decides, by the procedure that has its code. Assumes nothing.
use mathlib.Core.Path.{◌≡◌, refl, sym, ap, ap₂, ◌∙◌}
use mathlib.Core.Bool.{true, false}
use mathlib.Core.List.{List}
use Prim.Native.Nat.{ℕ, ◌-◌}
use borrow.Author.Tests.{eq-eqb, ne_eqb}
use lib.Dec.{eqb}
use lib.ListN.{length, get_or, length-drop}
use Rattle.std.specs.Prelude.{Result, Ok, Err, IsErrAnd}
use Rattle.octets.specs.Octets.{holds, pair_of}
use Rattle.refusal.specs.Answer.{answered}
use Rattle.message.specs.declared.Procedure.{Procedure}
use Rattle.message.specs.declared.Procedure.TheVariants.{AlarmStatus, Information, ClearAlarms, Subscribe, SetTilt, GetTilt}
use Rattle.message.specs.declared.ReturnCode.{ReturnCode}
use Rattle.message.specs.declared.ReturnCode.TheVariants.{WrongLength, NotSupported}
use Rattle.message.specs.Messages.{code_of, declared_of, data_of, unsupported, table, in_table, taken_by}
use Rattle.message.specs.Messages.{own_checks, check_number, code_for, code_number, Named}

-- each procedure has a row
pub in_row : (p : Procedure) → in_table table (code_for p) ≡ true
unfolding in_table code_for
in_row AlarmStatus = refl
in_row Information = refl
in_row ClearAlarms = refl
in_row Subscribe = refl
in_row SetTilt = refl
in_row GetTilt = refl

-- the checks that a message alone decides, by what the code reads and finds
module _ (m : List ℕ) {code low high said : ℕ} (e : code ≡ code_of m) (l : low ≡ get_or m 1 0) (h : high ≡ get_or m 2 0)
    (q : said ≡ pair_of low high) where
  said-is : said ≡ declared_of m
  said-is = q ∙ ap₂ pair_of l h

  size_is : length m - 3 ≡ length (data_of m)
  size_is = sym (length-drop 3 m)

  pub own-misdeclared : (said ≡ length m - 3 → ⊥) → check_number (Err WrongLength) ≡ answered (own_checks m) tt
  unfolding check_number code_number answered
  own-misdeclared wrong =
      sym (rw (ne_eqb (declared_of m) (length (data_of m)) (λ w. wrong (said-is ∙ w ∙ sym size_is))))

  module _ (fits : said ≡ length m - 3) where
    same : eqb (declared_of m) (length (data_of m)) ≡ true
    same = eq-eqb (declared_of m) (length (data_of m)) (sym said-is ∙ fits ∙ size_is)

    pub own-barred : holds code unsupported ≡ true → check_number (Err NotSupported) ≡ answered (own_checks m) tt
    unfolding check_number code_number answered
    own-barred b = sym (rw (same, ← e, b))

    module _ (b : holds code unsupported ≡ false) where
      pub own-unknown : (why : ReturnCode) (r : Result Procedure ReturnCode) → Named code (Err why)
          → IsErrAnd r (λ x. x ≡ why) → check_number r ≡ answered (own_checks m) tt
      unfolding check_number code_number answered Named
      own-unknown why (Ok p) u w = absurd w
      own-unknown why (Err x) u w = rw (w, u.0) (sym (rw (same, ← e, b, u.1)))

      module _ (p : Procedure) (named : code_for p ≡ code) where
        listed : in_table table code ≡ true
        listed = sym (ap (in_table table) named) ∙ in_row p

        pub own-misfit : (length m - 3 ≡ taken_by table (code_for p) → ⊥)
            → check_number (Err WrongLength) ≡ answered (own_checks m) tt
        unfolding check_number code_number answered
        own-misfit s =
            let q = ne_eqb (length (data_of m)) (taken_by table code) (λ w. s (size_is ∙ w ∙ sym (ap (taken_by table) named))) in
            sym (rw (same, ← e, b, listed, q))

        pub own-passed : length m - 3 ≡ taken_by table (code_for p) → check_number (Ok p) ≡ answered (own_checks m) tt
        unfolding check_number answered
        own-passed s =
            let q = eq-eqb (length (data_of m)) (taken_by table code) (sym size_is ∙ s ∙ ap (taken_by table) named) in
            sym (rw (same, ← e, b, listed, q))
