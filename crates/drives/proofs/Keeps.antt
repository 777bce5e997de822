-- A "no" changes nothing: no device, no number of devices, no octet of the lent output. 01: "The caller gets the number
-- alone; the device, the scan and every octet lent stay as they were." Nor does `limit`. Assumes nothing.
use mathlib.Core.Path.{◌≡◌, refl, ap}
use mathlib.Core.Bool.{Bool, true, false, cond, false≢true}
use mathlib.Core.List.{List, [], ◌∷◌}
use Prim.Native.Nat.{ℕ, zero, suc, ◌-◌}
use lib.Dec.{leb, eqb}
use lib.ListN.{length, get_or, set}
use Rattle.refusal.specs.Answer.{Answer, gives, refuses, settled, state_after}
use Rattle.record.specs.declared.Device.{Device}
use Rattle.device.specs.Judge.{Reaction, told_of, device_after, buffer_after}
use Rattle.bus.specs.declared.Row.{Row}
use Rattle.bus.specs.Cable.{row_most}
use Rattle.script.specs.Commands as command
use Rattle.drives.specs.Drives.{ScriptAnswer, no_command, no_device, full, device, outcome, answer, state, limit}
use Rattle.drives.specs.Drives.{After, Came}
use Rattle.drives.specs.Drives.{◌saying◌, ◌leaving◌, with_device, device_at, is_device, listens, tells, happens, befalls}
use Rattle.drives.specs.Drives.{fresh_by, added, adds, tells_limit, drives, to_device, for_device, obeyed}

-- `error` and a word, or `refused N`
pub is_no : ScriptAnswer → Bool
is_no no_command = true
is_no no_device = true
is_no full = true
is_no (device k) = false
is_no (outcome (gives x)) = false
is_no (outcome (refuses k)) = true
is_no (answer (gives x)) = false
is_no (answer (refuses k)) = true
is_no (state place) = false
is_no (limit n) = false

-- where the answer is a "no", the row is as it was
record RowIf (row : Row) (x : After) : Type 0 where
  kept : is_no x.reply ≡ true → x.row ≡ row

-- and the lent output
record KeepsIf (row : Row) (o : List ℕ) (x : Came) : Type 0 where
  kept : is_no x.after.reply ≡ true → (x.after.row ≡ row) × (x.lent ≡ o)

-- what stands at a place, put there again
same-again : {A : Type 0} (l : List A) (i : ℕ) (d : A) → set l i (get_or l i d) ≡ l
same-again [] i d = refl
same-again (x ∷ l) zero d = refl
same-again {A} (x ∷ l) (suc i) d = ap (λ (k : List A). x ∷ k) (same-again l i d)

module _ (row : Row) where
  back-again : (place : ℕ) → with_device row place (device_at row place) ≡ row
  unfolding with_device
  back-again place =
      ap (λ (ds : List Device). record { devices = ds; count = row.count }) (same-again row.devices place _)

  either-row : (b : Bool) {x y : After} → RowIf row x → RowIf row y → RowIf row (cond b x y)
  either-row true p q = p
  either-row false p q = q

  added-keeps : (x : Answer Device) → RowIf row (added row x)
  unfolding added is_no
  added-keeps (gives d) = record { kept = λ e. absurd (false≢true e) }
  added-keeps (refuses k) = record { kept = λ e. refl }

  befalls-keeps : (place : ℕ) (x : Answer Device) → RowIf row (befalls row place x)
  unfolding befalls is_no settled state_after
  befalls-keeps place (gives d) = record { kept = λ e. absurd (false≢true e) }
  befalls-keeps place (refuses k) = record { kept = λ e. back-again place }

  tells-limit-keeps : (place : ℕ) → RowIf row (tells_limit row place)
  unfolding tells_limit
  tells-limit-keeps place = record { kept = λ e. refl }

  module _ (o : List ℕ) where
    either : (b : Bool) {x y : Came} → KeepsIf row o x → KeepsIf row o y → KeepsIf row o (cond b x y)
    either true p q = p
    either false p q = q

    unchanged : {y : ScriptAnswer} → KeepsIf row o ((row saying y) leaving o)
    unchanged = record { kept = λ e. (refl, refl) }

    leaving-keeps : {x : After} → RowIf row x → KeepsIf row o (x leaving o)
    leaving-keeps p = record { kept = λ e. (p.kept e, refl) }

    tells-keeps : (place : ℕ) (x : Answer Reaction) → KeepsIf row o (tells row place x o)
    unfolding tells is_no told_of device_after buffer_after
    tells-keeps place (gives x) = record { kept = λ e. absurd (false≢true e) }
    tells-keeps place (refuses k) = record { kept = λ e. (back-again place, refl) }

    drives-keeps : (c place v : ℕ) (os : List ℕ) → KeepsIf row o (drives c row place v os o)
    unfolding drives
    drives-keeps c place v os =
        either (leb c command.hear) (tells-keeps place (listens c (device_at row place) os (length o)))
        (either (eqb c command.show) unchanged
        (either (eqb c command.limit) (leaving-keeps (tells-limit-keeps place))
        (leaving-keeps (befalls-keeps place (happens (device_at row place) c v)))))

    device-keeps : (c k v : ℕ) (os : List ℕ) → KeepsIf row o (to_device c row k v os o)
    unfolding to_device
    device-keeps c k v os =
        either (is_device row.count k) (drives-keeps c (k - 1) v os) unchanged

    adds-keeps : (v os : List ℕ) → RowIf row (adds row v os)
    unfolding adds
    adds-keeps v os = either-row (leb row_most row.count) (record { kept = λ e. refl }) (added-keeps (fresh_by v os))

    pub no-keeps : (c : ℕ) (v os : List ℕ) → is_no (obeyed c row v os o).after.reply ≡ true
        → ((obeyed c row v os o).after.row ≡ row) × ((obeyed c row v os o).lent ≡ o)
    unfolding obeyed
    no-keeps c v os =
        let kept = either (for_device c) (device-keeps c (get_or v 1 0) (get_or v 2 0) os)
        (either (eqb c command.device) (leaving-keeps (adds-keeps v os)) unchanged) in
        kept.kept

    -- `limit` changes nothing, whatever K is
    pub limit-keeps : (v os : List ℕ) → ((obeyed command.limit row v os o).after.row ≡ row)
        × ((obeyed command.limit row v os o).lent ≡ o)
    unfolding obeyed for_device to_device drives tells_limit
    limit-keeps v os = go (is_device row.count (get_or v 1 0)) _ _
      where
        go : (b : Bool) (x y : ScriptAnswer) → ((cond b ((row saying x) leaving o) ((row saying y) leaving o)).after.row ≡ row)
            × ((cond b ((row saying x) leaving o) ((row saying y) leaving o)).lent ≡ o)
        go true x y = (refl, refl)
        go false x y = (refl, refl)
