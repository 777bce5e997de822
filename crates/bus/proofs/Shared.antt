-- An assignment with the wild cards for type and vendor, and no identity, written as a line: every device of a row takes
-- the address, answers from it, and answers SNRM to it. So a single device is addressed without its identity; of a row of
-- two or more all take the same address. Assumes nothing.
use mathlib.Core.Path.{◌≡◌, refl, ap, ◌∙◌}
use mathlib.Core.Bool.{true}
use mathlib.Core.List.{List, [], ◌∷◌, map, Memᴰ}
use mathlib.Core.Option.{none, some}
use Prim.Native.Nat.{ℕ, ◌≤◌}
use native.Mathlib.Omega.{arith}
use borrow.Author.Tests.{lt-ltb}
use lib.ListN.{length}
use Rattle.octets.specs.Octets.{Octets}
use Rattle.refusal.specs.Answer.{gives}
use Rattle.record.specs.declared.Device.{Device}
use Rattle.record.specs.declared.Link.TheVariants.{AddressAssigned}
use Rattle.record.specs.Allowed.{addressed, link_allowed, allowed_device}
use Rattle.record.specs.Changes.{unsaid_at, emptied_as, ended_as}
use Rattle.record.proofs.Stays.{end_stays}
use Rattle.xid.specs.Meaning.{AssignmentOf}
use Rattle.xid.proofs.Wild.{wild-taken}
use Rattle.xid_answer.specs.Answer.{assignment_answer}
use Rattle.states.specs.States.{begun}
use Rattle.device.specs.Judge.{device_after}
use Rattle.bus.specs.Cable.{identity_in, line_for, hears, after_line, all_after, after_lines, all_after_lines}
use Rattle.bus.proofs.Hears.{row-lines}
use Rattle.bus.proofs.Assigns.{taken-heard}
use Rattle.bus.proofs.Starts.{snrm-heard}
use Rattle.bus.proofs.Places.{map_same}

-- the payload m: 2 with the address a, 4 with FF, 6 with FF FF, in any order (`wild-formed` of xid is one)
module _ (m : List ℕ) (a : ℕ) (octets : Octets m) (fits : length m ≤ 74) (least : 1 ≤ a) (most : a ≤ 254)
    (wild : AssignmentOf m a none (some (0xFF ∷ [])) (some (0xFF ∷ 0xFF ∷ []))) where
  abbrev line : List ℕ
  line = line_for (0xFF ∷ 0xBF ∷ m)

  -- each device takes the address and answers from it
  pub wild-heard : (d : Device) → allowed_device d ≡ true
      → hears d line
      ≡ gives (record {
        device = ended_as d a AddressAssigned;
        frame = some (a ∷ 0xBF ∷ assignment_answer (identity_in d));
      })
  wild-heard d allowed = taken-heard m octets fits d allowed a (wild-taken (identity_in d) m a wild least most)

  wild-after : (d : Device) → allowed_device d ≡ true → after_line d line ≡ ended_as d a AddressAssigned
  unfolding device_after
  wild-after d allowed = ap (λ x. device_after x d) (wild-heard d allowed)

  -- all devices of a row
  pub wild-shared : (ds : List Device) → ((d : Device) → Memᴰ d ds → allowed_device d ≡ true)
      → all_after ds line ≡ map (λ (d : Device). ended_as d a AddressAssigned) ds
  unfolding all_after_lines after_lines
  wild-shared ds allowed =
      row-lines (line ∷ []) ds
      ∙ map_same (λ (d : Device). after_line d line) (λ (d : Device). ended_as d a AddressAssigned) ds
      (λ d n. wild-after d (allowed d n))

  -- and each then answers SNRM to the address
  pub wild-begins : (d : Device) → allowed_device d ≡ true
      → hears (after_line d line) (line_for (a ∷ 0x93 ∷ []))
      ≡ gives (record { device = begun (after_line d line); frame = some (a ∷ 0x73 ∷ []) })
  unfolding emptied_as unsaid_at link_allowed addressed
  wild-begins d allowed =
      rw (wild-after d allowed)
      (snrm-heard (ended_as d a AddressAssigned)
      (record {
        allowed = end_stays d a AddressAssigned allowed (rw (lt-ltb 0 a least, lt-ltb a 255 (omega arith)));
        link = refl;
      }))
