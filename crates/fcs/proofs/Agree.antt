-- The check by the table of 16 and the check by that of 256 are one: of the code, by what each promises. Assumes nothing.
use mathlib.Core.Path.{◌≡◌, sym, ap₂, ◌∙◌}
use Rattle.fcs.specs.Check.{register_after}
use Rattle.fcs.proofs.by_halves.Reads as halves-reads
use Rattle.fcs.proofs.by_octets.Reads as octets-reads

-- whatever the two may give for one register and the same octets is one number
pub tables_agree : (κs : _) (a : _) (r : _) (s : _) (κs' : _) (a' : _) (r' : _) (s' : _)
    → halves-reads.Learnt κs a r s → octets-reads.Learnt κs' a' r' s'
    → a.0 ≡ a'.0 → a.1.0.now ≡ a'.1.0.now → r ≡ r'
tables_agree κs a r s κs' a' r' s' p q d e = p ∙ ap₂ register_after d e ∙ sym q
