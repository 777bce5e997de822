-- The cases of 01 about scans, as rows of one statement about the record that the code makes: antt computes it.
-- Assumes nothing.
use mathlib.Core.Bool.{Bool, ◌&&◌}
use mathlib.Core.List.{List, [], ◌∷◌}
use Prim.Native.Nat.{ℕ}
use lib.Dec.{eqb, T}
use lib.ListN.{length, replicate}
use Rattle.identity.specs.Bits.{Bits, bits_of, unpacked, word, packed}
use Rattle.identity.specs.Identity.{width, depth}
use Rattle.refusal.specs.Answer.{answered, state_after}
use Rattle.walk.specs.Beginnings.{under, half}
use Rattle.walk.specs.Probes.{order}
use Rattle.walk.specs.Machine.{step, step_in, noted, listing, go_on, next, carry, zero_half, named}
use Rattle.walk.proofs.Halves.{anyone}
use Rattle.scan.specs.Record.{rows_of, flat, phase_of, state_of}
use Rattle.scan.specs.Steps.{state_at}
use Rattle.scan.specs.Scan.{fresh, ended, over, reported, driven}
use Rattle.scan.specs.declared.State.{State}
use Rattle.scan.specs.declared.State.TheVariants.{Asking, Complete, Doubtful, Limit, Full}

abbrev number : State → ℕ
number (Asking q w) = 0
number Complete = 1
number Doubtful = 2
number Limit = 3
number Full = 4

-- the identities on a bus, the limit, how the scan ends (1 complete, 3 limit) and after how many probes
row : List Bits → ℕ → ℕ → ℕ → Bool
row ids limit end count =
    let s = driven (λ p. anyone (under p ids)) limit (fresh limit) in
    eqb (number s.state) end && eqb s.count count

one : List Bits
one = bits_of (replicate width 0x41) ∷ []

-- how many probes the order has
probes : List Bits → ℕ
probes ids = length (order (λ p. anyone (under p ids)) depth [])

-- "No device, limit 1: complete, 1 probe." "Limit 0: "limit", 0 probes."
-- "One device: 305 probes. Limit 305 complete, 304 "limit"."
rows : T (row [] 1 1 1 && (row [] 0 3 0 && (row one 305 1 305 && row one 304 3 304)))
unfolding row one driven fresh ended over reported state_after answered state_at step step_in noted listing
    go_on next carry zero_half named anyone under half bits_of unpacked word packed rows_of flat phase_of state_of
rows = tt

orders : T (eqb (probes []) 1 && eqb (probes one) 305)
unfolding probes one order anyone under half bits_of unpacked
orders = tt
