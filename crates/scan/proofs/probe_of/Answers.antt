-- `scan::probe_of` meets its promise: four runs of octets, one behind the other, fill the probe. Assumes nothing.
use native.Mathlib.Omega.{arith}
use Rattle.scan.proofs.Probes.{probe-built}
use Rattle.scan.proofs.probe_of.Goals as goal

pub returns : goal.returns
returns c =
    probe-built c.args.beginning c.args.bits (omega (arith, c.well_formed))
    c.octets_of.ensures c.mask_of.ensures c.put_all.ensures c.put_all-2.ensures
    c.put_all-3.ensures c.put_all-4.ensures
