-- `mast::sweep` meets its promise: what the probes that are left come to is what all of them come to. Assumes nothing.
use native.Mathlib.Omega.{arith}
use Rattle.mast.proofs.Rounds.{sweeping-all, sweeping-one, sweeping-none, sweeping-over}
use Rattle.mast.proofs.sweep.Goals as goal

pub loop-init : goal.loop-init
loop-init c = sweeping-all c.args.row c.args.limit (omega arith) c.new-scan.ensures

pub returns-in_default : goal.returns-in_default
returns-in_default c =
    sweeping-over c.args.row c.args.limit c.loop.invariant c.ask.ensures c.in_default.is

pub loop-preserved : goal.loop-preserved
loop-preserved c =
    sweeping-one c.args.row c.args.limit (omega arith) c.loop.invariant c.ask.ensures c.in-Some.is
    c.send-heard.ensures c.report.ensures.state

pub returns : goal.returns
returns c = sweeping-none c.args.row c.args.limit (omega arith) c.loop.invariant
