-- `information::information` meets its promise: four texts stored one behind the other, read back, are the data. Assumes
-- nothing.
use mathlib.Core.Path.{ap, ◌∙◌}
use Prim.Native.Nat.{◌≤◌}
use native.Mathlib.Omega.{arith}
use lib.ListN.{replicate}
use Rattle.payload.specs.Payloads.{success_of}
use Rattle.information.specs.Information.{information_of, without_vendor}
use Rattle.payload.proofs.Backs.{laid-back}
use Rattle.information.proofs.Parts.{texts-put}
use Rattle.information.proofs.information.Goals as goal

pub returns : goal.returns
unfolding success_of information_of
returns c =
    let stored = texts-put _ _ _ _ (replicate 71 0) c.put_text-a.ensures.put c.put_text-b.ensures.put
    c.put_text-c.ensures.put c.put_text-d.ensures.put in
    let few : c.put_text-d.result ≤ 70 =
    omega (
      arith,
      c.put_text-a.ensures.end,
      c.put_text-b.ensures.end,
      c.put_text-c.ensures.end,
      c.put_text-d.ensures.end,
      c.octets.ensures.few,
      c.octets-2.ensures.few,
      c.serial.ensures.few,
      c.octets-3.ensures.few,
      c.octets-4.ensures.few,
    ) in
    let serial = c.serial.ensures.all ∙ ap without_vendor c.octets-2.ensures.all in
    let told = rw (c.octets.ensures.all, serial, c.octets-3.ensures.all, c.octets-4.ensures.all) at stored in
    c.laid.ensures ∙ laid-back _ _ (replicate 71 0) (omega (arith, few)) (omega (arith, few)) told
