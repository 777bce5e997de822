-- `frame::decode_in` meets its promise: what was stored is the line's decoded octets. Assumes nothing.
use native.Mathlib.Omega.{arith}
use lib.ListN.{length-replicate}
use Rattle.octets.proofs.Runs.{put_back}
use Rattle.refusal.proofs.Answers.{hands-is}
use Rattle.frame.proofs.Judge.{when-stored}
use Rattle.frame.proofs.Lines.{plain-short}
use Rattle.frame.proofs.decode_in.Goals as goal

pub shared_whole_as_front-deliver : goal.shared_whole_as_front-deliver
shared_whole_as_front-deliver g c =
    let few = plain-short c.args.src.now in
    (omega (arith, few, c.unescape-n.ensures.count, c.requires.0), omega (arith, c.requires.1))

pub returns : goal.returns
returns g c =
    let few = plain-short c.args.src.now in
    let stored = put_back c.unescape-n.ensures (rw length-replicate (omega (arith, few, c.unescape-n.ensures.count, c.requires.0))) in
    hands-is (when-stored _ _ stored) c.deliver.ensures
