-- `xid::padded` meets its promise: from its length on the row is filled. Assumes nothing.
use borrow.Author.Rules.{rules}
use Rattle.xid.proofs.Octetwise.{padded-is}
use Rattle.xid.proofs.padded.Goals as goal

pub returns : goal.returns
returns c =
    padded-is c.args.identity.octets _ c.args.identity.len _ (search rules) c.min.ensures
    (c.fill.ensures.after (λ y k. k))
