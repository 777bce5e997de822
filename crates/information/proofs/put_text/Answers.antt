-- `information::put_text` meets its promise: the length is stored, and the text behind it. Assumes nothing.
use mathlib.Core.Path.{refl}
use Rattle.information.proofs.Parts.{text-put}
use Rattle.information.proofs.put_text.Goals as goal

pub returns : goal.returns
returns c = record { put = text-put _ _ _ c.put.ensures c.put_all.ensures; end = refl }
