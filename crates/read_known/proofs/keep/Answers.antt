use Rattle.read_known.proofs.Values.{marked-as}
use borrow.Author.Rules.{rules}
use Rattle.read_known.proofs.keep.Goals as goal

pub returns : goal.returns
returns c =
    let join-value = c.join_value in
    let mark = c.mark in
    marked-as _ _ join-value.ensures mark.ensures
