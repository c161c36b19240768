use Rattle.mem_index.proofs.More.{join-steps}
use borrow.Author.Rules.{rules}
use Rattle.mem_index.proofs.join.Goals as goal

-- `join` meets its contract.
pub returns : goal.returns
returns c =
    join-steps _ _ _ _ _ c.count-number.ensures.is
    c.enter.ensures
