use Rattle.mem_index.proofs.Codes.{counted}
use borrow.Author.Rules.{rules}
use Rattle.mem_index.proofs.count.Goals as goal

-- `count` meets its contract.
pub returns : goal.returns
returns c = counted c.falling.ensures
