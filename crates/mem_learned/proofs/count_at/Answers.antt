use Rattle.mem_learned.proofs.Rows.{counted-at}
use Rattle.mem_learned.proofs.count_at.Goals as goal

-- `count_at` meets its contract.
pub returns : goal.returns
returns c = counted-at c.requires.low c.count.ensures
