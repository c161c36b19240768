use Rattle.mem_values.proofs.Local.{counted-local}
use Rattle.mem_values.proofs.count_local.Goals as goal

-- `count_local` meets its contract.
pub returns : goal.returns
returns c = counted-local c.requires.low c.count.ensures
