use Rattle.mem_names.proofs.Names.{counted-names}
use Rattle.mem_names.proofs.count_names.Goals as goal

-- `count_names` meets its contract.
pub returns : goal.returns
returns c = counted-names c.requires.low c.count.ensures
