use Rattle.mem_initial.proofs.Steps.{counts-cleared}
use Rattle.mem_initial.proofs.clear_counts.Goals as goal

-- `clear_counts` meets its contract.
pub returns : goal.returns
returns c =
    counts-cleared _ c.requires c.cells.ensures
