use Rattle.receiver_phases.proofs.Phases.{all-cleared}
use borrow.Author.Rules.{rules}
use Rattle.receiver_phases.proofs.clear_all.Goals as goal

-- `clear_all` meets its contract.
pub returns-clause-value : goal.returns-clause-value
returns-clause-value c =
    all-cleared _ _ _ _ c.octets.ensures c.cells.ensures c.cells-2.ensures
    c.cells-3.ensures
