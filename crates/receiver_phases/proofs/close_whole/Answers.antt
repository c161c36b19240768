use Rattle.receiver_phases.proofs.Phases.{closes-whole}
use borrow.Author.Rules.{rules}
use Rattle.receiver_phases.proofs.close_whole.Goals as goal

-- `close_whole` meets its contract.
pub returns-clause-value : goal.returns-clause-value
returns-clause-value c =
    closes-whole _ _ c.octets.ensures c.cells.ensures
