use Rattle.receiver_phases.proofs.Phases.{closes}
use borrow.Author.Rules.{rules}
use Rattle.receiver_phases.proofs.close_refused.Goals as goal

-- `close_refused` meets its contract.
pub returns-clause-value : goal.returns-clause-value
returns-clause-value c =
    closes _ _ c.clear_all.ensures.value
