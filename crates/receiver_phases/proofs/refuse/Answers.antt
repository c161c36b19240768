use Rattle.receiver_phases.proofs.Phases.{refuses}
use borrow.Author.Rules.{rules}
use Rattle.receiver_phases.proofs.refuse.Goals as goal

-- `refuse` meets its contract.
pub returns-clause-value : goal.returns-clause-value
returns-clause-value c =
    refuses _ _ _ _ c.clear_all.ensures.value c.count-n.ensures c.refused_after-reply.ensures
