use Rattle.receiver_phases.proofs.Phases.{repeats-as-it-was, repeats-cleared}
use borrow.Author.Rules.{rules}
use Rattle.receiver_phases.proofs.repeat.Goals as goal

-- `repeat` meets its contract.
pub returns-then-reply-ne0-clause-value : goal.returns-then-reply-ne0-clause-value
returns-then-reply-ne0-clause-value c = repeats-cleared _ _ c.if-reply-ne0.true c.clear_all.ensures.value

pub returns-else-reply-ne0-clause-value : goal.returns-else-reply-ne0-clause-value
returns-else-reply-ne0-clause-value c = repeats-as-it-was _ _ c.if-reply-ne0.false
