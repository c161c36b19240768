use Rattle.receiver.proofs.Ways.{closes-started, closes-whole, closes_cut}
use borrow.Author.Rules.{rules}
use Rattle.receiver.proofs.close_now.Goals as goal

-- `close_now` meets its contract.
pub returns-then-r-eq-STARTED-clause-value : goal.returns-then-r-eq-STARTED-clause-value
returns-then-r-eq-STARTED-clause-value c =
    closes-started _ _ c.if-r-eq-STARTED.true c.refusal_at.ensures c.close_refused.ensures.value

pub returns-then-r-eq-IS_OVER-clause-value : goal.returns-then-r-eq-IS_OVER-clause-value
returns-then-r-eq-IS_OVER-clause-value c =
    closes-whole _ _ c.if-r-eq-STARTED.false c.if-r-eq-IS_OVER.true c.close_whole.ensures.value

pub returns-else-r-eq-IS_OVER-clause-value : goal.returns-else-r-eq-IS_OVER-clause-value
returns-else-r-eq-IS_OVER-clause-value c =
    closes_cut _ _ c.if-r-eq-STARTED.false c.if-r-eq-IS_OVER.false c.refusal_at-y.ensures
    c.close_refused-else-r-eq-IS_OVER.ensures.value
