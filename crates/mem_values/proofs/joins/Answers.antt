use Rattle.mem_values.proofs.Bounds.{empty-not, closed-not, any-joins, short-joins}
use Rattle.mem_values.proofs.joins.Goals as goal

-- `joins` meets its contract.
pub returns-then-size-eq0 : goal.returns-then-size-eq0
returns-then-size-eq0 c = empty-not _ _ _ c.if-size-eq0.true

pub returns-then-capacity-eq1 : goal.returns-then-capacity-eq1
returns-then-capacity-eq1 c = closed-not _ _ _ c.if-capacity-eq1.true

pub returns-then-longest-eq0 : goal.returns-then-longest-eq0
returns-then-longest-eq0 c = any-joins _ _ _ c.if-size-eq0.false c.if-capacity-eq1.false c.if-longest-eq0.true

pub returns : goal.returns
returns c = short-joins _ _ _ c.if-size-eq0.false c.if-capacity-eq1.false c.if-longest-eq0.false
