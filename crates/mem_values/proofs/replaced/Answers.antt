use Rattle.mem_values.proofs.Bounds.{replaced-none, replaced-few-yet, replaced-some}
use Rattle.mem_values.proofs.replaced.Goals as goal

-- `replaced` meets its contract.
pub returns-then-capacity-eq0 : goal.returns-then-capacity-eq0
returns-then-capacity-eq0 c = replaced-none _ _ c.if-capacity-eq0.true

pub returns-then-n-capacity : goal.returns-then-n-capacity
returns-then-n-capacity c = replaced-few-yet _ _ c.if-capacity-eq0.false c.if-n-capacity.true

pub returns : goal.returns
returns c = replaced-some _ _ c.if-capacity-eq0.false
