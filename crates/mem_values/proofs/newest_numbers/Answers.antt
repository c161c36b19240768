use Rattle.mem_values.proofs.Bounds.{newest-all, newest-none, newest-ring}
use Rattle.mem_values.proofs.newest_numbers.Goals as goal

-- `newest_numbers` meets its contract.
pub returns-then-capacity-eq0 : goal.returns-then-capacity-eq0
returns-then-capacity-eq0 c = newest-all _ _ c.if-capacity-eq0.true

pub returns-then-capacity-eq1 : goal.returns-then-capacity-eq1
returns-then-capacity-eq1 c = newest-none _ _ c.if-capacity-eq1.true

pub returns : goal.returns
returns c = newest-ring _ _ c.if-capacity-eq0.false c.if-capacity-eq1.false
