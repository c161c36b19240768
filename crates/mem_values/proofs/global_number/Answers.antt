use Rattle.mem_values.proofs.Formed.{number-old, number-new}
use Rattle.mem_values.proofs.global_number.Goals as goal

-- `global_number` meets its contract.
pub returns-then-g-first : goal.returns-then-g-first
returns-then-g-first c = number-old _ _ _ _ c.if-g-first.true

pub returns : goal.returns
returns c = number-new _ _ _ _ c.if-g-first.false
