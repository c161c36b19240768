use Rattle.mem_learned.proofs.Rows.{part_in_lem, part_out}
use Rattle.mem_learned.proofs.part_of.Goals as goal

-- `part_of` meets its contract.
pub returns-then-number-count : goal.returns-then-number-count
returns-then-number-count c = part_in_lem _ _ c.if-number-count.true

pub returns : goal.returns
returns c = part_out _ _ c.if-number-count.false
