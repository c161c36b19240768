use Rattle.mem_values.specs.Values.{row_has_text}
use Rattle.mem_values.proofs.row_has.Goals as goal

-- `row_has` meets its contract.
pub returns : goal.returns
unfolding row_has_text
returns c = c.has_text.ensures
