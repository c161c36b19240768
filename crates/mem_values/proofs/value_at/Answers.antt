use Rattle.mem_values.proofs.Local.{value-is}
use Rattle.mem_values.specs.Values.{value_in}
use Rattle.mem_values.proofs.value_at.Goals as goal

-- `value_at` meets its contract.
pub returns : goal.returns
unfolding value_in
returns c = value-is
