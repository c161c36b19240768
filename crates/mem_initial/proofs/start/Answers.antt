use mathlib.Core.Path.{refl}
use Rattle.mem_initial.specs.Initial.{start_at}
use Rattle.mem_initial.proofs.start.Goals as goal

-- `start` meets its contract.
pub returns : goal.returns
unfolding start_at
returns c = refl
