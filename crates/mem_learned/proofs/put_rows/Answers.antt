use Rattle.mem_learned.specs.Learned.{with_rows}
use native.Mathlib.Omega.{arith}
use lib.ListN.{length-set}
use mathlib.Core.Path.{refl}
use Rattle.mem_learned.proofs.put_rows.Goals as goal

-- `put_rows` meets its contract.
pub bounds-work-row-2 : goal.bounds-work-row-2
bounds-work-row-2 c = simp length-set (omega arith)

pub returns : goal.returns
unfolding with_rows
returns c = refl
