use Rattle.mem_names.specs.Names.{name_spot}
use mathlib.Core.Path.{refl}
use borrow.Author.Rules.{rules}
use Rattle.mem_names.proofs.spot.Goals as goal

-- `spot` meets its contract.
pub returns : goal.returns
unfolding name_spot
returns c = record { is = refl; low = search rules }
