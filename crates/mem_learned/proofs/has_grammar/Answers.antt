use Rattle.mem_learned.specs.Grammars.{flag_in}
use mathlib.Core.Path.{refl}
use Rattle.mem_learned.proofs.has_grammar.Goals as goal

-- `has_grammar` meets its contract.
pub returns : goal.returns
unfolding flag_in
returns c = refl
