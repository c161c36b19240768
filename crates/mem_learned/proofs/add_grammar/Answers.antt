use Rattle.mem_learned.specs.Grammars.{with_grammar_of}
use mathlib.Core.Path.{refl}
use Rattle.mem_learned.proofs.add_grammar.Goals as goal

-- `add_grammar` meets its contract.
pub returns : goal.returns
unfolding with_grammar_of
returns c = refl
