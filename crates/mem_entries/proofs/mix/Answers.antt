use Rattle.mem_entries.specs.Texts.{mixed}
use mathlib.Core.Path.{refl}
use borrow.Author.Rules.{rules}
use Rattle.mem_entries.proofs.mix.Goals as goal

-- `mix` meets its contract.
pub returns : goal.returns
unfolding mixed
returns c = refl
