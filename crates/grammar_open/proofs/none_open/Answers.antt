use mathlib.Core.Path.{refl}
use Rattle.spec_exi.specs.Sizes.{max_open}
use Rattle.grammar_open.specs.Opened.{none_open}
use Rattle.grammar_open.proofs.none_open.Goals as goal

-- `none_open` meets its contract.
pub returns : goal.returns
unfolding none_open max_open
returns c = refl
