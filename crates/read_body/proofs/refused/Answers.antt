use mathlib.Core.Path.{refl}
use borrow.Author.Rules.{rules}
use Rattle.spec_exi.specs.Sizes.{max_events}
use Rattle.read_body.proofs.refused.Goals as goal

-- `refused` meets its contract.
pub overflow_cast-result : goal.overflow_cast-result
unfolding max_events
overflow_cast-result c = search rules
