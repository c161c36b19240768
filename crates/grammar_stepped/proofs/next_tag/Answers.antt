use Rattle.spec_exi.specs.Sizes.{max_events}
use native.Mathlib.Omega.{arith}
use borrow.Author.Rules.{rules}
use Rattle.grammar_stepped.proofs.next_tag.Goals as goal

pub overflow_cast-result : goal.overflow_cast-result
unfolding max_events
overflow_cast-result c = omega (arith, c.requires)

pub overflow_add-result : goal.overflow_add-result
unfolding max_events
overflow_add-result c = omega (arith, c.requires)
