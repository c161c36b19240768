use native.Mathlib.Omega.{arith}
use Rattle.spec_exi.specs.Sizes.{max_store}
use borrow.Author.Rules.{rules}
use Rattle.read_partition.proofs.laid.Goals as goal

pub overflow_cast-result : goal.overflow_cast-result
unfolding max_store
overflow_cast-result c = omega arith

pub overflow_add-result : goal.overflow_add-result
unfolding max_store
overflow_add-result c = omega arith
