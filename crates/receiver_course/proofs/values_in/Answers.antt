use mathlib.Core.Path.{refl}
use borrow.Author.Rules.{rules}
use Rattle.spec_exi.specs.Sizes.{max_values}
use Rattle.receiver_course.specs.Course.{values_in}
use Rattle.receiver_course.proofs.values_in.Goals as goal

-- `values_in` meets its contract.
pub returns : goal.returns
unfolding values_in max_values
returns c = refl
