use mathlib.Core.Path.{refl}
use borrow.Author.Rules.{rules}
use Rattle.spec_exi.specs.Sizes.{max_events, max_open}
use Rattle.receiver_course.specs.Course.{elements_in}
use Rattle.receiver_course.proofs.elements_in.Goals as goal

-- `elements_in` meets its contract.
pub returns : goal.returns
unfolding elements_in max_events max_open
returns c = refl
