use Rattle.mem_marks.specs.Marks.{with_mark}
use mathlib.Core.Path.{refl}
use borrow.Author.Rules.{rules}
use Rattle.mem_marks.proofs.mark.Goals as goal

-- `mark` meets its contract.
pub returns : goal.returns
unfolding with_mark
returns c = refl
