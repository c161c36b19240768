use Rattle.mem_marks.specs.Marks.{marked_in}
use mathlib.Core.Path.{refl}
use borrow.Author.Rules.{rules}
use Rattle.mem_marks.proofs.is_marked.Goals as goal

-- `is_marked` meets its contract.
pub returns : goal.returns
unfolding marked_in
returns c = refl
