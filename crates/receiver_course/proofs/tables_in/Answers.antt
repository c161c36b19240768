use mathlib.Core.Path.{refl}
use borrow.Author.Rules.{rules}
use Rattle.spec_exi.specs.Sizes.{max_uris, max_names, max_grammars, max_learned, max_store}
use Rattle.receiver_course.specs.Course.{tables_in}
use Rattle.receiver_course.proofs.tables_in.Goals as goal

-- `tables_in` meets its contract.
pub returns : goal.returns
unfolding tables_in max_uris max_names max_grammars max_learned max_store
returns c = rw c.values_in-values.ensures refl
