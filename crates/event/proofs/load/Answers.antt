use Prim.Native.Nat.{ℕ}
use mathlib.Core.Path.{◌∙◌, ap}
use mathlib.Core.List.{List}
use borrow.Author.Rules.{rules}
use Rattle.event.specs.Cells.{judged_as, loaded_from}
use Rattle.event.proofs.load.Goals as goal

-- `load` meets its contract: `read_row` reads the row that `row_at` finds.
pub returns : goal.returns
returns c = c.read_row.ensures ∙ ap (λ (l : List ℕ). judged_as (loaded_from l)) c.row_at.ensures
