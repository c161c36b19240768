use borrow.Author.Rules.{rules}
use Rattle.event.specs.Cells.{as_span}
use Rattle.write_event.proofs.is_inside.Goals as goal

-- `is_inside` meets its contract: that of `text::is_inside`.
pub returns : goal.returns
unfolding as_span
returns c = c.is_inside.ensures
