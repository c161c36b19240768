use Rattle.read_literal.proofs.Store.{cleared-is}
use Rattle.read_literal.proofs.clear_cells.Goals as goal

-- `read_literal::clear_cells` meets its contract: what it fills is a part of the cells.
pub returns : goal.returns
returns c = cleared-is _ _ _ c.requires (c.fill.ensures.after (λ y e. e))
