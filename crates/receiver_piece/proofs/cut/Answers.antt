use Rattle.receiver_piece.proofs.Piece.{cut_as}
use borrow.Author.Rules.{rules}
use Rattle.receiver_piece.proofs.cut.Goals as goal

-- `cut` meets its contract.
pub cut_at-requires : goal.cut_at-requires
cut_at-requires c = c.requires

pub returns : goal.returns
returns c = cut_as c.settings_of-o.ensures c.cut_at.ensures
