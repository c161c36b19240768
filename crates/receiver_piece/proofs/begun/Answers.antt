use Rattle.receiver_piece.proofs.Piece.{begins, begun-already}
use borrow.Author.Rules.{rules}
use Rattle.receiver_piece.proofs.begun.Goals as goal

-- `begun` meets its contract.
pub returns-then-r-ne-STARTED : goal.returns-then-r-ne-STARTED
returns-then-r-ne-STARTED c = begun-already _ c.if-r-ne-STARTED.true

pub begin-requires : goal.begin-requires
begin-requires c = c.requires

pub shape_of-events : goal.shape_of-events
shape_of-events c = c.events-1.given

pub shape_of-text : goal.shape_of-text
shape_of-text c = c.text-1.given

pub shape_of-work : goal.shape_of-work
shape_of-work c = c.work-1.given

pub returns : goal.returns
returns c =
    begins c.if-r-ne-STARTED.false c.started-b.ensures c.begin.ensures
