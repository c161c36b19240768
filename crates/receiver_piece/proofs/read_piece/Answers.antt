use Rattle.receiver_piece.proofs.Piece.{begun-asks, go-on-asks, piece-read}
use mathlib.Core.Path.{◌∙◌}
use Rattle.receiver_piece.proofs.read_piece.Goals as goal

-- `read_piece` meets its contract.
pub begun-b-requires : goal.begun-b-requires
begun-b-requires c =
    begun-asks c.requires

pub go_on-requires : goal.go_on-requires
go_on-requires c =
    go-on-asks c.requires c.begun-b.ensures c.events-1.given c.text-1.given
    c.work-1.given

pub shape_of-held : goal.shape_of-held
shape_of-held c = c.held-1.given

pub shape_of-events : goal.shape_of-events
shape_of-events c =
    c.events-2-1.given ∙ c.events-1.given

pub shape_of-text : goal.shape_of-text
shape_of-text c =
    c.text-2-1.given ∙ c.text-1.given

pub shape_of-work : goal.shape_of-work
shape_of-work c =
    c.work-2-1.given ∙ c.work-1.given

pub returns : goal.returns
returns c =
    piece-read c.requires c.begun-b.ensures c.events-1.given c.text-1.given
    c.work-1.given c.go_on.ensures
