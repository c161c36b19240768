use Rattle.receiver_read.proofs.Beginning.{counts-ask, rows-ask, text-asks, begins}
use mathlib.Core.Path.{◌∙◌}
use borrow.Author.Rules.{rules}
use Rattle.receiver_read.proofs.begin.Goals as goal

-- `begin` meets its contract.
pub clear_counts-requires : goal.clear_counts-requires
clear_counts-requires c =
    counts-ask c.requires

pub lay_rows-requires : goal.lay_rows-requires
lay_rows-requires c =
    rows-ask c.requires c.work-1.given

pub lay_text-requires : goal.lay_text-requires
lay_text-requires c =
    text-asks c.requires _ c.text-1.given

pub shape_of-events : goal.shape_of-events
shape_of-events c =
    c.events-1.given

pub shape_of-text : goal.shape_of-text
shape_of-text c =
    c.text-2-1.given ∙ c.text-1.given

pub shape_of-work : goal.shape_of-work
shape_of-work c =
    c.work-2-1.given ∙ c.work-1.given

pub returns : goal.returns
returns c =
    begins c.cells.ensures c.cells-2.ensures c.clear_counts.ensures
    c.lay_rows.ensures c.lay_text.ensures c.text-1.given c.work-1.given c.work-2-1.given c.text-2-1.given
