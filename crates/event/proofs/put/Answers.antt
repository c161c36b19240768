use Rattle.event.specs.Cells.{row_cells, as_span}
use Rattle.event.proofs.Laws.{row_put}
use Rattle.event.proofs.put.Goals as goal

-- `put` meets its contract: nine stores put a row.
pub returns : goal.returns
unfolding row_cells as_span
returns c =
    let r = c.args.row in
    row_put c.args.cells.now c.args.at r.0 (as_span r.1) (as_span r.2) (as_span r.3) (as_span r.4)
    c.requires
