use native.Mathlib.Omega.{arith}
use Rattle.event.specs.Cells.{row_cells, as_span, span_at}
use Rattle.event.proofs.Laws.{row_at}
use Rattle.event.proofs.row_at.Goals as goal

-- `row_at` meets its contract: nine reads, each inside, are a row.
pub returns : goal.returns
unfolding row_cells as_span span_at
returns c =
    row_at c.args.cells.now c.args.at c.requires
