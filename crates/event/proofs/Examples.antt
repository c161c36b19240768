-- The worked examples of events in cells hold, by computation.
use mathlib.Core.Path.{refl}
use Rattle.event.specs.Cells.{row, zeros, cells_of, is_zeros, if_zeros, of_row, span_at, loaded_from}
use Rattle.event.specs.Cells.{events_of}
use Rattle.event.specs.Examples.{first, second, last, of_each_kind, their_cells, no_events}
use Rattle.event.specs.Examples.{CellExamples}

pub cell-examples : CellExamples
unfolding row zeros cells_of is_zeros if_zeros of_row span_at loaded_from events_of first second last
    of_each_kind their_cells no_events
cell-examples = record { stored = refl; loaded = refl; shape = refl; rest = refl }
