-- What rows and their meaning are computed by, opened by one name.
use Rattle.event.specs.Cells.{row_cells, cells_of, meaning, row, zeros, as_span, as_name, is_zeros}
use Rattle.event.specs.Cells.{loaded_from, of_row, span_at, judged, judged_as}

-- To unfold this is to unfold what its line names.
unfoldable pub row_definitions : Unit {0}
unfolding row_cells cells_of meaning row zeros as_span as_name is_zeros loaded_from of_row span_at judged judged_as
row_definitions = tt
