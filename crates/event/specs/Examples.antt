-- Worked examples of events in cells: the table of docs/MEMORY.md, row by row.
use Rattle.std.specs.Prelude.{ℕ, ◌≡◌, List, [], ◌∷◌, map, replicate}
use Rattle.std.proofs.Math.Option.{none, some}
use Rattle.text.specs.Text.{Span}
use Rattle.spec_exi.specs.Event.{QName, Event, start_document, end_document, end_element}
use Rattle.spec_exi.specs.Event.{start_element, attribute, characters, comment, instruction}
use Rattle.event.specs.Cells.{cells_of, loaded_from, events_of}

-- Strings with different places and lengths: of a URI, a target or a text; of a local name or an
-- instruction's text; of a value.
unfoldable pub first : Span
first = record { place = 11; size = 12 }

unfoldable pub second : Span
second = record { place = 13; size = 14 }

unfoldable pub last : Span
last = record { place = 17; size = 18 }

-- An event of each kind, in the order of their numbers.
unfoldable pub of_each_kind : List (Event Span)
of_each_kind =
    start_document
    ∷ end_document
    ∷ start_element (record { uri = first; local = second })
    ∷ attribute (record { uri = first; local = second }) last
    ∷ end_element
    ∷ characters first
    ∷ comment first
    ∷ instruction first second
    ∷ []

-- Their nine cells each.
unfoldable pub their_cells : List (List ℕ)
their_cells =
    (1 ∷ 0 ∷ 0 ∷ 0 ∷ 0 ∷ 0 ∷ 0 ∷ 0 ∷ 0 ∷ [])
    ∷ (2 ∷ 0 ∷ 0 ∷ 0 ∷ 0 ∷ 0 ∷ 0 ∷ 0 ∷ 0 ∷ [])
    ∷ (3 ∷ 11 ∷ 12 ∷ 13 ∷ 14 ∷ 0 ∷ 0 ∷ 0 ∷ 0 ∷ [])
    ∷ (4 ∷ 11 ∷ 12 ∷ 13 ∷ 14 ∷ 0 ∷ 0 ∷ 17 ∷ 18 ∷ [])
    ∷ (5 ∷ 0 ∷ 0 ∷ 0 ∷ 0 ∷ 0 ∷ 0 ∷ 0 ∷ 0 ∷ [])
    ∷ (6 ∷ 11 ∷ 12 ∷ 0 ∷ 0 ∷ 0 ∷ 0 ∷ 0 ∷ 0 ∷ [])
    ∷ (7 ∷ 11 ∷ 12 ∷ 0 ∷ 0 ∷ 0 ∷ 0 ∷ 0 ∷ 0 ∷ [])
    ∷ (8 ∷ 11 ∷ 12 ∷ 13 ∷ 14 ∷ 0 ∷ 0 ∷ 0 ∷ 0 ∷ [])
    ∷ []

-- Cells that are SHAPE by themselves (scope, "What is bought"): no kind, a kind without meaning,
-- data where the kind has no string, and a prefix.
unfoldable pub no_events : List (List ℕ)
no_events =
    replicate 9 0
    ∷ (9 ∷ 0 ∷ 0 ∷ 0 ∷ 0 ∷ 0 ∷ 0 ∷ 0 ∷ 0 ∷ [])
    ∷ (5 ∷ 1 ∷ 0 ∷ 0 ∷ 0 ∷ 0 ∷ 0 ∷ 0 ∷ 0 ∷ [])
    ∷ (6 ∷ 11 ∷ 12 ∷ 0 ∷ 1 ∷ 0 ∷ 0 ∷ 0 ∷ 0 ∷ [])
    ∷ (8 ∷ 11 ∷ 12 ∷ 13 ∷ 14 ∷ 0 ∷ 0 ∷ 0 ∷ 1 ∷ [])
    ∷ (3 ∷ 11 ∷ 12 ∷ 13 ∷ 14 ∷ 0 ∷ 1 ∷ 0 ∷ 0 ∷ [])
    ∷ (4 ∷ 11 ∷ 12 ∷ 13 ∷ 14 ∷ 1 ∷ 0 ∷ 17 ∷ 18 ∷ [])
    ∷ []

-- Each kind both ways; what is no event; and a rest of fewer than nine cells.
pub record CellExamples : Type 0 where
  pub stored : map cells_of of_each_kind ≡ their_cells
  pub loaded : map loaded_from their_cells ≡ map some of_each_kind
  pub shape : map loaded_from no_events ≡ replicate 7 none
  pub rest : events_of (2 ∷ 0 ∷ 0 ∷ 0 ∷ 0 ∷ 0 ∷ 0 ∷ 0 ∷ 0 ∷ 2 ∷ []) ≡ some end_document ∷ none ∷ []
