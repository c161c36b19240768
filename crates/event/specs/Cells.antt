-- How an event lies in 9 cells, and what 9 cells mean (docs/MEMORY.md, "An event in 9 cells").
use Rattle.std.specs.Prelude.{ℕ, Bool, cond, ◌&&◌, List, [], ◌∷◌, ◌++◌, get_or, eqb, Option}
use Rattle.std.specs.Prelude.{Some, None}
use Rattle.std.proofs.Math.Option.{none, some}
use Rattle.text.specs.Text.{Span}
use Rattle.spec_fields.specs.Refusal.{number_of, shape}
use Rattle.spec_exi.specs.Event.{QName, Event, map_event, start_document, end_document, end_element}
use Rattle.spec_exi.specs.Event.{start_element, attribute, characters, comment, instruction}
use Rattle.spec_exi.specs.Tables.{Placed, span_of}
use Rattle.spec_exi.specs.Writer.{Stored}
use Rattle.event.specs.declared.Part.{Part}
use Rattle.event.specs.declared.Row.{Row}
use Rattle.event.specs.declared.Event as declared
use Rattle.event.specs.declared.Event.TheVariants.{StartDocument, EndDocument, StartElement}
use Rattle.event.specs.declared.Event.TheVariants.{Attribute, EndElement, Characters}
use Rattle.event.specs.declared.Event.TheVariants.{Comment, Instruction}

-- ---- the values of the code and those of the format, each way

-- A string: a place and a length (scope, "What is bought").
unfoldable pub as_span : Part → Span
as_span p = record { place = p.place; size = p.size }

-- A name of two strings.
unfoldable pub as_name : Part → Part → QName Span
as_name u n = record { uri = as_span u; local = as_span n }

-- The event that a value of the code's enum is (scope, "What is bought": eight kinds).
unfoldable pub meaning : declared.Event → Event Span
meaning StartDocument = start_document
meaning EndDocument = end_document
meaning (StartElement u n) = start_element (as_name u n)
meaning (Attribute u n v) = attribute (as_name u n) (as_span v)
meaning EndElement = end_element
meaning (Characters v) = characters (as_span v)
meaning (Comment x) = comment (as_span x)
meaning (Instruction x y) = instruction (as_span x) (as_span y)

-- What a stored event is judged as: the number (scope, "Refusal numbers"), 0 for an event and SHAPE
-- for one that is SHAPE by itself; and the event.
pub record Judged : Type 0 where
  pub number : ℕ
  pub event : Stored

-- Of each answer of `load`: this paper's number for each case (scope, "Which form each place
-- takes").
unfoldable pub judged : Option declared.Event → Judged
judged (Some e) = record { number = 0; event = some (meaning e) }
judged None = record { number = number_of shape; event = none }

-- Of what is stored.
unfoldable pub judged_as : Stored → Judged
judged_as none = record { number = number_of shape; event = none }
judged_as (some e) = record { number = 0; event = some e }

-- ---- an event in cells

-- The kinds, in an event's first cell: src/lib.rt names them in full. None is 0, so that zero cells
-- are no event.
abbrev pub cell_sd : ℕ
cell_sd = 1

abbrev pub cell_ed : ℕ
cell_ed = 2

abbrev pub cell_se : ℕ
cell_se = 3

abbrev pub cell_at : ℕ
cell_at = 4

abbrev pub cell_ee : ℕ
cell_ee = 5

abbrev pub cell_ch : ℕ
cell_ch = 6

abbrev pub cell_cm : ℕ
cell_cm = 7

abbrev pub cell_pi : ℕ
cell_pi = 8

-- A row of the table: the kind, and four strings, each its place and its length: URI, local name,
-- prefix and value, or what stands there for other kinds.
unfoldable pub row : ℕ → Span → Span → Span → Span → List ℕ
row k x y p v =
    k
    ∷ x.place
    ∷ x.size
    ∷ y.place
    ∷ y.size
    ∷ p.place
    ∷ p.size
    ∷ v.place
    ∷ v.size
    ∷ []

-- What stands where the kind has no string. No kind has a prefix: prefixes are not kept.
unfoldable pub zeros : Span
zeros = record { place = 0; size = 0 }

-- An event's cells: its kind's number, and its strings in their places.
unfoldable pub cells_of : Event Span → List ℕ
cells_of start_document = row cell_sd zeros zeros zeros zeros
cells_of end_document = row cell_ed zeros zeros zeros zeros
cells_of (start_element q) = row cell_se q.uri q.local zeros zeros
cells_of (attribute q v) = row cell_at q.uri q.local zeros v
cells_of end_element = row cell_ee zeros zeros zeros zeros
cells_of (characters v) = row cell_ch v zeros zeros zeros
cells_of (comment x) = row cell_cm x zeros zeros zeros
cells_of (instruction x y) = row cell_pi x y zeros zeros

-- The cells of a list of events, one behind the other.
unfoldable pub cells_of_all : List (Event Placed) → List ℕ
cells_of_all [] = []
cells_of_all (e ∷ es) = cells_of (map_event span_of e) ++ cells_of_all es

-- The row that the code holds.
unfoldable pub row_cells : Row → List ℕ
row_cells r = row r.0 (as_span r.1) (as_span r.2) (as_span r.3) (as_span r.4)

-- ---- what cells mean

-- No data: place and length are 0.
unfoldable pub is_zeros : Span → Bool
is_zeros x = eqb x.place 0 && eqb x.size 0

-- The event, where the strings x, y, p and v are zeros.
unfoldable pub if_zeros : Span → Span → Span → Span → Event Span → Stored
if_zeros x y p v e = cond (is_zeros x && is_zeros y && is_zeros p && is_zeros v) (some e) none

-- What the kind k and the strings x, y, p and v mean (scope, "What is bought": a kind without
-- meaning, or data in a place that the kind does not use, is SHAPE).
unfoldable pub of_row : ℕ → Span → Span → Span → Span → Stored
of_row k x y p v =
    cond (eqb k cell_sd) (if_zeros x y p v start_document)
    (cond (eqb k cell_ed) (if_zeros x y p v end_document)
    (cond (eqb k cell_se) (if_zeros zeros zeros p v (start_element (record { uri = x; local = y })))
    (cond (eqb k cell_at) (if_zeros zeros zeros p zeros (attribute (record { uri = x; local = y }) v))
    (cond (eqb k cell_ee) (if_zeros x y p v end_element)
    (cond (eqb k cell_ch) (if_zeros zeros y p v (characters x))
    (cond (eqb k cell_cm) (if_zeros zeros y p v (comment x))
    (cond (eqb k cell_pi) (if_zeros zeros zeros p v (instruction x y))
    none)))))))

-- The string whose place is in cell i and whose length is in cell j.
unfoldable pub span_at : List ℕ → ℕ → ℕ → Span
span_at xs i j = record { place = get_or xs i 0; size = get_or xs j 0 }

-- What 9 cells mean.
unfoldable pub loaded_from : List ℕ → Stored
loaded_from xs =
    of_row (get_or xs 0 0) (span_at xs 1 2) (span_at xs 3 4) (span_at xs 5 6) (span_at xs 7 8)

-- Cells as stored events, 9 each; fewer than 9 at the end are one that is SHAPE by itself (ours:
-- docs/MEMORY.md).
unfoldable pub events_of : List ℕ → List Stored
events_of [] = []
events_of (a ∷ []) = none ∷ []
events_of (a ∷ b ∷ []) = none ∷ []
events_of (a ∷ b ∷ c ∷ []) = none ∷ []
events_of (a ∷ b ∷ c ∷ d ∷ []) = none ∷ []
events_of (a ∷ b ∷ c ∷ d ∷ e ∷ []) = none ∷ []
events_of (a ∷ b ∷ c ∷ d ∷ e ∷ f ∷ []) = none ∷ []
events_of (a ∷ b ∷ c ∷ d ∷ e ∷ f ∷ g ∷ []) = none ∷ []
events_of (a ∷ b ∷ c ∷ d ∷ e ∷ f ∷ g ∷ h ∷ []) = none ∷ []
events_of (a ∷ b ∷ c ∷ d ∷ e ∷ f ∷ g ∷ h ∷ i ∷ xs) =
    loaded_from (a ∷ b ∷ c ∷ d ∷ e ∷ f ∷ g ∷ h ∷ i ∷ []) ∷ events_of xs
