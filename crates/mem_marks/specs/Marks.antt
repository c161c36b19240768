-- Which names have the mark of a start tag.
use Rattle.std.specs.Prelude.{ℕ, ◌+◌, ◌≤◌, ◌<◌, ◌≡◌, Bool, List, length, get_or, set, eqb}
use Rattle.mem_layout.specs.Layout.{name_marks, name_rows, work_cells}

pub record MarkPre (work : List ℕ) (name : ℕ) : Type 0 where
  pub room : work_cells ≤ length work
  pub low : name < name_rows

abbrev pub mark_of : List ℕ → ℕ → ℕ
mark_of work name = get_or work (name_marks + name) 0

unfoldable pub marked_in : List ℕ → ℕ → ℕ → Bool
marked_in work tag name = eqb (mark_of work name) tag

unfoldable pub with_mark : List ℕ → ℕ → ℕ → List ℕ
with_mark work tag name = set work (name_marks + name) tag

-- The names with this mark are those that pass a test, and no mark is greater.
pub record MarksHold (work : List ℕ) (tag : ℕ) (has : ℕ → Bool) : Type 0 where
  pub room : work_cells ≤ length work
  pub most : (i : ℕ) → i < name_rows → mark_of work i ≤ tag
  pub are : (i : ℕ) → i < name_rows → marked_in work tag i ≡ has i
