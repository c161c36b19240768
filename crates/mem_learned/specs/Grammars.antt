-- Which names have an element grammar.
use Rattle.std.specs.Prelude.{ℕ, ◌+◌, ◌≤◌, ◌<◌, ◌≡◌, Bool, false, cond, ◌||◌, List, [], ◌∷◌, length, get_or, set, eqb}
use Rattle.mem_layout.specs.Layout.{grammar_flags, name_rows, work_cells}

-- A row is among these.
unfoldable pub has_row : List ℕ → ℕ → Bool
has_row [] k = false
has_row (g ∷ gs) k = eqb g k || has_row gs k

-- The flags of work memory are those of these names.
pub record GrammarsHold (work : List ℕ) (gs : List ℕ) : Type 0 where
  pub room : work_cells ≤ length work
  pub flags : (k : ℕ) → k < name_rows → get_or work (grammar_flags + k) 0 ≡ cond (has_row gs k) 1 0

pub record AddGrammarPre (work : List ℕ) (name : ℕ) : Type 0 where
  pub room : work_cells ≤ length work
  pub low : name < name_rows

unfoldable pub flag_in : List ℕ → ℕ → Bool
flag_in work name = eqb (get_or work (grammar_flags + name) 0) 1

unfoldable pub with_grammar_of : List ℕ → ℕ → List ℕ
with_grammar_of work name = set work (grammar_flags + name) 1
