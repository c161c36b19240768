-- The open elements, by the rows of their names.
use Rattle.std.specs.Prelude.{ℕ, zero, suc, ◌+◌, ◌%◌, ◌<◌, ◌≡◌, List, [], ◌∷◌, length, get_or, replicate}
use Rattle.spec_exi.specs.Sizes.{max_open}
use Rattle.mem_layout.specs.Layout.{name_rows}
use Rattle.mem_state.specs.declared.Core.{Core}
use Rattle.grammar_open.specs.declared.State.{State}

-- The first n cells of an array, the last first.
unfoldable pub last_first : ℕ → List ℕ → List ℕ
last_first zero l = []
last_first (suc n) l = get_or l n 0 ∷ last_first n l

-- The open elements, the innermost first.
abbrev pub opened_in : State → List ℕ
opened_in t = last_first t.core.depth t.opened

-- None is open.
unfoldable pub none_open : Core → State
none_open c = record { core = c; opened = replicate max_open 0 }

-- The innermost of so many, or 0. (Rows of names are below `name_rows`: nothing is taken from
-- them.)
unfoldable pub innermost_in : List ℕ → ℕ → ℕ
innermost_in opened zero = 0
innermost_in opened (suc n) = get_or opened n 0 % name_rows

-- The numbers with another top.
abbrev pub with_top : Core → ℕ → Core
with_top c top =
    record {
      at = c.at;
      stored = c.stored;
      uris = c.uris;
      names = c.names;
      values = c.values;
      learned = c.learned;
      grammars = c.grammars;
      mode = c.mode;
      top = top;
      depth = c.depth;
      tag = c.tag;
      longest = c.longest;
      capacity = c.capacity;
    }

-- What an event leaves of the open elements. (After an end tag the top is the ended element's: only
-- who keeps them all knows the next.)
pub record Turned (c d : Core) (opened opened' : List ℕ) : Type 0 where
  pub enters : c.depth < d.depth → (d.depth ≡ c.depth + 1) × (opened' ≡ d.top ∷ opened)
  pub stays : d.depth ≡ c.depth → opened' ≡ opened
  pub leaves : d.depth < c.depth → (d.depth + 1 ≡ c.depth) × (opened ≡ c.top ∷ opened')

-- These cells of the array are the open elements after an event.
pub record Kept (c d : Core) (opened : List ℕ) (rows : List ℕ) : Type 0 where
  pub size : length rows ≡ max_open
  pub is : (o : List ℕ) → Turned c d opened o → last_first d.depth rows ≡ o
