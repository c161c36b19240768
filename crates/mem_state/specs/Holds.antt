-- Which cells hold the rows, and how the numbers that go from event to event stand to both.
use Rattle.std.specs.Prelude.{ℕ, ◌+◌, ◌≤◌, ◌<◌, ◌≡◌, Bool, cond, List, map, length, take, get_or}
use Rattle.spec_exi.specs.Sizes.{max_store, max_uris, max_names, max_values, max_learned, max_grammars}
use Rattle.spec_exi.specs.Sizes.{max_open, max_events}
use Rattle.spec_exi.specs.Settings.{bound_of}
use Rattle.spec_exi.specs.Context.{Context}
use Rattle.mem_layout.specs.Layout.{name_rows}
use Rattle.mem_entries.specs.Texts.{Source, up_to, throughout}
use Rattle.mem_entries.specs.Entries.{entry_at, key_at}
use Rattle.mem_names.specs.Uris.{uri_at, UrisHold}
use Rattle.mem_names.specs.Names.{NamesHold}
use Rattle.mem_marks.specs.Marks.{MarksHold}
use Rattle.mem_values.specs.Window.{newest_in}
use Rattle.mem_values.specs.Forms.{ValuesStand}
use Rattle.mem_learned.specs.Learned.{Taught, LearnedHold}
use Rattle.mem_learned.specs.Grammars.{GrammarsHold}
use Rattle.mem_rows.specs.Rows.{Learnt, Rows, kind_at, carries, is_among, ModeFits, context_of}
use Rattle.mem_rows.specs.Valid.{Valid, gone_in}
use Rattle.mem_state.specs.declared.Core.{Core}

-- A learned production as its cells have it: with the rows that name it.
unfoldable pub taught_of : Rows → Learnt → Taught
taught_of w l =
    record {
      site = l.site;
      kind = kind_at l.kind;
      name = l.name;
      uri_row = cond (carries (kind_at l.kind)) (key_at w.names l.name) 0;
      name_row = l.name;
    }

unfoldable pub taught_in : Rows → List Taught
taught_in w = map (taught_of w) w.learned

-- Where the texts of the rows of each table lie.
pub record Stores : Type 0 where
  pub uris : ℕ → Source
  pub names : ℕ → Source
  pub values : Source

-- All in the first cells of one store: a reader's.
abbrev pub in_store : List ℕ → ℕ → Stores
in_store text stored =
    record {
      uris = throughout text stored;
      names = throughout text stored;
      values = up_to text stored;
    }

-- The cells of work memory hold these rows, whose texts lie in these stores.
pub record Holds (work : List ℕ) (from : Stores) (w : Rows) : Type 0 where
  pub uris : UrisHold work from.uris (length w.uris) w.uris
  pub names : NamesHold work from.names (length w.names) w.names
  pub values : ValuesStand work from.values.store from.values.stored (length w.values)
      (gone_in w) (newest_in w.capacity (length w.values)) w.values w.capacity
  pub learned : LearnedHold work (length w.learned) (taught_in w)
  pub grammars : GrammarsHold work w.grammars

-- Strings of an event are ahead of memory: v has the rows of w, and others after them.
pub record Ahead (w v : Rows) : Type 0 where
  pub fewer_uris : length w.uris ≤ length v.uris
  pub uris : (u : ℕ) → u < length w.uris → uri_at v.uris u ≡ uri_at w.uris u
  pub fewer_names : length w.names ≤ length v.names
  pub names : (n : ℕ) → n < length w.names → entry_at v.names n ≡ entry_at w.names n
  pub learned : v.learned ≡ w.learned
  pub grammars : v.grammars ≡ w.grammars
  pub attributes : v.attributes ≡ w.attributes
  pub longest : v.longest ≡ w.longest
  pub capacity : v.capacity ≡ w.capacity

-- ---- the numbers

-- No number passes its size, every value that joined has a code point in the store, and an element
-- is open just in its grammar's states. This holds of every state that a function is given or
-- answers, whatever memory holds.
pub record Bounded (c : Core) : Type 0 where
  pub stored : c.stored ≤ max_store
  pub uris : c.uris ≤ max_uris
  pub names : c.names ≤ max_names
  pub values : c.values ≤ c.stored
  pub learned : c.learned ≤ max_learned
  pub grammars : c.grammars ≤ max_grammars
  pub top : c.top < name_rows
  pub depth : c.depth ≤ max_open
  pub fits : ModeFits c.mode c.depth
  pub tag : c.tag ≤ max_events + 1
  pub capacity : c.capacity ≤ max_values + 1

-- They count the rows, and have the settings for values.
pub record Counts (c : Core) (w : Rows) : Type 0 where
  pub uris : c.uris ≡ length w.uris
  pub names : c.names ≡ length w.names
  pub values : c.values ≡ length w.values
  pub learned : c.learned ≡ length w.learned
  pub grammars : c.grammars ≡ length w.grammars
  pub longest : bound_of c.longest ≡ w.longest
  pub capacity : bound_of c.capacity ≡ w.capacity

-- These are the open elements, the innermost first, by the rows of their names.
pub record Opens (c : Core) (w : Rows) (opened : List ℕ) : Type 0 where
  pub size : length opened ≡ c.depth
  pub rows : (i : ℕ) → i < length opened → get_or opened i 0 < length w.names

-- The innermost of them is the top.
pub record Topped (c : Core) (opened : List ℕ) : Type 0 where
  pub is : 0 < c.depth → get_or opened 0 0 ≡ c.top

-- A name is one of the start tag's attributes.
abbrev pub in_tag_of : Rows → ℕ → Bool
in_tag_of w n = is_among n w.attributes

-- Memory and numbers are those of these rows and open elements. (The top is said apart: it is the
-- one number that memory does not know.)
pub record Represents (work : List ℕ) (from : Stores) (c : Core) (w : Rows) (opened : List ℕ) :
    Type 0 where
  pub valid : Valid w
  pub holds : Holds work from w
  pub counts : Counts c w
  pub opens : Opens c w opened
  pub marks : MarksHold work c.tag (in_tag_of w)

-- The definitions' context that they stand for.
abbrev pub context_at : List ℕ → Core → Rows → List ℕ → Context
context_at text c w opened = context_of w (take c.stored text) c.mode opened
