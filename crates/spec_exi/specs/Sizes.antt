-- The sizes (scope, "Sizes"), and the lent lengths that follow from them. Code has a constant for
-- each (crates/sizes).
use Rattle.std.specs.Prelude.{◌*◌, ◌≤◌}
use Rattle.spec_fields.specs.Prelude.{ℕ}

-- octets of a stream (LONG; the others are LIMIT's)
unfoldable pub max_stream : ℕ
max_stream = 16384

-- events of a list
unfoldable pub max_events : ℕ
max_events = 4096

-- elements open at once
unfoldable pub max_open : ℕ
max_open = 100

-- URIs, initial entries counted
unfoldable pub max_uris : ℕ
max_uris = 16

-- local names over all URIs, initial entries counted
unfoldable pub max_names : ℕ
max_names = 128

-- distinct non-empty values, present at once
unfoldable pub max_values : ℕ
max_values = 2048

-- element grammars
unfoldable pub max_grammars : ℕ
max_grammars = 64

-- learned productions in all
unfoldable pub max_learned : ℕ
max_learned = 512

-- code points of one string
unfoldable pub max_string : ℕ
max_string = 4096

-- code points of the text store
unfoldable pub max_store : ℕ
max_store = 16384

-- cells of an event (ours: docs/MEMORY.md; scope, "What is bought")
abbrev pub cells_per_event : ℕ
cells_per_event = 9

-- cells of work memory (ours: docs/MEMORY.md; scope, "Sizes")
unfoldable pub reader_work : ℕ
reader_work = 18432

-- The sizes that LONG, LIMIT and ROOM speak of. Definitions take them as z: a claim can speak of
-- two sets.
pub record Sizes : Type 0 where
  pub stream : ℕ
  pub events : ℕ
  pub opened : ℕ
  pub uris : ℕ
  pub names : ℕ
  pub values : ℕ
  pub grammars : ℕ
  pub learned : ℕ
  pub string : ℕ
  pub store : ℕ
  -- cells of work memory
  pub work : ℕ

-- The product's: the scope's, with P2's strings and values.
abbrev pub sizes : Sizes
sizes =
    record {
      stream = max_stream;
      events = max_events;
      opened = max_open;
      uris = max_uris;
      names = max_names;
      values = max_values;
      grammars = max_grammars;
      learned = max_learned;
      string = max_string;
      store = max_store;
      work = reader_work;
    }

-- The scope's own, before P2 ("Longer notes, more values").
unfoldable pub base_sizes : Sizes
base_sizes =
    record {
      stream = 16384;
      events = 4096;
      opened = 100;
      uris = 16;
      names = 128;
      values = 512;
      grammars = 64;
      learned = 512;
      string = 1024;
      store = 16384;
      work = reader_work;
    }

-- No size of y is above that of z (P2). Memory is each side's own.
pub record NoLarger (y z : Sizes) : Type 0 where
  pub stream : y.stream ≤ z.stream
  pub events : y.events ≤ z.events
  pub opened : y.opened ≤ z.opened
  pub uris : y.uris ≤ z.uris
  pub names : y.names ≤ z.names
  pub values : y.values ≤ z.values
  pub grammars : y.grammars ≤ z.grammars
  pub learned : y.learned ≤ z.learned
  pub string : y.string ≤ z.string
  pub store : y.store ≤ z.store

-- ---- what is lent, in cells of 32 bits

-- Cells for the events (scope, "Sizes": memory to lend).
unfoldable pub event_cells : ℕ
event_cells = cells_per_event * max_events

-- Cells of the writer's work memory: as many as the reader's.
unfoldable pub writer_work : ℕ
writer_work = reader_work
