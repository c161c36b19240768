-- What holds of memory where the writer's functions say what their answers mean.
use Rattle.std.specs.Prelude.{ℕ, ◌≤◌, ◌≡◌, true, List, length, replicate}
use Rattle.text.specs.Text.{Text, inside, part}
use Rattle.spec_exi.specs.Context.{Context}
use Rattle.event.specs.declared.Part.{Part}
use Rattle.event.specs.Cells.{as_span}
use Rattle.mem_layout.specs.Layout.{opening_uris, opening_names}
use Rattle.mem_entries.specs.Texts.{up_to}
use Rattle.mem_rows.specs.Rows.{Rows, context_of}
use Rattle.mem_rows.specs.Valid.{Valid}
use Rattle.mem_state.specs.declared.Core.{Core}
use Rattle.mem_state.specs.Holds.{Stores, Holds, Counts}
use Rattle.write_partition.specs.Writable.{Writable, uri_source, name_source}

-- Where the texts of the rows lie: those of the initial entries in the opening text, all others in
-- the store of the list itself.
abbrev pub list_stores : List ℕ → List ℕ → Stores
list_stores opening text =
    record {
      uris = uri_source opening text;
      names = name_source opening text;
      values = up_to text (length text);
    }

-- The initial entries are there: what joins later lies in the list's store.
pub record Begun (w : Rows) : Type 0 where
  pub uris : opening_uris ≤ length w.uris
  pub names : opening_names ≤ length w.names

-- Memory is that of these rows, and each of their texts was judged.
pub record Prepared (opening text work : List ℕ) (c : Core) (w : Rows) : Type 0 where
  pub begun : Begun w
  pub valid : Valid w
  pub writable : Writable w
  pub holds : Holds work (list_stores opening text) w
  pub counts : Counts c w

-- A string of the list lies inside its store.
pub record Inside (text : List ℕ) (x : Part) : Type 0 where
  pub is : inside text (as_span x) ≡ true

abbrev pub part_at : List ℕ → Part → Text
part_at text x = part text (as_span x)

-- The definitions' context that rows and numbers stand for, up to the places of strings.
abbrev pub context_in : Core → Rows → List ℕ → Context
context_in c w opened = context_of w (replicate c.stored 0) c.mode opened
