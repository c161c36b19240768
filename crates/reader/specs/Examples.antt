-- A worked example of memory that represents a context: K7 after its first reading.
use Rattle.std.specs.Prelude.{ℕ, ◌≡◌, List, [], ◌∷◌}
use Rattle.text.specs.Text.{Text}
use Rattle.spec_exi.specs.Event.{Event, start_document}
use Rattle.spec_exi.specs.Settings.{Settings, settings_of}
use Rattle.spec_exi.specs.Context.{start, context_after}
use Rattle.spec_exi.specs.Examples.{in_octets, octets, begin, attr, end}
use Rattle.mem_rows.specs.Rows.{Rows}
use Rattle.mem_state.specs.Holds.{in_store, Represents, context_at}
use Rattle.mem_initial.specs.Initial.{zeroed, with_text, with_rows, start_at}
use Rattle.grammar_open.specs.Opened.{none_open, opened_in}
use Rattle.read_body.specs.read_run.declared.Advanced.{Advanced}
use Rattle.read_body.specs.read_run.Run.{AdvancePost}
use Rattle.reader.specs.Read.{ReadStreamPre}

-- K7 (scope, "Streams to check") up to the end tag of its first reading, and the events there.
unfoldable pub first_reading : List ℕ
first_reading = octets "80 01 02 72 02 01 02 70 01 01 02 74 03 31 01 00"

unfoldable pub first_events : List (Event Text)
first_events = start_document ∷ begin "r" ∷ begin "p" ∷ attr "t" "1" ∷ end ∷ []

unfoldable pub as_octets : Settings
as_octets = settings_of in_octets

-- Five events are read, and memory represents the context that they leave by the definitions.
pub record Stands (text work : List ℕ) (r : Advanced) : Type 0 where
  pub read : r.index ≡ 5
  pub rows : Rows
  pub represents : Represents work (in_store text r.state.core.stored) r.state.core rows
      (opened_in r.state)
  pub context : context_at text r.state.core rows (opened_in r.state)
      ≡ context_after as_octets (start as_octets) first_events

-- So it is wherever these octets are read from the start on, whatever lay in work memory.
pub record FirstReading : Type 0 where
  pub stands : {events text work events' text' work' : List ℕ} {r : Advanced}
      → ReadStreamPre first_reading events text work
      → AdvancePost as_octets first_reading events (with_text text 0)
      (with_rows (zeroed work) 0) (none_open (start_at 8 0 0)) 0 events' text' work' r
      → Stands text' work' r
