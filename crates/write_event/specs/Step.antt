-- What writing one event, before which n have come, asks and leaves.
use Rattle.std.specs.Prelude.{ℕ, ◌+◌, ◌*◌, ◌≤◌, ◌<◌, ◌≡◌, Bool, true, List, length, T}
use Rattle.spec_fields.specs.Bits.{Bits}
use Rattle.text.specs.Text.{Text, Span, part}
use Rattle.spec_exi.specs.Settings.{Settings}
use Rattle.spec_exi.specs.Sizes.{sizes, max_events, max_store}
use Rattle.spec_exi.specs.Event.{Event, map_event}
use Rattle.spec_exi.specs.Context.{next}
use Rattle.spec_exi.specs.Strict.{event_bits}
use Rattle.spec_exi.specs.Writer.{fault_of}
use Rattle.spec_exi.specs.Alike.{Alike}
use Rattle.mem_layout.specs.Layout.{sites, work_cells}
use Rattle.mem_rows.specs.Rows.{Rows}
use Rattle.mem_state.specs.declared.Core.{Core}
use Rattle.mem_state.specs.declared.Strings.{Strings}
use Rattle.mem_state.specs.declared.Growth.{Growth}
use Rattle.mem_state.specs.Commit.{joined_strings, grown}
use Rattle.mem_state.specs.Holds.{Bounded, Topped, Represents}
use Rattle.grammar_open.specs.Opened.{Turned}
use Rattle.grammar_codes.specs.Table as table
use Rattle.grammar_update.specs.Growth.{fits_in}
use Rattle.grammar_update.specs.After.{core_after}
use Rattle.grammar_stepped.specs.declared.Stepped.{Stepped}
use Rattle.grammar_stepped.specs.Stepped.{core_of}
use Rattle.write_field.specs.Written.{blank_from, Put}
use Rattle.write_partition.specs.Writable.{Writable}
use Rattle.write_partition.specs.Judged.{fault_number}
use Rattle.write_qname.specs.Premise.{list_stores, context_in, Begun}
use Rattle.write_content.specs.Contents.{ContentBounds}
use Rattle.write_string.specs.Fits.{max_string_bits}

-- ---- how many bits there can be

-- Of an event: its code, and three strings.
abbrev pub max_event_bits : ℕ
max_event_bits = 48 + max_string_bits * 3

-- Of a stream, its header counted.
abbrev pub max_list_bits : ℕ
max_list_bits = 64 + max_event_bits * max_events

-- ---- bounds alone

pub record StepPre (stream work : List ℕ) (c : Core) (n : ℕ) : Type 0 where
  pub blank : T (blank_from stream c.at)
  pub near : c.at ≤ max_list_bits
  pub rows : work_cells ≤ length work
  pub bounded : Bounded c
  pub early : n < max_events

-- ---- on every memory

-- A refusal leaves all as it was.
pub record StepRefused (stream work : List ℕ) (c : Core) (stream' work' : List ℕ) (r : Stepped)
    : Type 0 where
  pub core : core_of r ≡ c
  pub stream-is : stream' ≡ stream
  pub work-is : work' ≡ work

-- What an accepted event adds to work memory: rows after the others, where each table has room, and
-- the count of code points that they come to.
pub record RowBounds (c : Core) (s : Strings) (g : Growth) (stored : ℕ) : Type 0 where
  pub strings : ContentBounds c stored s
  pub stands : table.Stands c.mode g.kind
  pub fits : fits_in c g ≡ true
  pub site : g.site < sites
  pub name : g.name ≡ s.name_row
  pub store : stored ≤ max_store
  pub grows : c.stored ≤ stored

-- The event's bits are written; its strings and its growth are all that joins work memory, and the
-- numbers are those after it, in a fragment or not.
pub record StepPut (fragment : Bool) (stream work : List ℕ) (c : Core) (n : ℕ)
    (stream' work' : List ℕ) (r : Stepped) : Type 0 where
  pub bits : Bits
  pub put : Put stream c.at bits stream' r.at
  pub near : r.at ≤ c.at + max_event_bits
  pub strings : Strings
  pub growth : Growth
  pub rows : RowBounds c strings growth r.stored
  pub work-is : work' ≡ grown c growth (joined_strings c strings work)
  pub work-size : length work' ≡ length work
  pub core_is : core_of r ≡ core_after fragment c r.at r.stored strings growth n

-- ---- by the definitions

-- Memory and numbers are those of these rows and open elements, as the writer has them.
pub record Stands (opening text work : List ℕ) (c : Core) (w : Rows) (opened : List ℕ) : Type 0
  where
    pub represents : Represents work (list_stores opening text) c w opened
    pub writable : Writable w
    pub begun : Begun w

-- The event's bits, and the context that memory represents after it, up to the places of strings.
pub record StepLeaves (s : Settings) (opening text : List ℕ) (e : Event Text) (c : Core) (w : Rows)
    (opened : List ℕ) (bits : Bits) (work' : List ℕ) (d : Core) : Type 0 where
  pub rows : Rows
  pub opened' : List ℕ
  pub bits_are : bits ≡ event_bits s (context_in c w opened) e
  pub after : Stands opening text work' d rows opened'
  pub turned : Turned c d opened opened'
  pub context : Alike (next s (context_in c w opened) e) (context_in d rows opened')

pub record StepMeans (s : Settings) (opening text : List ℕ) (e : Event Span) (stream work : List ℕ)
    (c : Core) (n : ℕ) (w : Rows) (opened stream' work' : List ℕ) (r : Stepped)
    (put : r.number ≡ 0 → StepPut s.fragment stream work c n stream' work' r) : Type 0 where
  pub fault : r.number ≡ fault_number (fault_of sizes s (context_in c w opened) text e)
  pub leaves : (z : r.number ≡ 0)
      → StepLeaves s opening text (map_event (part text) e) c w opened (put z).bits work' (core_of r)

pub record StepPost (s : Settings) (opening text : List ℕ) (e : Event Span) (stream work : List ℕ)
    (c : Core) (n : ℕ) (stream' work' : List ℕ) (r : Stepped) : Type 0 where
  pub bounded : Bounded (core_of r)
  pub refused : 0 < r.number → StepRefused stream work c stream' work' r
  pub put : r.number ≡ 0 → StepPut s.fragment stream work c n stream' work' r
  pub meant : (w : Rows) (opened : List ℕ) → Stands opening text work c w opened → Topped c opened
      → c.tag ≤ n + 1 → StepMeans s opening text e stream work c n w opened stream' work' r put
