-- What reading the content of an event asks and leaves (EXI 4).
use Rattle.std.specs.Prelude.{ℕ, ◌*◌, ◌≤◌, ◌<◌, ◌≡◌, Bool, true, false, cond, List, length}
use Rattle.std.proofs.Math.Option.{Option, none, some}
use Rattle.spec_fields.specs.Field.{Alignment}
use Rattle.spec_exi.specs.Settings.{Settings}
use Rattle.spec_exi.specs.Sizes.{sizes, max_uris, max_names}
use Rattle.spec_exi.specs.Event.{QName, Event, kind_of, name_of, map_event, CH}
use Rattle.spec_exi.specs.Tables.{Placed, span_of, Tables, value}
use Rattle.spec_exi.specs.Grammar.{State, kind_number}
use Rattle.spec_exi.specs.Context.{character_role}
use Rattle.spec_exi.specs.Reader.{readContent}
use Rattle.event.specs.declared.Event as declared
use Rattle.event.specs.declared.Event.TheVariants.{StartDocument}
use Rattle.event.specs.Cells.{meaning}
use Rattle.mem_layout.specs.Layout.{uri_rows, name_rows, work_cells}
use Rattle.mem_entries.specs.Entries.{key_at}
use Rattle.mem_rows.specs.Rows.{Rows, placed_at, name_at, kind_at, carries, carried_at}
use Rattle.mem_state.specs.declared.Core.{Core}
use Rattle.mem_state.specs.declared.Strings.{Strings}
use Rattle.mem_state.specs.Joining.{no_strings}
use Rattle.mem_state.specs.Holds.{in_store, Bounded}
use Rattle.mem_state.specs.Strung.{StringsJoin}
use Rattle.read_contract.specs.Outcome.{Outcome}
use Rattle.read_literal.specs.Literal.{LiteralPre}
use Rattle.read_production.specs.View.{ProductionRead}
use Rattle.read_qname.specs.View.{Named}
use Rattle.read_qname.specs.Texts.{TextRead}
use Rattle.read_qname.specs.Qnames.{Prepared, tables_at}
use Rattle.read_qname.specs.Qnames.{Carried, PairPre, CarriedPre}
pub use Rattle.read_content.specs.View.{Content, stopped_as}

-- ---- the answers

-- An event without a string, or whose strings join no table.
abbrev pub plain_as : declared.Event → ℕ → ℕ → Content
plain_as event next stored =
    record {
      number = 0;
      next = next;
      left = 0;
      stored = stored;
      event = event;
      strings = no_strings;
    }

-- ---- what is asked: bounds alone

pub record ContentPre (stream : List ℕ) (at : ℕ) (text work : List ℕ) (c : Core)
    (p : ProductionRead) : Type 0 where
  pub pair : PairPre stream at text work c
  pub carried : CarriedPre work p.name p.uri p.local

-- ---- what is left

-- The name that the production carries.
abbrev pub carried_by : ProductionRead → Rows → Option (QName Placed)
carried_by p w = cond p.learned (carried_at w (kind_at p.kind) p.name) none

-- What is known of the state and of the production: characters are values of the innermost element,
-- and a carried name has these rows.
pub record ContentRows (c : Core) (p : ProductionRead) (st : State) (w : Rows) : Type 0 where
  pub inner : p.kind ≡ kind_number CH
      → (character_role st ≡ value (name_at w c.top)) × (c.top < length w.names)
  pub carried : p.learned ≡ true → carries (kind_at p.kind) ≡ true
      → Carried w p.name p.uri p.local

-- On every memory: which rows the strings have, and that their tables have room; a value that joins
-- has a code point in the store after it.
pub record ContentBounds (c : Core) (stored : ℕ) (s : Strings) : Type 0 where
  pub uris : s.new_uri ≡ true → c.uris < max_uris
  pub names : s.new_name ≡ true → c.names < max_names
  pub values : s.new_value ≡ true → c.values < stored
  pub uri : s.uri_row < uri_rows
  pub name : s.name_row < name_rows
  pub owner : s.owner < name_rows

-- The event's name has this row.
pub record NamedAt (rows : Rows) (s : Strings) (e : Event Placed) : Type 0 where
  pub row : s.name_row < length rows.names
  pub name : name_of e ≡ some (placed_at rows s.name_row)
  pub key : key_at rows.names s.name_row ≡ s.uri_row

pub record UnnamedAt (s : Strings) : Type 0 where
  pub row : s.name_row ≡ 0
  pub uri : s.uri_row ≡ 0

-- v is the event and the tables after its strings.
pub record ContentMeans (kind : ℕ) (text' : List ℕ) (w : Rows) (r : Content)
    (v : Event Placed × Tables) : Type 0 where
  pub rows : Rows
  pub joins : StringsJoin (in_store text' r.stored) r.strings w rows
  pub tables : v.1 ≡ tables_at text' r.stored rows
  pub event : meaning r.event ≡ map_event span_of v.0
  pub kind-is : kind_of v.0 ≡ kind_at kind
  pub named : carries (kind_of v.0) ≡ true → NamedAt rows r.strings v.0
  pub unnamed : carries (kind_of v.0) ≡ false → UnnamedAt r.strings

pub record ContentPost (a : Alignment) (stream : List ℕ) (at : ℕ) (text work : List ℕ) (c : Core)
    (p : ProductionRead) (text' : List ℕ) (r : Content) : Type 0 where
  pub inside : r.next ≤ 8 * length stream
  pub refused : 0 < r.number → r ≡ stopped_as r.number r.next r.left r.stored
  pub text-read : TextRead text c.stored text' r.number r.stored
  pub bounds : r.number ≡ 0 → ContentBounds c r.stored r.strings
  pub meant : (s : Settings) → s.alignment ≡ a → (w : Rows) (st : State)
      → Prepared work text c w → ContentRows c p st w
      → Outcome (readContent sizes s (tables_at text c.stored w) st (kind_at p.kind)
      (carried_by p w)) stream at r.number r.next (ContentMeans p.kind text' w r)
