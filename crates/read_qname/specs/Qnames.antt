-- What reading a qualified name asks and leaves (EXI 7.1.7).
use Rattle.std.specs.Prelude.{ℕ, ◌*◌, ◌≤◌, ◌<◌, ◌≡◌, Bool, true, cond, List, length, take}
use Rattle.std.proofs.Math.Option.{Option, none, some}
use Rattle.spec_fields.specs.Field.{Alignment}
use Rattle.text.specs.Text.{Text}
use Rattle.spec_exi.specs.Settings.{Settings}
use Rattle.spec_exi.specs.Sizes.{sizes, max_uris, max_names}
use Rattle.spec_exi.specs.Event.{QName}
use Rattle.spec_exi.specs.Tables.{Placed, span_of, Tables}
use Rattle.spec_exi.specs.Reader.{readName}
use Rattle.event.specs.declared.Part.{Part}
use Rattle.event.specs.Cells.{as_span}
use Rattle.mem_layout.specs.Layout.{uri_rows, name_rows, work_cells}
use Rattle.mem_entries.specs.Entries.{key_at}
use Rattle.mem_names.specs.declared.Uri.{Uri}
use Rattle.mem_names.specs.declared.Name.{Name}
use Rattle.mem_names.specs.Uris.{uri_in}
use Rattle.mem_names.specs.Names.{name_in}
use Rattle.mem_rows.specs.Rows.{Rows, placed_at, tables_of}
use Rattle.mem_rows.specs.Valid.{Valid}
use Rattle.mem_state.specs.declared.Core.{Core}
use Rattle.mem_state.specs.declared.Strings.{Strings}
use Rattle.mem_state.specs.Joining.{Joining, joining, no_joining, value_joining, as_strings}
use Rattle.mem_state.specs.Joining.{no_strings}
use Rattle.mem_state.specs.Holds.{in_store, Holds, Counts, Bounded}
use Rattle.mem_state.specs.Strung.{StringsJoin}
use Rattle.read_contract.specs.Outcome.{Outcome}
use Rattle.read_literal.specs.Literal.{LiteralPre}
use Rattle.read_partition.specs.View.{StringRead}
pub use Rattle.read_qname.specs.View.{Named, no_part, stopped_as}
use Rattle.read_qname.specs.Texts.{TextRead}

-- ---- small answers

abbrev pub joining_of : StringRead → Joining
joining_of x = joining x.joins x.place x.size x.hash

abbrev pub part_of : StringRead → Part
part_of x = record { place = x.place; size = x.size }

-- The name that cells have, by the rows of its URI and of its local name.
unfoldable pub carried_as : List ℕ → ℕ → ℕ → ℕ → ℕ → ℕ → Named
carried_as work at stored name uri local =
    record {
      number = 0;
      next = at;
      left = 0;
      stored = stored;
      uri = record { place = (uri_in work uri).place; size = (uri_in work uri).size };
      local = record { place = (name_in work local).place; size = (name_in work local).size };
      strings = as_strings no_joining no_joining no_joining uri name name;
    }

-- Both strings, read one after the other.
abbrev pub pair_as : StringRead → StringRead → Named
pair_as u l =
    record {
      number = 0;
      next = l.next;
      left = 0;
      stored = l.stored;
      uri = part_of u;
      local = part_of l;
      strings = as_strings (joining_of u) (joining_of l) no_joining u.row l.row l.row;
    }

-- ---- what is asked: bounds alone

pub record CarriedPre (work : List ℕ) (name uri local : ℕ) : Type 0 where
  pub room : work_cells ≤ length work
  pub name_low : name < name_rows
  pub uri_low : uri < uri_rows
  pub local_low : local < name_rows

pub record PairPre (stream : List ℕ) (at : ℕ) (text work : List ℕ) (c : Core) : Type 0 where
  pub literal : LiteralPre stream at text c.stored
  pub room : work_cells ≤ length work
  pub bounded : Bounded c

pub record NamePre (stream : List ℕ) (at : ℕ) (text work : List ℕ) (c : Core)
    (name uri local : ℕ) : Type 0 where
  pub pair : PairPre stream at text work c
  pub carried : CarriedPre work name uri local

-- ---- what is left

-- Memory is that of these rows.
pub record Prepared (work text : List ℕ) (c : Core) (w : Rows) : Type 0 where
  pub valid : Valid w
  pub holds : Holds work (in_store text c.stored) w
  pub counts : Counts c w

-- The store, as the definitions have it.
abbrev pub tables_at : List ℕ → ℕ → Rows → Tables
tables_at text stored w = tables_of w (take stored text)

-- A learned production carries the name in this row.
pub record Carried (w : Rows) (name uri local : ℕ) : Type 0 where
  pub row : name < length w.names
  pub uri-is : uri ≡ key_at w.names name
  pub local-is : local ≡ name

-- The strings of a name on every memory: which rows they have, and that their tables have room.
pub record NameBounds (c : Core) (s : Strings) : Type 0 where
  pub uris : s.new_uri ≡ true → c.uris < max_uris
  pub names : s.new_name ≡ true → c.names < max_names
  pub value : value_joining s ≡ no_joining
  pub uri : s.uri_row < uri_rows
  pub name : s.name_row < name_rows
  pub owner : s.owner ≡ s.name_row

-- v is the name and the tables after it.
pub record NameMeans (text' : List ℕ) (w : Rows) (r : Named) (v : QName Placed × Tables) : Type 0
  where
    pub rows : Rows
    pub joins : StringsJoin (in_store text' r.stored) r.strings w rows
    pub tables : v.1 ≡ tables_at text' r.stored rows
    pub row : r.strings.name_row < length rows.names
    pub name : placed_at rows r.strings.name_row ≡ v.0
    pub key : key_at rows.names r.strings.name_row ≡ r.strings.uri_row
    pub uri-is : as_span r.uri ≡ span_of v.0.uri
    pub local-is : as_span r.local ≡ span_of v.0.local

-- carried is the name that a learned production has, in the rows.
pub record NamePost (a : Alignment) (attr : Bool) (Premise : Rows → Type 0)
    (carried : Rows → Option (QName Placed)) (stream : List ℕ) (at : ℕ) (text work : List ℕ)
    (c : Core) (text' : List ℕ) (r : Named) : Type 0 where
  pub inside : r.next ≤ 8 * length stream
  pub refused : 0 < r.number → r ≡ stopped_as r.number r.next r.left r.stored
  pub text-read : TextRead text c.stored text' r.number r.stored
  pub bounds : r.number ≡ 0 → NameBounds c r.strings
  pub meant : (s : Settings) → s.alignment ≡ a → (w : Rows) → Prepared work text c w → Premise w
      → Outcome (readName sizes s (tables_at text c.stored w) attr (carried w)) stream at
      r.number r.next (NameMeans text' w r)
