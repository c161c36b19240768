-- What reading the local name of a qualified name asks and leaves (EXI 7.3.3).
use Rattle.std.specs.Prelude.{ℕ, ◌≤◌, ◌<◌, ◌≡◌, Bool, true, false, List, map, length}
use Rattle.std.proofs.Math.Option.{some}
use Rattle.spec_fields.specs.Field.{Alignment}
use Rattle.text.specs.Text.{Text, part}
use Rattle.spec_exi.specs.Sizes.{max_store, max_names}
use Rattle.spec_exi.specs.Tables.{Slot, Role, local, names_of}
use Rattle.mem_layout.specs.Layout.{uri_rows, name_rows, work_cells}
use Rattle.mem_entries.specs.Texts.{hash_of, Lies, throughout}
use Rattle.mem_entries.specs.Entries.{Entries, entry_at, key_at}
use Rattle.mem_names.specs.Uris.{uri_text}
use Rattle.mem_names.specs.Names.{NamesHold}
use Rattle.mem_rows.specs.Rows.{Rows, tables_of, with_name}
use Rattle.read_literal.specs.Literal.{LiteralPre}
use Rattle.read_partition.specs.View.{StringRead}
use Rattle.read_partition.specs.Strings.{Hashed, Reading, as_string, as_hit, as_literal, StringPost}
use Rattle.read_names.specs.Uris.{Spans}

-- ---- bounds

pub record NamePre (stream : List ℕ) (at : ℕ) (text : List ℕ) (stored : ℕ) (work : List ℕ)
    (names uri : ℕ) : Type 0 where
  pub literal : LiteralPre stream at text stored
  pub room : work_cells ≤ length work
  pub few : names ≤ max_names
  pub low : uri < uri_rows

-- With the hash of the text after the store.
pub record SeekNamePre (text : List ℕ) (stored n hash : ℕ) (work : List ℕ) (names uri : ℕ)
    : Type 0 where
  pub is : hash ≡ hash_of (part text (record { place = stored; size = n }))
  pub store : stored ≤ max_store
  pub room : work_cells ≤ length work
  pub few : names ≤ max_names
  pub low : uri < uri_rows

-- ---- what is left

-- Memory holds the names of w; the URI has a row in w, and its text lies in the store.
pub record NameRows (work text : List ℕ) (stored names uri place size : ℕ) (w : Rows) : Type 0 where
  pub hold : NamesHold work (throughout text stored) names w.names
  pub row : uri < length w.uris
  pub lies : Lies text stored place size (uri_text w.uris uri)

abbrev pub name_role : Bool → ℕ → Rows → Role
name_role attr uri w = local attr (uri_text w.uris uri)

abbrev pub own_names : ℕ → Rows → Text → List Slot
own_names uri w store = map some (names_of (tables_of w store) (uri_text w.uris uri))

abbrev pub as_name : Bool → ℕ → Rows → Text → Reading
as_name attr uri w store = as_string (name_role attr uri w)

abbrev pub as_own : Bool → ℕ → Rows → Text → Reading
as_own attr uri w store = as_hit (name_role attr uri w) 0 (own_names uri w store)

abbrev pub as_new_name : ℕ → Bool → ℕ → Rows → Text → Reading
as_new_name n attr uri w store = as_literal (name_role attr uri w) n

abbrev pub NamePost : Alignment → Bool → (Bool → ℕ → Rows → Text → Reading) → List ℕ → ℕ → List ℕ
    → ℕ → List ℕ → ℕ → ℕ → ℕ → ℕ → List ℕ → StringRead → Type 0
NamePost a attr read stream at text stored work names uri place size text' r =
    StringPost a (NameRows work text stored names uri place size) (read attr uri)
    (λ w x. with_name w uri x) stream at text stored text' r

-- The answer is the name in its row, which is one of the URI's.
pub record InNames (ns : Entries) (uri : ℕ) (text : List ℕ) (r : StringRead) : Type 0 where
  pub inside : r.row < length ns
  pub key : key_at ns r.row ≡ uri
  pub spans : Spans text r (entry_at ns r.row).string

-- The row of the name that was read: on every memory one of the table; after the others where the
-- name is to join; else, where memory holds these names, the row that has it.
pub record NameRowed (text : List ℕ) (stored : ℕ) (work : List ℕ) (names uri : ℕ)
    (text' : List ℕ) (r : StringRead) : Type 0 where
  pub low : r.number ≡ 0 → r.row < name_rows
  pub left : r.joins ≡ true → names < max_names
  pub new : r.joins ≡ true → r.row ≡ names
  pub hashed : Hashed text' r
  pub old : r.number ≡ 0 → r.joins ≡ false → (ns : Entries)
      → NamesHold work (throughout text stored) names ns → InNames ns uri text' r
