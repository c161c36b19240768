-- What judging and writing a qualified name asks and leaves (EXI 7.1.7).
use Rattle.std.specs.Prelude.{ℕ, ◌+◌, ◌*◌, ◌≤◌, ◌<◌, ◌≡◌, Bool, true, false, List, [], ◌∷◌, ◌++◌, length, T, Result, Ok, Err}
use Rattle.spec_fields.specs.Bits.{Bits}
use Rattle.spec_fields.specs.Field.{Alignment}
use Rattle.text.specs.Text.{Text}
use Rattle.spec_exi.specs.Sizes.{sizes, max_store, max_uris, max_names}
use Rattle.spec_exi.specs.Event.{QName}
use Rattle.spec_exi.specs.Tables as tables
use Rattle.spec_exi.specs.Tables.{Tables}
use Rattle.spec_exi.specs.Context.{Item, after_items}
use Rattle.spec_exi.specs.Strict.{items_bits}
use Rattle.spec_exi.specs.Writer.{first_failed, content_tests}
use Rattle.spec_exi.specs.Alike.{AlikeTables}
use Rattle.refusal.specs.declared.Refusal.{Refusal}
use Rattle.refusal.specs.Numbers.{number_in}
use Rattle.event.specs.declared.Part.{Part}
use Rattle.mem_layout.specs.Layout.{uri_rows, name_rows, work_cells}
use Rattle.mem_entries.specs.Entries.{key_at}
use Rattle.mem_rows.specs.Rows.{Rows, name_at}
use Rattle.mem_state.specs.declared.Core.{Core}
use Rattle.mem_state.specs.declared.Strings.{Strings}
use Rattle.mem_state.specs.Joining.{Joining, joining, no_joining, value_joining, as_strings}
use Rattle.mem_state.specs.Joining.{no_strings}
use Rattle.mem_state.specs.Holds.{Bounded}
use Rattle.mem_state.specs.Strung.{StringsJoin}
use Rattle.write_field.specs.Written.{blank_from, farthest}
use Rattle.write_partition.specs.declared.StringJudged.{StringJudged}
use Rattle.write_partition.specs.Writable.{Written, Writable, tables_in}
use Rattle.write_partition.specs.Judged.{StringAnswer, fault_number, IsHit}
use Rattle.write_names.specs.Uris.{uri_bits}
use Rattle.write_names.specs.Names.{name_bits}
use Rattle.write_string.specs.Fits.{max_string_bits}
use Rattle.write_qname.specs.declared.NameJudged.{NameJudged}
use Rattle.write_qname.specs.Premise.{list_stores, Prepared, Inside}
use Rattle.write_qname.specs.Premise.{part_at}

-- ---- the answers

abbrev pub joining_of : Part → Bool → ℕ → Joining
joining_of p joins hash = joining joins p.place p.size hash

-- Of a name that is judged: the number of a refusal or 0; the code points in the store after it; and
-- what is to join.
pub record NameAnswer : Type 0 where
  pub number : ℕ
  pub stored : ℕ
  pub strings : Strings

abbrev pub stopped_as : ℕ → ℕ → NameAnswer
stopped_as number stored = record { number = number; stored = stored; strings = no_strings }

abbrev pub named_as : Part → Part → StringAnswer → StringAnswer → NameAnswer
named_as uri local u l =
    record {
      number = 0;
      stored = l.stored;
      strings = as_strings (joining_of uri u.joins 0) (joining_of local l.joins l.hash)
          no_joining u.row l.row l.row;
    }

abbrev pub named_of : Part → Part → StringJudged → StringJudged → NameJudged
named_of uri local u l =
    record {
      stored = l.stored;
      strings = as_strings (joining_of uri u.joins 0) (joining_of local l.joins l.hash)
          no_joining u.row l.row l.row;
    }

-- A refusal leaves the store, and nothing joins.
abbrev pub told_name : NameJudged → NameAnswer
told_name n = record { number = 0; stored = n.stored; strings = n.strings }

abbrev pub name_answer : ℕ → Result NameJudged Refusal → NameAnswer
name_answer stored (Ok n) = told_name n
name_answer stored (Err k) = stopped_as (number_in k) stored

-- ---- the judgement

-- Bounds alone.
pub record NamePre (work : List ℕ) (c : Core) : Type 0 where
  pub room : work_cells ≤ length work
  pub bounded : Bounded c

-- On every memory: which rows the strings have, that their tables have room, and that what is to be
-- laid may be written.
pub record NameBounds (c : Core) (u x : Text) (stored : ℕ) (s : Strings) : Type 0 where
  pub uris : s.new_uri ≡ true → (c.uris < max_uris) × Written u
  pub names : s.new_name ≡ true → (c.names < max_names) × Written x
  pub old : s.new_uri ≡ false → s.uri_row < c.uris
  pub value : value_joining s ≡ no_joining
  pub uri : s.uri_row < uri_rows
  pub name : s.name_row < name_rows
  pub owner : s.owner ≡ s.name_row
  pub store : stored ≤ max_store
  pub grows : c.stored ≤ stored

-- Nothing joins.
pub record NoName (s : Strings) : Type 0 where
  pub uri : s.new_uri ≡ false
  pub name : s.new_name ≡ false

-- The two parts of a name, written or carried by a learned production.
unfoldable pub name_as : Bool → Bool → QName Text → List Item
name_as written attr q =
    record { role = tables.uri; written = written; text = q.uri }
    ∷ record { role = tables.local attr q.uri; written = written; text = q.local }
    ∷ []

-- Both are in their tables.
pub record NameHits (t : Tables) (attr : Bool) (q : QName Text) : Type 0 where
  pub uri-hit : IsHit t tables.uri q.uri
  pub local-hit : IsHit t (tables.local attr q.uri) q.local

-- The bits of both strings.
unfoldable pub qname_bits : List ℕ → Core → Strings → Text → Text → Alignment → Bits
qname_bits work c s u x a =
    uri_bits c.uris s.uri_row s.new_uri u a
    ++ name_bits work s.uri_row s.name_row s.new_name x a

-- The rows after a name that passes.
pub record NameLeaves (opening text : List ℕ) (attr : Bool) (q : QName Text) (c : Core)
    (work : List ℕ) (w : Rows) (r : NameAnswer) : Type 0 where
  pub rows : Rows
  pub joins : StringsJoin (list_stores opening text) r.strings w rows
  pub writable : Writable rows
  pub after : AlikeTables (after_items (tables_in w c.stored) (name_as true attr q))
      (tables_in rows r.stored)
  pub bits : (a : Alignment) → items_bits a (tables_in w c.stored) (name_as true attr q)
      ≡ qname_bits work c r.strings q.uri q.local a
  pub row : r.strings.name_row < length rows.names
  pub name : name_at rows r.strings.name_row ≡ q
  pub key : key_at rows.names r.strings.name_row ≡ r.strings.uri_row
  pub hits : NoName r.strings → NameHits (tables_in w c.stored) attr q

pub record NameMeans (opening text : List ℕ) (attr : Bool) (q : QName Text) (c : Core)
    (work : List ℕ) (w : Rows) (r : NameAnswer) : Type 0 where
  -- a name that a learned production carries is judged as one that is written
  pub fault : (written : Bool) → (written ≡ false → NameHits (tables_in w c.stored) attr q)
      → r.number
      ≡ fault_number
      (first_failed (content_tests sizes (tables_in w c.stored) (name_as written attr q)))
  pub leaves : r.number ≡ 0 → NameLeaves opening text attr q c work w r

pub record NamePost (opening text : List ℕ) (attr : Bool) (uri local : Part) (c : Core)
    (work : List ℕ) (r : NameAnswer) : Type 0 where
  pub refused : 0 < r.number → r ≡ stopped_as r.number c.stored
  pub bounds : r.number ≡ 0
      → NameBounds c (part_at text uri) (part_at text local) r.stored r.strings
  pub meant : (w : Rows) → Prepared opening text work c w → Inside text uri → Inside text local
      → NameMeans opening text attr (record { uri = part_at text uri; local = part_at text local }) c
      work w r

-- ---- the writing

pub record PutNamePre (stream : List ℕ) (at : ℕ) (uri local : Part) (c : Core) (s : Strings)
    (text work : List ℕ) : Type 0 where
  pub blank : T (blank_from stream at)
  pub near : at + 2 * max_string_bits ≤ farthest
  pub room : work_cells ≤ length work
  pub few : c.uris ≤ max_uris
  pub old : s.new_uri ≡ false → s.uri_row < c.uris
  pub uri-low : s.uri_row < uri_rows
  pub name-low : s.name_row < name_rows
  pub new-uri : s.new_uri ≡ true → Written (part_at text uri)
  pub new-name : s.new_name ≡ true → Written (part_at text local)
