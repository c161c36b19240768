-- What judging the content of an event asks and leaves (EXI 4).
use Rattle.std.specs.Prelude.{ℕ, ◌≤◌, ◌<◌, ◌≡◌, Bool, true, false, List, [], ◌∷◌, ◌++◌, length, Result, Ok, Err}
use Rattle.std.proofs.Math.Option.{some}
use Rattle.spec_fields.specs.Field.{Alignment}
use Rattle.text.specs.Text.{Text, inside, part}
use Rattle.spec_exi.specs.Sizes.{sizes, max_store, max_uris, max_names}
use Rattle.spec_exi.specs.Event.{Event, CH, start_document, end_document, end_element}
use Rattle.spec_exi.specs.Event.{start_element, attribute, characters, comment, instruction}
use Rattle.spec_exi.specs.Event.{kind_of, name_of, map_event, strings_of}
use Rattle.spec_exi.specs.Tables.{Tables, value, target, comment_text, instruction_text}
use Rattle.spec_exi.specs.Grammar.{State}
use Rattle.spec_exi.specs.Context.{Item, item, character_role, after_items}
use Rattle.spec_exi.specs.Strict.{items_bits}
use Rattle.spec_exi.specs.Lists.{every}
use Rattle.spec_exi.specs.Writer.{first_failed, content_tests}
use Rattle.spec_exi.specs.Alike.{AlikeTables}
use Rattle.refusal.specs.declared.Refusal.{Refusal}
use Rattle.refusal.specs.Numbers.{number_in}
use Rattle.event.specs.declared.Part.{Part}
use Rattle.event.specs.declared.Event as declared
use Rattle.event.specs.Cells.{meaning}
use Rattle.mem_values.specs.declared.Form.TheVariants.{Absent}
use Rattle.mem_layout.specs.Layout.{uri_rows, name_rows, work_cells}
use Rattle.mem_entries.specs.Entries.{key_at}
use Rattle.mem_rows.specs.Rows.{Rows, name_at, carries}
use Rattle.mem_state.specs.declared.Core.{Core}
use Rattle.mem_state.specs.declared.Strings.{Strings}
use Rattle.mem_state.specs.Joining.{no_strings, valued_strings}
use Rattle.mem_state.specs.Holds.{Bounded}
use Rattle.mem_state.specs.Strung.{StringsJoin}
use Rattle.write_partition.specs.Writable.{Writable, tables_in}
use Rattle.write_partition.specs.Judged.{fault_number}
use Rattle.write_values.specs.declared.ValueJudged.{ValueJudged}
use Rattle.write_values.specs.Values.{ValueAnswer, neither}
use Rattle.write_qname.specs.Premise.{list_stores, Prepared}
use Rattle.write_qname.specs.Qnames.{joining_of, NoName, name_as, NameHits}
use Rattle.write_content.specs.declared.Content.{Content}
use Rattle.write_content.specs.Answer.{ContentAnswer, told_content}
use Rattle.write_content.specs.Writing.{contentBits, Puttable}

-- ---- the answers

abbrev pub plain_as : ℕ → Strings → ContentAnswer
plain_as stored strings =
    record { number = 0; stored = stored; strings = strings; partition = neither; id = 0 }

abbrev pub stopped_as : ℕ → ℕ → ContentAnswer
stopped_as number stored =
    record { number = number; stored = stored; strings = no_strings; partition = neither; id = 0 }

abbrev pub with_value : Strings → ℕ → Part → ValueAnswer → ContentAnswer
with_value s owner p v =
    record {
      number = 0;
      stored = v.stored;
      strings = valued_strings s owner (joining_of p v.joins v.hash);
      partition = v.partition;
      id = v.id;
    }

abbrev pub plain_in : ℕ → Strings → Content
plain_in stored strings = record { stored = stored; strings = strings; form = Absent }

abbrev pub valued_in : Strings → ℕ → Part → ValueJudged → Content
valued_in s owner p v =
    record {
      stored = v.stored;
      strings = valued_strings s owner (joining_of p v.joins v.hash);
      form = v.form;
    }

-- A refusal leaves the store, and nothing joins.
abbrev pub content_answer : ℕ → Result Content Refusal → ContentAnswer
content_answer stored (Ok x) = told_content x
content_answer stored (Err k) = stopped_as (number_in k) stored

-- ---- the strings of an event

-- With a name that is written, or that a learned production carries (`items`).
unfoldable pub items_as : Bool → State → Event Text → List Item
items_as written st start_document = []
items_as written st end_document = []
items_as written st end_element = []
items_as written st (start_element q) = name_as written false q
items_as written st (attribute q v) = name_as written true q ++ (item (value q) v ∷ [])
items_as written st (characters v) = item (character_role st) v ∷ []
items_as written st (comment x) = item comment_text x ∷ []
items_as written st (instruction x y) = item target x ∷ item instruction_text y ∷ []

-- The event's name is in its tables.
unfoldable pub NamedHits : Tables → Event Text → Type 0
NamedHits t start_document = ⊥
NamedHits t end_document = ⊥
NamedHits t end_element = ⊥
NamedHits t (start_element q) = NameHits t false q
NamedHits t (attribute q v) = NameHits t true q
NamedHits t (characters v) = ⊥
NamedHits t (comment x) = ⊥
NamedHits t (instruction x y) = ⊥

-- ---- the judgement

-- Bounds alone.
pub record ContentPre (work : List ℕ) (c : Core) : Type 0 where
  pub room : work_cells ≤ length work
  pub bounded : Bounded c

-- On every memory: which rows the strings have, that their tables have room, and that a value that
-- joins is in the store.
pub record ContentBounds (c : Core) (stored : ℕ) (s : Strings) : Type 0 where
  pub uris : s.new_uri ≡ true → c.uris < max_uris
  pub names : s.new_name ≡ true → c.names < max_names
  pub values : s.new_value ≡ true → c.values < stored
  pub uri : s.uri_row < uri_rows
  pub name : s.name_row < name_rows
  pub owner : s.owner < name_rows

-- The event's name has this row.
pub record NamedAt (rows : Rows) (s : Strings) (e : Event Text) : Type 0 where
  pub row : s.name_row < length rows.names
  pub name : name_of e ≡ some (name_at rows s.name_row)
  pub key : key_at rows.names s.name_row ≡ s.uri_row

pub record UnnamedAt (s : Strings) : Type 0 where
  pub row : s.name_row ≡ 0
  pub uri : s.uri_row ≡ 0

-- The bits and the tables after them, where the name is written, or carried and joins nothing.
pub record ContentForm (written : Bool) (e : declared.Event) (text work : List ℕ) (c : Core)
    (w rows : Rows) (st : State) (x : Event Text) (r : ContentAnswer) : Type 0 where
  pub bits : (carried : Bool) → (written ≡ true → carried ≡ false)
      → (written ≡ false → carried ≡ true) → (a : Alignment)
      → items_bits a (tables_in w c.stored) (items_as written st x)
      ≡ contentBits text work e carried c r a
  pub after : AlikeTables (after_items (tables_in w c.stored) (items_as written st x))
      (tables_in rows r.stored)

pub record ContentLeaves (opening text : List ℕ) (e : declared.Event) (c : Core) (work : List ℕ)
    (w : Rows) (st : State) (x : Event Text) (r : ContentAnswer) : Type 0 where
  pub rows : Rows
  pub joins : StringsJoin (list_stores opening text) r.strings w rows
  pub writable : Writable rows
  pub form : (written : Bool) → (written ≡ false → NoName r.strings)
      → ContentForm written e text work c w rows st x r
  pub hits : carries (kind_of x) ≡ true → NoName r.strings
      → NamedHits (tables_in w c.stored) x
  pub named : carries (kind_of x) ≡ true → NamedAt rows r.strings x
  pub unnamed : carries (kind_of x) ≡ false → UnnamedAt r.strings

pub record ContentMeans (opening text : List ℕ) (e : declared.Event) (c : Core) (work : List ℕ)
    (w : Rows) (st : State) (x : Event Text) (r : ContentAnswer) : Type 0 where
  pub fault : (written : Bool) → (written ≡ false → NamedHits (tables_in w c.stored) x)
      → r.number
      ≡ fault_number
      (first_failed (content_tests sizes (tables_in w c.stored) (items_as written st x)))
  pub leaves : r.number ≡ 0 → ContentLeaves opening text e c work w st x r

pub record ContentPost (opening text : List ℕ) (e : declared.Event) (c : Core) (work : List ℕ)
    (r : ContentAnswer) : Type 0 where
  pub refused : 0 < r.number → r ≡ stopped_as r.number c.stored
  pub bounds : r.number ≡ 0 → ContentBounds c r.stored r.strings
  pub store : r.stored ≤ max_store
  pub grows : c.stored ≤ r.stored
  -- what the writing asks
  pub puttable : r.number ≡ 0 → Puttable e c r text
  -- characters are values of the innermost element
  pub meant : (w : Rows) (st : State) → Prepared opening text work c w
      → every (inside text) (strings_of (meaning e)) ≡ true
      → (kind_of (meaning e) ≡ CH
      → (character_role st ≡ value (name_at w c.top)) × (c.top < length w.names))
      → ContentMeans opening text e c work w st (map_event (part text) (meaning e)) r
