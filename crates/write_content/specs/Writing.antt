-- What writing the content of an event asks, and its bits as cells give them.
use Rattle.std.specs.Prelude.{ℕ, ◌+◌, ◌*◌, ◌≤◌, ◌<◌, ◌≡◌, Bool, true, false, cond, List, [], ◌++◌, length, T}
use Rattle.spec_fields.specs.Bits.{Bits}
use Rattle.spec_fields.specs.Field.{Alignment}
use Rattle.text.specs.Text.{Text}
use Rattle.spec_exi.specs.Sizes.{max_uris, max_store}
use Rattle.spec_exi.specs.Tables.{string_bits}
use Rattle.event.specs.declared.Part.{Part}
use Rattle.event.specs.declared.Event as declared
use Rattle.event.specs.declared.Event.TheVariants.{StartDocument, EndDocument, StartElement}
use Rattle.event.specs.declared.Event.TheVariants.{Attribute, EndElement, Characters, Comment}
use Rattle.event.specs.declared.Event.TheVariants.{Instruction}
use Rattle.mem_layout.specs.Layout.{uri_rows, name_rows, work_cells}
use Rattle.mem_state.specs.declared.Core.{Core}
use Rattle.mem_state.specs.declared.Strings.{Strings}
use Rattle.write_field.specs.Written.{blank_from, farthest}
use Rattle.write_partition.specs.Writable.{Written}
use Rattle.write_values.specs.Values.{own, all, value_bits}
use Rattle.write_qname.specs.Premise.{part_at}
use Rattle.write_qname.specs.Qnames.{qname_bits, PutNamePre}
use Rattle.write_string.specs.Fits.{max_string_bits}
use Rattle.write_content.specs.Answer.{ContentAnswer}

-- ---- the bits

unfoldable pub named_bits : List ℕ → Bool → Core → Strings → Text → Text → Alignment → Bits
named_bits work carried c s u x a = cond carried [] (qname_bits work c s u x a)

unfoldable pub valued_bits : List ℕ → Core → ContentAnswer → Text → Alignment → Bits
valued_bits work c x v a =
    value_bits work x.partition x.id x.strings.owner c.values c.capacity v a

unfoldable pub contentBits :
    List ℕ → List ℕ → declared.Event → Bool → Core → ContentAnswer → Alignment → Bits
contentBits text work StartDocument carried c x a = []
contentBits text work EndDocument carried c x a = []
contentBits text work (StartElement u n) carried c x a =
    named_bits work carried c x.strings (part_at text u) (part_at text n) a
contentBits text work (Attribute u n v) carried c x a =
    named_bits work carried c x.strings (part_at text u) (part_at text n) a
    ++ valued_bits work c x (part_at text v) a
contentBits text work EndElement carried c x a = []
contentBits text work (Characters v) carried c x a = valued_bits work c x (part_at text v) a
contentBits text work (Comment x) carried c r a = string_bits 0 (part_at text x)
contentBits text work (Instruction x y) carried c r a =
    string_bits 0 (part_at text x) ++ string_bits 0 (part_at text y)

-- ---- what is asked

-- What is written of a name may be written.
pub record NamePuttable (c : Core) (s : Strings) (u x : Text) : Type 0 where
  pub old : s.new_uri ≡ false → s.uri_row < c.uris
  pub new-uri : s.new_uri ≡ true → Written u
  pub new-name : s.new_name ≡ true → Written x

pub record ValuePuttable (x : ContentAnswer) (v : Text) : Type 0 where
  pub literal : (x.partition ≡ own → ⊥) → (x.partition ≡ all → ⊥) → Written v

unfoldable pub Puttable : declared.Event → Core → ContentAnswer → List ℕ → Type 0
Puttable StartDocument c x text = Unit {0}
Puttable EndDocument c x text = Unit {0}
Puttable (StartElement u n) c x text =
    NamePuttable c x.strings (part_at text u) (part_at text n)
Puttable (Attribute u n v) c x text =
    NamePuttable c x.strings (part_at text u) (part_at text n)
    × ValuePuttable x (part_at text v)
Puttable EndElement c x text = Unit {0}
Puttable (Characters v) c x text = ValuePuttable x (part_at text v)
Puttable (Comment x) c r text = Written (part_at text x)
Puttable (Instruction x y) c r text = Written (part_at text x) × Written (part_at text y)

pub record PutNamedPre (stream : List ℕ) (at : ℕ) (uri local : Part) (c : Core) (s : Strings)
    (text work : List ℕ) : Type 0 where
  pub known : PutNamePre stream at uri local c s text work

pub record PutValuedPre (stream : List ℕ) (at : ℕ) (value : Part) (c : Core) (x : ContentAnswer)
    (text work : List ℕ) : Type 0 where
  pub blank : T (blank_from stream at)
  pub near : at + max_string_bits ≤ farthest
  pub room : work_cells ≤ length work
  pub low : x.strings.owner < name_rows
  pub few : c.values ≤ max_store
  pub puttable : ValuePuttable x (part_at text value)

pub record PutTextPre (stream : List ℕ) (at : ℕ) (value : Part) (text : List ℕ) : Type 0 where
  pub blank : T (blank_from stream at)
  pub near : at + max_string_bits ≤ farthest
  pub written : Written (part_at text value)

pub record PutContentPre (stream : List ℕ) (at : ℕ) (e : declared.Event) (c : Core) (x : ContentAnswer)
    (text work : List ℕ) : Type 0 where
  pub blank : T (blank_from stream at)
  pub near : at + 3 * max_string_bits ≤ farthest
  pub room : work_cells ≤ length work
  pub few : c.uris ≤ max_uris
  pub few-values : c.values ≤ max_store
  pub uri-low : x.strings.uri_row < uri_rows
  pub name-low : x.strings.name_row < name_rows
  pub owner-low : x.strings.owner < name_rows
  pub puttable : Puttable e c x text
