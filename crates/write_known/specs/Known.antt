-- What a quick step asks and leaves. It leaves what any step does
-- (crates/write_event/specs/Step.antt).
use Rattle.std.specs.Prelude.{ℕ, ◌≤◌, ◌<◌, ◌≡◌, true, List, length, T}
use Rattle.spec_fields.specs.Field.{Alignment}
use Rattle.text.specs.Text.{Text, inside}
use Rattle.spec_exi.specs.Settings.{Settings}
use Rattle.spec_exi.specs.Sizes.{max_events, max_learned}
use Rattle.spec_exi.specs.Event.{Kind}
use Rattle.spec_exi.specs.Grammar.{kind_number}
use Rattle.event.specs.declared.Part.{Part}
use Rattle.event.specs.declared.Event as declared
use Rattle.event.specs.declared.Event.TheVariants.{Attribute}
use Rattle.event.specs.Cells.{as_span, meaning}
use Rattle.event_code.specs.Numbers.{in_tag}
use Rattle.mem_layout.specs.Layout.{name_rows, work_cells}
use Rattle.mem_state.specs.declared.Core.{Core}
use Rattle.mem_state.specs.Commit as commit
use Rattle.mem_state.specs.Commit.{joined_value}
use Rattle.grammar_match.specs.Here.{CountedHere}
use Rattle.grammar_match.specs.Found.{FoundHere, PartHere}
use Rattle.grammar_stepped.specs.declared.Stepped.{Stepped}
use Rattle.write_field.specs.Written.{blank_from, farthest, Put}
use Rattle.write_values.specs.Values.{ValueAnswer, PutValuePre, value_bits}
use Rattle.write_qname.specs.Qnames.{joining_of}
use Rattle.write_production.specs.Codes.{first_bits}
use Rattle.write_event.specs.Step.{StepPost}
use Rattle.write_known.specs.Names.{Named}

-- ---- the code

-- A learned production of an element's grammar fits an event of this kind whose name has this row;
-- it is in a row counted from 1.
pub record LearnedPre (k : Kind) (work : List ℕ) (c : Core) (name row : ℕ) : Type 0 where
  pub found : FoundHere work c.mode c.top (kind_number k) name c.learned row
  pub some : 0 < row
  pub inner : in_tag ≤ c.mode

pub record PutLearnedPre (stream work : List ℕ) (at top row : ℕ) : Type 0 where
  pub blank : T (blank_from stream at)
  pub near : at ≤ farthest
  pub room : work_cells ≤ length work
  pub low : top < name_rows
  pub some : 0 < row
  pub few : row ≤ max_learned

-- Its part among the productions of the state.
pub record LearnedPut (a : Alignment) (stream work : List ℕ) (at mode top row : ℕ)
    (stream' : List ℕ) (next : ℕ) : Type 0 where
  pub count : ℕ
  pub part : ℕ
  pub counted : CountedHere work mode top count
  pub part-is : PartHere work row count part
  pub put : Put stream at (first_bits a mode count part) stream' next

-- ---- a value

pub record KeepPre (stream : List ℕ) (at : ℕ) (x : Text) (v : ValueAnswer) (owner values : ℕ)
    (work : List ℕ) : Type 0 where
  pub put : PutValuePre stream at v.partition owner values x work
  pub join : (p : Part)
      → commit.ValuePre work values owner (joining_of p v.joins v.hash)

-- Its bits are written, and it is added where it joins.
pub record ValueKept (a : Alignment) (stream : List ℕ) (at : ℕ) (x : Text) (p : Part)
    (v : ValueAnswer) (owner values capacity : ℕ) (work stream' work' : List ℕ) (next : ℕ) : Type 0
  where
    pub put : Put stream at (value_bits work v.partition v.id owner values capacity x a)
        stream' next
    pub work-is : work' ≡ joined_value values owner (joining_of p v.joins v.hash) work

-- ---- the step

pub record KnownPost (a : Alignment) (text : List ℕ) (e : declared.Event) (stream work : List ℕ)
    (c : Core) (n : ℕ) (stream' work' : List ℕ) (r : Stepped) : Type 0 where
  pub steps : (s : Settings) → s.alignment ≡ a → (opening : List ℕ)
      → StepPost s opening text (meaning e) stream work c n stream' work' r

-- The same of an attribute, whatever its number: it leaves the mark.
pub record AttributePost (a : Alignment) (text : List ℕ) (value : Part) (name : ℕ)
    (stream work : List ℕ) (c : Core) (stream' work' : List ℕ) (r : Stepped) : Type 0 where
  pub steps : (n : ℕ) → n < max_events → (s : Settings) → s.alignment ≡ a → (opening : List ℕ)
      (uri local : Part) → inside text (as_span uri) ≡ true → inside text (as_span local) ≡ true
      → Named opening text true uri local c work name
      → StepPost s opening text (meaning (Attribute uri local value)) stream work c n stream'
      work' r
