-- How an event is judged before its first bit; what is asked and left on the way to its bits and
-- its rows.
use Rattle.std.specs.Prelude.{ℕ, ◌+◌, ◌≤◌, ◌<◌, ◌≡◌, Bool, true, false, cond, List, ◌++◌, length, replicate, T, Result, Ok, Err}
use Rattle.spec_fields.specs.Bits.{Bits}
use Rattle.spec_fields.specs.Refusal.{number_of, limit, shape}
use Rattle.text.specs.Text.{part}
use Rattle.spec_exi.specs.Settings.{Settings}
use Rattle.spec_exi.specs.Sizes.{sizes, max_events}
use Rattle.spec_exi.specs.Event.{map_event, SE}
use Rattle.spec_exi.specs.Grammar.{kind_number}
use Rattle.spec_exi.specs.Context.{next}
use Rattle.spec_exi.specs.Strict.{event_bits}
use Rattle.spec_exi.specs.Writer.{fault_of}
use Rattle.spec_exi.specs.Alike.{Alike}
use Rattle.refusal.specs.declared.Refusal.{Refusal}
use Rattle.refusal.specs.Numbers.{number_in}
use Rattle.event.specs.declared.Event as declared
use Rattle.event.specs.Cells.{meaning}
use Rattle.mem_layout.specs.Layout.{name_rows, work_cells}
use Rattle.mem_rows.specs.Rows.{Rows, mode_after, opened_after, leaves, context_of}
use Rattle.mem_rows.specs.Valid.{Valid}
use Rattle.mem_state.specs.declared.Core.{Core}
use Rattle.mem_state.specs.declared.Growth.{Growth}
use Rattle.mem_state.specs.Holds.{Bounded, Topped}
use Rattle.mem_state.specs.Commit.{joined_strings, grown}
use Rattle.mem_state.specs.Strung.{StringsJoin}
use Rattle.mem_state.specs.Grows.{learnt_of, Grows}
use Rattle.grammar_codes.specs.declared.Place.{Place}
use Rattle.grammar_match.specs.Here.{CountedHere}
use Rattle.grammar_match.specs.Found.{FoundHere, PartHere}
use Rattle.grammar_update.specs.Growth.{growth_of, allowed_in, fits_in}
use Rattle.grammar_update.specs.After.{core_after}
use Rattle.write_field.specs.Written.{blank_from}
use Rattle.write_partition.specs.Writable.{Writable}
use Rattle.write_partition.specs.Judged.{fault_number}
use Rattle.write_qname.specs.Premise.{list_stores, context_in}
use Rattle.write_content.specs.Answer.{ContentAnswer, told_content}
use Rattle.write_content.specs.Contents.{stopped_as, ContentBounds}
use Rattle.write_content.specs.Writing.{contentBits, Puttable}
use Rattle.write_production.specs.declared.Code.{Code}
use Rattle.write_production.specs.Codes.{InTable, code_bits_as}
use Rattle.mem_index.specs.Index.{numbers}
use Rattle.grammar_codes.specs.Table.{max_levels}
use Rattle.write_event.specs.declared.EventJudged.{EventJudged}
use Rattle.write_event.specs.Step as step

-- ---- the code

pub record CodeHerePre (work : List ℕ) (c : Core) (name : ℕ) : Type 0 where
  pub room : work_cells ≤ length work
  pub bounded : Bounded c
  pub name-low : name < name_rows

-- A learned production's, if one is found; the part is how many of the state's are newer.
pub record CodeHere (work : List ℕ) (c : Core) (kind name : ℕ) (r : Code) : Type 0 where
  pub counted : CountedHere work c.mode c.top r.count
  pub row : ℕ
  pub found : FoundHere work c.mode c.top kind name c.learned row
  pub fixed : row ≡ 0 → (r.learned ≡ false) × (r.part ≡ 0)
  pub taken : 0 < row → (r.learned ≡ true) × PartHere work row r.count r.part

-- ---- the answers

-- Of an event that is judged: the number of a refusal or 0; where its kind stands in the table, its
-- code, its content and what it leaves in the grammars.
pub record EventAnswer : Type 0 where
  pub number : ℕ
  pub place : Place
  pub code : Code
  pub content : ContentAnswer
  pub growth : Growth

abbrev pub no_growth : Growth
no_growth = record { enters = false; teaches = false; site = 0; kind = 0; name = 0; uri = 0 }

abbrev pub refused_as : ℕ → Core → EventAnswer
refused_as number c =
    record {
      number = number;
      place = record { level = max_levels; value = 0 };
      code = record { learned = false; count = 0; part = 0 };
      content = stopped_as number c.stored;
      growth = no_growth;
    }

abbrev pub judged_as : Place → Code → ContentAnswer → Growth → EventAnswer
judged_as p code x g =
    record { number = 0; place = p; code = code; content = x; growth = g }

abbrev pub told_event : EventJudged → EventAnswer
told_event j = judged_as j.place j.code (told_content j.content) j.growth

abbrev pub event_answer : Core → Result EventJudged Refusal → EventAnswer
event_answer c (Ok j) = told_event j
event_answer c (Err k) = refused_as (number_in k) c

-- ---- after the content

pub record GrammarsPre (work : List ℕ) (c : Core) (x : ContentAnswer) : Type 0 where
  pub room : work_cells ≤ length work
  pub bounded : Bounded c
  pub name : x.strings.name_row < name_rows

unfoldable pub after_content : List ℕ → Core → ℕ → Place → ContentAnswer → Code → EventAnswer
after_content work c kind p x code =
    let g = growth_of work c kind code.learned x.strings in
    cond (allowed_in work c.tag kind x.strings.name_row)
    (cond (fits_in c g) (judged_as p code x g) (refused_as (number_of limit) c))
    (refused_as (number_of shape) c)

pub record GrammarsPost (work : List ℕ) (c : Core) (kind : ℕ) (p : Place) (x : ContentAnswer)
    (r : EventAnswer) : Type 0 where
  pub code : Code
  pub code_is : CodeHere work c kind x.strings.name_row code
  pub is : r ≡ after_content work c kind p x code

-- ---- an event

pub record JudgePre (work : List ℕ) (c : Core) : Type 0 where
  pub rows : work_cells ≤ length work
  pub bounded : Bounded c

-- What an accepted event adds to memory.
abbrev pub JudgedRows : Core → EventAnswer → Type 0
JudgedRows c r = step.RowBounds c r.content.strings r.growth r.content.stored

-- And what is written of it.
pub record BitBounds (s : Settings) (text : List ℕ) (e : declared.Event) (c : Core)
    (r : EventAnswer) : Type 0 where
  pub place : InTable s c.mode r.place
  pub count : r.code.count ≤ numbers
  pub strings : ContentBounds c r.content.stored r.content.strings
  pub puttable : Puttable e c r.content text

-- The bits as the judgement has them.
unfoldable pub judgedBits :
    Settings → List ℕ → declared.Event → List ℕ → Core → EventAnswer → Bits
judgedBits s text e work c r =
    code_bits_as s c.mode r.place r.code
    ++ contentBits text work e r.code.learned c r.content s.alignment

-- The rows that the event leaves, where its strings have left v.
abbrev pub left_by : Growth → Rows → Rows
left_by g v = leaves g.kind g.name g.teaches (learnt_of g) v

-- The bits are the definitions', and so is the context after them.
pub record EventLeaves (s : Settings) (opening text : List ℕ) (e : declared.Event) (work : List ℕ)
    (c : Core) (w : Rows) (opened : List ℕ) (r : EventAnswer) : Type 0 where
  pub rows : Rows
  pub joins : StringsJoin (list_stores opening text) r.content.strings w rows
  pub writable : Writable rows
  pub grows : Grows rows c r.growth
  pub named : r.growth.kind ≡ kind_number SE → r.growth.name < length rows.names
  pub valid : Valid (left_by r.growth rows)
  pub bits : judgedBits s text e work c r
      ≡ event_bits s (context_in c w opened) (map_event (part text) (meaning e))
  pub context : Alike (next s (context_in c w opened) (map_event (part text) (meaning e)))
      (context_of (left_by r.growth rows) (replicate r.content.stored 0)
      (mode_after s.fragment r.growth.kind c.mode c.depth)
      (opened_after r.growth.kind r.growth.name opened))

pub record EventMeans (s : Settings) (opening text : List ℕ) (e : declared.Event) (work : List ℕ)
    (c : Core) (w : Rows) (opened : List ℕ) (r : EventAnswer) : Type 0 where
  pub fault : r.number ≡ fault_number (fault_of sizes s (context_in c w opened) text (meaning e))
  pub leaves : r.number ≡ 0 → EventLeaves s opening text e work c w opened r

pub record JudgePost (s : Settings) (opening text : List ℕ) (e : declared.Event) (work : List ℕ)
    (c : Core) (r : EventAnswer) : Type 0 where
  pub refused : 0 < r.number → r ≡ refused_as r.number c
  pub rows : r.number ≡ 0 → JudgedRows c r
  pub bits : r.number ≡ 0 → BitBounds s text e c r
  pub meant : (w : Rows) (opened : List ℕ) → step.Stands opening text work c w opened
      → Topped c opened → EventMeans s opening text e work c w opened r

-- ---- its bits and its rows

pub record PutEventPre (s : Settings) (stream text : List ℕ) (e : declared.Event) (work : List ℕ)
    (c : Core) (r : EventAnswer) : Type 0 where
  pub blank : T (blank_from stream c.at)
  pub near : c.at ≤ step.max_list_bits
  pub rows : work_cells ≤ length work
  pub bounded : Bounded c
  pub bits : BitBounds s text e c r

pub record CommitPre (work : List ℕ) (c : Core) (r : EventAnswer) (n : ℕ) : Type 0 where
  pub rows : work_cells ≤ length work
  pub bounded : Bounded c
  pub early : n < max_events
  pub bounds : JudgedRows c r

pub record CommitPost (fragment : Bool) (work : List ℕ) (c : Core) (at : ℕ) (r : EventAnswer)
    (n : ℕ) (work' : List ℕ) (d : Core) : Type 0 where
  pub work-is : work' ≡ grown c r.growth (joined_strings c r.content.strings work)
  pub core_is : d ≡ core_after fragment c at r.content.stored r.content.strings r.growth n
