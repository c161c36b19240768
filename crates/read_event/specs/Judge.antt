-- What is tested after an event's content, and what reading an event leaves before its rows join.
use Rattle.std.specs.Prelude.{ℕ, ◌*◌, ◌≤◌, ◌<◌, ◌≡◌, Bool, true, false, cond, not, List, length, take, eqb}
use Rattle.spec_fields.specs.Refusal.{number_of, shape, loose, limit}
use Rattle.spec_exi.specs.Settings.{Settings}
use Rattle.spec_exi.specs.Sizes.{sizes, max_stream, max_store}
use Rattle.spec_exi.specs.Event.{Event, map_event, SE}
use Rattle.spec_exi.specs.Tables.{Placed, span_of}
use Rattle.spec_exi.specs.Grammar.{kind_number}
use Rattle.spec_exi.specs.Context.{Context}
use Rattle.spec_exi.specs.Reader.{step}
use Rattle.event.specs.Cells.{meaning}
use Rattle.mem_layout.specs.Layout.{sites, work_cells}
use Rattle.mem_rows.specs.Rows.{Rows, mode_after, opened_after, leaves, context_of}
use Rattle.mem_rows.specs.Valid.{Valid}
use Rattle.mem_state.specs.declared.Core.{Core}
use Rattle.mem_state.specs.declared.Strings.{Strings}
use Rattle.mem_state.specs.declared.Growth.{Growth}
use Rattle.mem_state.specs.Holds.{in_store, Bounded, Topped, Represents, context_at}
use Rattle.mem_state.specs.Strung.{StringsJoin}
use Rattle.mem_state.specs.Grows.{learnt_of, Grows}
use Rattle.grammar_codes.specs.Table.{Stands}
use Rattle.grammar_match.specs.Found.{FoundHere}
use Rattle.grammar_update.specs.Growth.{growth_of, allowed_in, fits_in}
use Rattle.read_contract.specs.Outcome.{Outcome}
use Rattle.read_literal.specs.Literal.{Cleared}
use Rattle.read_production.specs.View.{ProductionRead}
use Rattle.read_production.specs.Production.{ProductionPost}
use Rattle.read_qname.specs.Texts.{TextRead}
use Rattle.read_content.specs.Contents.{ContentBounds}
pub use Rattle.read_event.specs.View.{Judged, EventRead, no_growth, refused_as}

-- ---- the tests

-- A learned production that fits is in this row, counted from 1; 0 for none.
pub record LooseBy (work : List ℕ) (c : Core) (p : ProductionRead) (s : Strings) (r : Bool) :
    Type 0 where
  pub row : ℕ
  pub found : FoundHere work c.mode c.top p.kind s.name_row c.learned row
  pub is : r ≡ not (eqb row 0)

-- Of a learned production the code is the strict one.
pub record LooseHere (work : List ℕ) (c : Core) (p : ProductionRead) (s : Strings) (r : Bool) :
    Type 0 where
  pub learned : p.learned ≡ true → r ≡ false
  pub fixed : p.learned ≡ false → LooseBy work c p s r

unfoldable pub judge_number : Bool → Bool → ℕ
judge_number l f = cond l (number_of loose) (cond f 0 (number_of limit))

-- LOOSE, then the sizes.
pub record Tested (work : List ℕ) (c : Core) (p : ProductionRead) (s : Strings) (number : ℕ) :
    Type 0 where
  pub l : Bool
  pub l-is : LooseHere work c p s l
  pub number_is : number ≡ judge_number l (fits_in c (growth_of work c p.kind p.learned s))

-- The start tag may have the event: it is no second attribute of one name.
abbrev pub allowed_here : List ℕ → Core → ProductionRead → Strings → Bool
allowed_here work c p s = allowed_in work c.tag p.kind s.name_row

-- SHAPE comes before the others.
pub record JudgePost (work : List ℕ) (c : Core) (p : ProductionRead) (s : Strings) (r : Judged) :
    Type 0 where
  pub growth-is : r.growth ≡ growth_of work c p.kind p.learned s
  pub equal : allowed_here work c p s ≡ false → r.number ≡ number_of shape
  pub tested : allowed_here work c p s ≡ true → Tested work c p s r.number

-- ---- an event

pub record EventPre (stream text work : List ℕ) (c : Core) : Type 0 where
  pub size : length stream ≤ max_stream
  pub place : c.at ≤ 8 * length stream
  pub room : max_store ≤ length text
  pub rows : work_cells ≤ length work
  pub bounded : Bounded c

-- The event's code is read, and p is its production.
pub record CodeRead (s : Settings) (stream work : List ℕ) (c : Core) (p : ProductionRead) :
    Type 0 where
  pub post : ProductionPost s stream c.at c.mode c.top c.learned work p
  pub good : p.number ≡ 0

-- On every memory: the strings and the growth of an event that is accepted.
pub record EventBounds (c : Core) (r : EventRead) : Type 0 where
  pub strings : ContentBounds c r.stored r.strings
  pub stands : Stands c.mode r.growth.kind
  pub fits : fits_in c r.growth ≡ true
  pub site : r.growth.site < sites
  pub name : r.growth.name ≡ r.strings.name_row
  pub uri : r.growth.uri ≡ r.strings.uri_row

-- v is the event and the context after it, which is that of the rows that it leaves.
pub record EventMeans (fragment : Bool) (text' : List ℕ) (c : Core) (w : Rows) (opened : List ℕ)
    (r : EventRead)
    (v : Event Placed × Context) : Type 0 where
  pub rows : Rows
  pub joins : StringsJoin (in_store text' r.stored) r.strings w rows
  pub grows : Grows rows c r.growth
  pub event : meaning r.event ≡ map_event span_of v.0
  pub named : r.growth.kind ≡ kind_number SE → r.growth.name < length rows.names
  pub valid : Valid (leaves r.growth.kind r.growth.name r.growth.teaches
      (learnt_of r.growth) rows)
  pub context : v.1
      ≡ context_of
      (leaves r.growth.kind r.growth.name r.growth.teaches (learnt_of r.growth) rows)
      (take r.stored text') (mode_after fragment r.growth.kind c.mode c.depth)
      (opened_after r.growth.kind r.growth.name opened)

pub record EventPost (s : Settings) (stream text work : List ℕ) (c : Core) (text' : List ℕ)
    (r : EventRead) : Type 0 where
  pub inside : r.next ≤ 8 * length stream
  pub refused : 0 < r.number → (r ≡ refused_as r.number c) × Cleared text c.stored text'
  pub laid : r.number ≡ 0 → TextRead text c.stored text' 0 r.stored
  pub bounds : r.number ≡ 0 → EventBounds c r
  pub meant : (w : Rows) (opened : List ℕ)
      → Represents work (in_store text c.stored) c w opened → Topped c opened
      → Outcome (step sizes s (context_at text c w opened)) stream c.at r.number r.next
      (EventMeans s.fragment text' c w opened r)
