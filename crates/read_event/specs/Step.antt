-- What reading one event asks and leaves.
use Rattle.std.specs.Prelude.{ℕ, ◌+◌, ◌*◌, ◌≤◌, ◌<◌, ◌≡◌, Bool, List, ◌++◌, length, take, drop}
use Rattle.text.specs.Text.{Text}
use Rattle.spec_exi.specs.Settings.{Settings}
use Rattle.spec_exi.specs.Sizes.{sizes, max_stream, max_store, max_events}
use Rattle.spec_exi.specs.Sizes.{cells_per_event}
use Rattle.spec_exi.specs.Event.{Event, map_event}
use Rattle.spec_exi.specs.Tables.{Placed, span_of}
use Rattle.spec_exi.specs.Context.{Context}
use Rattle.spec_exi.specs.Reader.{step}
use Rattle.event.specs.Cells.{cells_of}
use Rattle.mem_layout.specs.Layout.{work_cells}
use Rattle.mem_rows.specs.Rows.{Rows}
use Rattle.mem_state.specs.declared.Core.{Core}
use Rattle.mem_state.specs.declared.Strings.{Strings}
use Rattle.mem_state.specs.declared.Growth.{Growth}
use Rattle.mem_state.specs.Commit.{joined_strings, grown, counted, turned}
use Rattle.mem_state.specs.Holds.{in_store, Bounded, Topped, Represents, context_at}
use Rattle.grammar_open.specs.Opened.{Turned}
use Rattle.grammar_update.specs.After.{moved_to}
use Rattle.read_contract.specs.Outcome.{Outcome}
use Rattle.read_literal.specs.Literal.{laid_at, Cleared}
use Rattle.grammar_stepped.specs.declared.Stepped.{Stepped}
use Rattle.grammar_stepped.specs.Stepped.{core_of}

-- Bounds alone; the event's cells begin at this one, and n events have come before it.
pub record StepPre (stream events text work : List ℕ) (c : Core) (cell n : ℕ) : Type 0 where
  pub size : length stream ≤ max_stream
  pub place : c.at ≤ 8 * length stream
  pub room : max_store ≤ length text
  pub rows : work_cells ≤ length work
  pub cells : cell + cells_per_event ≤ length events
  pub bounded : Bounded c
  pub early : n < max_events

-- ---- on every memory

-- A refusal leaves all as it was, but for the text that it laid, which is cleared.
pub record StepRefused (events text work : List ℕ) (c : Core) (events' text' work' : List ℕ)
    (r : Stepped) : Type 0 where
  pub core : core_of r ≡ c
  pub events-is : events' ≡ events
  pub work-is : work' ≡ work
  pub cleared : Cleared text c.stored text'

-- Nine cells are the event's; its literals are laid after the store; its strings and its growth are
-- all that joins work memory, and the numbers are those after it, in a fragment or not.
pub record StepLaid (fragment : Bool) (events text work : List ℕ) (c : Core) (cell n : ℕ)
    (events' text' work' : List ℕ) (r : Stepped) : Type 0 where
  pub row : List ℕ
  pub row-size : length row ≡ cells_per_event
  pub events-is : events' ≡ take cell events ++ row ++ drop (cell + cells_per_event) events
  pub x : Text
  pub text-is : text' ≡ laid_at text c.stored x
  pub stored_is : r.stored ≡ c.stored + length x
  pub strings : Strings
  pub growth : Growth
  pub work-is : work' ≡ grown c growth (joined_strings c strings work)
  pub work-size : length work' ≡ length work
  pub core_is : core_of r
      ≡ turned fragment (counted (moved_to c r.at r.stored) strings growth) growth.kind
      growth.name n

-- ---- by the definitions

-- v is the event and the context that memory represents after it.
pub record StepMeans (events : List ℕ) (c : Core) (cell : ℕ) (opened events' text' work' : List ℕ)
    (d : Core) (v : Event Placed × Context) : Type 0 where
  pub w : Rows
  pub opened' : List ℕ
  pub after : Represents work' (in_store text' d.stored) d w opened'
  pub turned : Turned c d opened opened'
  pub context : v.1 ≡ context_at text' d w opened'
  pub cells : events'
      ≡ take cell events ++ cells_of (map_event span_of v.0) ++ drop (cell + cells_per_event) events

pub record StepPost (s : Settings) (stream events text work : List ℕ) (c : Core) (cell n : ℕ)
    (events' text' work' : List ℕ) (r : Stepped) : Type 0 where
  pub bounded : Bounded (core_of r)
  pub inside : r.at ≤ 8 * length stream
  pub refused : 0 < r.number → StepRefused events text work c events' text' work' r
  pub laid : r.number ≡ 0
      → StepLaid s.fragment events text work c cell n events' text' work' r
  pub meant : (w : Rows) (opened : List ℕ)
      → Represents work (in_store text c.stored) c w opened → Topped c opened → c.tag ≤ n + 1
      → Outcome (step sizes s (context_at text c w opened)) stream c.at r.number
      r.at (StepMeans events c cell opened events' text' work' (core_of r))
