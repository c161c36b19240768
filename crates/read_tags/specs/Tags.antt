-- What a quick step of an event without a value asks and leaves. It leaves what any step does
-- (crates/read_event/specs/Step.antt).
use Rattle.std.specs.Prelude.{ℕ, ◌+◌, ◌≤◌, ◌<◌, ◌≡◌, Bool, false, ◌&&◌, not, List, ◌++◌, length, take, drop, leb}
use Rattle.spec_exi.specs.Sizes.{cells_per_event, max_events, max_open, max_grammars}
use Rattle.spec_exi.specs.Settings.{Settings}
use Rattle.spec_exi.specs.Event.{Kind}
use Rattle.spec_exi.specs.Grammar.{kind_number}
use Rattle.event.specs.declared.Event as declared
use Rattle.event.specs.Cells.{cells_of, meaning}
use Rattle.event_code.specs.Numbers.{teaches_in}
use Rattle.mem_state.specs.declared.Core.{Core}
use Rattle.mem_state.specs.Holds.{Bounded}
use Rattle.mem_state.specs.Joining.{no_strings}
use Rattle.grammar_stepped.specs.Stepped.{stepped_as, moved_on}
use Rattle.read_production.specs.View.{ProductionRead}
use Rattle.read_production.specs.Production.{ProductionBounds}
use Rattle.grammar_stepped.specs.declared.Stepped.{Stepped}
use Rattle.read_event.specs.Judge.{LooseHere, CodeRead}
use Rattle.read_event.specs.Step.{StepPre, StepPost}

-- Open elements and element grammars have room for an element more.
unfoldable pub has_room : ℕ → ℕ → Bool → Bool
has_room depth grammars enters =
    not (leb max_open depth) && not (enters && leb max_grammars grammars)

-- On every memory.
pub record TagPre (k : Kind) (events : List ℕ) (c : Core) (cell n : ℕ) (p : ProductionRead) :
    Type 0 where
  pub cells : cell + cells_per_event ≤ length events
  pub bounded : Bounded c
  pub bounds : ProductionBounds c.mode p
  pub kind : p.kind ≡ kind_number k
  pub early : n < max_events

-- The event e is stored, and these are the numbers after it; n have come before it.
pub record Stored (e : declared.Event) (at mode depth : ℕ) (events : List ℕ) (c : Core) (cell n : ℕ)
    (events' : List ℕ) (r : Stepped) : Type 0 where
  pub cells : events'
      ≡ take cell events ++ cells_of (meaning e) ++ drop (cell + cells_per_event) events
  pub is : r ≡ stepped_as 0 (moved_on c at c.stored false false mode c.top depth (n + 2))

-- The code is the strict one, and the event teaches nothing.
pub record Plain (work : List ℕ) (c : Core) (p : ProductionRead) : Type 0 where
  pub strict : LooseHere work c p no_strings false
  pub untaught : not p.learned && teaches_in c.mode p.kind ≡ false

-- The step, wherever p is the production of the event's code, in a fragment or not: of any work
-- memory, which stays.
pub record PlainPost (fragment : Bool) (events : List ℕ) (c : Core) (cell n : ℕ)
    (p : ProductionRead) (events' : List ℕ) (r : Stepped) : Type 0 where
  pub steps : (s : Settings) → s.fragment ≡ fragment → (stream text work : List ℕ)
      → StepPre stream events text work c cell n
      → CodeRead s stream work c p → Plain work c p
      → StepPost s stream events text work c cell n events' text work r

-- The step over work memory.
pub record TagPost (fragment : Bool) (events work : List ℕ) (c : Core) (cell n : ℕ)
    (p : ProductionRead) (events' work' : List ℕ) (r : Stepped) : Type 0 where
  pub steps : (s : Settings) → s.fragment ≡ fragment → (stream text : List ℕ)
      → StepPre stream events text work c cell n
      → CodeRead s stream work c p
      → StepPost s stream events text work c cell n events' text work' r
