-- What a quick step of an event by a production that is not learned asks and leaves, and its parts.
-- It leaves what any step does (crates/read_event/specs/Step.antt).
use Rattle.std.specs.Prelude.{ℕ, ◌+◌, ◌-◌, ◌≤◌, ◌<◌, ◌≡◌, Bool, true, false, cond, not, List, ◌++◌, length, take, drop, replicate, eqb}
use Rattle.std.specs.Prelude as std
use Rattle.refusal.specs.declared.Refusal.{Refusal}
use Rattle.refusal.specs.Numbers.{number_in}
use Rattle.spec_fields.specs.Refusal.{number_of, shape}
use Rattle.spec_exi.specs.Sizes.{cells_per_event, max_learned}
use Rattle.spec_exi.specs.Settings.{Settings}
use Rattle.spec_exi.specs.Event.{Kind}
use Rattle.spec_exi.specs.Grammar.{kind_number}
use Rattle.event.specs.declared.Event as declared
use Rattle.event.specs.Cells.{cells_of, meaning}
use Rattle.mem_layout.specs.Layout.{name_rows, work_cells}
use Rattle.mem_state.specs.declared.Core.{Core}
use Rattle.mem_state.specs.declared.Strings.{Strings}
use Rattle.mem_state.specs.declared.Growth.{Growth}
use Rattle.mem_state.specs.Joining.{no_joining, as_strings}
use Rattle.mem_state.specs.Commit.{joined_strings, grown, StringsPre, GrowPre}
use Rattle.grammar_match.specs.Found.{FoundHere}
use Rattle.grammar_update.specs.Growth.{allowed_in, fits_in}
use Rattle.grammar_update.specs.After.{core_after, AfterPre}
use Rattle.grammar_stepped.specs.Stepped.{stepped_as}
use Rattle.read_literal.specs.Literal.{laid_at}
use Rattle.read_production.specs.View.{ProductionRead}
use Rattle.grammar_stepped.specs.declared.Stepped.{Stepped}
use Rattle.read_event.specs.Judge.{CodeRead, judge_number}

-- The number of a refusal, or 0.
abbrev pub judged_in : std.Result (Unit {0}) Refusal → ℕ
judged_in (std.Ok x) = 0
judged_in (std.Err k) = number_in k

-- ---- parts

-- The strings of an event by the rows of its URI and its name alone.
abbrev pub row_strings : ℕ → ℕ → Strings
row_strings uri name = as_strings no_joining no_joining no_joining uri name 0

pub record JudgePre (work : List ℕ) (c : Core) (g : Growth) : Type 0 where
  pub room : work_cells ≤ length work
  pub name : g.name < name_rows
  pub top : c.top < name_rows
  pub few : c.learned ≤ max_learned

-- A learned production that fits is in this row, counted from 1; 0 for none: LOOSE, then the sizes.
pub record TestedBy (work : List ℕ) (c : Core) (g : Growth) (r : ℕ) : Type 0 where
  pub row : ℕ
  pub found : FoundHere work c.mode c.top g.kind g.name c.learned row
  pub is : r ≡ judge_number (not (eqb row 0)) (fits_in c g)

-- SHAPE comes before the others.
pub record Judgement (work : List ℕ) (c : Core) (g : Growth) (r : ℕ) : Type 0 where
  pub equal : allowed_in work c.tag g.kind g.name ≡ false → r ≡ number_of shape
  pub tested : allowed_in work c.tag g.kind g.name ≡ true → TestedBy work c g r

pub record DroppedPost (number : ℕ) (c : Core) (stored : ℕ) (text text' : List ℕ) (r : Stepped) :
    Type 0 where
  pub text-is : text' ≡ laid_at text c.stored (replicate (stored - c.stored) 0)
  pub is : r ≡ stepped_as number c

-- The numbers after an event: which strings join, and what it leaves in the grammars.
abbrev pub turnedBy :
    Core → ℕ → ℕ → Bool → Bool → Bool → Growth → ℕ → ℕ → ℕ → ℕ → Core
turnedBy c at stored uri name value g mode top depth tag =
    record {
      at = at;
      stored = stored;
      uris = c.uris + cond uri 1 0;
      names = c.names + cond name 1 0;
      values = c.values + cond value 1 0;
      learned = c.learned + cond g.teaches 1 0;
      grammars = c.grammars + cond g.enters 1 0;
      mode = mode;
      top = top;
      depth = depth;
      tag = tag;
      longest = c.longest;
      capacity = c.capacity;
    }

-- ---- the step

-- p is the production of the event's code; it is of this kind, and not learned.
pub record FirstPre (k : Kind) (s : Settings) (stream work : List ℕ) (c : Core)
    (p : ProductionRead) : Type 0 where
  pub code : CodeRead s stream work c p
  pub fixed : p.learned ≡ false
  pub kind : p.kind ≡ kind_number k

-- An accepted event may be added, with these strings and what it leaves in the grammars.
pub record AddPre (events work : List ℕ) (s : Strings) (g : Growth) (c : Core) (cell n : ℕ) :
    Type 0 where
  pub cells : cell + cells_per_event ≤ length events
  pub join : StringsPre work c s
  pub grow : GrowPre (joined_strings c s work) c g
  pub after : AfterPre c g n

-- It is stored, its rows are added, and these are the numbers after it, in a fragment or not.
pub record Added (fragment : Bool) (e : declared.Event) (s : Strings) (g : Growth) (at stored : ℕ)
    (events work : List ℕ) (c : Core) (cell n : ℕ) (events' work' : List ℕ) (r : Stepped) :
    Type 0 where
  pub cells : events'
      ≡ take cell events ++ cells_of (meaning e) ++ drop (cell + cells_per_event) events
  pub work-is : work' ≡ grown c g (joined_strings c s work)
  pub is : r ≡ stepped_as 0 (core_after fragment c at stored s g n)
