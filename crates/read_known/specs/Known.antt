-- What a quick step asks and leaves. It leaves what any step does
-- (crates/read_event/specs/Step.antt).
use Rattle.std.specs.Prelude.{ℕ, ◌*◌, ◌≤◌, ◌<◌, ◌≡◌, true, List, length}
use Rattle.spec_fields.specs.Field.{Alignment}
use Rattle.spec_exi.specs.Settings.{Settings}
use Rattle.spec_exi.specs.Sizes.{max_events}
use Rattle.spec_exi.specs.Event.{Kind}
use Rattle.spec_exi.specs.Grammar.{kind_number}
use Rattle.event.specs.declared.Part.{Part}
use Rattle.mem_names.specs.Uris.{uri_in}
use Rattle.mem_names.specs.Names.{name_in}
use Rattle.mem_state.specs.declared.Core.{Core}
use Rattle.read_production.specs.View.{ProductionRead}
use Rattle.read_production.specs.Production.{ProductionBounds}
use Rattle.grammar_stepped.specs.declared.Stepped.{Stepped}
use Rattle.read_event.specs.Judge.{CodeRead}
use Rattle.read_event.specs.Step.{StepPost}

-- Where the strings of a name's rows lie.
unfoldable pub uri_part : List ℕ → ℕ → Part
uri_part work row = record { place = (uri_in work row).place; size = (uri_in work row).size }

unfoldable pub local_part : List ℕ → ℕ → Part
local_part work row = record { place = (name_in work row).place; size = (name_in work row).size }

-- On every memory: a learned production of this kind, and the position after its code.
pub record LearnedPre (k : Kind) (stream : List ℕ) (c : Core) (p : ProductionRead) : Type 0 where
  pub next : p.next ≤ 8 * length stream
  pub bounds : ProductionBounds c.mode p
  pub learned : p.learned ≡ true
  pub kind : p.kind ≡ kind_number k

-- The step, wherever p is the production of the event's code.
pub record KnownPost (a : Alignment) (stream events text work : List ℕ) (c : Core) (cell n : ℕ)
    (p : ProductionRead) (events' text' work' : List ℕ) (r : Stepped) : Type 0 where
  pub steps : (s : Settings) → s.alignment ≡ a → CodeRead s stream work c p
      → StepPost s stream events text work c cell n events' text' work' r

-- The same of an attribute, whatever its number: it leaves the mark.
pub record AttributePost (a : Alignment) (stream events text work : List ℕ) (c : Core) (cell : ℕ)
    (p : ProductionRead) (events' text' work' : List ℕ) (r : Stepped) : Type 0 where
  pub numbered : (n : ℕ) → n < max_events
      → KnownPost a stream events text work c cell n p events' text' work' r
