-- What a step after the event's code asks.
use Rattle.std.specs.Prelude.{ℕ, ◌≡◌, Bool, List}
use Rattle.spec_exi.specs.Settings.{Settings}
use Rattle.mem_state.specs.declared.Core.{Core}
use Rattle.read_production.specs.View.{ProductionRead}
use Rattle.read_event.specs.Judge.{CodeRead}

-- p is the production of the code, and is learned or not.
pub record ByCodePre (learned : Bool) (s : Settings) (stream work : List ℕ) (c : Core)
    (p : ProductionRead) : Type 0 where
  pub code : CodeRead s stream work c p
  pub is : p.learned ≡ learned
