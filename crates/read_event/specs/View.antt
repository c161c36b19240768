-- What judging and reading an event answer, as the contracts speak of it.
use Rattle.std.specs.Prelude.{ℕ, false, Result, Ok, Err}
use Rattle.refusal.specs.declared.Refusal.{Refusal}
use Rattle.refusal.specs.Numbers.{number_in}
use Rattle.event.specs.declared.Event.{Event}
use Rattle.event.specs.declared.Event.TheVariants.{StartDocument}
use Rattle.mem_state.specs.declared.Core.{Core}
use Rattle.mem_state.specs.declared.Strings.{Strings}
use Rattle.mem_state.specs.declared.Growth.{Growth}
use Rattle.mem_state.specs.Joining.{no_strings}
use Rattle.read_event.specs.declared.EventRead as code

-- The number of a refusal or 0, and what the event leaves in the grammars.
pub record Judged : Type 0 where
  pub number : ℕ
  pub growth : Growth

-- An event that leaves this, judged.
abbrev pub judged_in : Growth → Result Growth Refusal → Judged
judged_in g (Ok h) = record { number = 0; growth = h }
judged_in g (Err k) = record { number = number_in k; growth = g }

-- The number of a refusal or 0; the position after the event; the code points in the store; the
-- event; and what it adds to memory.
pub record EventRead : Type 0 where
  pub number : ℕ
  pub next : ℕ
  pub stored : ℕ
  pub event : Event
  pub strings : Strings
  pub growth : Growth

abbrev pub no_growth : Growth
no_growth = record { enters = false; teaches = false; site = 0; kind = 0; name = 0; uri = 0 }

abbrev pub refused_as : ℕ → Core → EventRead
refused_as number c =
    record {
      number = number;
      next = c.at;
      stored = c.stored;
      event = StartDocument;
      strings = no_strings;
      growth = no_growth;
    }

-- After a core.
abbrev pub event_in : Core → Result code.EventRead Refusal → EventRead
event_in c (Ok r) =
    record {
      number = 0;
      next = r.next;
      stored = r.stored;
      event = r.event;
      strings = r.strings;
      growth = r.growth;
    }
event_in c (Err k) = refused_as (number_in k) c
