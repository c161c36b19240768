-- What reading the content of an event answers, as the contracts speak of it.
use Rattle.std.specs.Prelude.{ℕ, Result, Ok, Err}
use Rattle.refusal.specs.Numbers.{number_in}
use Rattle.event.specs.declared.Event.{Event}
use Rattle.event.specs.declared.Event.TheVariants.{StartDocument}
use Rattle.mem_state.specs.declared.Strings.{Strings}
use Rattle.mem_state.specs.Joining.{no_strings}
use Rattle.read_literal.specs.declared.Stopped.{Stopped}
use Rattle.read_content.specs.declared.Content as code

-- The number of a refusal or 0; the position after the content or where it stopped, and how many
-- code points of a literal are left there; the code points in the store; the event; and what is to
-- join.
pub record Content : Type 0 where
  pub number : ℕ
  pub next : ℕ
  pub left : ℕ
  pub stored : ℕ
  pub event : Event
  pub strings : Strings

abbrev pub stopped_as : ℕ → ℕ → ℕ → ℕ → Content
stopped_as number next left stored =
    record {
      number = number;
      next = next;
      left = left;
      stored = stored;
      event = StartDocument;
      strings = no_strings;
    }

abbrev pub content_in : Result code.Content Stopped → Content
content_in (Ok x) =
    record {
      number = 0;
      next = x.next;
      left = 0;
      stored = x.stored;
      event = x.event;
      strings = x.strings;
    }
content_in (Err x) = stopped_as (number_in x.refusal) x.next x.left x.stored

-- An event without a string, or whose strings join no table, as the code has it.
abbrev pub plain_of : Event → ℕ → ℕ → code.Content
plain_of event next stored =
    record {
      next = next;
      stored = stored;
      event = event;
      strings = no_strings;
    }
