-- What the second half of a quick step asks: the event's kind, its places and its strings are
-- judged. It leaves what any step does (crates/write_event/specs/Step.antt).
use Rattle.std.specs.Prelude.{ℕ, ◌<◌, ◌≡◌, true, List}
use Rattle.text.specs.Text.{inside}
use Rattle.spec_exi.specs.Settings.{Settings}
use Rattle.spec_exi.specs.Event.{kind_of, strings_of}
use Rattle.spec_exi.specs.Grammar.{kind_number}
use Rattle.spec_exi.specs.Lists.{every}
use Rattle.event.specs.declared.Part.{Part}
use Rattle.event.specs.declared.Event as declared
use Rattle.event.specs.Cells.{meaning}
use Rattle.mem_state.specs.declared.Core.{Core}
use Rattle.mem_state.specs.declared.Strings.{Strings}
use Rattle.grammar_codes.specs.declared.Place.{Place}
use Rattle.grammar_codes.specs.Table.{PlaceAt, max_levels}
use Rattle.write_values.specs.Values.{ValueAnswer}
use Rattle.write_content.specs.Answer.{ContentAnswer}
use Rattle.write_content.specs.Contents.{with_value, ContentPost}

-- The kind stands at this place of the table, and the content passes.
pub record Accepted (s : Settings) (opening text : List ℕ) (e : declared.Event) (work : List ℕ)
    (c : Core) (p : Place) (x : ContentAnswer) : Type 0 where
  pub at : PlaceAt s.comments s.instructions c.mode (kind_number (kind_of (meaning e))) p
  pub low : p.level < max_levels
  pub within : every (inside text) (strings_of (meaning e)) ≡ true
  pub content : ContentPost opening text e c work x

-- The same of an event with a value of the name in a row, whose other strings are these.
pub record ValueAccepted (s : Settings) (opening text : List ℕ) (e : declared.Event)
    (work : List ℕ) (c : Core) (p : Place) (strings : Strings) (owner : ℕ) (value : Part)
    (v : ValueAnswer) : Type 0 where
  pub accepted : Accepted s opening text e work c p (with_value strings owner value v)
