-- Events one behind the other, by the definitions.
use Rattle.std.specs.Prelude.{◌≡◌, List, [], ◌∷◌, ◌++◌}
use Rattle.std.proofs.Math.Option.{none, some}
use Rattle.spec_fields.specs.Bits.{Bits}
use Rattle.text.specs.Text.{Text, Span, part}
use Rattle.spec_exi.specs.Settings.{Settings}
use Rattle.spec_exi.specs.Sizes.{sizes}
use Rattle.spec_exi.specs.Event.{Event, map_event}
use Rattle.spec_exi.specs.Context.{Context, next}
use Rattle.spec_exi.specs.Strict.{event_bits}
use Rattle.spec_exi.specs.Writer.{Stored, fault_of}

-- From a context on these events have no fault: their bits, one event after the other, and the
-- context that they leave.
pub data Steps (s : Settings) (text : Text) : Context → List Stored → Bits → Context → Type 0 where
  none_written : {c : Context} → Steps s text c [] [] c
  one_written : {c d : Context} {e : Event Span} {xs : List Stored} {bs : Bits}
      → fault_of sizes s c text e ≡ none
      → Steps s text (next s c (map_event (part text) e)) xs bs d
      → Steps s text c (some e ∷ xs) (event_bits s c (map_event (part text) e) ++ bs) d
