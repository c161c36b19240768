-- What stored events mean over a text store, and the list that the reader answers (scope, "What is
-- bought" and "Refusal numbers").
use Rattle.std.specs.Prelude.{◌<◌, ◌≡◌, ◌∷◌}
use Rattle.spec_fields.specs.Prelude.{ℕ, cond, List, [], map, Option, none, some}
use Rattle.spec_fields.specs.Prelude.{length, T, ltb}
use Rattle.spec_fields.specs.Refusal.{accepted}
use Rattle.text.specs.Text.{Text, inside, part}
use Rattle.spec_exi.specs as Exi
use Exi.{Event.Event, Event.map_event, Event.strings_of, Settings.Settings, Settings.SettingNumbers}
use Exi.{Sizes.sizes, Sizes.max_stream, Tables.Placed, Tables.span_of, Strict.strict, Writer.Stored}
use Exi.Lists.{every, WellFormed, InsideTables}
use Exi.Reader.{Reading, ReaderRoom, read}

-- Numbers below 256: what a stream is made of (scope, "What is bought").
abbrev pub AreOctets : List ℕ → Type 0
AreOctets stream = T (every (λ b. ltb b 256) stream)

-- The events as they lie in memory (scope, "What is bought": a place and a length).
unfoldable pub stored_of : Event Placed → Stored
stored_of e = some (map_event span_of e)

-- What a stored event means: nothing where it is SHAPE by itself or a string lies outside the store
-- (scope, "What is bought": a well-formed list).
unfoldable pub meant_one : Text → Stored → Option (Event Text)
meant_one store none = none
meant_one store (some e) =
    cond (every (inside store) (strings_of e)) (some (map_event (part store) e)) none

-- A list has a meaning where each of its events has.
unfoldable pub together :
    Option (Event Text) → Option (List (Event Text)) → Option (List (Event Text))
together none l = none
together (some e) none = none
together (some e) (some l) = some (e ∷ l)

-- The list that stored events mean over a store (scope, "What is bought").
unfoldable pub meant : Text → List Stored → Option (List (Event Text))
meant store [] = some []
meant store (x ∷ xs) = together (meant_one store x) (meant store xs)

-- The list that the reader answers for an accepted stream: the counted events over its text store
-- (scope, "Refusal numbers").
abbrev pub Accepts : ReaderRoom → SettingNumbers → List ℕ → List (Event Text) → Type 0
Accepts r o stream l =
    (x : Reading) × (read r o stream ≡ accepted x)
    × (meant x.store (map stored_of x.events) ≡ some l)

-- The stored events mean a list that passes everything, but whose strict form is LONG (scope,
-- "Refusal numbers", 3 and "Order").
pub record TooLong (s : Settings) (xs : List Stored) (store : Text) : Type 0 where
  pub list : List (Event Text)
  pub meaning : meant store xs ≡ some list
  pub formed : WellFormed s list
  pub inside : InsideTables sizes s list
  pub octets : max_stream < length (strict s list)
