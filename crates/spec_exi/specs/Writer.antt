-- The writer's answer for any list (scope, "Refusal numbers"): what it refuses, in order, or the
-- octets.
use Rattle.std.specs.Prelude.{◌&&◌, ◌∷◌, ◌++◌}
use Rattle.spec_fields.specs.Prelude.{ℕ, zero, suc, Bool, false, cond, not, List, []}
use Rattle.spec_fields.specs.Prelude.{Option, none, some, length, leb}
use Rattle.spec_fields.specs.Bits.{Bits, unpack, pack}
use Rattle.spec_fields.specs.Refusal.{Refusal, number_of, room, settings, long, character, name}
use Rattle.spec_fields.specs.Refusal.{limit, shape, place, Answer, refused, accepted}
use Rattle.text.specs.Text.{Text, Span, inside, part, all_chars}
use Rattle.spec_exi.specs as Exi
use Exi.{Event.Event, Event.map_event, Event.strings_of, Sizes.Sizes, Sizes.sizes, Strict.event_bits}
use Exi.Settings.{Settings, SettingNumbers, meaningful, settings_of, header_of}
use Exi.Tables.{Tables, name_allowed, text_allowed}
use Exi.Grammar.{Code, code_of, tag_allows, is_finished}
use Exi.Context.{Context, start, levels_in, Item, items, after_item, next}
use Exi.Lists.{short, within_tables, within_grammars}

-- An event as it lies in memory; none is a stored event that is SHAPE by itself (scope, "What is
-- bought").
abbrev pub Stored : Type 0
Stored = Option (Event Span)

-- ---- tests in order, each with its refusal (scope, "Refusal numbers", "Order")

-- What must hold, and the refusal where it does not.
abbrev pub Test : Type 0
Test = Bool × Refusal

-- The refusal of the first test that fails.
unfoldable pub first_failed : List Test → Option Refusal
first_failed [] = none
first_failed (x ∷ xs) = let later = first_failed xs in cond x.0 later (some x.1)

-- PLACE for all strings of the event (scope, "Refusal numbers", 15).
unfoldable pub place_tests : Text → List Span → List Test
place_tests store [] = []
place_tests store (x ∷ xs) = (inside store x, place) ∷ place_tests store xs

module _ (z : Sizes) where
  -- One string: the length limit, the store limit (a string that is no literal leaves the store as
  -- it is), characters, CHARACTER for a comment or an instruction's text (P6), NAME, its
  -- table's limit.
  unfoldable pub string_tests : Tables → Item → List Test
  string_tests t i =
      (short z i.text, limit)
      ∷ (leb (length (after_item t i).store) z.store, limit)
      ∷ (all_chars i.text, character)
      ∷ (text_allowed i.role i.text, character)
      ∷ (name_allowed i.role i.text, name)
      ∷ (within_tables z (after_item t i), limit)
      ∷ []

  -- String by string, each by what the one before leaves.
  unfoldable pub content_tests : Tables → List Item → List Test
  content_tests t [] = []
  content_tests t (i ∷ is) = string_tests t i ++ content_tests (after_item t i) is

  -- SHAPE comes first where no production fits (scope, "Refusal numbers", 14); then PLACE, the
  -- strings, SHAPE for a second attribute of one name (P3), and the three limits that follow an
  -- event's content.
  unfoldable pub event_tests : Settings → Context → Text → Event Span → Option Code → List Test
  event_tests s c store e none = (false, shape) ∷ []
  event_tests s c store e (some x) =
      place_tests store (strings_of e)
      ++ content_tests c.tables (items c.state x.production (map_event (part store) e))
      ++ ((tag_allows c.tag (map_event (part store) e), shape)
      ∷ (within_grammars z (next s c (map_event (part store) e)), limit) ∷ [])

  -- The refusal of an event, if any.
  unfoldable pub fault_of : Settings → Context → Text → Event Span → Option Refusal
  fault_of s c store e =
      let x = code_of (levels_in s c) (map_event (part store) e) in
      first_failed (event_tests s c store e x)

-- ---- the list

-- One event, with these bits, stands before what this answer is about.
unfoldable pub prepended : Bits → Answer Bits → Answer Bits
prepended w (refused k i) = refused k (suc i)
prepended w (accepted bs) = accepted (w ++ bs)

-- A refusal of the event itself comes before what follows.
unfoldable pub unless : Option Refusal → Answer Bits → Answer Bits
unless none x = x
unless (some k) x = refused k 0

-- At most n more events: the event limit comes before SHAPE. A list that ends early is SHAPE at its
-- length (scope, "Refusal numbers", "Order").
unfoldable pub write_events : ℕ → Sizes → Settings → Context → Text → List Stored → Answer Bits
write_events n z s c store [] = cond (is_finished c.state) (accepted []) (refused shape 0)
write_events zero z s c store (x ∷ xs) = refused limit 0
write_events (suc n) z s c store (none ∷ xs) = refused shape 0
write_events (suc n) z s c store (some e ∷ xs) =
    let e' = map_event (part store) e in
    let more = prepended (event_bits s c e') (write_events n z s (next s c e') store xs) in
    unless (fault_of z s c store e) more

-- LONG comes last, with index 0 (scope, "Refusal numbers", "Order").
unfoldable pub as_octets : Sizes → Settings → Answer Bits → Answer (List ℕ)
as_octets z s (refused k i) = refused k i
as_octets z s (accepted bs) =
    let octets = pack (unpack (header_of s) ++ bs) in
    cond (leb (length octets) z.stream) (accepted octets) (refused long 0)

-- The writer's answer for enough memory and settings that mean something.
unfoldable pub write_list : Sizes → Settings → List Stored → Text → Answer (List ℕ)
write_list z s xs store = as_octets z s (write_events z.events z s (start s) store xs)

-- The lengths of the parts that are lent: octets, and cells of work memory (scope, "Sizes").
pub record WriterRoom : Type 0 where
  pub octets : ℕ
  pub work : ℕ

-- Octets for the longest stream, and work memory (scope, "Sizes").
unfoldable pub enough_to_write : Sizes → WriterRoom → Bool
enough_to_write z r = leb z.stream r.octets && leb z.work r.work

-- The writer's answer for the events xs over this text store: ROOM, SETTINGS, then the list (scope,
-- "Refusal numbers", "Order").
unfoldable pub write : WriterRoom → SettingNumbers → List Stored → Text → Answer (List ℕ)
write r o xs store =
    cond (not (enough_to_write sizes r)) (refused room 0)
    (cond (not (meaningful o)) (refused settings 0)
    (write_list sizes (settings_of o) xs store))

-- The numbers of an answer: on success number and index are 0, after a refusal the count is (scope,
-- "Refusal numbers").
pub record WriteReply : Type 0 where
  pub number : ℕ
  pub index : ℕ
  pub octets : ℕ

-- The numbers for each answer.
unfoldable pub write_reply : Answer (List ℕ) → WriteReply
write_reply (refused k i) = record { number = number_of k; index = i; octets = 0 }
write_reply (accepted os) = record { number = 0; index = 0; octets = length os }
