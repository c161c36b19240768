-- Contexts that differ at most in where their strings lie: same state, grammars and start tag, same
-- texts under the same keys in the same order, same bounds of values, same learned productions by
-- the texts of their names, text stores of the same length.
use Rattle.std.specs.Prelude.{◌≡◌}
use Rattle.spec_fields.specs.Prelude.{map, Option, none, some, Option·map, length, replicate}
use Rattle.spec_exi.specs as Exi
use Exi.{Event.QName, Event.map_name, Tables.Placed, Tables.Entry, Tables.Values, Tables.Tables}
use Exi.{Grammar.Production, Grammar.Learned, Grammar.Code, Context.Context}

-- ---- the same with every place 0, and a store of zeros

-- A text.
unfoldable pub unplaced : Placed → Placed
unplaced x = record { place = 0; text = x.text }

-- An entry.
unfoldable pub unplaced_entry : {K : Type 0} → Entry K → Entry K
unplaced_entry e = record { key = e.key; string = unplaced e.string }

-- The values.
unfoldable pub unplaced_values : Values → Values
unplaced_values v =
    record { longest = v.longest; capacity = v.capacity; added = map unplaced_entry v.added }

-- The tables.
unfoldable pub unplaced_tables : Tables → Tables
unplaced_tables t =
    record {
      uris = map unplaced t.uris;
      names = map unplaced_entry t.names;
      values = unplaced_values t.values;
      store = replicate (length t.store) 0;
    }

-- A name, if there is one.
unfoldable pub unplaced_name : Option (QName Placed) → Option (QName Placed)
unplaced_name = Option·map (map_name unplaced)

-- A production.
unfoldable pub unplaced_production : Production → Production
unplaced_production p = record { kind = p.kind; qname = unplaced_name p.qname }

-- A learned production.
unfoldable pub unplaced_learned : Learned → Learned
unplaced_learned l = record { site = l.site; production = unplaced_production l.production }

-- A code.
unfoldable pub unplaced_code : Code → Code
unplaced_code x = record { parts = x.parts; production = unplaced_production x.production }

-- A context.
unfoldable pub unplaced_context : Context → Context
unplaced_context c =
    record {
      state = c.state;
      tables = unplaced_tables c.tables;
      learned = map unplaced_learned c.learned;
      grammars = c.grammars;
      tag = c.tag;
    }

-- ---- alike: the same but for places. Reader and writer lay a text at different places; no bit,
-- size or test depends on it (scope, "What is bought": lists are the same wherever their texts lie)

-- The same under f, which takes the places away.
pub record SameBy {A : Type 0} (f : A → A) (x y : A) : Type 0 where
  pub same : f x ≡ f y

-- Tables.
abbrev pub AlikeTables : Tables → Tables → Type 0
AlikeTables = SameBy unplaced_tables

-- Names.
abbrev pub AlikeName : Option (QName Placed) → Option (QName Placed) → Type 0
AlikeName = SameBy unplaced_name

-- Codes.
abbrev pub AlikeCode : Code → Code → Type 0
AlikeCode = SameBy unplaced_code

-- Both or neither of two states have a code for an event.
pub data AlikeCodes : Option Code → Option Code → Type 0 where
  neither : AlikeCodes none none
  each : {x y : Code} → AlikeCode x y → AlikeCodes (some x) (some y)

-- Contexts.
abbrev pub Alike : Context → Context → Type 0
Alike = SameBy unplaced_context
