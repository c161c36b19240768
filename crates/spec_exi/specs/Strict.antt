-- The strict form of a list (scope, "Grammars"; ours): the header, then each event's code and
-- content in list order, by the tables and grammars as everything before has left them.
use Rattle.std.specs.Prelude.{◌∷◌, ◌++◌}
use Rattle.spec_fields.specs.{Bits.Bits, Bits.unpack, Bits.pack, Field.Alignment}
use Rattle.spec_fields.specs.Prelude.{cond, List, [], Option, none, some, ℕ}
use Rattle.text.specs.Text.{Text}
use Rattle.spec_exi.specs as Exi
use Exi.{Event.Event, Settings.Settings, Settings.header_of, Tables.Tables, Tables.partitions_of}
use Exi.{Tables.form_of, Tables.form_bits, Grammar.Code, Grammar.code_of, Grammar.code_bits}
use Exi.Context.{Context, start, levels_in, Item, items, after_item, next}

-- A string of an event, as the tables before it have it written (EXI 7.3).
unfoldable pub item_bits : Alignment → Tables → Item → Bits
item_bits a t i =
    let ps = partitions_of t i.role in
    cond i.written (form_bits a ps (form_of ps i.text) i.text) []

-- The strings one after the other.
unfoldable pub items_bits : Alignment → Tables → List Item → Bits
items_bits a t [] = []
items_bits a t (i ∷ is) = item_bits a t i ++ items_bits a (after_item t i) is

-- The code and the content (EXI 4). An event that no production fits stands in no well-formed list,
-- and has no bits.
unfoldable pub coded_bits : Settings → Context → Option Code → Event Text → Bits
coded_bits s c none e = []
coded_bits s c (some x) e =
    code_bits s.alignment (levels_in s c) x.parts
    ++ items_bits s.alignment c.tables (items c.state x.production e)

-- An event, by the code that it has here.
unfoldable pub event_bits : Settings → Context → Event Text → Bits
event_bits s c e = coded_bits s c (code_of (levels_in s c) e) e

-- The events in list order, each by what everything before has left.
unfoldable pub list_bits : Settings → Context → List (Event Text) → Bits
list_bits s c [] = []
list_bits s c (e ∷ l) = event_bits s c e ++ list_bits s (next s c e) l

-- The scope's "strict form of a list".
unfoldable pub strict : Settings → List (Event Text) → List ℕ
strict s l = pack (unpack (header_of s) ++ list_bits s (start s) l)
