-- The reader's answer for any octets (scope, "Refusal numbers"): what it refuses, in order, or what
-- it reads.
use Rattle.std.specs.Prelude.{◌+◌, ◌*◌, ◌-◌, ◌&&◌, ◌∷◌}
use Rattle.spec_fields.specs as Fields
use Fields.Prelude.{ℕ, zero, suc, Bool, true, false, cond, not, List, []}
use Fields.Prelude.{map, Option, none, some, length, get_elem?, leb, eqb}
use Fields.Bits.{Bits, unpack, is_padding}
use Fields.Refusal.{number_of, room, settings, long, header, code, character, reference, loose, name}
use Fields.Refusal.{limit, tail, shape, Answer, refused, accepted}
use Fields.Parser.{Result, bad, got, Parser, return, fail, present, need, times, ◌>>=◌, ◌>>◌}
use Fields.Field.{Alignment, octet, choice, unsigned}
use Rattle.text.specs.Text.{Text, is_char}
use Rattle.spec_exi.specs as Exi
use Exi.{Sizes.Sizes, Sizes.sizes, Sizes.cells_per_event, Lists.within_tables, Lists.within_grammars}
use Exi.Event.{QName, Event, start_document, end_document, end_element, start_element, attribute}
use Exi.Event.{characters, comment, instruction, Kind, SD, ED, SE, AT, EE, CH, CM, PI, name_of}
use Exi.Settings.{Settings, SettingNumbers, meaningful, settings_of, header_of}
use Exi.Tables.{Placed, name_text, event_text, Slot, Tables, Role, uri, local, value, target}
use Exi.Tables.{comment_text, instruction_text, Partitions, compact, literals, partitions_of, Form}
use Exi.Tables.{hit, literal, eq_form, form_of, laid, tables_after, name_allowed, text_allowed}
use Exi.Grammar.{Production, Code, State, is_finished, choices, at_level, below, code_of, same_code}
use Exi.Grammar.{tag_allows}
use Exi.Context.{Context, start, levels_in, character_role, after}

-- ---- strings

-- A code point of a String (EXI 7.1.10): an Unsigned Integer that is a Char; else CHARACTER. (s is
-- not used, as yet.)
unfoldable pub read_character : Settings → Parser ℕ
read_character s = do
  p ← unsigned
  need (is_char p) character
  return p

module _ (z : Sizes) (s : Settings) where
  -- A literal of n code points (EXI 7.1.10): the length limit, the store limit, then the characters
  -- (scope, "Refusal numbers", "Order").
  unfoldable pub read_literal : Tables → ℕ → Parser (Form × Placed)
  read_literal t n = do
    need (leb n z.string) limit
    need (leb (length t.store + n) z.store) limit
    x ← times n (read_character s)
    return (literal, laid t x)

  -- A number that was never given, or whose value was replaced (P5), is REFERENCE (scope, "Refusal
  -- numbers", 9).
  unfoldable pub read_hit : ℕ → List Slot → Parser (Form × Placed)
  read_hit j es = do
    (i, slot) ← choice s.alignment reference es
    e ← present reference slot
    return (hit j i, e)

  -- By partitions for literals (EXI 7.3.3): a number below the count of partitions is a hit in that
  -- one; any other is a literal's length, raised by that count.
  unfoldable pub read_in : Tables → ℕ → ℕ → Option (List Slot) → Parser (Form × Placed)
  read_in t k v none = read_literal t (v - k)
  read_in t k v (some es) = read_hit v es

  -- The number, and what it stands for.
  unfoldable pub read_by_literals : Tables → List (List Slot) → Parser (Form × Placed)
  read_by_literals t ess = do
    v ← unsigned
    read_in t (length ess) v (get_elem? ess v)

  -- By a partition for compact identifiers (EXI 7.3.2): 0 is a miss, i + 1 is entry i. (The test
  -- passes: no URI is ever replaced.)
  unfoldable pub read_entry : Tables → ℕ → Option Slot → Parser (Form × Placed)
  read_entry t v none = read_by_literals t []
  read_entry t v (some slot) = do
    e ← present reference slot
    return (hit 0 (v - 1), e)

  -- The form of a string, by its partitions (EXI 7.3).
  unfoldable pub read_form : Tables → Partitions → Parser (Form × Placed)
  read_form t (compact es) = do
    (v, e) ← choice s.alignment reference (none ∷ map some es)
    read_entry t v e
  read_form t (literals ess) = read_by_literals t ess

  -- A string and the tables after it: its form, CHARACTER for a comment or an instruction's text
  -- (P6: after their code points), then LOOSE, NAME, its table's limit (scope, "Refusal
  -- numbers", "Order").
  unfoldable pub read_string : Tables → Role → Parser (Placed × Tables)
  read_string t r = do
    (f, x) ← read_form t (partitions_of t r)
    need (text_allowed r x.text) character
    need (eq_form f (form_of (partitions_of t r) x.text)) loose
    need (name_allowed r x.text) name
    let t' = tables_after t r f x.text
    need (within_tables z t') limit
    return (x, t')

  -- ---- events

  -- A name that a learned production carries is not read, and lies where the production has it (EXI
  -- 7.1.7; scope, "Sizes").
  unfoldable pub readName :
      Tables → Bool → Option (QName Placed) → Parser (QName Placed × Tables)
  readName t attr (some q) = return (q, t)
  readName t attr none = do
    (u, t₁) ← read_string t uri
    (n, t₂) ← read_string t₁ (local attr u.text)
    return (record { uri = u; local = n }, t₂)

  -- The content of an event of this kind (EXI 4), and the tables after it.
  unfoldable pub readContent :
      Tables → State → Kind → Option (QName Placed) → Parser (Event Placed × Tables)
  readContent t st SD n = return (start_document, t)
  readContent t st ED n = return (end_document, t)
  readContent t st EE n = return (end_element, t)
  readContent t st SE n = do
    (q, t₁) ← readName t false n
    return (start_element q, t₁)
  readContent t st AT n = do
    (q, t₁) ← readName t true n
    (v, t₂) ← read_string t₁ (value (name_text q))
    return (attribute q v, t₂)
  readContent t st CH n = do
    (v, t₁) ← read_string t (character_role st)
    return (characters v, t₁)
  readContent t st CM n = do
    (x, t₁) ← read_string t comment_text
    return (comment x, t₁)
  readContent t st PI n = do
    (x, t₁) ← read_string t target
    (y, t₂) ← read_string t₁ instruction_text
    return (instruction x y, t₂)

-- A part that names a production ends the code; else the next level goes on.
unfoldable pub read_part : ℕ → Option Production → Parser Code → Parser Code
read_part v (some p) deeper = return (at_level v p)
read_part v none deeper = do
  x ← deeper
  return (below v x)

-- An event code (EXI 6.2), part by part; a part that names no production is CODE (scope, "Refusal
-- numbers", 6).
unfoldable pub read_code : Alignment → List (List Production) → Parser Code
read_code a [] = fail code
read_code a (l ∷ ls) = do
  (v, p) ← choice a code (choices l ls)
  read_part v p (read_code a ls)

-- One event and the context that it leaves: its code, its content, SHAPE for a second attribute of
-- one name (P3), LOOSE for the production, then open elements, element grammars and learned
-- productions (EXI 6; scope, "Refusal numbers", "Order").
unfoldable pub step : Sizes → Settings → Context → Parser (Event Placed × Context)
step z s c = do
  x ← read_code s.alignment (levels_in s c)
  (e, t) ← readContent z s c.tables c.state x.production.kind x.production.qname
  need (tag_allows c.tag (event_text e)) shape
  need (same_code x.parts (code_of (levels_in s c) (event_text e))) loose
  let c' = after s c x t (name_of e) (event_text e)
  need (within_grammars z c') limit
  return (e, c')

-- ---- the whole stream

-- The list, each string with the place where it lies, and the text store (scope, "Sizes").
pub record Reading : Type 0 where
  pub events : List (Event Placed)
  pub store : Text

-- One event stands before what this answer is about: the index counts it (scope, "Refusal
-- numbers").
unfoldable pub following : Event Placed → Answer Reading → Answer Reading
following e (refused k i) = refused k (suc i)
following e (accepted r) = accepted (record { events = e ∷ r.events; store = r.store })

-- After the end of the document only pad bits may stand; else TAIL (scope, "Refusal numbers", 13).
-- (s is not used, as yet.)
unfoldable pub ending : Settings → Context → Bits → Answer Reading
ending s c rest =
    let reading : Reading = record { events = []; store = c.tables.store } in
    cond (is_padding rest) (accepted reading) (refused tail 0)

-- What a step's result leads to; rest answers for the events after it.
unfoldable pub onward :
    Settings → (Context → Bits → Answer Reading) → Result (Event Placed × Context) → Answer Reading
onward s rest (bad k) = refused k 0
onward s rest (got (e, c) bs) =
    let more = rest c bs in following e (cond (is_finished c.state) (ending s c bs) more)

-- At most n more events: the event limit comes before the code (scope, "Refusal numbers", "Order").
unfoldable pub read_events : ℕ → Sizes → Settings → Context → Bits → Answer Reading
read_events zero z s c bs = refused limit 0
read_events (suc n) z s c bs = onward s (λ c' rest. read_events n z s c' rest) (step z s c bs)

-- Each octet of the header is a field: ENDED, then HEADER (scope, "Refusal numbers", "Order").
unfoldable pub read_header : List ℕ → Parser (Unit {0})
read_header [] = return tt
read_header (h ∷ hs) = do
  o ← octet
  need (eqb o h) header
  read_header hs

-- The events after the header (EXI 4).
unfoldable pub read_body : Sizes → Settings → Result (Unit {0}) → Answer Reading
read_body z s (bad k) = refused k 0
read_body z s (got u bs) = read_events z.events z s (start s) bs

-- The header, then the events.
unfoldable pub read_stream : Sizes → Settings → List ℕ → Answer Reading
read_stream z s stream = read_body z s (read_header (header_of s) (unpack stream))

-- The lengths of the parts that are lent, in cells (scope, "Sizes": memory to lend).
pub record ReaderRoom : Type 0 where
  pub events : ℕ
  pub text : ℕ
  pub work : ℕ

-- Cells for the events and the code points that there may be, and work memory (scope, "Sizes").
unfoldable pub enough_to_read : Sizes → ReaderRoom → Bool
enough_to_read z r =
    leb (cells_per_event * z.events) r.events && leb z.store r.text
    && leb z.work r.work

-- The reader's answer under these sizes: ROOM, SETTINGS, LONG, then in stream order (scope,
-- "Refusal numbers", "Order").
unfoldable pub read_sized : Sizes → ReaderRoom → SettingNumbers → List ℕ → Answer Reading
read_sized z r o stream =
    cond (not (enough_to_read z r)) (refused room 0)
    (cond (not (meaningful o)) (refused settings 0)
    (cond (not (leb (length stream) z.stream)) (refused long 0)
    (read_stream z (settings_of o) stream)))

-- The reader's answer, under the product's sizes.
unfoldable pub read : ReaderRoom → SettingNumbers → List ℕ → Answer Reading
read = read_sized sizes

-- The list of an answer, without the places.
unfoldable pub list_of : Answer Reading → Answer (List (Event Text))
list_of (refused k i) = refused k i
list_of (accepted r) = accepted (map event_text r.events)

-- The numbers of an answer: on success number and index are 0, after a refusal the counts are
-- (scope, "Refusal numbers").
pub record ReadReply : Type 0 where
  pub number : ℕ
  pub index : ℕ
  pub events : ℕ
  pub code_points : ℕ

-- The numbers for each answer.
unfoldable pub read_reply : Answer Reading → ReadReply
read_reply (refused k i) = record { number = number_of k; index = i; events = 0; code_points = 0 }
read_reply (accepted r) =
    record { number = 0; index = 0; events = length r.events; code_points = length r.store }
