-- The string tables (EXI 7.3), how a string stands in a stream by them, and what it leaves in them.
use Rattle.std.specs.Prelude.{◌+◌, ◌-◌, ◌&&◌, ◌||◌, ◌∷◌, ◌++◌}
use Rattle.spec_fields.specs as Fields
use Fields.{Bits.Bits, Bits.each, Field.Alignment, Field.choice_bits, Field.unsigned_bits}
use Fields.Prelude.{ℕ, zero, suc, Bool, true, false, cond, not, List, []}
use Fields.Prelude.{map, Option, none, some, Option·map, length, get_or, take, drop, eqb, leb}
use Rattle.text.specs.Text.{Text, Span, text, eq_text, is_empty}
use Rattle.text.specs.Names.{is_ncname, is_xml, has_pair, ends_in}
use Rattle.spec_exi.specs.Event.{QName, Event, map_name, map_event, eq_name}
use Rattle.spec_exi.specs.Settings.{Settings}

-- A text and where it begins in the text store (scope, "Sizes": where a string lies).
pub record Placed : Type 0 where
  pub place : ℕ
  pub text : Text

-- A name, by its texts.
unfoldable pub name_text : QName Placed → QName Text
name_text = map_name (λ x. x.text)

-- An event, by its texts: two lists are the same when these are (scope, "What is bought").
unfoldable pub event_text : Event Placed → Event Text
event_text = map_event (λ x. x.text)

-- The string in the store.
unfoldable pub span_of : Placed → Span
span_of x = record { place = x.place; size = length x.text }

-- An entry of a table that is split into partitions by a key (EXI 7.3.1).
pub record Entry (K : Type 0) : Type 0 where
  pub key : K
  pub string : Placed

-- The value partitions (EXI 7.3.3; P5): the two settings, and every value that was ever added, by
-- the name of its element or attribute, in order.
pub record Values : Type 0 where
  pub longest : Option ℕ
  pub capacity : Option ℕ
  pub added : List (Entry (QName Text))

-- The tables, each in order of insertion, and the text store: the initial entries in table order,
-- then every literal in stream order (scope, "Sizes").
pub record Tables : Type 0 where
  pub uris : List Placed
  -- local names, by URI
  pub names : List (Entry Text)
  pub values : Values
  pub store : Text

-- The entries of a partition, in order: the compact identifier is the place among them (EXI 7.3).
unfoldable pub partition : {K : Type 0} → (K → Bool) → List (Entry K) → List Placed
partition has [] = []
partition has (x ∷ xs) = cond (has x.key) (x.string ∷ partition has xs) (partition has xs)

-- The local names of a URI (EXI 7.3.1).
unfoldable pub names_of : Tables → Text → List Placed
names_of t u = partition (eq_text u) t.names

-- What a compact identifier of a partition stands for: the entry with this number (EXI 7.3.2,
-- 7.3.3), or none where that entry was replaced.
abbrev pub Slot : Type 0
Slot = Option Placed

-- ---- values (EXI 7.3.3; P5)

-- How many of n values that were added are replaced: all but the last `capacity` (EXI 7.3.3).
unfoldable pub replaced : Option ℕ → ℕ → ℕ
replaced none n = 0
replaced (some c) n = n - c

-- EXI's exi_global_id after n values: one more with each, and 0 again where that is the capacity (EXI
-- 7.3.1, 7.3.3).
unfoldable pub global_id : Option ℕ → ℕ → ℕ
global_id none n = n
global_id (some c) zero = 0
global_id (some c) (suc n) = let i = suc (global_id (some c) n) in cond (eqb i c) 0 i

-- How many values are gone from the tables (EXI 7.3.3).
unfoldable pub gone : Values → ℕ
gone v = replaced v.capacity (length v.added)

-- The values present, the oldest first (EXI 7.3.3).
unfoldable pub present_values : Values → List (Entry (QName Text))
present_values v = drop (gone v) v.added

-- A value, gone unless g is 0: g counts the values gone from it on (EXI 7.3.3: "unassigned").
unfoldable pub slot_after : ℕ → Placed → Slot
slot_after zero x = some x
slot_after (suc g) x = none

-- The values local to a name, the first g of all values being gone: each was given its name's next
-- number, which no other value gets, and which still counts in the width of a choice (EXI 7.3.3).
unfoldable pub local_slots : ℕ → QName Text → List (Entry (QName Text)) → List Slot
local_slots g q [] = []
local_slots g q (x ∷ xs) =
    cond (eq_name q x.key) (slot_after g x.string ∷ local_slots (g - 1) q xs)
    (local_slots (g - 1) q xs)

-- The values local to a name (EXI 7.3.1, 7.3.3).
unfoldable pub values_of : Tables → QName Text → List Slot
values_of t q = local_slots (gone t.values) q t.values.added

-- Values in the order of their global numbers: the newest, as many as exi_global_id says, then the
-- others (EXI 7.3.3).
unfoldable pub by_number : {A : Type 0} → ℕ → List A → List A
by_number new xs = drop (length xs - new) xs ++ take (length xs - new) xs

-- All values that are present: the global partition (EXI 7.3.1, 7.3.3).
unfoldable pub all_values : Tables → List Slot
all_values t =
    map (λ x. some x.string)
    (by_number (global_id t.values.capacity (length t.values.added))
    (present_values t.values))

-- A number without an entry has no text.
unfoldable pub has_text : Slot → Text → Bool
has_text none x = false
has_text (some e) x = eq_text e.text x

-- The compact identifier of a text (EXI 7.3): the first.
unfoldable pub index_of : List Slot → Text → Option ℕ
index_of [] x = none
index_of (e ∷ es) x = let later = Option·map suc (index_of es x) in cond (has_text e x) (some 0) later

-- ---- where a string stands, and by which partitions

-- What a string is in its event (EXI 4, table 4-1, and 7.1.7).
pub data Role : Type 0 where
  -- the URI of a name
  uri : Role
  -- a local name in this URI: of an attribute or (false) of an element
  local : Bool → Text → Role
  -- a value of the element or attribute of this name
  value : QName Text → Role
  -- an instruction's target
  target : Role
  -- a comment
  comment_text : Role
  -- an instruction's text
  instruction_text : Role
  -- characters outside an element, where none stand
  plain : Role

-- The partitions by which a string is written, and how these are optimized (EXI 7.3).
pub data Partitions : Type 0 where
  -- optimized for frequent use of compact identifiers (EXI 7.3.2)
  compact : List Slot → Partitions
  -- optimized for frequent use of string literals (EXI 7.3.3): none, the local names of a URI, or a
  -- name's values and all values. A String by no table (EXI 7.1.10) is the case of none
  literals : List (List Slot) → Partitions

-- The partitions of a role (EXI 7.3.1; scope, "String tables").
unfoldable pub partitions_of : Tables → Role → Partitions
partitions_of t uri = compact (map some t.uris)
partitions_of t (local attr u) = literals (map some (names_of t u) ∷ [])
partitions_of t (value q) = literals (values_of t q ∷ all_values t ∷ [])
partitions_of t target = literals []
partitions_of t comment_text = literals []
partitions_of t instruction_text = literals []
partitions_of t plain = literals []

-- ---- the form that a string takes

-- By a table, or written out (EXI 7.3: a compact identifier, or the string literal).
pub data Form : Type 0 where
  -- in which partition, and its compact identifier there
  hit : ℕ → ℕ → Form
  literal : Form

-- The same form.
unfoldable pub eq_form : Form → Form → Bool
eq_form (hit j i) (hit l k) = eqb j l && eqb i k
eq_form (hit j i) literal = false
eq_form literal (hit l k) = false
eq_form literal literal = true

-- A hit in partition j, or else another form.
unfoldable pub hit_or : ℕ → Option ℕ → Form → Form
hit_or j none f = f
hit_or j (some i) f = hit j i

-- A hit in the first of these partitions that has the text, counted from j, or else the literal.
unfoldable pub first_hit : ℕ → List (List Slot) → Text → Form
first_hit j [] x = literal
first_hit j (es ∷ ess) x = let later = first_hit (suc j) ess x in hit_or j (index_of es x) later

-- The form in the strict form of a list (scope, "Grammars"): a table hit where one exists, local
-- before global.
unfoldable pub form_of : Partitions → Text → Form
form_of (compact es) x = first_hit 0 (es ∷ []) x
form_of (literals ess) x = first_hit 0 ess x

-- A String (EXI 7.1.10), its length raised by k.
unfoldable pub string_bits : ℕ → Text → Bits
string_bits k x = unsigned_bits (length x + k) ++ each unsigned_bits x

-- A URI: a choice among m + 1, i + 1 for a hit, 0 for a miss, and the String (EXI 7.3.2). Else a
-- miss is the String, its length raised by the number of partitions; a hit is the partition's
-- number, then a choice among its slots (EXI 7.3.3; scope, "String tables").
unfoldable pub form_bits : Alignment → Partitions → Form → Text → Bits
form_bits a (compact es) (hit j i) x = choice_bits a (suc (length es)) (suc i)
form_bits a (compact es) literal x = choice_bits a (suc (length es)) 0 ++ string_bits 0 x
form_bits a (literals ess) (hit j i) x = unsigned_bits j ++ choice_bits a (length (get_or ess j [])) i
form_bits a (literals ess) literal x = string_bits (length ess) x

-- ---- what a string leaves in the tables (EXI 7.3; scope, "String tables": a hit leaves nothing, a
-- literal joins its partition; which values join is P5's)

-- What a literal adds to the URIs, by its role (EXI 7.3.2).
unfoldable pub new_uri : Role → Placed → List Placed
new_uri uri x = x ∷ []
new_uri (local attr u) x = []
new_uri (value q) x = []
new_uri target x = []
new_uri comment_text x = []
new_uri instruction_text x = []
new_uri plain x = []

-- To the local names, under their URI (EXI 7.3.3).
unfoldable pub new_name : Role → Placed → List (Entry Text)
new_name uri x = []
new_name (local attr u) x = record { key = u; string = x } ∷ []
new_name (value q) x = []
new_name target x = []
new_name comment_text x = []
new_name instruction_text x = []
new_name plain x = []

-- The number is not over the bound, if there is one.
unfoldable pub at_most : ℕ → Option ℕ → Bool
at_most n none = true
at_most n (some m) = leb n m

-- The bound is 0.
unfoldable pub is_zero : Option ℕ → Bool
is_zero none = false
is_zero (some c) = eqb c 0

-- A value joins if it is not empty and not longer than valueMaxLength, and the capacity is not zero
-- (EXI 7.3.3; scope, "String tables"; P5).
unfoldable pub joins : Values → Text → Bool
joins v x = not (is_zero v.capacity) && not (is_empty x) && at_most (length x) v.longest

-- A value that joins, under this name (EXI 7.3.3).
unfoldable pub new_entry : Values → QName Text → Placed → List (Entry (QName Text))
new_entry v q x = cond (joins v x.text) (record { key = q; string = x } ∷ []) []

-- To the values, under the name of their element or attribute (EXI 7.3.3).
unfoldable pub new_value : Values → Role → Placed → List (Entry (QName Text))
new_value v uri x = []
new_value v (local attr u) x = []
new_value v (value q) x = new_entry v q x
new_value v target x = []
new_value v comment_text x = []
new_value v instruction_text x = []
new_value v plain x = []

-- The values with these more.
unfoldable pub with_values : Values → List (Entry (QName Text)) → Values
with_values v es = record { longest = v.longest; capacity = v.capacity; added = v.added ++ es }

-- A literal lies at the end of the store so far (scope, "Sizes").
unfoldable pub laid : Tables → Text → Placed
laid t x = record { place = length t.store; text = x }

-- The tables with a literal.
unfoldable pub added : Tables → Role → Text → Tables
added t r x =
    record {
      uris = t.uris ++ new_uri r (laid t x);
      names = t.names ++ new_name r (laid t x);
      values = with_values t.values (new_value t.values r (laid t x));
      store = t.store ++ x;
    }

-- A hit leaves the tables, a literal is added (EXI 7.3).
unfoldable pub tables_after : Tables → Role → Form → Text → Tables
tables_after t r (hit j i) x = t
tables_after t r literal x = added t r x

-- ---- the initial entries (EXI, appendix D.1 and D.3)

-- The URI of XML (EXI D.1).
unfoldable pub xml_uri : Text
xml_uri = text "http://www.w3.org/XML/1998/namespace"

-- The URI of XML Schema instances (EXI D.1).
unfoldable pub xsi_uri : Text
xsi_uri = text "http://www.w3.org/2001/XMLSchema-instance"

-- Role and text of each, in table order (EXI D.1, D.3; scope, "String tables"). Whether a local
-- name is an attribute's does not matter here.
unfoldable pub initial_entries : Settings → List (Role × Text)
initial_entries s =
    (uri, [])
    ∷ (uri, xml_uri)
    ∷ (uri, xsi_uri)
    ∷ (local false xml_uri, text "base")
    ∷ (local false xml_uri, text "id")
    ∷ (local false xml_uri, text "lang")
    ∷ (local false xml_uri, text "space")
    ∷ (local false xsi_uri, text "nil")
    ∷ (local false xsi_uri, text "type")
    ∷ []

-- The tables with these literals, one after the other.
unfoldable pub added_all : Tables → List (Role × Text) → Tables
added_all t [] = t
added_all t (x ∷ xs) = added_all (added t x.0 x.1) xs

-- The tables at the start of a stream (EXI 7.3).
unfoldable pub start_tables : Settings → Tables
start_tables s =
    added_all
    (record {
      uris = [];
      names = [];
      values = record { longest = s.longest; capacity = s.capacity; added = [] };
      store = [];
    })
    (initial_entries s)

-- ---- strings that are refused whole (scope, "Refusal numbers", 8 and 11; P6)

-- No name that row 11 refuses: local names are NCNames, and no attribute is nil or type in the
-- XMLSchema-instance URI; targets are NCNames, and not `xml` in any case (scope, "Refusal numbers",
-- 11; P6). Other strings are no names.
unfoldable pub name_allowed : Role → Text → Bool
name_allowed uri x = true
name_allowed (local attr u) x =
    is_ncname x
    && not (attr && eq_text u xsi_uri && (eq_text x (text "nil") || eq_text x (text "type")))
name_allowed (value q) x = true
name_allowed target x = is_ncname x && not (is_xml x)
name_allowed comment_text x = true
name_allowed instruction_text x = true
name_allowed plain x = true

-- A comment has no two hyphens in a row and does not end in one, and an instruction's text has no
-- `?>`; else it is CHARACTER, though its code points are Chars (scope, "Refusal numbers", 8; P6).
unfoldable pub text_allowed : Role → Text → Bool
text_allowed uri x = true
text_allowed (local attr u) x = true
text_allowed (value q) x = true
text_allowed target x = true
text_allowed comment_text x = not (has_pair 0x2D 0x2D x) && not (ends_in 0x2D x)
text_allowed instruction_text x = not (has_pair 0x3F 0x3E x)
text_allowed plain x = true
