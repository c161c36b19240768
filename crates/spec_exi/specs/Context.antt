-- Everything that the events before leave: state, string tables, learned productions, element
-- grammars and the start tag that is open. One definition says what an event leaves, for the strict
-- form, the reader and the writer.
use Rattle.std.specs.Prelude.{◌∷◌, ◌++◌}
use Rattle.spec_fields.specs.Prelude.{Bool, true, false, cond, List, [], Option, none}
use Rattle.spec_fields.specs.Prelude.{some, Option·map}
use Rattle.text.specs.Text.{Text, eq_text}
use Rattle.spec_exi.specs as Exi
use Exi.Event.{QName, Event, start_document, end_document, end_element, start_element, attribute}
use Exi.Event.{characters, comment, instruction, kind_of, name_of}
use Exi.Settings.{Settings}
use Exi.Tables.{Placed, Tables, names_of, Role, uri, local, value, target, comment_text}
use Exi.Tables.{instruction_text, plain, partitions_of, form_of, tables_after, start_tables}
use Exi.Grammar.{Production, State, document, doc_content, doc_end, finished, fragment_content}
use Exi.Grammar.{start_tag, element_content, Learned, Code, is_wildcard, levels, code_of, site_of}
use Exi.Grammar.{learned_at, taught, learn, grammars_after, state_after, Tag, empty_tag, tag_after}

-- What an event is read and written by: string tables (EXI 7.3) and grammars (EXI 8.4).
pub record Context : Type 0 where
  pub state : State
  pub tables : Tables
  pub learned : List Learned
  -- the names of the elements that have a grammar
  pub grammars : List (QName Text)
  -- what has come in the start tag that is open
  pub tag : Tag

-- The start of a stream (scope, "Grammars": the strict form).
unfoldable pub start : Settings → Context
start s =
    record { state = document; tables = start_tables s; learned = []; grammars = []; tag = empty_tag }

-- The productions of the context's state, level by level.
unfoldable pub levels_in : Settings → Context → List (List Production)
levels_in s c = levels s c.learned c.state

-- ---- the strings of an event

-- A string of an event's content (EXI 4; a qname has two), where it stands, and whether it is
-- written. A name that a learned production carries is not.
pub record Item : Type 0 where
  pub role : Role
  pub written : Bool
  pub text : Text

-- A string that is written.
unfoldable pub item : Role → Text → Item
item r x = record { role = r; written = true; text = x }

-- Characters stand only inside an element, and are values of its name (EXI 7.3.1).
unfoldable pub character_role : State → Role
character_role document = plain
character_role doc_content = plain
character_role doc_end = plain
character_role fragment_content = plain
character_role finished = plain
character_role (start_tag q outer) = value q
character_role (element_content q outer) = value q

-- The two parts of a QName (EXI 7.1.7; prefixes are not kept).
unfoldable pub name_items : Production → Bool → QName Text → List Item
name_items p attr q =
    record { role = uri; written = is_wildcard p.qname; text = q.uri }
    ∷ record { role = local attr q.uri; written = is_wildcard p.qname; text = q.local }
    ∷ []

-- The strings of an event's content, in order (EXI 4).
unfoldable pub items : State → Production → Event Text → List Item
items st p start_document = []
items st p end_document = []
items st p end_element = []
items st p (start_element q) = name_items p false q
items st p (attribute q v) = name_items p true q ++ (item (value q) v ∷ [])
items st p (characters v) = item (character_role st) v ∷ []
items st p (comment x) = item comment_text x ∷ []
items st p (instruction x y) = item target x ∷ item instruction_text y ∷ []

-- What a string leaves, by the form that it has in the strict form (EXI 7.3; scope, "Grammars").
unfoldable pub after_item : Tables → Item → Tables
after_item t i =
    let form = form_of (partitions_of t i.role) i.text in
    cond i.written (tables_after t i.role form i.text) t

-- What strings leave, one after the other.
unfoldable pub after_items : Tables → List Item → Tables
after_items t [] = t
after_items t (i ∷ is) = after_items (after_item t i) is

-- ---- what an event leaves

-- What an event with this code leaves (EXI 8.4; scope, "Grammars": before the child is read), where
-- its strings leave these tables and its name lies there.
unfoldable pub after :
    Settings → Context → Code → Tables → Option (QName Placed) → Event Text → Context
after s c x t q e =
    record {
      state = state_after s c.state e;
      tables = t;
      learned =
          let k = site_of c.state in
          learn k (taught (learned_at k c.learned) x (kind_of e) q) c.learned;
      grammars = grammars_after c.grammars e;
      tag = tag_after c.tag e;
    }

-- The first entry with this text. (The first clause is not reached: what is looked for is there.)
unfoldable pub entry_of : List Placed → Text → Placed
entry_of [] x = record { place = 0; text = x }
entry_of (e ∷ es) x = cond (eq_text e.text x) e (entry_of es x)

-- Where the entries of a name lie (scope, "Sizes": a hit lies where its entry lies).
unfoldable pub entries_of : Tables → QName Text → QName Placed
entries_of t q =
    record { uri = entry_of t.uris q.uri; local = entry_of (names_of t q.uri) q.local }

-- Its strings leave what their strict forms leave, and its name lies where its entries lie.
unfoldable pub after_code : Settings → Context → Option Code → Event Text → Context
after_code s c none e = c
after_code s c (some x) e =
    let t = after_items c.tables (items c.state x.production e) in
    after s c x t (Option·map (entries_of t) (name_of e)) e

-- What an event leaves in the strict form (scope, "Grammars"). One that no production fits stands
-- in no well-formed list, and leaves nothing.
unfoldable pub next : Settings → Context → Event Text → Context
next s c e = after_code s c (code_of (levels_in s c) e) e

-- What a list leaves.
unfoldable pub context_after : Settings → Context → List (Event Text) → Context
context_after s c [] = c
context_after s c (e ∷ l) = context_after s (next s c e) l
