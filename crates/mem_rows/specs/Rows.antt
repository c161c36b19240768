-- What work memory holds, as lists: the rows of each table in order of insertion, which refer to
-- one another by their numbers. The definitions' tables, learned productions, grammars and context
-- are functions of these lists; which cells hold them is said in the other crates of lent memory.
use Rattle.std.specs.Prelude.{ℕ, suc, ◌+◌, ◌*◌, ◌/◌, ◌%◌, ◌≤◌, ◌<◌, ◌≡◌, Bool, true, false, cond, ◌||◌, List, [], ◌∷◌, ◌++◌, map, length, get_or, take, drop, eqb}
use Rattle.std.proofs.Math.Option.{Option, none, some}
use Rattle.text.specs.Text.{Text}
use Rattle.spec_exi.specs.Event.{QName, Kind, SD, ED, SE, AT, EE, CH, CM, PI}
use Rattle.spec_exi.specs.Tables.{Placed, Entry, Tables, partition}
use Rattle.spec_exi.specs.Grammar.{Production, Site, tag_of, content_of, fragment, Learned, State}
use Rattle.spec_exi.specs.Grammar.{document, doc_content, doc_end, finished, fragment_content}
use Rattle.spec_exi.specs.Grammar.{start_tag, element_content, kind_number, Tag}
use Rattle.spec_exi.specs.Context.{Context}
use Rattle.event_code.specs.Numbers.{in_doc_content, in_doc_end, is_over, in_fragment, in_tag, in_element}
use Rattle.mem_layout.specs.Layout.{fragment_site}
use Rattle.mem_entries.specs.Entries.{Entries, entry_at, named}
use Rattle.mem_names.specs.Uris.{uri_at, uri_text}

-- ---- the rows

-- A learned production (EXI 8.4.2, 8.4.3), by numbers.
pub record Learnt : Type 0 where
  -- twice the row of the element's name, and one more in its start tag; or the fragment's
  pub site : ℕ
  -- the number of its kind
  pub kind : ℕ
  -- the row of the name that it carries, or 0
  pub name : ℕ

pub record Rows : Type 0 where
  pub uris : List Placed
  -- local names, by the row of their URI
  pub names : Entries
  -- values, by the row of their name
  pub values : Entries
  -- the oldest first
  pub learned : List Learnt
  -- the elements that have a grammar, by the row of their name
  pub grammars : List ℕ
  -- the attributes of the start tag that is open, by the row of their name, the newest first
  pub attributes : List ℕ
  -- the settings for values (EXI 5.4; P5)
  pub longest : Option ℕ
  pub capacity : Option ℕ

-- ---- as the definitions' tables

-- The name in a row, with the places of its strings.
unfoldable pub placed_at : Rows → ℕ → QName Placed
placed_at w n =
    let e = entry_at w.names n in record { uri = uri_at w.uris e.key; local = e.string }

unfoldable pub name_at : Rows → ℕ → QName Text
name_at w n =
    record { uri = (placed_at w n).uri.text; local = (placed_at w n).local.text }

unfoldable pub tables_of : Rows → Text → Tables
tables_of w store =
    record {
      uris = w.uris;
      names = map (named (uri_text w.uris)) w.names;
      values =
          record {
            longest = w.longest;
            capacity = w.capacity;
            added = map (named (name_at w)) w.values;
          };
      store = store;
    }

-- ---- as the definitions' grammars

unfoldable pub kind_at : ℕ → Kind
kind_at n = get_or (SD ∷ ED ∷ SE ∷ AT ∷ EE ∷ CH ∷ CM ∷ []) n PI

-- SE and AT carry a name.
unfoldable pub carries : Kind → Bool
carries SD = false
carries ED = false
carries SE = true
carries AT = true
carries EE = false
carries CH = false
carries CM = false
carries PI = false

-- The number of a site, and the site.
abbrev pub site_number : ℕ → Bool → ℕ
site_number n true = 2 * n + 1
site_number n false = 2 * n

unfoldable pub site_at : Rows → ℕ → Site
site_at w k =
    cond (eqb k fragment_site) fragment
    (cond (eqb (k % 2) 1) (tag_of (name_at w (k / 2))) (content_of (name_at w (k / 2))))

unfoldable pub carried_at : Rows → Kind → ℕ → Option (QName Placed)
carried_at w k n = cond (carries k) (some (placed_at w n)) none

unfoldable pub production_of : Rows → Learnt → Production
production_of w l =
    record { kind = kind_at l.kind; qname = carried_at w (kind_at l.kind) l.name }

unfoldable pub learnt_as : Rows → Learnt → Learned
learnt_as w l = record { site = site_at w l.site; production = production_of w l }

-- A list from its end.
unfoldable pub backward : {A : Type 0} → List A → List A
backward [] = []
backward (x ∷ xs) = backward xs ++ (x ∷ [])

-- The newest is first.
unfoldable pub learned_of : Rows → List Learned
learned_of w = map (learnt_as w) (backward w.learned)

unfoldable pub grammars_of : Rows → List (QName Text)
grammars_of w = map (name_at w) w.grammars

unfoldable pub tag_in : Rows → Tag
tag_in w = record { attributes = map (name_at w) w.attributes }

-- A number is among these.
unfoldable pub is_among : ℕ → List ℕ → Bool
is_among n [] = false
is_among n (g ∷ gs) = eqb g n || is_among n gs

-- ---- the grammar's state, by its number and the open elements, the innermost first

unfoldable pub state_of : ℕ → List (QName Text) → State
state_of mode [] =
    get_or (document ∷ doc_content ∷ doc_end ∷ finished ∷ fragment_content ∷ []) mode finished
state_of mode (q ∷ outer) = cond (eqb mode in_tag) (start_tag q outer) (element_content q outer)

-- The number after characters, a comment or an instruction (`in_content`).
abbrev pub content_after : ℕ → ℕ
content_after mode = cond (eqb mode in_tag) in_element mode

-- The number after an event of this kind, in a fragment or not, where so many elements were open
-- (`state_after`).
unfoldable pub mode_after : Bool → ℕ → ℕ → ℕ → ℕ
mode_after isFragment kind mode depth =
    cond (eqb kind (kind_number SD)) (cond isFragment in_fragment in_doc_content)
    (cond (eqb kind (kind_number ED)) is_over
    (cond (eqb kind (kind_number SE)) in_tag
    (cond (eqb kind (kind_number AT)) mode
    (cond (eqb kind (kind_number EE))
    (cond (eqb depth 1) (cond isFragment in_fragment in_doc_end) in_element)
    (content_after mode)))))

-- The open elements after it, where its name has this row.
unfoldable pub opened_after : ℕ → ℕ → List ℕ → List ℕ
opened_after kind n opened =
    cond (eqb kind (kind_number SE)) (n ∷ opened)
    (cond (eqb kind (kind_number EE)) (drop 1 opened) opened)

-- The state is one of an element's grammar just where an element is open.
pub record ModeFits (mode depth : ℕ) : Type 0 where
  pub known : mode ≤ in_element
  pub outer : mode < in_tag → depth ≡ 0
  pub inner : in_tag ≤ mode → 0 < depth

-- ---- the whole context

unfoldable pub context_of : Rows → Text → ℕ → List ℕ → Context
context_of w store mode opened =
    record {
      state = state_of mode (map (name_at w) opened);
      tables = tables_of w store;
      learned = learned_of w;
      grammars = grammars_of w;
      tag = tag_in w;
    }

-- ---- one row more

unfoldable pub with_uri : Rows → Placed → Rows
with_uri w x =
    record {
      uris = w.uris ++ (x ∷ []);
      names = w.names;
      values = w.values;
      learned = w.learned;
      grammars = w.grammars;
      attributes = w.attributes;
      longest = w.longest;
      capacity = w.capacity;
    }

unfoldable pub with_name : Rows → ℕ → Placed → Rows
with_name w u x =
    record {
      uris = w.uris;
      names = w.names ++ (record { key = u; string = x } ∷ []);
      values = w.values;
      learned = w.learned;
      grammars = w.grammars;
      attributes = w.attributes;
      longest = w.longest;
      capacity = w.capacity;
    }

unfoldable pub with_value : Rows → ℕ → Placed → Rows
with_value w n x =
    record {
      uris = w.uris;
      names = w.names;
      values = w.values ++ (record { key = n; string = x } ∷ []);
      learned = w.learned;
      grammars = w.grammars;
      attributes = w.attributes;
      longest = w.longest;
      capacity = w.capacity;
    }

unfoldable pub with_learned : Rows → Learnt → Rows
with_learned w l =
    record {
      uris = w.uris;
      names = w.names;
      values = w.values;
      learned = w.learned ++ (l ∷ []);
      grammars = w.grammars;
      attributes = w.attributes;
      longest = w.longest;
      capacity = w.capacity;
    }

unfoldable pub with_grammar : Rows → ℕ → Rows
with_grammar w n =
    record {
      uris = w.uris;
      names = w.names;
      values = w.values;
      learned = w.learned;
      grammars = w.grammars ++ (n ∷ []);
      attributes = w.attributes;
      longest = w.longest;
      capacity = w.capacity;
    }

-- ---- what an event leaves, where its strings have joined

-- A start element's name has a grammar from then on.
unfoldable pub after_grammar : ℕ → ℕ → Rows → Rows
after_grammar kind n w =
    cond (eqb kind (kind_number SE)) (cond (is_among n w.grammars) w (with_grammar w n)) w

unfoldable pub after_learned : Bool → Learnt → Rows → Rows
after_learned teaches l w = cond teaches (with_learned w l) w

-- The attributes of the start tag: one more, or those of another, which has none.
unfoldable pub attributes_after : ℕ → ℕ → List ℕ → List ℕ
attributes_after kind n ns = cond (eqb kind (kind_number AT)) (n ∷ ns) []

unfoldable pub with_attributes : List ℕ → Rows → Rows
with_attributes ns w =
    record {
      uris = w.uris;
      names = w.names;
      values = w.values;
      learned = w.learned;
      grammars = w.grammars;
      attributes = ns;
      longest = w.longest;
      capacity = w.capacity;
    }

-- The rows that an event leaves, where its strings have left v: its name has row n, and l is
-- learned.
unfoldable pub leaves : ℕ → ℕ → Bool → Learnt → Rows → Rows
leaves kind n b l v =
    with_attributes (attributes_after kind n v.attributes)
    (after_learned b l (after_grammar kind n v))
