-- Which lists are well-formed and which are inside the limits (scope, "What is bought" and
-- "Sizes"), by the lists themselves and their strict forms.
use Rattle.std.specs.Prelude.{◌-◌, ◌≤◌, ◌≡◌, ◌&&◌, ◌∷◌, ◌++◌}
use Rattle.spec_fields.specs.Prelude.{Bool, true, false, List, []}
use Rattle.spec_fields.specs.Prelude.{Option, none, some, length, leb, T}
use Rattle.text.specs.Text.{Text, all_chars}
use Rattle.spec_exi.specs as Exi
use Exi.{Settings.Settings, Sizes.Sizes, Sizes.sizes, Strict.strict}
use Exi.Event.{QName, Event, start_document, end_document, end_element, start_element, attribute}
use Exi.Event.{characters, comment, instruction, strings_of}
use Exi.Tables.{Tables, gone, local, target, comment_text, instruction_text, name_allowed, text_allowed}
use Exi.Grammar.{open_elements, is_attribute, attribute_name, is_new}
use Exi.Context.{Context, start, next}

-- All members pass.
unfoldable pub every : {A : Type 0} → (A → Bool) → List A → Bool
every f [] = true
every f (x ∷ xs) = f x && every f xs

-- ---- well-formed: start document; comments and instructions; one element, balanced; comments and
-- instructions; end document; nothing after. In a fragment comments, instructions and balanced
-- elements stand between the two, in any order and number (P1)

-- Comments and instructions, as the settings keep them (scope, "What is bought").
pub data Misc (s : Settings) : List (Event Text) → Type 0 where
  nothing : Misc s []
  a_comment : {l : List (Event Text)} (x : Text) → T s.comments → Misc s l
      → Misc s (comment x ∷ l)
  an_instruction : {l : List (Event Text)} (x y : Text) → T s.instructions → Misc s l
      → Misc s (instruction x y ∷ l)

mutual
  -- What stands between a start element and its end element: attributes come before any other
  -- event.
  pub data Inner (s : Settings) : List (Event Text) → Type 0 where
    an_attribute : {l : List (Event Text)} (q : QName Text) (v : Text) → Inner s l
        → Inner s (attribute q v ∷ l)
    no_more : {l : List (Event Text)} → Content s l → Inner s l

  -- Characters, comments and instructions, and elements, each with its end (EXI 4).
  pub data Content (s : Settings) : List (Event Text) → Type 0 where
    nothing : Content s []
    some_characters : {l : List (Event Text)} (v : Text) → Content s l → Content s (characters v ∷ l)
    a_comment : {l : List (Event Text)} (x : Text) → T s.comments → Content s l
        → Content s (comment x ∷ l)
    an_instruction : {l : List (Event Text)} (x y : Text) → T s.instructions → Content s l
        → Content s (instruction x y ∷ l)
    an_element : {inner l : List (Event Text)} (q : QName Text) → Inner s inner → Content s l
        → Content s (start_element q ∷ (inner ++ end_element ∷ l))

-- Comments, instructions and balanced elements, in any order and number (P1).
pub data Elements (s : Settings) : List (Event Text) → Type 0 where
  nothing : Elements s []
  a_comment : {l : List (Event Text)} (x : Text) → T s.comments → Elements s l
      → Elements s (comment x ∷ l)
  an_instruction : {l : List (Event Text)} (x y : Text) → T s.instructions → Elements s l
      → Elements s (instruction x y ∷ l)
  an_element : {inner l : List (Event Text)} (q : QName Text) → Inner s inner → Elements s l
      → Elements s (start_element q ∷ (inner ++ end_element ∷ l))

-- A whole list (scope, "What is bought"), or that of a fragment (P1).
pub data Document (s : Settings) : List (Event Text) → Type 0 where
  a_document : {before inner behind : List (Event Text)} (q : QName Text) → s.fragment ≡ false
      → Misc s before → Inner s inner → Misc s behind
      → Document s
      (start_document ∷ (before ++ start_element q ∷ (inner ++ end_element
      ∷ (behind ++ end_document ∷ []))))
  a_fragment : {l : List (Event Text)} → s.fragment ≡ true → Elements s l
      → Document s (start_document ∷ (l ++ end_document ∷ []))

-- The event has no name that row 11 refuses (scope, "Refusal numbers"; P6).
unfoldable pub names_allowed : Event Text → Bool
names_allowed start_document = true
names_allowed end_document = true
names_allowed end_element = true
names_allowed (start_element q) = name_allowed (local false q.uri) q.local
names_allowed (attribute q v) = name_allowed (local true q.uri) q.local
names_allowed (characters v) = true
names_allowed (comment x) = true
names_allowed (instruction x y) = name_allowed target x

-- It is no comment and no instruction whose text row 8 refuses (P6).
unfoldable pub texts_allowed : Event Text → Bool
texts_allowed start_document = true
texts_allowed end_document = true
texts_allowed end_element = true
texts_allowed (start_element q) = true
texts_allowed (attribute q v) = true
texts_allowed (characters v) = true
texts_allowed (comment x) = text_allowed comment_text x
texts_allowed (instruction x y) = text_allowed instruction_text y

-- Only Chars in its strings (scope, "What is bought").
unfoldable pub chars_only : Event Text → Bool
chars_only e = every all_chars (strings_of e)

-- The scope's "well-formed list", over the texts, with P6's names and texts, where equal attributes
-- are allowed (as before P3). (That no stored event is SHAPE by itself and every string lies inside
-- its store is said by `meant`, in Meaning.)
pub record BaseWellFormed (s : Settings) (l : List (Event Text)) : Type 0 where
  pub shape : Document s l
  pub chars : T (every chars_only l)
  pub names : T (every names_allowed l)
  pub texts : T (every texts_allowed l)

-- ---- equal attributes (P3): no two attributes of one start tag have one name

-- A name in front of others; they end where there is none.
unfoldable pub in_front : Option (QName Text) → List (QName Text) → List (QName Text)
in_front none qs = []
in_front (some q) qs = q ∷ qs

-- The names of the attributes that a list begins with: behind a start element, those of its start
-- tag; behind an attribute, those that follow it there.
unfoldable pub attributes_first : List (Event Text) → List (QName Text)
attributes_first [] = []
attributes_first (e ∷ l) = in_front (attribute_name e) (attributes_first l)

-- No attribute has the name of one that follows it in its start tag.
unfoldable pub attributes_differ : List (Event Text) → Bool
attributes_differ [] = true
attributes_differ (e ∷ l) = is_new (attributes_first l) (attribute_name e) && attributes_differ l

-- Two attributes of one start tag that have one name: attributes alone stand between them.
pub record EqualAttributes (l : List (Event Text)) : Type 0 where
  pub before : List (Event Text)
  pub between : List (Event Text)
  pub behind : List (Event Text)
  pub name : QName Text
  pub values : Text × Text
  pub is : l
      ≡ before ++ attribute name values.0 ∷ (between ++ attribute name values.1 ∷ behind)
  pub one_tag : T (every is_attribute between)

-- The well-formed lists.
pub record WellFormed (s : Settings) (l : List (Event Text)) : Type 0 where
  pub base : BaseWellFormed s l
  pub attributes : T (attributes_differ l)

-- ---- inside the limits (scope, "Sizes"): the list and its strict form pass no size (z)

module _ (z : Sizes) where
  -- The tables and the store (scope, "Sizes"); of values those that are present (P5).
  unfoldable pub within_tables : Tables → Bool
  within_tables t =
      leb (length t.uris) z.uris
      && leb (length t.names) z.names
      && leb (length t.values.added - gone t.values) z.values
      && leb (length t.store) z.store

  -- Open elements, element grammars, learned productions (scope, "Sizes").
  unfoldable pub within_grammars : Context → Bool
  within_grammars c =
      leb (length (open_elements c.state)) z.opened
      && leb (length c.grammars) z.grammars
      && leb (length c.learned) z.learned

  -- Both.
  unfoldable pub within : Context → Bool
  within c = within_tables c.tables && within_grammars c

  -- Every context that the strict form goes through is within the sizes.
  unfoldable pub stays_within : Settings → Context → List (Event Text) → Bool
  stays_within s c [] = true
  stays_within s c (e ∷ l) = within (next s c e) && stays_within s (next s c e) l

  -- The length of one string (scope, "Sizes").
  unfoldable pub short : Text → Bool
  short x = leb (length x) z.string

  -- All strings of an event.
  unfoldable pub short_strings : Event Text → Bool
  short_strings e = every short (strings_of e)

  -- The list, and the tables and grammars of its strict form, pass no size.
  pub record InsideTables (s : Settings) (l : List (Event Text)) : Type 0 where
    pub events : length l ≤ z.events
    pub strings : T (every short_strings l)
    pub sizes : T (stays_within s (start s) l)

  -- The scope's "inside the limits": its octets do not either.
  pub record InsideLimits (s : Settings) (l : List (Event Text)) : Type 0 where
    pub list : InsideTables s l
    pub octets : length (strict s l) ≤ z.stream

-- A well-formed list inside the limits, under the product's sizes: demands 2 and 3 speak of these.
pub record Good (s : Settings) (l : List (Event Text)) : Type 0 where
  pub well_formed : WellFormed s l
  pub limits : InsideLimits sizes s l
