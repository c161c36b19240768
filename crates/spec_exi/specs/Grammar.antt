-- The grammars (EXI 8.3, 8.4; scope, "Grammars"; P1): productions, the event codes that they have,
-- and what is learned.
use Rattle.std.specs.Prelude.{◌&&◌, ◌||◌, ◌∷◌, ◌++◌}
use Rattle.spec_fields.specs.{Bits.Bits, Field.Alignment, Field.choice_bits}
use Rattle.spec_fields.specs.Prelude.{ℕ, suc, Bool, true, false, cond, not, List, []}
use Rattle.spec_fields.specs.Prelude.{map, Option, none, some, Option·map, length, eqb}
use Rattle.text.specs.Text.{Text, eq_text}
use Rattle.spec_exi.specs.{Settings.Settings, Tables.Placed, Tables.name_text}
use Rattle.spec_exi.specs.Event.{QName, Event, start_document, end_document, end_element}
use Rattle.spec_exi.specs.Event.{start_element, attribute, characters, comment, instruction}
use Rattle.spec_exi.specs.Event.{Kind, SD, ED, SE, AT, EE, CH, CM, PI, kind_of, name_of, eq_name}

-- A production, by its terminal symbol (EXI 4, table 4-1). SE and AT with a name are learned;
-- without one they are SE(*) and AT(*).
pub record Production : Type 0 where
  pub kind : Kind
  -- the name that it carries, where the entries lie with which it was named
  pub qname : Option (QName Placed)

-- A production without a name.
unfoldable pub unnamed : Kind → Production
unnamed k = record { kind = k; qname = none }

-- To compare kinds.
unfoldable pub kind_number : Kind → ℕ
kind_number SD = 0
kind_number ED = 1
kind_number SE = 2
kind_number AT = 3
kind_number EE = 4
kind_number CH = 5
kind_number CM = 6
kind_number PI = 7

-- The production has no name; of SE(*) and AT(*): the event's name is written (EXI 7.1.7).
unfoldable pub is_wildcard : Option (QName Placed) → Bool
is_wildcard none = true
is_wildcard (some q) = false

-- A production with a name fits events of that name alone.
unfoldable pub fits_name : Option (QName Placed) → Option (QName Text) → Bool
fits_name none n = true
fits_name (some q) none = false
fits_name (some q) (some p) = eq_name (name_text q) p

-- A production fits an event of its kind, and of its name where it has one (EXI 8.1).
unfoldable pub fits : Production → Event Text → Bool
fits p e = eqb (kind_number p.kind) (kind_number (kind_of e)) && fits_name p.qname (name_of e)

-- ---- states: the grammars' left-hand sides (EXI 8.4: Document or Fragment, DocContent, DocEnd,
-- FragmentContent, StartTagContent, ElementContent), and the end. The two of an element's grammar
-- hold its name and those of the elements around it, the innermost first
pub data State : Type 0 where
  document doc_content doc_end fragment_content finished : State
  start_tag element_content : QName Text → List (QName Text) → State

-- The open elements, the innermost first (scope, "Sizes").
unfoldable pub open_elements : State → List (QName Text)
open_elements document = []
open_elements doc_content = []
open_elements doc_end = []
open_elements fragment_content = []
open_elements finished = []
open_elements (start_tag q outer) = q ∷ outer
open_elements (element_content q outer) = q ∷ outer

-- ---- learned productions

-- Where productions are learned: in an element's start tag, in its content (EXI 8.4.3), and in the
-- content of a fragment (EXI 8.4.2).
pub data Site : Type 0 where
  tag_of content_of : QName Text → Site
  fragment : Site

-- An element of one name has one grammar, wherever it stands (EXI 8.4.3).
unfoldable pub eq_site : Site → Site → Bool
eq_site (tag_of p) (tag_of q) = eq_name p q
eq_site (tag_of p) (content_of q) = false
eq_site (tag_of p) fragment = false
eq_site (content_of p) (tag_of q) = false
eq_site (content_of p) (content_of q) = eq_name p q
eq_site (content_of p) fragment = false
eq_site fragment (tag_of q) = false
eq_site fragment (content_of q) = false
eq_site fragment fragment = true

-- The two states of an element's grammar learn (EXI 8.4.3), and the content of a fragment (EXI
-- 8.4.2); document content learns nothing (scope, "Grammars").
unfoldable pub site_of : State → Option Site
site_of document = none
site_of doc_content = none
site_of doc_end = none
site_of fragment_content = some fragment
site_of finished = none
site_of (start_tag q outer) = some (tag_of q)
site_of (element_content q outer) = some (content_of q)

-- A learned production, and where it was learned.
pub record Learned : Type 0 where
  pub site : Site
  pub production : Production

-- Those of one site, in the order of the list.
unfoldable pub learned_in : Site → List Learned → List Production
learned_in k [] = []
learned_in k (x ∷ xs) = cond (eq_site k x.site) (x.production ∷ learned_in k xs) (learned_in k xs)

-- What is learned at a site, the newest first: it has code 0, and raised the others (EXI 8.4.3).
unfoldable pub learned_at : Option Site → List Learned → List Production
learned_at none ls = []
learned_at (some k) ls = learned_in k ls

-- ---- event codes (EXI 6.2, 8.2). The productions of a state stand in levels: a code of one part
-- for each production of the first level, of two parts for each of the second, and so on. The value
-- after a level's productions leads to the next level, where one has productions

-- Comments and instructions, as kept: the others of their level close up (EXI 8.3).
unfoldable pub kept : Settings → List Production
kept s = cond s.comments (unnamed CM ∷ []) [] ++ cond s.instructions (unnamed PI ∷ []) []

-- The productions of a state where these are learned, level by level of their codes (EXI 8.4;
-- scope, "Grammars": the table of codes; P1). The newest learned one is first.
unfoldable pub levels_with : Settings → List Production → State → List (List Production)
levels_with s ls document = (unnamed SD ∷ []) ∷ []
levels_with s ls doc_content = (unnamed SE ∷ []) ∷ kept s ∷ []
levels_with s ls doc_end = (unnamed ED ∷ []) ∷ kept s ∷ []
levels_with s ls fragment_content = (ls ++ (unnamed SE ∷ unnamed ED ∷ [])) ∷ kept s ∷ []
levels_with s ls finished = []
levels_with s ls (start_tag q outer) =
    ls ∷ (unnamed EE ∷ unnamed AT ∷ unnamed SE ∷ unnamed CH ∷ []) ∷ kept s ∷ []
levels_with s ls (element_content q outer) =
    (ls ++ (unnamed EE ∷ [])) ∷ (unnamed SE ∷ unnamed CH ∷ []) ∷ kept s ∷ []

-- The productions of a state, with what is learned there.
unfoldable pub levels : Settings → List Learned → State → List (List Production)
levels s ls st = levels_with s (learned_at (site_of st) ls) st

-- No level has a production.
unfoldable pub all_empty : List (List Production) → Bool
all_empty [] = true
all_empty ([] ∷ ls) = all_empty ls
all_empty ((p ∷ ps) ∷ ls) = false

-- What the values of a part name (EXI 6.2): a production of its level or, where later levels (ls)
-- have any, the next level.
unfoldable pub choices : List Production → List (List Production) → List (Option Production)
choices l ls = map some l ++ cond (all_empty ls) [] (none ∷ [])

-- An event code, as its parts, and the production that has it (EXI 6.2).
pub record Code : Type 0 where
  pub parts : List ℕ
  pub production : Production

-- A code of one part.
unfoldable pub at_level : ℕ → Production → Code
at_level v p = record { parts = v ∷ []; production = p }

-- A code of the next level, under the value v that leads there.
unfoldable pub below : ℕ → Code → Code
below v c = record { parts = v ∷ c.parts; production = c.production }

-- Each part is a choice among the values that it can take (EXI 6.2).
unfoldable pub code_bits : Alignment → List (List Production) → List ℕ → Bits
code_bits a [] vs = []
code_bits a (l ∷ ls) [] = []
code_bits a (l ∷ ls) (v ∷ vs) = choice_bits a (length (choices l ls)) v ++ code_bits a ls vs

-- The number among one more.
unfoldable pub raised : ℕ × Production → ℕ × Production
raised x = (suc x.0, x.1)

-- The first production of a level that fits, with its number there.
unfoldable pub first_fit : List Production → Event Text → Option (ℕ × Production)
first_fit [] e = none
first_fit (p ∷ ps) e =
    let later = Option·map raised (first_fit ps e) in cond (fits p e) (some (0, p)) later

-- The code of a production that was found, or else another.
unfoldable pub code_or : Option (ℕ × Production) → Option Code → Option Code
code_or none c = c
code_or (some x) c = some (at_level x.0 x.1)

-- The code of an event in the strict form of a list (scope, "Grammars"): a learned production where
-- one fits. None where no production fits.
unfoldable pub code_of : List (List Production) → Event Text → Option Code
code_of [] e = none
code_of (l ∷ ls) e =
    let later = Option·map (below (length l)) (code_of ls e) in code_or (first_fit l e) later

-- Whether these parts are the code's. (Parts are numbers, as code points are, and compared alike.)
unfoldable pub same_code : List ℕ → Option Code → Bool
same_code vs none = false
same_code vs (some x) = eq_text vs x.parts

-- ---- what an event leaves in the grammars

-- A production of this kind is among these.
unfoldable pub has_kind : Kind → List Production → Bool
has_kind k [] = false
has_kind k (p ∷ ps) = eqb (kind_number k) (kind_number p.kind) || has_kind k ps

-- Which kinds of event with this code put a production at 0 and raise the first part of the others,
-- where these are learned (EXI 8.4.2, 8.4.3): SE(*) and AT(*) do; CH and EE with a code of two
-- parts, if theirs of one part does not exist yet. (That condition holds wherever it is asked, as
-- yet: where a production of one part exists, a code of two parts is LOOSE.)
unfoldable pub teaches : List Production → Code → Kind → Bool
teaches ls x SD = false
teaches ls x ED = false
teaches ls x SE = is_wildcard x.production.qname
teaches ls x AT = is_wildcard x.production.qname
teaches ls x EE = eqb (length x.parts) 2 && not (has_kind EE ls)
teaches ls x CH = eqb (length x.parts) 2 && not (has_kind CH ls)
teaches ls x CM = false
teaches ls x PI = false

-- The production that an event of this kind, whose name lies there, teaches, if any.
unfoldable pub taught :
    List Production → Code → Kind → Option (QName Placed) → Option Production
taught ls x k q = cond (teaches ls x k) (some (record { kind = k; qname = q })) none

-- A production is learned at a site: the newest is first (EXI 8.4.2, 8.4.3).
unfoldable pub learn : Option Site → Option Production → List Learned → List Learned
learn none p ls = ls
learn (some k) none ls = ls
learn (some k) (some p) ls = record { site = k; production = p } ∷ ls

-- A name is among these.
unfoldable pub has_name : List (QName Text) → QName Text → Bool
has_name [] q = false
has_name (p ∷ ps) q = eq_name p q || has_name ps q

-- An element of a new name has a new grammar (EXI 8.4.3).
unfoldable pub with_grammar : List (QName Text) → Option (QName Text) → List (QName Text)
with_grammar gs none = gs
with_grammar gs (some q) = cond (has_name gs q) gs (gs ++ (q ∷ []))

-- One element grammar for each element name (scope, "Grammars").
unfoldable pub grammars_after : List (QName Text) → Event Text → List (QName Text)
grammars_after gs e =
    cond (eqb (kind_number (kind_of e)) (kind_number SE)) (with_grammar gs (name_of e)) gs

-- A start tag's content begins; in other states nothing changes (EXI 8.4).
unfoldable pub in_content : State → State
in_content document = document
in_content doc_content = doc_content
in_content doc_end = doc_end
in_content fragment_content = fragment_content
in_content finished = finished
in_content (start_tag q outer) = element_content q outer
in_content (element_content q outer) = element_content q outer

-- Where no element is open any more: at the end of the document (EXI 8.4.1), or in the content of
-- the fragment (EXI 8.4.2).
unfoldable pub outermost : Settings → State
outermost s = cond s.fragment fragment_content doc_end

-- The innermost of the open elements ends. The first clause is not reached: an end element closes
-- an open one.
unfoldable pub closed : Settings → List (QName Text) → State
closed s [] = outermost s
closed s (q ∷ []) = outermost s
closed s (q ∷ p ∷ outer) = element_content p outer

-- Where each event leads (EXI 8.4; scope, "Grammars": "AT leads to the start tag state, SE, CH, CM
-- and PI to element content"; SE first to the child's).
unfoldable pub state_after : Settings → State → Event Text → State
state_after s st start_document = cond s.fragment fragment_content doc_content
state_after s st end_document = finished
state_after s st end_element = closed s (open_elements st)
state_after s st (start_element q) = start_tag q (open_elements st)
state_after s st (attribute q v) = st
state_after s st (characters v) = in_content st
state_after s st (comment x) = in_content st
state_after s st (instruction x y) = in_content st

-- ---- the start tag that is open (P3, "Equal attributes")

-- What has come in it.
pub record Tag : Type 0 where
  -- the names of its attributes, by their texts, the newest first
  pub attributes : List (QName Text)

-- Nothing has after a start element, and where no start tag is open.
unfoldable pub empty_tag : Tag
empty_tag = record { attributes = [] }

-- The event is an attribute.
unfoldable pub is_attribute : Event Text → Bool
is_attribute e = eqb (kind_number (kind_of e)) (kind_number AT)

-- The name of an attribute; other events have none.
unfoldable pub attribute_name : Event Text → Option (QName Text)
attribute_name e = cond (is_attribute e) (name_of e) none

-- The tag with one attribute more. Any other event ends it, or begins another.
unfoldable pub with_attribute : Tag → Option (QName Text) → Tag
with_attribute t none = empty_tag
with_attribute t (some q) = record { attributes = q ∷ t.attributes }

-- What an event leaves of it.
unfoldable pub tag_after : Tag → Event Text → Tag
tag_after t e = with_attribute t (attribute_name e)

-- The name, if there is one, is not among these.
unfoldable pub is_new : List (QName Text) → Option (QName Text) → Bool
is_new qs none = true
is_new qs (some q) = not (has_name qs q)

-- The event is no second attribute of one name in the tag; else SHAPE (P3).
unfoldable pub tag_allows : Tag → Event Text → Bool
tag_allows t e = is_new t.attributes (attribute_name e)

-- The end document has come (EXI 6: nothing is coded after it).
unfoldable pub is_finished : State → Bool
is_finished document = false
is_finished doc_content = false
is_finished doc_end = false
is_finished fragment_content = false
is_finished finished = true
is_finished (start_tag q outer) = false
is_finished (element_content q outer) = false
