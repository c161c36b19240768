-- The lists that fit (Fit.antt) are those with a document's shape, lawful strings and a strict form
-- that stays within the sizes (Lists.antt). Event by event, through the contexts of the strict
-- form; what holds of these is `Sound`.
use Prim.Native.Nat.{ℕ, ◌+◌, ◌-◌}
use native.Mathlib.Omega.{arith}
use mathlib.Core.Path.{◌≡◌, refl}
use mathlib.Core.Bool.{Bool, true, false, cond, and-true}
use mathlib.Core.List.{List, [], ◌∷◌, ◌++◌}
use mathlib.Core.Option.{Option, none, some}
use lib.ListN.{length, length-append}
use lib.Dec.{T, leb, leb→le, le→leb}
use Rattle.spec_fields.proofs.Tests.{both, left, right}
use Rattle.text.specs.Text.{Text, text, all_chars}
use Rattle.spec_exi.specs.Sizes.{sizes, max_values}
use Rattle.spec_exi.specs.Event.{Event, start_document, end_document, end_element, start_element}
use Rattle.spec_exi.specs.Event.{attribute, characters, comment, instruction, strings_of}
use Rattle.spec_exi.specs.Settings.{Settings}
use Rattle.spec_exi.specs.Tables.{Tables, Form, hit, literal, partitions_of, form_of, added}
use Rattle.spec_exi.specs.Tables.{replaced, gone, new_value, with_values, laid, tables_after, name_allowed}
use Rattle.spec_exi.specs.Tables.{text_allowed}
use Rattle.spec_exi.specs.Grammar.{Production, State, document, doc_content, doc_end, finished}
use Rattle.spec_exi.specs.Grammar.{fragment_content}
use Rattle.spec_exi.specs.Grammar.{start_tag, element_content, Code, code_of, state_after}
use Rattle.spec_exi.specs.Grammar.{tag_after, tag_allows}
use Rattle.spec_exi.specs.Context.{Context, start, levels_in, Item, item, character_role}
use Rattle.spec_exi.specs.Context.{name_items, items, after_item, after_items, after, after_code}
use Rattle.spec_exi.specs.Context.{next}
use Rattle.spec_exi.specs.Lists.{every, names_allowed, texts_allowed, chars_only, WellFormed}
use Rattle.spec_exi.specs.Lists.{within_tables, within, stays_within, short, short_strings}
use Rattle.spec_exi.proofs.Step.{sane-start}
use Rattle.spec_exi.proofs.Fit.{ItemsFit, EventFit, ListFit, done, also}
use Rattle.spec_exi.proofs.Shape.{allowed, Run, stop, go, run-of-document, document-of-run}
use Rattle.spec_exi.proofs.Attributes.{tags_allow, tags-differ}
use Rattle.spec_exi.proofs.Codes.{LearnedOk, learned-ok-start, learned-ok-after}
use Rattle.spec_exi.proofs.Codes.{code-of-allowed, allowed-of-code}

-- ---- tables grow: what is within the sizes after a string was so before

prefix-fits : {A : Type 0} (l m : List A) (n : ℕ) → T (leb (length (l ++ m)) n) → T (leb (length l) n)
prefix-fits l m n t = omega (arith, leb→le, le→leb, length-append l m)

values-fit : (c : Option ℕ) (a m n : ℕ) → T (leb ((a + m) - replaced c (a + m)) n) → T (leb (a - replaced c a) n)
unfolding replaced
values-fit none a m n t = le→leb (a - 0) n (omega (arith, leb→le ((a + m) - 0) n t))
values-fit (some c) a m n t = le→leb (a - (a - c)) n (omega (arith, leb→le ((a + m) - ((a + m) - c)) n t))

room-before : (t : Tables) (i : Item) → T (within_tables sizes (after_item t i)) → T (within_tables sizes t)
unfolding after_item tables_after added with_values within_tables gone
room-before t i h = before i.written (form_of (partitions_of t i.role) i.text) h
  where
    before : (b : Bool) (f : Form) → T (within_tables sizes (cond b (tables_after t i.role f i.text) t))
        → T (within_tables sizes t)
    before false f h = h
    before true (hit j k) h = h
    before true literal h =
        let old = t.values.added in
        let new = new_value t.values i.role (laid t i.text) in
        let l = length-append old new in
        let values : T (leb (length (old ++ new) - replaced t.values.capacity (length (old ++ new))) max_values) =
        search (left, right) in
        let less : T (leb (length old - replaced t.values.capacity (length old)) max_values)
        = values-fit t.values.capacity (length old) (length new) max_values (rw l at values) in
        search (both, left, right, prefix-fits)

room-before-all : (t : Tables) (is : List Item) → T (within_tables sizes (after_items t is)) → T (within_tables sizes t)
unfolding after_items
room-before-all t [] h = h
room-before-all t (i ∷ is) h = room-before t i (room-before-all (after_item t i) is h)

-- ---- the strings of an event

-- What they have to meet, taken together.
record StringsFit (t : Tables) (is : List Item) : Type 0 where
  chars : T (every (λ i. all_chars i.text) is)
  small : T (every (λ i. short sizes i.text) is)
  clean : T (every (λ i. text_allowed i.role i.text) is)
  named : T (every (λ i. name_allowed i.role i.text) is)
  room : T (within_tables sizes (after_items t is))

items-of-strings : (t : Tables) (is : List Item) → StringsFit t is → ItemsFit t is
unfolding every after_items
items-of-strings t [] h = tt
items-of-strings t (i ∷ is) h =
    (search (left, room-before-all (after_item t i) is h.room), items-of-strings (after_item t i) is (search right))

strings-of-items : (t : Tables) (is : List Item) → T (within_tables sizes t) → ItemsFit t is → StringsFit t is
unfolding every after_items
strings-of-items t [] r h = record { chars = tt; small = tt; clean = tt; named = tt; room = r }
strings-of-items t (i ∷ is) r h = let later = strings-of-items (after_item t i) is h.0.room h.1 in search both

-- An event's items hold its strings, in their order.
strings-are : (f : Text → Bool) (st : State) (p : Production) (e : Event Text)
    → every (λ i. f i.text) (items st p e) ≡ every f (strings_of e)
unfolding every items name_items item strings_of
strings-are f st p =
    elim [
      | start_document ↦ refl
      | end_document ↦ refl
      | end_element ↦ refl
      | start_element q ↦ refl
      | attribute q v ↦ refl
      | characters v ↦ refl
      | comment x ↦ refl
      | instruction x y ↦ refl
    ]

value-lawful : (st : State) (v : Text) → name_allowed (character_role st) v ≡ true
unfolding name_allowed character_role
value-lawful st v =
    elim st as (λ st. name_allowed (character_role st) v ≡ true) [
      | document ↦ refl
      | doc_content ↦ refl
      | doc_end ↦ refl
      | fragment_content ↦ refl
      | finished ↦ refl
      | start_tag q outer ↦ refl
      | element_content q outer ↦ refl
    ]

-- Of its items only names and targets can be unlawful.
names-are : (st : State) (p : Production) (e : Event Text)
    → every (λ i. name_allowed i.role i.text) (items st p e) ≡ names_allowed e
unfolding every items name_items item name_allowed names_allowed
names-are st p =
    elim [
      | start_document ↦ refl
      | end_document ↦ refl
      | end_element ↦ refl
      | start_element q ↦ and-true _
      | attribute q v ↦ and-true _
      | characters v ↦ rw (value-lawful st v)
      | comment x ↦ refl
      | instruction x y ↦ and-true _
    ]

text-lawful : (st : State) (v : Text) → text_allowed (character_role st) v ≡ true
unfolding text_allowed character_role
text-lawful document v = refl
text-lawful doc_content v = refl
text-lawful doc_end v = refl
text-lawful fragment_content v = refl
text-lawful finished v = refl
text-lawful (start_tag q outer) v = refl
text-lawful (element_content q outer) v = refl

-- Of its items only a comment and an instruction's text can be unclean.
texts-are : (st : State) (p : Production) (e : Event Text)
    → every (λ i. text_allowed i.role i.text) (items st p e) ≡ texts_allowed e
unfolding every items name_items item text_allowed texts_allowed
texts-are st p =
    elim [
      | start_document ↦ refl
      | end_document ↦ refl
      | end_element ↦ refl
      | start_element q ↦ refl
      | attribute q v ↦ refl
      | characters v ↦ rw (text-lawful st v)
      | comment x ↦ and-true _
      | instruction x y ↦ and-true _
    ]

-- ---- one event

-- What holds of every context that a list that fits goes through.
pub record Sound (s : Settings) (c : Context) : Type 0 where
  pub room : T (within_tables sizes c.tables)
  pub learned : LearnedOk s c.learned

sound-start : (s : Settings) → Sound s (start s)
unfolding start
sound-start s = record { room = (sane-start s).room; learned = learned-ok-start s }

-- What the scope asks of an event that comes next.
record Meet (s : Settings) (c : Context) (e : Event Text) : Type 0 where
  shape : T (allowed s c.state e)
  chars : T (chars_only e)
  names : T (names_allowed e)
  texts : T (texts_allowed e)
  tag : T (tag_allows c.tag e)
  strings : T (short_strings sizes e)
  sizes : T (within sizes (next s c e))

module _ (s : Settings) (c : Context) (e : Event Text) where
  next-is : (x : Code) → code_of (levels_in s c) e ≡ some x → next s c e ≡ after_code s c (some x) e
  unfolding next
  next-is x h = rw h

  fit-of-meet : Meet s c e → EventFit s c e
  unfolding levels_in chars_only short_strings within after_code after
  fit-of-meet m =
      let (x, h) = code-of-allowed s c.learned c.state e m.shape in
      let room : T (within_tables sizes (next s c e).tables) = search left in
      record {
        code = x;
        coded = h;
        strings = items-of-strings c.tables (items c.state x.production e) (record {
          chars = rw (strings-are all_chars) m.chars;
          small = rw (strings-are (short sizes)) m.strings;
          clean = rw texts-are m.texts;
          named = rw names-are m.names;
          room = rw (next-is x h) at room;
        });
        tag = m.tag;
        grammars = search right;
      }

  module _ (f : EventFit s c e) where
    state-next : (next s c e).state ≡ state_after s c.state e
    unfolding after_code after
    state-next = rw (next-is f.code f.coded)

    tag-next : (next s c e).tag ≡ tag_after c.tag e
    unfolding after_code after
    tag-next = rw (next-is f.code f.coded)

    module _ (o : Sound s c) where
      strings-fit : StringsFit c.tables (items c.state f.code.production e)
      strings-fit = strings-of-items _ _ o.room f.strings

      shape-fits : T (allowed s c.state e)
      unfolding levels_in
      shape-fits = allowed-of-code s c.learned c.state e f.code o.learned f.coded

      sound-next : Sound s (next s c e)
      unfolding after_code after
      sound-next =
          rw (next-is f.code f.coded) (record {
            room = strings-fit.room;
            learned = learned-ok-after s c.learned c.state f.code e _ shape-fits o.learned;
          })

      meet-of-fit : Meet s c e
      unfolding chars_only short_strings within
      meet-of-fit =
          record {
            shape = shape-fits;
            chars = rw (strings-are all_chars) at strings-fit.chars;
            names = rw names-are at strings-fit.named;
            texts = rw texts-are at strings-fit.clean;
            tag = f.tag;
            strings = rw (strings-are (short sizes)) at strings-fit.small;
            sizes = search (both, sound-next.room);
          }

-- ---- lists

-- What is asked of a good list, but for its numbers of events and octets.
pub record Meets (s : Settings) (l : List (Event Text)) : Type 0 where
  pub formed : WellFormed s l
  pub strings : T (every (short_strings sizes) l)
  pub sizes : T (stays_within sizes s (start s) l)

-- The same from any context on.
record MeetsFrom (s : Settings) (c : Context) (l : List (Event Text)) : Type 0 where
  shape : Run s c.state l
  chars : T (every chars_only l)
  names : T (every names_allowed l)
  texts : T (every texts_allowed l)
  tags : T (tags_allow c.tag l)
  strings : T (every (short_strings sizes) l)
  sizes : T (stays_within sizes s c l)

module _ {s : Settings} where
  run_ends : {st : State} → Run s st [] → st ≡ finished
  run_ends stop = refl

  run-goes : {st : State} {e : Event Text} {l : List (Event Text)} → Run s st (e ∷ l)
      → T (allowed s st e) × Run s (state_after s st e) l
  run-goes (go e t r) = (t, r)

  fit-from : (c : Context) (l : List (Event Text)) → Sound s c → MeetsFrom s c l → ListFit s c l
  unfolding every stays_within tags_allow
  fit-from c [] o m = done (run_ends m.shape)
  fit-from c (e ∷ l) o m =
      let (first, rest) = run-goes m.shape in
      let f = fit-of-meet s c e (search left) in
      also e f (fit-from (next s c e) l (sound-next s c e f o)
      (search (right, state-next s c e f, tag-next s c e f)))

  meets-from : {c : Context} {l : List (Event Text)} → Sound s c → ListFit s c l → MeetsFrom s c l
  unfolding every stays_within tags_allow
  meets-from o (done h) =
      record { shape = rw h stop; chars = tt; names = tt; texts = tt; tags = tt; strings = tt; sizes = tt }
  meets-from {c} o (also e f r) =
      let first = meet-of-fit s c e f o in
      let later = meets-from (sound-next s c e f o) r in
      let shape = go e first.shape (rw (state-next s c e f) at later.shape) in
      search (both, shape, rw (tag-next s c e f) at later.tags)

-- The events of a good list may come one after the other.
pub fit-of-good : (s : Settings) (l : List (Event Text)) → Meets s l → ListFit s (start s) l
unfolding start
fit-of-good s l m =
    let w = m.formed.base in
    fit-from (start s) l (sound-start s) (record {
      shape = run-of-document s l w.shape;
      chars = w.chars;
      names = w.names;
      texts = w.texts;
      tags = rw (tags-differ l) m.formed.attributes;
      strings = m.strings;
      sizes = m.sizes;
    })

-- A list whose events may come one after the other is good.
pub good-of-fit : (s : Settings) (l : List (Event Text)) → ListFit s (start s) l → Meets s l
unfolding start
good-of-fit s l f =
    let m = meets-from (sound-start s) f in
    record {
      formed = record {
        base = record {
          shape = document-of-run s l m.shape;
          chars = m.chars;
          names = m.names;
          texts = m.texts;
        };
        attributes = rw (tags-differ l) at m.tags;
      };
      strings = m.strings;
      sizes = m.sizes;
    }
