-- Equal attributes (P3): the rule for lists (Lists.antt) is the test by the start tag that is open
-- (Grammar.antt), event by event; it says that no two attributes of one start tag have one name.
use mathlib.Core.Path.{◌≡◌, refl, sym, ◌∙◌, ap, subst}
use mathlib.Core.Logic.{◌↔◌}
use mathlib.Core.Bool.{Bool, true, false, ◌&&◌, ◌||◌, not}
use mathlib.Core.List.{List, [], ◌∷◌, ◌++◌}
use mathlib.Core.Option.{Option, none, some, none-ne-some}
use lib.Dec.{T}
use borrow.Author.Tests.{eq-eqb, ne_eqb}
use Rattle.spec_fields.proofs.Tests.{T-is, is_t, both, left, right, split}
use Rattle.text.specs.Text.{Text}
use Rattle.spec_exi.specs.Event.{QName, Event, start_document, end_document, end_element}
use Rattle.spec_exi.specs.Event.{start_element, attribute, characters, comment, instruction}
use Rattle.spec_exi.specs.Event.{AT, kind_of, name_of, eq_name}
use Rattle.spec_exi.specs.Settings.{Settings}
use Rattle.spec_exi.specs.Grammar.{kind_number, has_name, Tag, empty_tag, is_attribute}
use Rattle.spec_exi.specs.Grammar.{attribute_name, with_attribute, tag_after, is_new, tag_allows}
use Rattle.spec_exi.specs.Lists.{every, in_front, attributes_first, attributes_differ}
use Rattle.spec_exi.specs.Lists.{EqualAttributes, BaseWellFormed, WellFormed}
use Rattle.spec_exi.proofs.Codes.{eq_name-refl, eq_name-eq}

-- ---- one event

module _ (t : Tag) (e : Event Text) where
  -- An attribute is one more in the start tag, and allowed where its name is new there.
  pub tag-attribute : kind_number (kind_of e) ≡ kind_number AT → (q : QName Text) → name_of e ≡ some q
      → (tag_after t e ≡ record { attributes = q ∷ t.attributes })
      × (tag_allows t e ≡ not (has_name t.attributes q))
  unfolding tag_after with_attribute tag_allows is_new attribute_name is_attribute
  tag-attribute k q n =
      let is = eq-eqb (kind_number (kind_of e)) (kind_number AT) k in (rw (is, n), rw (is, n))

  -- Any other event leaves none, and is allowed.
  pub tag-other : (kind_number (kind_of e) ≡ kind_number AT → ⊥)
      → (tag_after t e ≡ empty_tag) × (tag_allows t e ≡ true)
  unfolding tag_after with_attribute tag_allows is_new attribute_name is_attribute
  tag-other k = let is = ne_eqb (kind_number (kind_of e)) (kind_number AT) k in (rw is, rw is)

-- ---- the rule for lists is the test by the start tag

-- Each event passes it, in the start tag that those before it leave.
unfoldable pub tags_allow : Tag → List (Event Text) → Bool
tags_allow t [] = true
tags_allow t (e ∷ l) = tag_allows t e && tags_allow (tag_after t e) l

eq_name-sym : (p q : QName Text) → eq_name p q ≡ eq_name q p
eq_name-sym p q = go (eq_name p q) (eq_name q p) (turned p q) (turned q p)
  where
    turned : (p q : QName Text) → T (eq_name p q) → T (eq_name q p)
    turned p q t = subst (λ n. T (eq_name n p)) (eq_name-eq p q t) (eq_name-refl p)

    go : (a b : Bool) → (T a → T b) → (T b → T a) → a ≡ b
    go true b f g = sym (T-is b (f tt))
    go false true f g = absurd (g tt)
    go false false f g = refl

-- None of qs is among ps.
apart : List (QName Text) → List (QName Text) → Bool
apart ps qs = every (λ q. not (has_name ps q)) qs

apart_none : (qs : List (QName Text)) → apart [] qs ≡ true
unfolding apart every has_name
apart_none [] = refl
apart_none (q ∷ qs) = apart_none qs

apart_more : (p : QName Text) (ps qs : List (QName Text))
    → apart (p ∷ ps) qs ≡ (not (has_name qs p) && apart ps qs)
unfolding apart every has_name
apart_more p ps [] = refl
apart_more p ps (q ∷ qs) =
    rw (apart_more p ps qs, eq_name-sym q p)
    (go (eq_name p q) (has_name ps q) (has_name qs p) (apart ps qs))
  where
    go : (x y u w : Bool) → (not (x || y) && (not u && w)) ≡ (not (x || u) && (not y && w))
    go true y u w = refl
    go false true true w = refl
    go false true false w = refl
    go false false true w = refl
    go false false false w = refl

-- From any start tag on: none of its names comes again in it.
unfoldable from_tag : List (QName Text) → List (Event Text) → Bool
from_tag qs l = apart qs (attributes_first l) && attributes_differ l

from-none : (l : List (Event Text)) → from_tag [] l ≡ attributes_differ l
unfolding from_tag
from-none l = rw (apart_none (attributes_first l))

tags-from : (t : Tag) (l : List (Event Text)) → tags_allow t l ≡ from_tag t.attributes l
unfolding tags_allow tag_allows tag_after with_attribute is_new empty_tag from_tag apart every in_front
    attributes_first attributes_differ
tags-from t [] = refl
tags-from t (e ∷ l) = go (attribute_name e) (λ u. tags-from u l)
  where
    turn : (a b c d : Bool) → (a && ((b && c) && d)) ≡ ((a && c) && (b && d))
    turn false b c d = refl
    turn true true c d = refl
    turn true false true d = refl
    turn true false false d = refl

    go : (o : Option (QName Text)) → ((u : Tag) → tags_allow u l ≡ from_tag u.attributes l)
        → (is_new t.attributes o && tags_allow (with_attribute t o) l)
        ≡ (apart t.attributes (in_front o (attributes_first l))
        && (is_new (attributes_first l) o && attributes_differ l))
    go none later = later empty_tag ∙ from-none l
    go (some q) later =
        rw (later (with_attribute t (some q)), apart_more q t.attributes (attributes_first l))
        (turn (not (has_name t.attributes q)) (not (has_name (attributes_first l) q))
        (apart t.attributes (attributes_first l)) (attributes_differ l))

-- Of a whole list.
pub tags-differ : (l : List (Event Text)) → tags_allow empty_tag l ≡ attributes_differ l
unfolding empty_tag
tags-differ l = tags-from empty_tag l ∙ from-none l

-- ---- it says that no two attributes of one start tag have one name

-- An attribute, by its name.
attribute-is : (e : Event Text) (q : QName Text) → attribute_name e ≡ some q
    → (v : Text) × (e ≡ attribute q v)
unfolding attribute_name is_attribute kind_of name_of kind_number
attribute-is start_document q h = absurd (none-ne-some q h)
attribute-is end_document q h = absurd (none-ne-some q h)
attribute-is end_element q h = absurd (none-ne-some q h)
attribute-is (start_element p) q h = absurd (none-ne-some q h)
attribute-is (attribute p v) q h = (v, cc)
attribute-is (characters v) q h = absurd (none-ne-some q h)
attribute-is (comment x) q h = absurd (none-ne-some q h)
attribute-is (instruction x y) q h = absurd (none-ne-some q h)

is-attribute : (e : Event Text) (q : QName Text) → attribute_name e ≡ some q → T (is_attribute e)
unfolding is_attribute kind_of kind_number
is-attribute e q h = let (v, is) = attribute-is e q h in rw is tt

-- Each has a name.
attribute-named : (e : Event Text) → T (is_attribute e)
    → (q : QName Text) × (attribute_name e ≡ some q)
unfolding attribute_name is_attribute kind_of name_of kind_number
attribute-named start_document t = absurd t
attribute-named end_document t = absurd t
attribute-named end_element t = absurd t
attribute-named (start_element p) t = absurd t
attribute-named (attribute p v) t = (p, refl)
attribute-named (characters v) t = absurd t
attribute-named (comment x) t = absurd t
attribute-named (instruction x y) t = absurd t

-- An attribute behind attributes alone is among those that the list begins with.
among_first : (between behind : List (Event Text)) (q : QName Text) (v : Text)
    → T (every is_attribute between)
    → T (has_name (attributes_first (between ++ attribute q v ∷ behind)) q)
unfolding attributes_first in_front has_name attribute_name is_attribute kind_of name_of kind_number every
among_first [] behind q v t = rw (T-is (eq_name q q) (eq_name-refl q)) tt
among_first (e ∷ between) behind q v t =
    let (p, h) = attribute-named e (left (is_attribute e) (every is_attribute between) t) in
    rw h (go (eq_name p q) _
    (among_first between behind q v (right (is_attribute e) (every is_attribute between) t)))
  where
    go : (a b : Bool) → T b → T (a || b)
    go true b t = tt
    go false b t = t

-- Two equal attributes fail the rule.
equal-fails : (before between behind : List (Event Text)) (q : QName Text) (v w : Text)
    → T (every is_attribute between)
    → T (attributes_differ (before ++ attribute q v ∷ (between ++ attribute q w ∷ behind))) → ⊥
unfolding attributes_differ is_new attribute_name is_attribute kind_of name_of kind_number
equal-fails [] between behind q v w t d =
    let m = between ++ attribute q w ∷ behind in
    go (has_name (attributes_first m) q) (attributes_differ m) (among_first between behind q w t) d
  where
    go : (a b : Bool) → T a → T (not a && b) → ⊥
    go true b t d = d
    go false b t d = t
equal-fails (e ∷ before) between behind q v w t d =
    let m = before ++ attribute q v ∷ (between ++ attribute q w ∷ behind) in
    let later = right (is_new (attributes_first m) (attribute_name e)) (attributes_differ m) d in
    equal-fails before between behind q v w t later

-- A name among those that the list begins with is that of an attribute there.
record Found (q : QName Text) (l : List (Event Text)) : Type 0 where
  between : List (Event Text)
  behind : List (Event Text)
  value : Text
  is : l ≡ between ++ attribute q value ∷ behind
  one_tag : T (every is_attribute between)

found_first : (q : QName Text) (l : List (Event Text)) → T (has_name (attributes_first l) q)
    → Found q l
unfolding attributes_first in_front has_name every
found_first q [] t = absurd t
found_first q (e ∷ l) t = go (attribute_name e) refl (λ u. found_first q l u) t
  where
    this : (p : QName Text) → attribute_name e ≡ some p → p ≡ q → Found q (e ∷ l)
    this p h same =
        let (v, is) = attribute-is e p h in
        record {
          between = [];
          behind = l;
          value = v;
          is = ap (λ x. x ∷ l) (is ∙ ap (λ n. attribute n v) same);
          one_tag = tt;
        }

    beyond : T (is_attribute e) → Found q l → Found q (e ∷ l)
    beyond t f =
        record {
          between = e ∷ f.between;
          behind = f.behind;
          value = f.value;
          is = ap (λ m. e ∷ m) f.is;
          one_tag = both (is_attribute e) (every is_attribute f.between) t f.one_tag;
        }

    go : (o : Option (QName Text)) → attribute_name e ≡ o
        → (T (has_name (attributes_first l) q) → Found q l)
        → T (has_name (in_front o (attributes_first l)) q) → Found q (e ∷ l)
    go none h later t = absurd t
    go (some p) h later t =
        split (eq_name p q)
        (λ b. this p h (eq_name-eq p q (is_t (eq_name p q) b)))
        (λ b. beyond (is-attribute e p h) (later (rw b at t)))

-- An attribute that is not new stands before an equal one.
equal-first : (e : Event Text) (l : List (Event Text))
    → is_new (attributes_first l) (attribute_name e) ≡ false → EqualAttributes (e ∷ l)
unfolding is_new
equal-first e l f = go (attribute_name e) refl f
  where
    among : (b : Bool) → not b ≡ false → T b
    among true h = tt
    among false h = subst T h tt

    go : (o : Option (QName Text)) → attribute_name e ≡ o → is_new (attributes_first l) o ≡ false
        → EqualAttributes (e ∷ l)
    go none h f = absurd (subst T f tt)
    go (some q) h f =
        let (v, is) = attribute-is e q h in
        let x = found_first q l (among (has_name (attributes_first l) q) f) in
        record {
          before = [];
          between = x.between;
          behind = x.behind;
          name = q;
          values = (v, x.value);
          is = cc (is, x.is);
          one_tag = x.one_tag;
        }

equal-later : (e : Event Text) (l : List (Event Text)) → EqualAttributes l
    → EqualAttributes (e ∷ l)
equal-later e l x =
    record {
      before = e ∷ x.before;
      between = x.between;
      behind = x.behind;
      name = x.name;
      values = x.values;
      is = ap (λ m. e ∷ m) x.is;
      one_tag = x.one_tag;
    }

none_differ : (l : List (Event Text)) → (EqualAttributes l → ⊥) → T (attributes_differ l)
unfolding attributes_differ
none_differ [] f = tt
none_differ (e ∷ l) f =
    split (is_new (attributes_first l) (attribute_name e))
    (λ t. rw t (none_differ l (λ x. f (equal-later e l x))))
    (λ t. absurd (f (equal-first e l t)))

-- The rule holds just where no two attributes of one start tag have one name.
pub differ-exactly : (l : List (Event Text)) → T (attributes_differ l) ↔ (EqualAttributes l → ⊥)
differ-exactly l = (
  λ d x. equal-fails x.before x.between x.behind x.name x.values.0 x.values.1
      x.one_tag (subst (λ m. T (attributes_differ m)) x.is d),
  none_differ l,
)

-- A list is well-formed just where it was so before P3, and no two attributes of one start tag have
-- one name.
pub formed-exactly : (s : Settings) (l : List (Event Text))
    → WellFormed s l ↔ (BaseWellFormed s l × (EqualAttributes l → ⊥))
formed-exactly s l = (
  λ w. (w.base, (differ-exactly l).0 w.attributes),
  λ h. record { base = h.0; attributes = (differ-exactly l).1 h.1 },
)
