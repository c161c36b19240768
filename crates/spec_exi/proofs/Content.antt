-- The content of an event is read exactly: what is read under a production is an event that the
-- production fits, whose strings are fit items; and such an event is read.
use mathlib.Core.Path.{◌≡◌, refl, sym, ◌∙◌, ap, subst, subst⁻¹}
use mathlib.Core.List.{List, [], ◌∷◌, ◌++◌, append_assoc, append-nil}
use mathlib.Core.Bool.{Bool, true, false}
use mathlib.Core.Option.{Option, none, some, map}
use lib.Dec.{T, eqb}
use Rattle.spec_fields.specs.Bits.{Bits}
use Rattle.spec_fields.proofs.Tests.{split, is_t, left, right}
use Rattle.spec_fields.proofs.Exact.{Reads, Returned, Then, Mapped, reads_as, reads-return}
use Rattle.spec_fields.proofs.Exact.{reads_then, reads-map}
use Rattle.text.specs.Text.{Text, eq_text, all_chars}
use Rattle.text.proofs.Equal.{eq_text-eq}
use Rattle.spec_exi.specs.Settings.{Settings}
use Rattle.spec_exi.specs.Sizes.{Sizes, sizes}
use Rattle.spec_exi.specs.Event.{QName, Event, start_document, end_document, end_element}
use Rattle.spec_exi.specs.Event.{start_element, attribute, characters, comment, instruction}
use Rattle.spec_exi.specs.Event.{Kind, SD, ED, SE, AT, EE, CH, CM, PI, map_name, map_event}
use Rattle.spec_exi.specs.Event.{kind_of, name_of}
use Rattle.spec_exi.specs.Tables.{Placed, name_text, event_text, Tables, Role, uri, local}
use Rattle.spec_exi.specs.Tables.{value, target, comment_text, instruction_text, names_of}
use Rattle.spec_exi.specs.Tables.{name_allowed, text_allowed}
use Rattle.spec_exi.specs.Grammar.{Production, State, kind_number, is_wildcard, fits_name, fits}
use Rattle.spec_exi.specs.Context.{Item, item, character_role, name_items, items, after_item}
use Rattle.spec_exi.specs.Context.{after_items, entry_of, entries_of}
use Rattle.spec_exi.specs.Strict.{item_bits, items_bits}
use Rattle.spec_exi.specs.Lists.{short, within_tables}
use Rattle.spec_exi.specs.Reader.{readName, readContent}
use Rattle.spec_exi.proofs.Codes.{eq_name-refl, eq_name-eq, same_kind}
use Rattle.spec_exi.proofs.Fit.{ItemFit, ItemsFit}
use Rattle.spec_exi.proofs.First.{pair-first, value-first}
use Rattle.spec_exi.proofs.Spelling.{same-form}
use Rattle.spec_exi.proofs.Strings.{StringRead, string-reads}
use Rattle.spec_exi.proofs.Entries.{GoodTables, item-good, item-of-read, read-of-item}

-- ---- names

-- A name, carried by a production or written.
pub data NameRead (z : Sizes) (s : Settings) (t : Tables) (attr : Bool) (a : QName Placed × Tables)
    (w : Bits) : Option (QName Placed) → Type 0 where
  carried_name : (q : QName Placed) → a ≡ (q, t) → w ≡ [] → NameRead z s t attr a w (some q)
  written_name : (x y : Placed × Tables) (u v : Bits) → StringRead z s t uri x u
      → StringRead z s x.1 (local attr x.0.text) y v
      → a ≡ (record { uri = x.0; local = y.0 }, y.1) → w ≡ u ++ v → NameRead z s t attr a w none

-- Contents, by kind, with the tables after them.
pub data ContentRead (z : Sizes) (s : Settings) (t : Tables) (st : State) (n : Option (QName Placed))
    (c : Event Placed × Tables) (w : Bits) : Kind → Type 0 where
  an_sd : c ≡ (start_document, t) → w ≡ [] → ContentRead z s t st n c w SD
  an_ed : c ≡ (end_document, t) → w ≡ [] → ContentRead z s t st n c w ED
  an_ee : c ≡ (end_element, t) → w ≡ [] → ContentRead z s t st n c w EE
  an_se : (a : QName Placed × Tables) → NameRead z s t false a w n → c ≡ (start_element a.0, a.1)
      → ContentRead z s t st n c w SE
  an_at : (a : QName Placed × Tables) (x : Placed × Tables) (u v : Bits) → NameRead z s t true a u n
      → StringRead z s a.1 (value (name_text a.0)) x v → c ≡ (attribute a.0 x.0, x.1)
      → w ≡ u ++ v → ContentRead z s t st n c w AT
  a_ch : (x : Placed × Tables) → StringRead z s t (character_role st) x w
      → c ≡ (characters x.0, x.1) → ContentRead z s t st n c w CH
  a_cm : (x : Placed × Tables) → StringRead z s t comment_text x w → c ≡ (comment x.0, x.1)
      → ContentRead z s t st n c w CM
  a_pi : (x y : Placed × Tables) (u v : Bits) → StringRead z s t target x u
      → StringRead z s x.1 instruction_text y v → c ≡ (instruction x.0 y.0, y.1) → w ≡ u ++ v
      → ContentRead z s t st n c w PI

module _ (z : Sizes) (s : Settings) (t : Tables) where
  name-reads : (attr : Bool) (n : Option (QName Placed))
      → Reads (readName z s t attr n) (λ a w. NameRead z s t attr a w n)
  unfolding readName
  name-reads attr (some q) =
      reads_as (reads-return (q, t)) (λ a w h. carried_name q h.is h.empty) from
    where
      from : (a : QName Placed × Tables) (w : Bits) → NameRead z s t attr a w (some q)
          → Returned (q, t) a w
      from a w (carried_name p i e) = record { is = i; empty = e }
  name-reads attr none =
      reads_as
      (reads_then (string-reads z s t uri) (λ x u h.
      reads-map (string-reads z s x.1 (local attr x.0.text)) (named x)))
      (λ a w h.
      written_name h.first h.two.from h.front h.back h.one h.two.by h.two.is h.joined)
      from
    where
      named : Placed × Tables → Placed × Tables → QName Placed × Tables
      named x y = (record { uri = x.0; local = y.0 }, y.1)

      from : (a : QName Placed × Tables) (w : Bits) → NameRead z s t attr a w none
          → Then (StringRead z s t uri)
          (λ x. Mapped (StringRead z s x.1 (local attr x.0.text)) (named x)) a w
      from a w (written_name x y u v h k i j) =
          record { first = x; front = u; back = v; one = h; two = record { from = y; by = k; is = i }; joined = j }

  module _ (st : State) (n : Option (QName Placed)) where
    abbrev Content : Kind → Event Placed × Tables → Bits → Type 0
    Content k c w = ContentRead z s t st n c w k

    -- Reading the content of an event gives exactly what ContentRead says, for any sizes.
    pub content-reads : (k : Kind) → Reads (readContent z s t st k n) (Content k)
    unfolding readContent
    content-reads SD = reads_as (reads-return (start_document, t)) (λ c w h. an_sd h.is h.empty) from
      where
        from : (c : Event Placed × Tables) (w : Bits) → Content SD c w → Returned (start_document, t) c w
        from c w (an_sd i j) = record { is = i; empty = j }
    content-reads ED = reads_as (reads-return (end_document, t)) (λ c w h. an_ed h.is h.empty) from
      where
        from : (c : Event Placed × Tables) (w : Bits) → Content ED c w → Returned (end_document, t) c w
        from c w (an_ed i j) = record { is = i; empty = j }
    content-reads EE = reads_as (reads-return (end_element, t)) (λ c w h. an_ee h.is h.empty) from
      where
        from : (c : Event Placed × Tables) (w : Bits) → Content EE c w → Returned (end_element, t) c w
        from c w (an_ee i j) = record { is = i; empty = j }
    content-reads SE =
        reads_as (reads-map (name-reads false n) (λ a. (start_element a.0, a.1)))
        (λ c w h. an_se h.from h.by h.is) from
      where
        from : (c : Event Placed × Tables) (w : Bits) → Content SE c w
            → Mapped (λ a w. NameRead z s t false a w n) (λ a. (start_element a.0, a.1)) c w
        from c w (an_se a h i) = record { from = a; by = h; is = i }
    content-reads AT =
        reads_as
        (reads_then (name-reads true n) (λ a u h.
        reads-map (string-reads z s a.1 (value (name_text a.0))) (λ x. (attribute a.0 x.0, x.1))))
        (λ c w h. an_at h.first h.two.from h.front h.back h.one h.two.by h.two.is h.joined)
        from
      where
        from : (c : Event Placed × Tables) (w : Bits) → Content AT c w
            → Then (λ a w. NameRead z s t true a w n)
            (λ a. Mapped (StringRead z s a.1 (value (name_text a.0))) (λ x. (attribute a.0 x.0, x.1))) c w
        from c w (an_at a x u v h k i j) =
            record { first = a; front = u; back = v; one = h; two = record { from = x; by = k; is = i }; joined = j }
    content-reads CH =
        reads_as (reads-map (string-reads z s t (character_role st)) (λ x. (characters x.0, x.1)))
        (λ c w h. a_ch h.from h.by h.is) from
      where
        from : (c : Event Placed × Tables) (w : Bits) → Content CH c w
            → Mapped (StringRead z s t (character_role st)) (λ x. (characters x.0, x.1)) c w
        from c w (a_ch x h i) = record { from = x; by = h; is = i }
    content-reads CM =
        reads_as (reads-map (string-reads z s t comment_text) (λ x. (comment x.0, x.1)))
        (λ c w h. a_cm h.from h.by h.is) from
      where
        from : (c : Event Placed × Tables) (w : Bits) → Content CM c w
            → Mapped (StringRead z s t comment_text) (λ x. (comment x.0, x.1)) c w
        from c w (a_cm x h i) = record { from = x; by = h; is = i }
    content-reads PI =
        reads_as
        (reads_then (string-reads z s t target) (λ x u h.
        reads-map (string-reads z s x.1 instruction_text) (λ y. (instruction x.0 y.0, y.1))))
        (λ c w h. a_pi h.first h.two.from h.front h.back h.one h.two.by h.two.is h.joined)
        from
      where
        from : (c : Event Placed × Tables) (w : Bits) → Content PI c w
            → Then (StringRead z s t target)
            (λ x. Mapped (StringRead z s x.1 instruction_text) (λ y. (instruction x.0 y.0, y.1))) c w
        from c w (a_pi x y u v h k i j) =
            record { first = x; front = u; back = v; one = h; two = record { from = y; by = k; is = i }; joined = j }

-- ---- productions that events can have

-- A carried name has passed the tests of a written one.
pub record NameOk (attr : Bool) (q : QName Text) : Type 0 where
  pub uri_chars : T (all_chars q.uri)
  pub uri_small : T (short sizes q.uri)
  pub local_chars : T (all_chars q.local)
  pub local_small : T (short sizes q.local)
  pub named : T (name_allowed (local attr q.uri) q.local)

-- A carried name is good.
abbrev pub NamedOk : Bool → Option (QName Placed) → Type 0
NamedOk attr none = Unit {0}
NamedOk attr (some q) = NameOk attr (name_text q)

-- A production carries a name only where its kind has one, and a good one.
abbrev pub ProductionOk : Kind → Option (QName Placed) → Type 0
ProductionOk SD n = n ≡ none
ProductionOk ED n = n ≡ none
ProductionOk SE n = NamedOk false n
ProductionOk AT n = NamedOk true n
ProductionOk EE n = n ≡ none
ProductionOk CH n = n ≡ none
ProductionOk CM n = n ≡ none
ProductionOk PI n = n ≡ none

-- ---- what is read is fit

-- A name that is looked up has its own text, wherever it lies.
entry-text : (es : List Placed) (x : Text) → (entry_of es x).text ≡ x
unfolding entry_of
entry-text [] x = refl
entry-text (e ∷ es) x =
    split (eq_text e.text x) (λ t. rw t (eq_text-eq e.text x (is_t (eq_text e.text x) t)))
    (λ t. rw t (entry-text es x))

-- The entries of a name have its texts.
pub entries-texts : (t : Tables) (q : QName Text) → name_text (entries_of t q) ≡ q
unfolding name_text map_name entries_of
entries-texts t q = rw (entry-text t.uris q.uri, entry-text (names_of t q.uri) q.local)

-- Strings that are fit and stand in these bits, with the tables after them.
record FitItems (s : Settings) (t : Tables) (is : List Item) (t' : Tables) (w : Bits) : Type 0 where
  fit : ItemsFit t is
  bits : w ≡ items_bits s.alignment t is
  after : t' ≡ after_items t is

none-fit : (s : Settings) (t : Tables) → FitItems s t [] t []
unfolding items_bits after_items
none-fit s t = record { fit = tt; bits = refl; after = refl }

-- A string that is read, before others.
string-fit : (s : Settings) (t : Tables) (r : Role) (x : Placed × Tables) (is : List Item) (t' : Tables) (u v : Bits)
    → GoodTables t
    → StringRead sizes s t r x u → (GoodTables x.1 → FitItems s x.1 is t' v)
    → FitItems s t (item r x.0.text ∷ is) t' (u ++ v)
unfolding items_bits after_items
string-fit s t r x is t' u v g h k =
    let p = item-of-read s t r x.0 x.1 u g h in
    let i = item r x.0.text in
    let m = k (subst GoodTables (sym p.after) (item-good t i g p.fit)) in
    record {
      fit = (p.fit, subst (λ τ. ItemsFit τ is) p.after m.fit);
      bits =
          ap (λ b. b ++ v) p.bits
          ∙ ap (λ b. item_bits s.alignment t i ++ b) (m.bits ∙ ap (λ τ. items_bits s.alignment τ is) p.after);
      after = m.after ∙ ap (λ τ. after_items τ is) p.after;
    }

-- A name that is read, before others: carried strings are fit and take no bits.
name-fit : (s : Settings) (t : Tables) (attr : Bool) (n : Option (QName Placed)) (k : Kind) (a : QName Placed × Tables)
    (is : List Item) (t' : Tables) (u v : Bits) → GoodTables t → T (within_tables sizes t) → NamedOk attr n
    → NameRead sizes s t attr a u n
    → (GoodTables a.1 → FitItems s a.1 is t' v)
    → T (fits_name n (some (name_text a.0)))
    × FitItems s t (name_items (record { kind = k; qname = n }) attr (name_text a.0) ++ is) t' (u ++ v)
unfolding name_items is_wildcard fits_name items_bits item_bits after_items after_item name_allowed text_allowed
    name_text map_name item
name-fit s t attr n k a is t' u v g room ok (carried_name q i e) f =
    let m = f (rw i g) in
    rw (i, e) (
      eq_name-refl (name_text q),
      record {
        fit = (
          record { chars = ok.uri_chars; small = ok.uri_small; clean = tt; named = tt; room = room },
          (
            record { chars = ok.local_chars; small = ok.local_small; clean = tt; named = ok.named; room = room },
            rw i at m.fit,
          ),
        );
        bits = rw i at m.bits;
        after = rw i at m.after;
      },
    )
name-fit s t attr n k a is t' u v g room ok (written_name x y b c h l i j) f =
    rw (i, j, append_assoc b c v) (
      tt,
      string-fit s t uri x _ t' b (c ++ v) g h
          (λ g₁. string-fit s x.1 (local attr x.0.text) y is t' c v g₁ l (λ g₂. rw i at (f (rw i g₂)))),
    )

-- What is read under a production is an event that it fits, with fit strings.
pub record ContentFit (s : Settings) (t : Tables) (st : State) (p : Production) (e : Event Text) (t' : Tables)
    (w : Bits) : Type 0 where
  pub fitting : T (fits p e)
  pub strings : ItemsFit t (items st p e)
  pub bits : w ≡ items_bits s.alignment t (items st p e)
  pub after : t' ≡ after_items t (items st p e)

of-items : (s : Settings) (t : Tables) (st : State) (p : Production) (e : Event Text) (t' : Tables) (w : Bits)
    → T (fits p e)
    → FitItems s t (items st p e) t' (w ++ []) → ContentFit s t st p e t' w
of-items s t st p e t' w f m =
    record { fitting = f; strings = m.fit; bits = sym (append-nil w) ∙ m.bits; after = m.after }

-- Content that is read is fit, has the strict form's bits, and leaves the strict form's tables.
pub content-fit : (s : Settings) (t : Tables) (st : State) (k : Kind) (n : Option (QName Placed))
    (c : Event Placed × Tables) (w : Bits) → GoodTables t → T (within_tables sizes t) → ProductionOk k n
    → ContentRead sizes s t st n c w k
    → ContentFit s t st (record { kind = k; qname = n }) (event_text c.0) c.1 w
unfolding items fits fits_name kind_of name_of kind_number event_text map_event items_bits after_items name_text name_items
content-fit s t st k n c w g room ok (an_sd i j) =
    rw (i, ok) (record { fitting = tt; strings = tt; bits = j; after = refl })
content-fit s t st k n c w g room ok (an_ed i j) =
    rw (i, ok) (record { fitting = tt; strings = tt; bits = j; after = refl })
content-fit s t st k n c w g room ok (an_ee i j) =
    rw (i, ok) (record { fitting = tt; strings = tt; bits = j; after = refl })
content-fit s t st k n c w g room ok (an_se a h i) =
    let (f, m) = name-fit s t false n SE a [] a.1 w [] g room ok h (λ g₁. none-fit s a.1) in
    rw i (of-items s t st (record { kind = SE; qname = n }) (start_element (name_text a.0)) a.1 w f m)
content-fit s t st k n c w g room ok (an_at a x u v h l i j) =
    let e' = attribute (name_text a.0) x.0.text in
    let r = value (name_text a.0) in
    let (f, m) = name-fit s t true n AT a (item r x.0.text ∷ []) x.1 u (v ++ []) g room ok h
    (λ g₁. string-fit s a.1 r x [] x.1 v [] g₁ l (λ g₂. none-fit s x.1)) in
    rw (i, j) (of-items s t st (record { kind = AT; qname = n }) e' x.1 (u ++ v) f (rw (append_assoc u v []) m))
content-fit s t st k n c w g room ok (a_ch x h i) =
    rw (i, ok)
    (of-items s t st (record { kind = CH; qname = none }) (characters x.0.text) x.1 w tt
    (string-fit s t (character_role st) x [] x.1 w [] g h (λ g₁. none-fit s x.1)))
content-fit s t st k n c w g room ok (a_cm x h i) =
    rw (i, ok)
    (of-items s t st (record { kind = CM; qname = none }) (comment x.0.text) x.1 w tt
    (string-fit s t comment_text x [] x.1 w [] g h (λ g₁. none-fit s x.1)))
content-fit s t st k n c w g room ok (a_pi x y u v h l i j) =
    rw (i, ok, j)
    (of-items s t st (record { kind = PI; qname = none }) (instruction x.0.text y.0.text) y.1 (u ++ v) tt
    (rw (append_assoc u v [])
    (string-fit s t target x (item instruction_text y.0.text ∷ []) y.1 u (v ++ []) g h
    (λ g₁. string-fit s x.1 instruction_text y [] y.1 v [] g₁ l (λ g₂. none-fit s y.1)))))

-- A name that is written lies, strictly read, where its first entries lie.
module _ {z : Sizes} {s : Settings} {t : Tables} where
  name-first : {attr : Bool} {n : Option (QName Placed)} {a : QName Placed × Tables} {w : Bits}
      → NameRead z s t attr a w n → T (is_wildcard n) → entries_of a.1 (name_text a.0) ≡ a.0
  unfolding is_wildcard name_text map_name
  name-first (carried_name q i e) b = absurd b
  name-first {attr} (written_name x y u v h l i j) b =
      rw i (pair-first h (same-form _ _ h.strictly) refl l (same-form _ _ l.strictly))

  -- A written name lies at its first entries.
  pub content-first : {st : State} {n : Option (QName Placed)} {c : Event Placed × Tables} {w : Bits} {k : Kind}
      → ContentRead z s t st n c w k → T (is_wildcard n)
      → name_of c.0 ≡ map (entries_of c.1) (name_of (event_text c.0))
  unfolding name_of event_text map_event name_text
  content-first (an_sd i j) b = rw i
  content-first (an_ed i j) b = rw i
  content-first (an_ee i j) b = rw i
  content-first (an_se a h i) b = rw i (ap some (sym (name-first h b)))
  content-first (an_at a x u v h l i j) b = rw i (ap some (sym (value-first (name_text a.0) l ∙ name-first h b)))
  content-first (a_ch x h i) b = rw i
  content-first (a_cm x h i) b = rw i
  content-first (a_pi x y u v h l i j) b = rw i

-- ---- what is fit is read

-- A fit name, before others.
record NameFound (s : Settings) (t : Tables) (attr : Bool) (n : Option (QName Placed)) (q : QName Text) (k : Kind)
    (is : List Item) : Type 0 where
  name : QName Placed × Tables
  texts-are : name_text name.0 ≡ q
  bits : Bits
  read : NameRead sizes s t attr name bits n
  others : ItemsFit name.1 is
  joined : items_bits s.alignment t (name_items (record { kind = k; qname = n }) attr q ++ is)
      ≡ bits ++ items_bits s.alignment name.1 is
  first : T (is_wildcard n) → entries_of name.1 (name_text name.0) ≡ name.0
  after : after_items name.1 is ≡ after_items t (name_items (record { kind = k; qname = n }) attr q ++ is)

name-found : (s : Settings) (t : Tables) (attr : Bool) (n : Option (QName Placed)) (q : QName Text) (k : Kind)
    (is : List Item) → T (fits_name n (some q)) → ItemsFit t (name_items (record { kind = k; qname = n }) attr q ++ is)
    → NameFound s t attr n q k is
unfolding name_items is_wildcard fits_name items_bits item_bits after_item name_text map_name item after_items
name-found s t attr (some p) q k is f h =
    record {
      name = (p, t);
      texts-are = eq_name-eq (name_text p) q f;
      bits = [];
      read = carried_name p refl refl;
      others = h.1.1;
      joined = refl;
      first = λ b. absurd b;
      after = refl;
    }
name-found s t attr none q k is f h =
    let x = read-of-item s t uri q.uri h.0 in
    let t₁ = after_item t (item uri q.uri) in
    let y = read-of-item s t₁ (local attr q.uri) q.local h.1.0 in
    let t₂ = after_item t₁ (item (local attr q.uri) q.local) in
    let b = item_bits s.alignment t (item uri q.uri) in
    let c = item_bits s.alignment t₁ (item (local attr q.uri) q.local) in
    record {
      name = (record { uri = x.string; local = y.string }, t₂);
      texts-are = rw (x.is, y.is);
      bits = b ++ c;
      read = written_name (x.string, t₁) (y.string, t₂) b c x.read (rw x.is y.read) refl refl;
      others = h.1.1;
      joined = sym (append_assoc b c (items_bits s.alignment t₂ is));
      first = λ b. pair-first x.read x.strictly x.is y.read y.strictly;
      after = refl;
    }

-- An event that a production fits, with fit strings, is read under it.
pub record ContentFound (s : Settings) (t : Tables) (st : State) (k : Kind) (n : Option (QName Placed))
    (e : Event Text) : Type 0 where
  pub event : Event Placed
  pub is : event_text event ≡ e
  pub tables : Tables
  pub first : T (is_wildcard n) → name_of event ≡ map (entries_of tables) (name_of (event_text event))
  pub after : tables ≡ after_items t (items st (record { kind = k; qname = n }) e)
  pub read : ContentRead sizes s t st n (event, tables)
      (items_bits s.alignment t (items st (record { kind = k; qname = n }) e)) k

-- A last string.
one : (s : Settings) (t : Tables) (r : Role) (v : Text) → ItemFit t (item r v)
    → (x : Placed × Tables) × (x.0.text ≡ v) × (x.1 ≡ after_item t (item r v))
    × StringRead sizes s t r x (item_bits s.alignment t (item r v) ++ [])
one s t r v h =
    let x = read-of-item s t r v h in
    let a : Placed × Tables = (x.string, after_item t (item r v)) in
    (a, x.is, refl, subst⁻¹ (StringRead sizes s t r a) (append-nil (item_bits s.alignment t (item r v))) x.read)

found : (s : Settings) (t : Tables) (st : State) (n : Option (QName Placed)) (e : Event Text)
    → T (fits_name n (name_of e))
    → ItemsFit t (items st (record { kind = kind_of e; qname = n }) e) → ContentFound s t st (kind_of e) n e
unfolding items kind_of name_of event_text map_event items_bits name_text name_items after_items
found s t st n start_document f h =
    record { event = start_document; is = refl; tables = t; first = λ b. refl; after = refl; read = an_sd refl refl }
found s t st n end_document f h =
    record { event = end_document; is = refl; tables = t; first = λ b. refl; after = refl; read = an_ed refl refl }
found s t st n end_element f h =
    record { event = end_element; is = refl; tables = t; first = λ b. refl; after = refl; read = an_ee refl refl }
found s t st n (start_element q) f h =
    let m = name-found s t false n q SE [] f h in
    record {
      event = start_element m.name.0;
      is = ap start_element m.texts-are;
      tables = m.name.1;
      first = λ b. ap some (sym (m.first b));
      after = m.after;
      read = an_se m.name (subst⁻¹ (λ b. NameRead sizes s t false m.name b n) (m.joined ∙ append-nil m.bits)
          m.read) refl;
    }
found s t st n (attribute q v) f h =
    let m = name-found s t true n q AT (item (value q) v ∷ []) f h in
    let x = read-of-item s m.name.1 (value q) v m.others.0 in
    let b = item_bits s.alignment m.name.1 (item (value q) v) in
    let t' = after_item m.name.1 (item (value q) v) in
    record {
      event = attribute m.name.0 x.string;
      is = ap (λ p. attribute p x.string.text) m.texts-are ∙ ap (attribute q) x.is;
      tables = t';
      first = λ b. ap some (sym (value-first (name_text m.name.0) x.read ∙ m.first b));
      after = m.after;
      read = an_at m.name (x.string, t') m.bits b m.read (rw m.texts-are x.read) refl
          (m.joined ∙ ap (λ c. m.bits ++ c) (append-nil b));
    }
found s t st n (characters v) f h =
    let (x, e, l, r) = one s t (character_role st) v h.0 in
    record {
      event = characters x.0;
      is = ap characters e;
      tables = x.1;
      first = λ b. refl;
      after = l;
      read = a_ch x r refl;
    }
found s t st n (comment v) f h =
    let (x, e, l, r) = one s t comment_text v h.0 in
    record {
      event = comment x.0;
      is = ap comment e;
      tables = x.1;
      first = λ b. refl;
      after = l;
      read = a_cm x r refl;
    }
found s t st n (instruction v w) f h =
    let x = read-of-item s t target v h.0 in
    let t₁ = after_item t (item target v) in
    let (y, e, l, r) = one s t₁ instruction_text w h.1.0 in
    record {
      event = instruction x.string y.0;
      is = ap (λ p. instruction p y.0.text) x.is ∙ ap (instruction v) e;
      tables = y.1;
      first = λ b. refl;
      after = l;
      read = a_pi (x.string, t₁) y (item_bits s.alignment t (item target v))
          (item_bits s.alignment t₁ (item instruction_text w) ++ []) x.read r refl refl;
    }

-- Content that is fit is read from the strict form's bits.
pub content-found : (s : Settings) (t : Tables) (st : State) (k : Kind) (n : Option (QName Placed)) (e : Event Text)
    → T (fits (record { kind = k; qname = n }) e) → ItemsFit t (items st (record { kind = k; qname = n }) e)
    → ContentFound s t st k n e
unfolding fits
content-found s t st k n e f h =
    let same = same_kind k (kind_of e) (left (eqb (kind_number k) (kind_number (kind_of e))) (fits_name n (name_of e)) f) in
    let named = right (eqb (kind_number k) (kind_number (kind_of e))) (fits_name n (name_of e)) f in
    subst⁻¹ (λ j. ItemsFit t (items st (record { kind = j; qname = n }) e) → ContentFound s t st j n e) same
    (found s t st n e named) h
