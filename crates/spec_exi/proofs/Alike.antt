-- Where strings lie decides nothing of what is written: what the strict form, the writer's tests and
-- the limits say of alike contexts is the same, and what an event leaves of them is alike.
use Prim.Native.Nat.{ℕ, zero, suc}
use native.Mathlib.Omega.{arith}
use mathlib.Core.Path.{◌≡◌, refl, sym, ap, ◌∙◌}
use mathlib.Core.Bool.{Bool, true, false, cond}
use mathlib.Core.List.{List, [], ◌∷◌, map}
use mathlib.Core.Option
use mathlib.Core.Option.{Option, none, some}
use lib.ListN.{length}
use Rattle.spec_fields.specs.Field.{Alignment}
use Rattle.text.specs.Text.{Text, Span, part}
use Rattle.spec_exi.specs.Event.{QName, Event, name_of, map_name, map_event}
use Rattle.spec_exi.specs.Sizes.{Sizes}
use Rattle.spec_exi.specs.Settings.{Settings}
use Rattle.spec_exi.specs.Tables.{Placed, name_text, Tables, Role, partitions_of, Form, hit}
use Rattle.spec_exi.specs.Tables.{literal, form_of, form_bits, added, tables_after}
use Rattle.spec_exi.specs.Grammar.{State, Code, code_bits, code_of, is_finished}
use Rattle.spec_exi.specs.Grammar.{tag_allows}
use Rattle.spec_exi.specs.Context.{Context, levels_in, Item, items, after_item, after_items}
use Rattle.spec_exi.specs.Context.{after, entries_of, after_code, next}
use Rattle.spec_exi.specs.Strict.{item_bits, items_bits, coded_bits, event_bits}
use Rattle.spec_exi.specs.Lists.{within_tables, within_grammars, within}
use Rattle.spec_exi.specs.Writer.{Stored, first_failed, string_tests, content_tests, event_tests}
use Rattle.spec_exi.specs.Writer.{fault_of, write_events}
use Rattle.spec_exi.specs.Alike.{unplaced, unplaced_tables, unplaced_name}
use Rattle.spec_exi.specs.Alike.{unplaced_learned, unplaced_code, unplaced_context, SameBy}
use Rattle.spec_exi.specs.Alike.{AlikeTables, AlikeName, AlikeCode, AlikeCodes, neither, each}
use Rattle.spec_exi.specs.Alike.{Alike}
use Rattle.spec_exi.proofs.Content.{entries-texts}
use Rattle.spec_exi.proofs.Unplaced.{partitions-unplaced, form-unplaced, bits-unplaced}
use Rattle.spec_exi.proofs.Unplaced.{store-unplaced, within-unplaced, added-unplaced}
use Rattle.spec_exi.proofs.Unplaced.{levels-unplaced, code-unplaced}
use Rattle.spec_exi.proofs.Unplaced.{code-bits-unplaced, items-unplaced, after-unplaced}
use Rattle.spec_exi.proofs.Unplaced.{grammars-unplaced}

-- ---- alike things

module _ {A : Type 0} {f : A → A} where
  -- A thing is like itself.
  pub alike_same : (x : A) → SameBy f x x
  alike_same x = record { same = refl }

  -- Likeness carries on.
  pub alike_then : {x y z : A} → SameBy f x y → SameBy f y z → SameBy f x z
  alike_then a b = record { same = a.same ∙ b.same }

  -- What does not look at places is the same of both.
  agree : {X : Type 0} {x y : A} → SameBy f x y → (g : A → X) → ((z : A) → g (f z) ≡ g z) → g x ≡ g y
  agree {x = x} {y = y} a g e = sym (e x) ∙ ap g a.same ∙ e y

-- ---- tables

module _ {t u : Tables} (a : AlikeTables t u) where
  -- The stores are of one length.
  pub store-alike : length t.store ≡ length u.store
  store-alike = agree a (λ v. length v.store) store-unplaced

  -- A string has the same form by alike tables, the same bits, and leaves alike tables.
  pub form-alike : (r : Role) (x : Text) → form_of (partitions_of t r) x ≡ form_of (partitions_of u r) x
  form-alike r x =
      agree a (λ v. form_of (partitions_of v r) x)
      (λ v. rw (partitions-unplaced v r) (form-unplaced (partitions_of v r) x))

  -- In a form it has the same bits.
  pub form-bits-alike : (al : Alignment) (r : Role) (f : Form) (x : Text)
      → form_bits al (partitions_of t r) f x ≡ form_bits al (partitions_of u r) f x
  form-bits-alike al r f x =
      agree a (λ v. form_bits al (partitions_of v r) f x)
      (λ v. rw (partitions-unplaced v r) (bits-unplaced al (partitions_of v r) f x))

  -- The limits on tables look at lengths alone.
  pub within-tables-alike : (z : Sizes) → within_tables z t ≡ within_tables z u
  within-tables-alike z = agree a (within_tables z) (within-unplaced z)

  -- A literal leaves alike tables.
  pub added-alike : (r : Role) (x : Text) → AlikeTables (added t r x) (added u r x)
  added-alike r x = record { same = agree a (λ v. unplaced_tables (added v r x)) (added-unplaced r x) }

  -- So does any form.
  pub tables-after-alike : (r : Role) (f : Form) (x : Text) → AlikeTables (tables_after t r f x) (tables_after u r f x)
  unfolding tables_after
  tables-after-alike r (hit j i) x = a
  tables-after-alike r literal x = added-alike r x

  -- So does a string of an event.
  pub after-item-alike : (i : Item) → AlikeTables (after_item t i) (after_item u i)
  unfolding after_item
  after-item-alike i =
      rw (form-alike i.role i.text) (go i.written (form_of (partitions_of u i.role) i.text))
    where
      go : (b : Bool) (f : Form)
          → AlikeTables (cond b (tables_after t i.role f i.text) t)
          (cond b (tables_after u i.role f i.text) u)
      go true f = tables-after-alike i.role f i.text
      go false f = a

  -- It has the same bits.
  pub item-bits-alike : (al : Alignment) (i : Item) → item_bits al t i ≡ item_bits al u i
  unfolding item_bits
  item-bits-alike al i =
      let f = form_of (partitions_of u i.role) i.text in
      rw (form-alike i.role i.text, form-bits-alike al i.role f i.text)

-- What all strings of an event leave.
pub after-items-alike : {t u : Tables} → AlikeTables t u → (is : List Item)
    → AlikeTables (after_items t is) (after_items u is)
unfolding after_items
after-items-alike a [] = a
after-items-alike {t = t} {u = u} a (i ∷ is) =
    after-items-alike {t = after_item t i} {u = after_item u i} (after-item-alike a i) is

-- Their bits.
pub items-bits-alike : {t u : Tables} → AlikeTables t u → (al : Alignment) (is : List Item)
    → items_bits al t is ≡ items_bits al u is
unfolding items_bits
items-bits-alike a al [] = refl
items-bits-alike {t = t} {u = u} a al (i ∷ is) =
    cc (
      item-bits-alike a al i,
      items-bits-alike {t = after_item t i} {u = after_item u i} (after-item-alike a i) al is,
    )

-- The writer's tests of an event's strings are the same.
module _ (z : Sizes) where
  -- The tests of a string are the same.
  pub string-tests-alike : {t u : Tables} → AlikeTables t u → (i : Item) → string_tests z t i ≡ string_tests z u i
  unfolding string_tests
  string-tests-alike a i =
      let b = after-item-alike a i in rw (store-alike b, within-tables-alike b z)

  -- So are those of all strings of an event.
  pub content-tests-alike : {t u : Tables} → AlikeTables t u → (is : List Item)
      → content_tests z t is ≡ content_tests z u is
  unfolding content_tests
  content-tests-alike a [] = refl
  content-tests-alike {t = t} {u = u} a (i ∷ is) =
      cc (
        string-tests-alike a i,
        content-tests-alike {t = after_item t i} {u = after_item u i} (after-item-alike a i) is,
      )

-- ---- alike codes

module _ {x y : Code} (a : AlikeCode x y) where
  -- The parts are the same.
  pub parts-alike : x.parts ≡ y.parts
  unfolding unplaced_code
  parts-alike = ap (λ (v : Code). v.parts) a.same

  -- The strings of the event are the same, and so is which of them are written.
  pub items_alike : (st : State) (e : Event Text) → items st x.production e ≡ items st y.production e
  unfolding unplaced_code
  items_alike st e = agree a (λ (v : Code). items st v.production e) (λ v. items-unplaced st v.production e)

codes-of : (x y : Option Code) → Option.map unplaced_code x ≡ Option.map unplaced_code y → AlikeCodes x y
codes-of none none h = neither
codes-of none (some y) h = let z : ◌≡◌ {A = ℕ} 0 1 = cc in absurd (omega arith)
codes-of (some x) none h = let z : ◌≡◌ {A = ℕ} 0 1 = cc in absurd (omega arith)
codes-of (some x) (some y) h = let e : unplaced_code x ≡ unplaced_code y = cc in each (record { same = e })

each_of : {x : Code} {y : Option Code} → AlikeCodes (some x) y → (v : Code) × (y ≡ some v) × AlikeCode x v
each_of (each {y = v} k) = (v, refl, k)

-- ---- names

-- Names of the same texts are alike.
pub same-texts : (p q : Option (QName Placed)) → Option.map name_text p ≡ Option.map name_text q → AlikeName p q
unfolding name_text map_name unplaced_name unplaced
same-texts p q h = record { same = sym (go p) ∙ ap (Option.map lay) h ∙ go q }
  where
    lay : QName Text → QName Placed
    lay = map_name (λ x. record { place = 0; text = x })

    go : (n : Option (QName Placed)) → Option.map lay (Option.map name_text n) ≡ unplaced_name n
    go none = refl
    go (some n) = refl

entries-named : (t : Tables) (n : Option (QName Text)) → Option.map name_text (Option.map (entries_of t) n) ≡ n
entries-named t none = refl
entries-named t (some q) = ap some (entries-texts t q)

-- A name is alike to its entries, wherever they lie in whatever tables.
pub entries-alike : (t : Tables) (n : Option (QName Text)) (p : Option (QName Placed)) → Option.map name_text p ≡ n
    → AlikeName (Option.map (entries_of t) n) p
entries-alike t n p h = same-texts (Option.map (entries_of t) n) p (entries-named t n ∙ sym h)

-- ---- contexts

-- Contexts with alike parts.
pub alike : {c d : Context} → c.state ≡ d.state → AlikeTables c.tables d.tables
    → map unplaced_learned c.learned ≡ map unplaced_learned d.learned
    → c.grammars ≡ d.grammars → c.tag ≡ d.tag → Alike c d
unfolding unplaced_context
alike st t ls gs tag =
    record {
      same = λ i. record {
        state = st i;
        tables = t.same i;
        learned = ls i;
        grammars = gs i;
        tag = tag i;
      };
    }

-- What events with alike codes leave, where their strings leave alike tables, is alike.
pub after-alike : {c d : Context} {x y : Code} {t u : Tables} {p q : Option (QName Placed)} (s : Settings) → Alike c d
    → AlikeCode x y → AlikeTables t u → AlikeName p q → (e : Event Text) → Alike (after s c x t p e) (after s d y u q e)
after-alike {c} {d} {x} {y} {t} {u} {p} {q} s a k b n e =
    record {
      same = sym (after-unplaced s c x t p e)
          ∙ (λ i. after s (a.same i) (k.same i) (b.same i) (n.same i) e)
          ∙ after-unplaced s d y u q e;
    }

-- Both or neither pass a size of the grammars.
pub within-grammars-alike : {c d : Context} → Alike c d → (z : Sizes) → within_grammars z c ≡ within_grammars z d
within-grammars-alike a z = agree a (within_grammars z) (grammars-unplaced z)

module _ {c d : Context} (a : Alike c d) where
  -- The state is the same.
  pub state-alike : c.state ≡ d.state
  unfolding unplaced_context
  state-alike = ap (λ (b : Context). b.state) a.same

  -- The tables are alike.
  pub tables-alike : AlikeTables c.tables d.tables
  unfolding unplaced_context
  tables-alike = record { same = ap (λ (b : Context). b.tables) a.same }

  -- The start tag goes by texts alone.
  pub tag-alike : c.tag ≡ d.tag
  unfolding unplaced_context
  tag-alike = ap (λ (b : Context). b.tag) a.same

  -- Both or neither have come to the end.
  pub finished-alike : is_finished c.state ≡ is_finished d.state
  finished-alike = ap is_finished state-alike

  -- Both or neither pass a size.
  pub within-alike : (z : Sizes) → within z c ≡ within z d
  unfolding within
  within-alike z = cc (within-tables-alike tables-alike z, within-grammars-alike a z)

  -- The strings of an event with alike codes are the same, and leave alike tables.
  pub strings-alike : {x y : Code} → AlikeCode x y → (e : Event Text)
      → items c.state x.production e ≡ items d.state y.production e
  strings-alike {y = y} k e = items_alike k c.state e ∙ ap (λ st. items st y.production e) state-alike

  -- With alike codes the strings of an event leave alike tables.
  pub left-alike : {x y : Code} → AlikeCode x y → (e : Event Text)
      → AlikeTables (after_items c.tables (items c.state x.production e))
      (after_items d.tables (items d.state y.production e))
  left-alike {y = y} k e = rw (strings-alike k e) (after-items-alike tables-alike (items d.state y.production e))

  module _ (s : Settings) where
    -- Codes have the same bits.
    pub code-bits-alike : (al : Alignment) (vs : List ℕ) → code_bits al (levels_in s c) vs ≡ code_bits al (levels_in s d) vs
    code-bits-alike al vs =
        agree a (λ b. code_bits al (levels_in s b) vs)
        (λ b. rw (levels-unplaced s b) (code-bits-unplaced al (levels_in s b) vs))

    -- An event has a code in both or in neither, and its parts are the same.
    pub codes-alike : (e : Event Text) → AlikeCodes (code_of (levels_in s c) e) (code_of (levels_in s d) e)
    codes-alike e =
        codes-of (code_of (levels_in s c) e) (code_of (levels_in s d) e)
        (sym (code c) ∙ ap (λ b. code_of (levels_in s b) e) a.same ∙ code d)
      where
        code : (b : Context)
            → code_of (levels_in s (unplaced_context b)) e ≡ Option.map unplaced_code (code_of (levels_in s b) e)
        code b = rw (levels-unplaced s b) (code-unplaced (levels_in s b) e)

    -- Where one has a code, the other has one like it.
    pub code-some : (e : Event Text) (x : Code) → code_of (levels_in s c) e ≡ some x
        → (y : Code) × (code_of (levels_in s d) e ≡ some y) × AlikeCode x y
    code-some e x h = each_of (rw h at (codes-alike e))

    -- An event has the same bits.
    pub coded-bits-alike : {x y : Option Code} → AlikeCodes x y → (e : Event Text)
        → coded_bits s c x e ≡ coded_bits s d y e
    unfolding coded_bits
    coded-bits-alike neither e = refl
    coded-bits-alike (each {x = v} {y = w} k) e =
        rw (
          code-bits-alike s.alignment v.parts,
          parts-alike k,
          strings-alike k e,
          items-bits-alike tables-alike s.alignment (items d.state w.production e),
        )

    -- By the code that it has there.
    pub event-bits-alike : (e : Event Text) → event_bits s c e ≡ event_bits s d e
    unfolding event_bits
    event-bits-alike e = coded-bits-alike (codes-alike e) e

    -- What an event leaves of alike contexts is alike.
    pub after-code-alike : {x y : Option Code} → AlikeCodes x y → (e : Event Text)
        → Alike (after_code s c x e) (after_code s d y e)
    unfolding after_code
    after-code-alike neither e = a
    after-code-alike (each {y = y} k) e =
        let u = after_items d.tables (items d.state y.production e) in
        let p = Option.map (entries_of u) (name_of e) in
        after-alike s a k (left-alike k e) (entries-alike _ (name_of e) p (entries-named u (name_of e))) e

    -- An event leaves alike contexts.
    pub next-alike : (e : Event Text) → Alike (next s c e) (next s d e)
    unfolding next
    next-alike e = after-code-alike (codes-alike e) e

    -- The writer's tests of an event are the same.
    module _ (z : Sizes) where
      -- With alike codes its tests are the same.
      pub event-tests-alike : (store : Text) (e : Event Span) {x y : Option Code} → AlikeCodes x y
          → event_tests z s c store e x ≡ event_tests z s d store e y
      unfolding event_tests
      event-tests-alike store e neither = refl
      event-tests-alike store e (each {x = v} {y = w} k) =
          let f = map_event (part store) e in
          rw (
            strings-alike k f,
            content-tests-alike z tables-alike (items d.state w.production f),
            ap (λ t. tag_allows t f) tag-alike,
            within-grammars-alike (next-alike f) z,
          )

      -- So an event has the same refusal, if any.
      pub fault-alike : (store : Text) (e : Event Span) → fault_of z s c store e ≡ fault_of z s d store e
      unfolding fault_of
      fault-alike store e =
          ap first_failed (event-tests-alike store e (codes-alike (map_event (part store) e)))

-- ---- lists

-- The writer's answer is the same.
pub write-alike : (n : ℕ) (z : Sizes) (s : Settings) {c d : Context} → Alike c d → (store : Text) (xs : List Stored)
    → write_events n z s c store xs ≡ write_events n z s d store xs
unfolding write_events
write-alike n z s a store [] = rw (finished-alike a)
write-alike zero z s a store (x ∷ xs) = refl
write-alike (suc n) z s a store (none ∷ xs) = refl
write-alike (suc n) z s a store (some e ∷ xs) =
    let f = map_event (part store) e in
    rw (fault-alike a s z store e, event-bits-alike a s f, write-alike n z s (next-alike a s f) store xs)
