-- What an event leaves, by the rows: the definitions' context after it is that of the rows with a grammar
-- and a learned production more.
use Prim.Native.Nat.{ℕ, zero, suc, ◌+◌, ◌/◌, ◌≤◌, ◌<◌}
use native.Mathlib.Omega.{arith}
use mathlib.Core.Path.{◌≡◌, refl, sym, ap, subst, ◌∙◌}
use mathlib.Core.Bool.{Bool, true, false, cond, true≢false}
use mathlib.Core.List.{List, [], ◌∷◌, ◌++◌, map}
use mathlib.Core.Option.{Option, none, some}
use lib.ListN.{length, get_or}
use lib.Dec.{eqb}
use borrow.Author.Tests.{eqb-true}
use Rattle.spec_fields.proofs.Tests.{split}
use Rattle.text.specs.Text.{Text}
use Rattle.spec_exi.specs.Event.{QName, Event, Kind, SD, ED, SE, AT, EE, CH, CM, PI, kind_of, name_of}
use Rattle.spec_exi.specs.Settings.{Settings}
use Rattle.spec_exi.specs.Tables.{Placed, Tables, name_text}
use Rattle.spec_exi.specs.Grammar.{Production, Learned, Code, kind_number, site_of, learned_at, teaches, taught}
use Rattle.spec_exi.specs.Grammar.{Site, learn, has_name, grammars_after, state_after, Tag, empty_tag}
use Rattle.spec_exi.specs.Grammar.{is_attribute, attribute_name, with_attribute, tag_after}
use Rattle.spec_exi.specs.Grammar as grammar
use Rattle.spec_exi.specs.Context.{Context, after}
use Rattle.mem_entries.specs.Entries.{named}
use Rattle.event_code.specs.Numbers.{number_of_se}
use Rattle.mem_rows.specs.Rows.{Learnt, Rows, placed_at, name_at, site_at, kind_at, carries, carried_at}
use Rattle.mem_rows.specs.Rows.{production_of, learnt_as, learned_of, grammars_of, is_among, state_of}
use Rattle.mem_rows.specs.Rows.{mode_after, opened_after, ModeFits, tables_of, context_of, tag_in}
use Rattle.mem_rows.specs.Rows.{with_grammar, with_learned, after_grammar, after_learned}
use Rattle.mem_rows.specs.Rows.{attributes_after, with_attributes, leaves}
use Rattle.mem_rows.specs.Valid.{learnt_at, LearntFits, Refers, Valid}
use Rattle.mem_rows.proofs.Grown.{learned-grows, grammar-grows, attributes-turn}
use Rattle.mem_rows.proofs.Kept.{Kept, All, name-kept, learnt-kept, names-kept, learned-kept, grammars-kept}
use Rattle.mem_rows.proofs.Kept.{tag-kept}
use Rattle.mem_rows.proofs.Joins.{name-text}
use Rattle.mem_rows.proofs.Grammars.{learned-more, grammars-more, has-grammar}
use Rattle.mem_rows.proofs.States.{Leads, state-after}

-- The strings of an event have joined: names mean what they meant, and the grammars are as they were.
pub record Joined (w v : Rows) : Type 0 where
  pub kept : Kept w v
  pub learned : v.learned ≡ w.learned
  pub grammars : v.grammars ≡ w.grammars
  pub attributes : v.attributes ≡ w.attributes

-- ---- the grammars

module _ {v : Rows} (x : Valid v) (n : ℕ) (h : n < length v.names) where
  enters : grammars_of (cond (is_among n v.grammars) v (with_grammar v n))
      ≡ grammar.with_grammar (grammars_of v) (some (name_at v n))
  unfolding grammar.with_grammar
  enters =
      split (is_among n v.grammars)
      (λ t. rw (has-grammar x n h, t))
      (λ t. rw (has-grammar x n h, t) (grammars-more v n))

module _ {w v : Rows} (j : Joined w v) (r : Refers w) where
  -- Where an element starts, its name has this row.
  pub grammars-after : Valid v → (n : ℕ) (e : Event Text)
      → (kind_number (kind_of e) ≡ number_of_se → (n < length v.names) × (name_of e ≡ some (name_at v n)))
      → grammars_of (after_grammar (kind_number (kind_of e)) n v) ≡ grammars_after (grammars_of w) e
  unfolding after_grammar grammars_after kind_number
  grammars-after x n e f =
      split (eqb (kind_number (kind_of e)) number_of_se)
      (λ t.
      let (h, q) = f (eqb-true (kind_number (kind_of e)) number_of_se t) in
      rw (t, q) (enters x n h ∙ ap (λ gs. grammar.with_grammar gs (some (name_at v n))) same))
      (λ t. rw t same)
    where
      same : grammars_of v ≡ grammars_of w
      same = grammars-kept j.kept r j.grammars

  pub learned-after : (site : Option Site) (b : Bool) (l : Learnt) (p : Option Production)
      → (b ≡ true → (site ≡ some (site_at v l.site)) × (p ≡ some (production_of v l)))
      → (b ≡ false → (k : Site) → site ≡ some k → p ≡ none)
      → learned_of (after_learned b l v) ≡ learn site p (learned_of w)
  unfolding after_learned learn learnt_as
  learned-after site true l p f g =
      let (a, q) = f refl in
      rw (a, q) (learned-more v l ∙ ap (λ ls. learnt_as v l ∷ ls) (learned-kept j.kept r j.learned))
  learned-after none false l p f g = learned-kept j.kept r j.learned
  learned-after (some k) false l p f g = rw (g refl k refl) (learned-kept j.kept r j.learned)

-- ---- the rows after both, of which each touches its own list alone

module _ (kind n : ℕ) (b : Bool) (l : Learnt) (v : Rows) where
  pub leaves-names : (m : ℕ) → placed_at (leaves kind n b l v) m ≡ placed_at v m
  unfolding leaves with_attributes after_learned after_grammar with_learned with_grammar placed_at
  leaves-names m = go (eqb kind (kind_number SE)) (is_among n v.grammars) b
    where
      go : (a c d : Bool) → placed_at (after_learned d l (cond a (cond c v (with_grammar v n)) v)) m ≡ placed_at v m
      go true true true = refl
      go true true false = refl
      go true false true = refl
      go true false false = refl
      go false c true = refl
      go false c false = refl

  pub leaves-tables : (store : Text) → tables_of (leaves kind n b l v) store ≡ tables_of v store
  unfolding leaves with_attributes after_learned after_grammar with_learned with_grammar tables_of named
      name_at placed_at
  leaves-tables store = go (eqb kind (kind_number SE)) (is_among n v.grammars) b
    where
      go : (a c d : Bool) → tables_of (after_learned d l (cond a (cond c v (with_grammar v n)) v)) store ≡ tables_of v store
      go true true true = refl
      go true true false = refl
      go true false true = refl
      go true false false = refl
      go false c true = refl
      go false c false = refl

  -- The lists that it does not touch, and the settings for values.
  pub leaves-lists : ((leaves kind n b l v).uris ≡ v.uris) × ((leaves kind n b l v).names ≡ v.names)
      × ((leaves kind n b l v).values ≡ v.values) × ((leaves kind n b l v).longest ≡ v.longest)
      × ((leaves kind n b l v).capacity ≡ v.capacity)
  unfolding leaves with_attributes after_learned after_grammar with_learned with_grammar
  leaves-lists = go (eqb kind (kind_number SE)) (is_among n v.grammars) b
    where
      go : (a c d : Bool)
          → ((after_learned d l (cond a (cond c v (with_grammar v n)) v)).uris ≡ v.uris)
          × ((after_learned d l (cond a (cond c v (with_grammar v n)) v)).names ≡ v.names)
          × ((after_learned d l (cond a (cond c v (with_grammar v n)) v)).values ≡ v.values)
          × ((after_learned d l (cond a (cond c v (with_grammar v n)) v)).longest ≡ v.longest)
          × ((after_learned d l (cond a (cond c v (with_grammar v n)) v)).capacity ≡ v.capacity)
      go true true true = (refl, refl, refl, refl, refl)
      go true true false = (refl, refl, refl, refl, refl)
      go true false true = (refl, refl, refl, refl, refl)
      go true false false = (refl, refl, refl, refl, refl)
      go false c true = (refl, refl, refl, refl, refl)
      go false c false = (refl, refl, refl, refl, refl)

  leaves-learned : learned_of (leaves kind n b l v) ≡ learned_of (after_learned b l v)
  unfolding leaves with_attributes after_learned after_grammar with_learned with_grammar learned_of
      learnt_as production_of carried_at site_at name_at placed_at
  leaves-learned = go (eqb kind (kind_number SE)) (is_among n v.grammars) b
    where
      go : (a c d : Bool)
          → learned_of (after_learned d l (cond a (cond c v (with_grammar v n)) v)) ≡ learned_of (after_learned d l v)
      go true true true = refl
      go true true false = refl
      go true false true = refl
      go true false false = refl
      go false c true = refl
      go false c false = refl

  leaves-grammars : grammars_of (leaves kind n b l v) ≡ grammars_of (after_grammar kind n v)
  unfolding leaves with_attributes after_learned with_learned grammars_of name_at placed_at
  leaves-grammars = go b
    where
      go : (d : Bool) → grammars_of (after_learned d l (after_grammar kind n v)) ≡ grammars_of (after_grammar kind n v)
      go true = refl
      go false = refl

  leaves-tag : tag_in (leaves kind n b l v)
      ≡ record {
        attributes = map (name_at (leaves kind n b l v)) (attributes_after kind n v.attributes);
      }
  unfolding leaves with_attributes tag_in
  leaves-tag = refl

-- ---- the start tag

-- An attribute's name has this row.
tag-after : {w v : Rows} → Joined w v → Refers w → (n : ℕ) (e : Event Text)
    → (kind_number (kind_of e) ≡ kind_number AT → name_of e ≡ some (name_at v n))
    → record {
      attributes = map (name_at v) (attributes_after (kind_number (kind_of e)) n v.attributes);
    }
    ≡ tag_after (tag_in w) e
unfolding attributes_after tag_after with_attribute attribute_name is_attribute empty_tag tag_in
tag-after {w} {v} j r n e f =
    split (eqb (kind_number (kind_of e)) (kind_number AT))
    (λ t.
    rw (t, f (eqb-true (kind_number (kind_of e)) (kind_number AT) t))
    (ap (λ (x : Tag). record { attributes = name_at v n ∷ x.attributes }) same))
    (λ t. rw t)
  where
    same : record { attributes = map (name_at v) v.attributes } ≡ tag_in w
    same = tag-kept j.kept r j.attributes

-- ---- the context

-- What is known of an event that was read or is to be written, its name at row n, where the state has
-- this number and these elements are open.
pub record EventRows (w v : Rows) (mode : ℕ) (opened : List ℕ) (n : ℕ) (b : Bool) (l : Learnt) (x : Code)
    (q : Option (QName Placed)) (e : Event Text) : Type 0 where
  pub joined : Joined w v
  pub fits : ModeFits mode (length opened)
  pub opens : All (λ m. m < length w.names) opened
  pub leads : Leads v n (length opened) e
  pub name : kind_number (kind_of e) ≡ number_of_se → n < length v.names
  pub attribute : kind_number (kind_of e) ≡ kind_number AT → name_of e ≡ some (name_at v n)
  -- what it teaches, and where
  pub taught-is : b ≡ true
      → (site_of (state_of mode (map (name_at w) opened)) ≡ some (site_at v l.site))
      × (taught (learned_at (site_of (state_of mode (map (name_at w) opened))) (learned_of w)) x (kind_of e) q
      ≡ some (production_of v l))
  pub taught_none : b ≡ false → (k : Site)
      → site_of (state_of mode (map (name_at w) opened)) ≡ some k
      → taught (learned_at (site_of (state_of mode (map (name_at w) opened))) (learned_of w)) x (kind_of e) q ≡ none

module _ (s : Settings) {w v : Rows} (refers : Refers w) (valid : Valid v) {mode n : ℕ} {opened : List ℕ} {b : Bool}
    {l : Learnt} {x : Code}
    {q : Option (QName Placed)} {e : Event Text} (h : EventRows w v mode opened n b l x q e) (store store' : Text) where
  map-names : (ns : List ℕ)
      → map (name_at (leaves (kind_number (kind_of e)) n b l v)) ns ≡ map (name_at v) ns
  map-names [] = refl
  map-names (m ∷ ns) =
      let k = kind_number (kind_of e) in
      cc (name-text (leaves k n b l v) v m m (leaves-names k n b l v m), map-names ns)

  state-is : state_of (mode_after s.fragment (kind_number (kind_of e)) mode (length opened))
      (map (name_at (leaves (kind_number (kind_of e)) n b l v)) (opened_after (kind_number (kind_of e)) n opened))
      ≡ state_after s (state_of mode (map (name_at w) opened)) e
  state-is =
      ap (state_of (mode_after s.fragment (kind_number (kind_of e)) mode (length opened)))
      (map-names (opened_after (kind_number (kind_of e)) n opened))
      ∙ sym (state-after s v mode n opened h.fits e h.leads)
      ∙ ap (λ (qs : List (QName Text)). state_after s (state_of mode qs) e)
      (names-kept h.joined.kept opened h.opens)

  -- The rows that the event leaves are the context that the definitions have after it.
  pub event-context :
      context_of (leaves (kind_number (kind_of e)) n b l v) store'
      (mode_after s.fragment (kind_number (kind_of e)) mode (length opened))
      (opened_after (kind_number (kind_of e)) n opened)
      ≡ after s (context_of w store mode opened) x (tables_of v store') q e
  unfolding context_of after
  event-context =
      let k = kind_number (kind_of e) in
      let site = site_of (state_of mode (map (name_at w) opened)) in
      let ls = leaves-learned k n b l v
      ∙ learned-after h.joined refers site b l (taught (learned_at site (learned_of w)) x (kind_of e) q) h.taught-is
      h.taught_none in
      let gs = leaves-grammars k n b l v
      ∙ grammars-after h.joined refers valid n e (λ z. (h.name z, h.leads.named z)) in
      let tag = leaves-tag k n b l v
      ∙ ap (λ qs. record { attributes = qs }) (map-names (attributes_after k n v.attributes))
      ∙ tag-after h.joined refers n e h.attribute in
      λ i. record {
        state = state-is i;
        tables = leaves-tables k n b l v store' i;
        learned = ls i;
        grammars = gs i;
        tag = tag i;
      }

-- ---- what an event leaves is valid

-- What is learned is new, and refers to rows that are there.
pub record Fresh (v : Rows) (l : Learnt) : Type 0 where
  pub fits : LearntFits (length v.names) l
  pub new : (i : ℕ) → i < length v.learned → learnt_at v.learned i ≡ l → ⊥

module _ (kind n : ℕ) (l : Learnt) {v : Rows} (x : Valid v) where
  grammar-valid : (kind ≡ kind_number SE → n < length v.names) → Valid (after_grammar kind n v)
  unfolding after_grammar
  grammar-valid h =
      split (eqb kind (kind_number SE))
      (λ a. rw a (split (is_among n v.grammars)
      (λ e. rw e x)
      (λ e. rw e (grammar-grows x n (h (eqb-true kind (kind_number SE) a)) e))))
      (λ a. rw a x)

  -- The lists that a grammar does not touch.
  grammar-names : (after_grammar kind n v).names ≡ v.names
  unfolding after_grammar with_grammar
  grammar-names = go (eqb kind (kind_number SE)) (is_among n v.grammars)
    where
      go : (a b : Bool) → (cond a (cond b v (with_grammar v n)) v).names ≡ v.names
      go true true = refl
      go true false = refl
      go false b = refl

  grammar-learned : (after_grammar kind n v).learned ≡ v.learned
  unfolding after_grammar with_grammar
  grammar-learned = go (eqb kind (kind_number SE)) (is_among n v.grammars)
    where
      go : (a b : Bool) → (cond a (cond b v (with_grammar v n)) v).learned ≡ v.learned
      go true true = refl
      go true false = refl
      go false b = refl

  learned-valid : (b : Bool) → (kind ≡ kind_number SE → n < length v.names)
      → (b ≡ true → Fresh v l) → Valid (after_learned b l (after_grammar kind n v))
  unfolding after_learned
  learned-valid true h f =
      let u = f refl in
      learned-grows (grammar-valid h) l
      (subst (λ es. LearntFits (length es) l) (sym grammar-names) u.fits)
      (λ i m e.
      let c : length (after_grammar kind n v).learned ≡ length v.learned =
      ap length grammar-learned in
      u.new i (omega (arith, c, m)) (ap (λ ls. learnt_at ls i) (sym grammar-learned) ∙ e))
  learned-valid false h f = grammar-valid h

  learned-names : (b : Bool) → (after_learned b l (after_grammar kind n v)).names ≡ v.names
  unfolding after_learned with_learned
  learned-names true = grammar-names
  learned-names false = grammar-names

  attribute-rows : (kind ≡ kind_number AT → n < length v.names) → (i : ℕ)
      → i < length (attributes_after kind n v.attributes)
      → get_or (attributes_after kind n v.attributes) i 0 < length v.names
  unfolding attributes_after
  attribute-rows a =
      split (eqb kind (kind_number AT))
      (λ t. rw t (λ i m. joined (a (eqb-true kind (kind_number AT) t)) i m))
      (λ t. rw t (λ i m. absurd (omega (arith, m))))
    where
      joined : n < length v.names → (i : ℕ) → i < length (n ∷ v.attributes)
          → get_or (n ∷ v.attributes) i 0 < length v.names
      joined low zero m = low
      joined low (suc i) m = x.refers.attributes i (omega arith)

  pub leaves-valid : (b : Bool) → (kind ≡ kind_number SE → n < length v.names)
      → (kind ≡ kind_number AT → n < length v.names) → (b ≡ true → Fresh v l)
      → Valid (leaves kind n b l v)
  unfolding leaves
  leaves-valid b h a f =
      attributes-turn (learned-valid b h f) (attributes_after kind n v.attributes)
      (λ i m. omega (arith, attribute-rows a i m, ap length (learned-names b)))
