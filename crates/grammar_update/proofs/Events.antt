-- An event over rows, read or to be written: what it leaves in the grammars is what the definitions
-- leave.
use Prim.Native.Nat.{ℕ, ◌/◌, ◌≤◌, ◌<◌}
use native.Mathlib.Omega.{arith}
use mathlib.Core.Path.{◌≡◌, refl, sym, ap, subst, ◌∙◌}
use mathlib.Core.Bool.{Bool, true, false, cond, ◌&&◌, not, true≢false, and-false}
use mathlib.Core.List.{List, [], ◌∷◌, map}
use mathlib.Core.Option
use mathlib.Core.Option.{Option, none, some}
use lib.ListN.{length}
use lib.Dec.{eqb, ltb}
use borrow.Author.Tests.{eqb-true, ne_eqb, ltb-true, ltb-false}
use Rattle.spec_fields.proofs.Tests.{split}
use Rattle.text.specs.Text.{Text}
use Rattle.spec_exi.specs.Sizes.{sizes, max_learned}
use Rattle.spec_exi.specs.Settings.{Settings}
use Rattle.spec_exi.specs.Event.{QName, Event, start_document, end_document, end_element, start_element}
use Rattle.spec_exi.specs.Event.{attribute, characters, comment, instruction, map_name}
use Rattle.spec_exi.specs.Event.{Kind, SD, ED, SE, AT, EE, CH, CM, PI, kind_of, name_of}
use Rattle.spec_exi.specs.Tables.{Placed, name_text}
use Rattle.spec_exi.specs.Grammar.{kind_number, Production, Code, Site, site_of, State, taught, code_of}
use Rattle.spec_exi.specs.Context.{levels_in, items, after_items, after, next}
use Rattle.spec_exi.specs.Lists.{within_grammars}
use Rattle.spec_exi.specs.Alike.{Alike, AlikeTables}
use Rattle.event_code.specs.Numbers.{teaches_in, in_fragment, in_tag, in_element, number_of_se, number_of_at}
use Rattle.event_code.specs.Numbers.{number_of_ch}
use Rattle.event_code.proofs.Numbers.{teaches-in}
use Rattle.grammar_codes.specs.Table.{Stands}
use Rattle.mem_layout.specs.Layout.{uri_rows, name_rows, fragment_site}
use Rattle.mem_entries.specs.Entries.{key_at}
use Rattle.mem_learned.proofs.Grammars.{flag_is}
use Rattle.mem_rows.specs.Rows.{Rows, placed_at, name_at, kind_at, carries, carried_at, site_at}
use Rattle.mem_rows.specs.Rows.{production_of, state_of, is_among, mode_after, opened_after}
use Rattle.mem_rows.specs.Rows.{leaves, context_of, tables_of}
use Rattle.mem_rows.specs.Valid.{learnt_at, SiteFits, Valid}
use Rattle.mem_rows.proofs.Kept.{Kept, all-at, site-kept}
use Rattle.mem_rows.proofs.States.{site-none}
use Rattle.mem_rows.proofs.Events.{EventRows, event-context, Fresh, leaves-valid}
use Rattle.mem_rows.proofs.Alike.{event-alike}
use Rattle.mem_state.specs.declared.Core.{Core}
use Rattle.mem_state.specs.declared.Strings.{Strings}
use Rattle.mem_state.specs.declared.Growth.{Growth}
use Rattle.mem_state.specs.Holds.{taught_of, Stores, Ahead, Bounded, Topped, Represents}
use Rattle.mem_state.specs.Grows.{learnt_of, enters_in, Grows}
use Rattle.mem_state.proofs.Joins.{among-row}
use Rattle.mem_state.proofs.Taught.{ahead-kept}
use Rattle.grammar_match.specs.Here.{site_in, CodeRows, learned_here}
use Rattle.grammar_match.specs.Codes.{Strict, Unlearned}
use Rattle.grammar_match.specs.Found.{NamedBy, FoundHere}
use Rattle.grammar_match.proofs.Here.{site-half, site-low, site-fits, site-here, tag-site}
use Rattle.grammar_match.proofs.Here.{site-outer}
use Rattle.grammar_match.proofs.Unfit.{number-kind, kind-number}
use Rattle.grammar_update.specs.Growth.{growth_of, fits_in}
use Rattle.grammar_update.proofs.Tests.{fits-learned, fits-within}
use Rattle.grammar_update.proofs.Represented.{code-rows, inner-state}

-- ---- what is known of the event

-- Its kind, which can stand in the state, and the rows of its name and of that name's URI in v.
pub record EventNamed (v : Rows) (mode : ℕ) (s : Strings) (kind : ℕ) (e : Event Text) : Type 0 where
  pub kind-is : kind_number (kind_of e) ≡ kind
  pub stands : Stands mode kind
  pub named : NamedBy v e s.name_row
  pub key : carries (kind_of e) ≡ true → key_at v.names s.name_row ≡ s.uri_row
  pub plain : carries (kind_of e) ≡ false → s.uri_row ≡ 0

-- What it teaches by its code: nothing by that of a learned production; else by the state and the
-- kind, and then nothing alike is learned there yet.
pub record EventTaught (w : Rows) (mode top kind row : ℕ) (opened : List ℕ) (learned : Bool)
    (x : Code) (e : Event Text) : Type 0 where
  pub untaught : learned ≡ true → (q : Option (QName Placed))
      → taught (learned_here w mode opened) x (kind_of e) q ≡ none
  pub taught-is : learned ≡ false → in_fragment ≤ mode → (q : Option (QName Placed))
      → taught (learned_here w mode opened) x (kind_of e) q
      ≡ cond (teaches_in mode kind) (some (record { kind = kind_of e; qname = q })) none
  pub fresh : learned ≡ false → in_fragment ≤ mode → number_of_se ≤ kind → kind ≤ number_of_ch → (i : ℕ)
      → i < length w.learned
      → learnt_at w.learned i ≡ record { site = site_in mode top; kind = kind; name = row } → ⊥

module _ {o : Settings} {w : Rows} {store : Text} {mode top kind row : ℕ} {opened : List ℕ} {x : Code}
    {e : Event Text} where
  -- By a learned production.
  pub learned-taught : Strict o w store mode opened x e
      → EventTaught w mode top kind row opened true x e
  learned-taught u =
      record {
        untaught = λ _. u.untaught;
        taught-is = λ z. absurd (true≢false z);
        fresh = λ z. absurd (true≢false z);
      }

  -- By one of the table, where `find_learned` answers 0.
  pub fixed-taught : {work : List ℕ} {learned r : ℕ} → CodeRows work learned mode top w opened
      → FoundHere work mode top kind row learned r → r ≡ 0
      → Unlearned o w store mode opened kind x e
      → EventTaught w mode top kind row opened false x e
  fixed-taught h f z u =
      record {
        untaught = λ y. absurd (true≢false (sym y));
        taught-is = λ _. u.taught-is;
        fresh = λ _ m a b. f.fresh w h.hold m a b z;
      }

-- ---- names

-- Only SE and AT have one.
pub nameless : {A : Type 0} (e : Event A) → carries (kind_of e) ≡ false → name_of e ≡ none
unfolding kind_of name_of carries
nameless start_document e = refl
nameless end_document e = refl
nameless end_element e = refl
nameless (start_element q) e = absurd (true≢false e)
nameless (attribute q v) e = absurd (true≢false e)
nameless (characters v) e = refl
nameless (comment x) e = refl
nameless (instruction x y) e = refl

module _ (v : Rows) where
  pub carried-is : (k : Kind) (n : ℕ) → carries k ≡ true → carried_at v k n ≡ some (placed_at v n)
  unfolding carried_at
  carried-is k n h = rw h

  pub carried-not : (k : Kind) (n : ℕ) → carries k ≡ false → carried_at v k n ≡ none
  unfolding carried_at
  carried-not k n h = rw h

  -- A name, by its texts.
  pub text_of : (n : ℕ) → name_text (placed_at v n) ≡ name_at v n
  unfolding name_text map_name name_at
  text_of n = refl

carries-name : (k : Kind) → number_of_se ≤ kind_number k → kind_number k ≤ number_of_at → carries k ≡ true
unfolding kind_number carries
carries-name SD h l = absurd (omega arith)
carries-name ED h l = absurd (omega arith)
carries-name SE h l = refl
carries-name AT h l = refl
carries-name EE h l = absurd (omega arith)
carries-name CH h l = absurd (omega arith)
carries-name CM h l = absurd (omega arith)
carries-name PI h l = absurd (omega arith)

-- Where it has one, by its kind.
module _ {v : Rows} {mode : ℕ} {s : Strings} {kind : ℕ} {e : Event Text}
    (known : EventNamed v mode s kind e) (from : number_of_se ≤ kind) (up_to : kind ≤ number_of_at) where
  carries-known : carries (kind_of e) ≡ true
  carries-known =
      carries-name (kind_of e) (omega (arith, known.kind-is)) (omega (arith, known.kind-is))

  pub named-low : s.name_row < length v.names
  named-low = known.named.low carries-known

  pub named-as : name_of e ≡ some (name_at v s.name_row)
  named-as = known.named.is carries-known

-- ---- sites

-- Where there is a site, something is learned.
in-learning : {work : List ℕ} {learned mode top : ℕ} {w : Rows} {opened : List ℕ}
    → CodeRows work learned mode top w opened → (k : Site)
    → site_of (state_of mode (map (name_at w) opened)) ≡ some k → in_fragment ≤ mode
in-learning {mode = mode} {w = w} {opened = opened} r k e =
    split (ltb mode in_fragment)
    (λ t.
    let l = ltb-true mode in_fragment t in
    let z : opened ≡ [] = none_open opened (r.fits.outer (omega arith)) in
    absurd (none-some (sym (site-none mode l)
    ∙ ap (λ ns. site_of (state_of mode (map (name_at w) ns))) (sym z) ∙ e)))
    (λ t. ltb-false mode in_fragment t)
  where
    none_open : (ns : List ℕ) → length ns ≡ 0 → ns ≡ []
    none_open [] h = refl
    none_open (n ∷ ns) h = absurd (omega arith)

    none-some : {A : Type 0} {a : A} → none ≡ some a → ⊥
    none-some h = let z : ◌≡◌ {A = ℕ} 0 1 = cc in omega arith

-- AT teaches in a start tag alone.
teaches-tag : (mode kind : ℕ) → teaches_in mode kind ≡ true → kind ≡ number_of_at → mode ≡ in_tag
unfolding teaches_in
teaches-tag mode kind t e =
    split (eqb mode in_tag)
    (λ a. eqb-true mode in_tag a)
    (λ a. split (eqb mode in_element)
    (λ b. absurd (true≢false (sym t ∙ rw (e, a, b) (and-false (eqb mode in_fragment)))))
    (λ b. absurd (true≢false (sym t ∙ rw (e, a, b) (and-false (eqb mode in_fragment))))))

-- Outside of every element SE alone does.
teaches-alone : (mode kind : ℕ) → teaches_in mode kind ≡ true → mode < in_tag → kind ≡ number_of_se
unfolding teaches_in
teaches-alone mode kind t l =
    let a = ne_eqb mode in_tag (λ z. omega arith) in
    let b = ne_eqb mode in_element (λ z. omega arith) in
    split (eqb mode in_fragment)
    (λ d. eqb-true kind number_of_se (rw (a, b, d) at t))
    (λ d. absurd (true≢false (sym (rw (a, b, d) at t))))

-- ---- what the event leaves

module _ {work : List ℕ} {from : Stores} {c : Core} {w : Rows} {opened : List ℕ}
    (rep : Represents work from c w opened) (b : Bounded c) (top : Topped c opened) {v : Rows}
    (ahead : Ahead w v) (valid : Valid v) {s : Strings} {kind : ℕ} {e : Event Text}
    (known : EventNamed v c.mode s kind e) {learned : Bool} {x : Code}
    (by : EventTaught w c.mode c.top kind s.name_row opened learned x e) where
  abbrev here : CodeRows work c.learned c.mode c.top w opened
  here = code-rows rep b top

  abbrev state : State
  state = state_of c.mode (map (name_at w) opened)

  abbrev row : ℕ
  row = s.name_row

  abbrev g : Growth
  g = growth_of work c kind learned s

  -- Its name, where its strings lie.
  abbrev q : Option (QName Placed)
  q = carried_at v (kind_at kind) row

  kept : Kept w v
  kept = ahead-kept ahead rep.valid.refers

  kind-at : kind_of e ≡ kind_at kind
  kind-at = sym (number-kind (kind_of e)) ∙ ap kind_at known.kind-is

  carries-as : {z : Bool} → carries (kind_at kind) ≡ z → carries (kind_of e) ≡ z
  carries-as h = ap carries kind-at ∙ h

  pub carried-text : Option.map name_text q ≡ name_of e
  carried-text =
      split (carries (kind_at kind))
      (λ t.
      ap (Option.map name_text) (carried-is v (kind_at kind) row t) ∙ ap some (text_of v row)
      ∙ sym (known.named.is (carries-as t)))
      (λ t.
      ap (Option.map name_text) (carried-not v (kind_at kind) row t)
      ∙ sym (nameless e (carries-as t)))

  -- ---- what it teaches

  -- Only by a code that is not learned.
  teaches-parts : (not learned && teaches_in c.mode kind) ≡ true
      → (learned ≡ false) × (teaches_in c.mode kind ≡ true)
  teaches-parts h =
      split learned
      (λ t. absurd (true≢false (sym h ∙ ap (λ z. not z && teaches_in c.mode kind) t)))
      (λ f. (f, sym (ap (λ z. not z && teaches_in c.mode kind) f) ∙ h))

  produced : ◌≡◌ {A = Production} (record { kind = kind_of e; qname = q })
      (production_of v (learnt_of g))
  unfolding growth_of production_of
  produced = ap (λ (k : Kind). record { kind = k; qname = q }) kind-at

  site-is : in_fragment ≤ c.mode → site_of state ≡ some (site_at v (site_in c.mode c.top))
  site-is h =
      site-here here h
      ∙ ap some (sym (site-kept kept (site_in c.mode c.top) (site-fits here h)))

  taught-here : Option Production
  taught-here = taught (learned_here w c.mode opened) x (kind_of e) q

  taught-yes : g.teaches ≡ true
      → (site_of state ≡ some (site_at v g.site))
      × (taught-here ≡ some (production_of v (learnt_of g)))
  unfolding growth_of taught-here
  taught-yes h =
      let (f, t) = teaches-parts h in
      let d = teaches-in c.mode kind t in (
        site-is d.0,
        by.taught-is f d.0 q
            ∙ ap (λ z. cond z (some (record { kind = kind_of e; qname = q })) none) t
            ∙ ap some produced,
      )

  taught-no : g.teaches ≡ false → (k : Site) → site_of state ≡ some k → taught-here ≡ none
  unfolding growth_of taught-here
  taught-no h k site =
      split learned
      (λ t. by.untaught t q)
      (λ f.
      let z : teaches_in c.mode kind ≡ false =
      sym (ap (λ y. not y && teaches_in c.mode kind) f) ∙ h in
      by.taught-is f (in-learning here k site) q
      ∙ ap (λ y. cond y (some (record { kind = kind_of e; qname = q })) none) z)

  -- ---- the rows

  pub event-rows : EventRows w v c.mode opened row g.teaches (learnt_of g) x q e
  unfolding growth_of taught-here kind_number
  event-rows =
      let k = known.kind-is in
      record {
        joined = record {
          kept = kept;
          learned = ahead.learned;
          grammars = ahead.grammars;
          attributes = ahead.attributes;
        };
        fits = here.fits;
        opens = all-at 0 opened rep.opens.rows;
        leads = record {
          outside = λ h. here.fits.outer (known.stands.outside (omega (arith, k)));
          inside = λ h. here.fits.inner
              (known.stands.inside (omega (arith, k)) (omega (arith, k)));
          named = λ h. named-as known (omega (arith, k)) (omega (arith, k));
        };
        name = λ h. named-low known (omega (arith, k)) (omega (arith, k));
        attribute = λ h. named-as known (omega (arith, k)) (omega (arith, k));
        taught-is = taught-yes;
        taught_none = taught-no;
      }

  grammars-same : c.grammars ≡ length v.grammars
  grammars-same = rep.counts.grammars ∙ sym (ap length ahead.grammars)

  learned-same : c.learned ≡ length v.learned
  learned-same = rep.counts.learned ∙ sym (ap length ahead.learned)

  module _ (low : s.name_row < name_rows) where
    pub enters_is : g.enters ≡ enters_in v g.kind g.name
    unfolding growth_of
    enters_is =
        ap (λ z. eqb kind (kind_number SE) && not z)
        (flag_is rep.holds.grammars row low
        ∙ among-row w.grammars row
        ∙ ap (is_among row) (sym ahead.grammars))

    -- The sizes are the definitions' test.
    pub fits-is : (f : Bool) (store : Text)
        → within_grammars sizes
        (context_of (leaves g.kind g.name g.teaches (learnt_of g) v) store
        (mode_after f g.kind c.mode c.depth) (opened_after g.kind g.name opened))
        ≡ fits_in c g
    fits-is f store =
        fits-within v g store (mode_after f g.kind c.mode c.depth) opened b
        rep.opens.size grammars-same learned-same enters_is

    pub grows : s.uri_row < uri_rows → fits_in c g ≡ true → Grows v c g
    unfolding growth_of taught_of max_learned
    grows uri h =
        record {
          enters = enters_is;
          name = low;
          site = site-low c.mode c.top b.top;
          uri = uri;
          few = λ t. omega (arith, fits-learned c g h t, learned-same);
          count = learned-same;
          kind-is = kind-number kind known.stands.known;
          uri-is = λ t.
              split (carries (kind_at kind))
              (λ k. rw k (sym (known.key (carries-as k))))
              (λ k. rw k (known.plain (carries-as k)));
        }

  -- What has no name is taught in an element, whose name has a row.
  plain-low : teaches_in c.mode kind ≡ true → carries (kind_at kind) ≡ false
      → row < length v.names
  unfolding carries kind_at
  plain-low z y =
      split (ltb c.mode in_tag)
      (λ t.
      let e = teaches-alone c.mode kind z (ltb-true c.mode in_tag t) in
      absurd (true≢false (rw e at y)))
      (λ t.
      let k = (inner-state rep b top (ltb-false c.mode in_tag t)).1 in
      omega (arith, k, kept.fewer, known.named.nameless (carries-as y)))

  fresh : g.teaches ≡ true → Fresh v (learnt_of g)
  unfolding growth_of
  fresh t =
      let (f, z) = teaches-parts t in
      let d = teaches-in c.mode kind z in
      let n = kept.fewer in
      record {
        fits = record {
          site = λ o. omega (arith, site-fits here d.0 o);
          alone = λ o. teaches-alone c.mode kind z (site-outer c.mode c.top b.top o);
          from = d.1;
          up_to = d.2;
          tag = λ y.
              let j = sym (tag-site c.top (teaches-tag c.mode kind z y)) in
              omega (arith, j);
          name = split (carries (kind_at kind))
              (λ y. known.named.low (carries-as y))
              (λ y. plain-low z y);
          plain = λ y. known.named.nameless (carries-as y);
        };
        new = λ i h y.
            by.fresh f d.0 d.1 d.2 i (omega (arith, ap length ahead.learned, h))
            (ap (λ ls. learnt_at ls i) (sym ahead.learned) ∙ y);
      }

  pub start-named : g.kind ≡ kind_number SE → g.name < length v.names
  unfolding growth_of kind_number
  start-named z = named-low known (omega arith) (omega arith)

  attribute-named : g.kind ≡ kind_number AT → g.name < length v.names
  unfolding growth_of kind_number
  attribute-named z = named-low known (omega arith) (omega arith)

  pub left-valid : Valid (leaves g.kind g.name g.teaches (learnt_of g) v)
  left-valid =
      leaves-valid g.kind g.name (learnt_of g) valid g.teaches start-named attribute-named
      fresh

  -- ---- the context after it

  module _ (o : Settings) (store store' : Text) where
    pub left-context :
        after o (context_of w store c.mode opened) x (tables_of v store') q e
        ≡ context_of (leaves g.kind g.name g.teaches (learnt_of g) v) store'
        (mode_after o.fragment g.kind c.mode c.depth) (opened_after g.kind g.name opened)
    unfolding growth_of
    left-context =
        sym (event-context o rep.valid.refers valid event-rows store store')
        ∙ ap (λ k. context_of (leaves k row g.teaches (learnt_of g) v) store'
        (mode_after o.fragment k c.mode (length opened)) (opened_after k row opened)) known.kind-is
        ∙ ap (λ d. context_of (leaves kind row g.teaches (learnt_of g) v) store'
        (mode_after o.fragment kind c.mode d) (opened_after kind row opened)) rep.opens.size

    -- The same up to places, where its strings leave tables alike.
    pub left-alike :
        code_of (levels_in o (context_of w store c.mode opened)) e ≡ some x
        → AlikeTables (after_items (tables_of w store) (items state x.production e))
        (tables_of v store')
        → Alike (next o (context_of w store c.mode opened) e)
        (context_of (leaves g.kind g.name g.teaches (learnt_of g) v) store'
        (mode_after o.fragment g.kind c.mode c.depth) (opened_after g.kind g.name opened))
    unfolding growth_of
    left-alike code tables =
        subst (λ d. Alike (next o (context_of w store c.mode opened) e)
        (context_of (leaves kind row g.teaches (learnt_of g) v) store'
        (mode_after o.fragment kind c.mode d) (opened_after kind row opened))) rep.opens.size
        (subst (λ k. Alike (next o (context_of w store c.mode opened) e)
        (context_of (leaves k row g.teaches (learnt_of g) v) store'
        (mode_after o.fragment k c.mode (length opened)) (opened_after k row opened))) known.kind-is
        (event-alike o rep.valid.refers valid event-rows store store' code carried-text tables))
