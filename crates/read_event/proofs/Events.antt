-- An event that was read, over rows: the definitions' tests of it, and the context that it leaves.
use Prim.Native.Nat.{ℕ, suc, ◌-◌, ◌<◌}
use native.Mathlib.Omega.{arith}
use mathlib.Core.Path.{◌≡◌, refl, sym, ap, ◌∙◌}
use mathlib.Core.Bool.{Bool, true, false, cond, true≢false}
use mathlib.Core.List.{List, map}
use mathlib.Core.Option
use mathlib.Core.Option.{Option, none, some}
use lib.ListN.{length, take}
use borrow.Author.Tests.{eqb-true, eqb-false, eq-eqb, not-true, not-false}
use Rattle.spec_fields.proofs.Tests.{split, T-is}
use Rattle.text.specs.Text.{Text}
use Rattle.spec_exi.specs.Sizes.{sizes}
use Rattle.spec_exi.specs.Settings.{Settings}
use Rattle.spec_exi.specs.Event.{QName, Event, Kind, SE, kind_of, name_of}
use Rattle.spec_exi.specs.Event.{eq_name}
use Rattle.spec_exi.specs.Tables.{Placed, Tables, name_text, event_text}
use Rattle.spec_exi.specs.Grammar.{kind_number, Production, Code, fits, fits_name}
use Rattle.spec_exi.specs.Grammar.{State}
use Rattle.spec_exi.specs.Grammar.{same_code, first_fit, code_of, tag_allows}
use Rattle.spec_exi.specs.Context.{levels_in, after}
use Rattle.spec_exi.specs.Lists.{within_grammars}
use Rattle.spec_exi.proofs.Codes.{eq_name-refl}
use Rattle.mem_rows.specs.Rows.{Rows, placed_at, name_at, kind_at, carries, carried_at}
use Rattle.mem_rows.specs.Rows.{state_of, mode_after}
use Rattle.mem_rows.specs.Rows.{opened_after, leaves, context_of}
use Rattle.mem_rows.specs.Valid.{Valid}
use Rattle.mem_state.specs.declared.Core.{Core}
use Rattle.mem_state.specs.declared.Growth.{Growth}
use Rattle.mem_state.specs.Holds.{in_store, Ahead, Bounded, Topped, Represents}
use Rattle.mem_state.specs.Holds.{context_at}
use Rattle.mem_state.specs.Grows.{learnt_of, Grows}
use Rattle.mem_state.proofs.Strung.{strings-ahead}
use Rattle.grammar_match.specs.Here.{CodeRows, learned_here}
use Rattle.grammar_match.specs.Found.{Finds}
use Rattle.grammar_match.proofs.Unfit.{kind-number}
use Rattle.grammar_match.proofs.Codes.{same_parts}
use Rattle.grammar_update.specs.Growth.{growth_of, fits_in}
use Rattle.grammar_update.proofs.Represented.{code-rows, inner-state}
use Rattle.grammar_update.proofs.Events.{EventNamed, EventTaught, nameless, carried-is, carried-not}
use Rattle.grammar_update.proofs.Events.{text_of}
use Rattle.grammar_update.proofs.Events as update
use Rattle.grammar_update.proofs.Allowed as update-allows
use Rattle.read_production.specs.View.{ProductionRead}
use Rattle.read_production.specs.Production.{IsCode, ProductionBounds}
use Rattle.read_qname.specs.Qnames.{tables_at}
use Rattle.read_content.specs.View.{Content}
use Rattle.read_content.specs.Contents.{ContentRows, ContentBounds, ContentMeans}
use Rattle.read_event.specs.Judge.{LooseHere, allowed_here}
use Rattle.read_event.proofs.Rows.{kind-text, name-text}

-- ---- productions and names

fits-as : (k : Kind) (o : Option (QName Placed)) (e : Event Text) → kind_of e ≡ k
    → fits_name o (name_of e) ≡ true → fits (record { kind = k; qname = o }) e ≡ true
unfolding fits
fits-as k o e a f = rw (a, f, eq-eqb (kind_number k) (kind_number k) refl)

fits-own : (q : QName Placed) → fits_name (some q) (some (name_text q)) ≡ true
unfolding fits_name
fits-own q = T-is (eq_name (name_text q) (name_text q)) (eq_name-refl (name_text q))

fits-any : (n : Option (QName Text)) → fits_name none n ≡ true
unfolding fits_name
fits-any n = refl

module _ (w : Rows) where
  pub carried_some : (l : Bool) (k : Kind) (n : ℕ) → l ≡ true → carries k ≡ true
      → cond l (carried_at w k n) none ≡ some (placed_at w n)
  carried_some l k n a h = rw a (carried-is w k n h)

  carried_none : (l : Bool) (k : Kind) (n : ℕ) → carries k ≡ false
      → cond l (carried_at w k n) none ≡ none
  carried_none true k n h = carried-not w k n h
  carried_none false k n h = refl

module _ {work text : List ℕ} {c : Core} {w : Rows} {opened : List ℕ}
    (rep : Represents work (in_store text c.stored) c w opened) (b : Bounded c)
    (top : Topped c opened) (s : Settings)
    {p : ProductionRead} (bounds : ProductionBounds c.mode p) {x : Code}
    (code : IsCode s w (take c.stored text) c.mode opened p x) where
  abbrev here : CodeRows work c.learned c.mode c.top w opened
  here = code-rows rep b top

  abbrev state : State
  state = state_of c.mode (map (name_at w) opened)

  -- What the content is read by.
  pub content-rows : ContentRows c p state w
  unfolding kind_number
  content-rows =
      record {
        inner = λ e. inner-state rep b top (bounds.stands.inside (omega arith) (omega arith));
        carried = λ l k.
            let n = code.rows l in
            record { row = n.name; uri-is = n.uri k; local-is = n.local };
      }

  -- ---- the event

  module _ {text₁ : List ℕ} {y : Content} {v : Event Placed × Tables}
      (m : ContentMeans p.kind text₁ w y v)
      (own : p.learned ≡ true → carries (kind_at p.kind) ≡ true
      → name_of v.0 ≡ some (placed_at w p.name)) where
    abbrev e : Event Text
    e = event_text v.0

    abbrev row : ℕ
    row = y.strings.name_row

    kind-of : kind_of e ≡ kind_at p.kind
    kind-of = kind-text v.0 ∙ m.kind-is

    kind-is : kind_number (kind_of e) ≡ p.kind
    kind-is = ap kind_number kind-of ∙ kind-number p.kind bounds.stands.known

    ahead : Ahead w m.rows
    ahead = strings-ahead m.joins

    carried-as : {z : Bool} → carries (kind_of e) ≡ z → carries (kind_of v.0) ≡ z
    carried-as h = ap carries (sym (kind-text v.0)) ∙ h

    -- The name, where its strings lie.
    name-carried : name_of v.0 ≡ carried_at m.rows (kind_at p.kind) row
    name-carried =
        split (carries (kind_at p.kind))
        (λ t.
        (m.named (ap carries m.kind-is ∙ t)).name
        ∙ sym (carried-is m.rows (kind_at p.kind) row t))
        (λ t.
        nameless v.0 (ap carries m.kind-is ∙ t)
        ∙ sym (carried-not m.rows (kind_at p.kind) row t))

    known : EventNamed m.rows c.mode y.strings p.kind e
    known =
        record {
          kind-is = kind-is;
          stands = bounds.stands;
          named = record {
            low = λ h. (m.named (carried-as h)).row;
            is = λ h.
                name-text v.0 ∙ ap (Option.map name_text) (m.named (carried-as h)).name
                ∙ ap some (text_of m.rows row);
            nameless = λ h. (m.unnamed (carried-as h)).row;
          };
          key = λ h. (m.named (carried-as h)).key;
          plain = λ h. (m.unnamed (carried-as h)).uri;
        }

    -- A learned production fits the event.
    learned-fits : p.learned ≡ true → fits x.production e ≡ true
    learned-fits l =
        ap (λ (q : Production). fits q e) code.production
        ∙ fits-as (kind_at p.kind)
        (cond p.learned (carried_at w (kind_at p.kind) p.name) none) e kind-of
        (split (carries (kind_at p.kind))
        (λ k.
        ap (λ o. fits_name o (name_of e))
        (carried_some w p.learned (kind_at p.kind) p.name l k)
        ∙ ap (fits_name (some (placed_at w p.name)))
        (name-text v.0 ∙ ap (Option.map name_text) (own l k))
        ∙ fits-own (placed_at w p.name))
        (λ k.
        ap (λ o. fits_name o (name_of e))
        (carried_none w p.learned (kind_at p.kind) p.name k) ∙ fits-any (name_of e)))

    -- ---- SHAPE

    pub allows-is : ContentBounds c y.stored y.strings
        → tag_allows (context_at text c w opened).tag e ≡ allowed_here work c p y.strings
    allows-is bs =
        update-allows.allows-is rep ahead m.joins.valid known bs.name (take c.stored text)

    -- ---- LOOSE

    module _ {l : Bool} (loose : LooseHere work c p y.strings l) where
      finds : (f : p.learned ≡ false)
          → Finds w c.mode c.top row opened e (loose.fixed f).row
      finds f =
          (loose.fixed f).found.means w m.rows opened e rep.valid m.joins.valid ahead
          here kind-is known.named

      -- The row is 0 where it is not LOOSE.
      no_row : (f : p.learned ≡ false) → l ≡ false → (loose.fixed f).row ≡ 0
      no_row f z = eqb-true (loose.fixed f).row 0 (not-false _ (sym (loose.fixed f).is ∙ z))

      misses : p.learned ≡ false → l ≡ false
          → first_fit (learned_here w c.mode opened) e ≡ none
      misses f z = (finds f).miss (no_row f z)

      pub same_code_lem : l ≡ false
          → same_code x.parts (code_of (levels_in s (context_at text c w opened)) e) ≡ true
      same_code_lem z =
          split p.learned
          (λ t. same_parts rep.valid here s (take c.stored text) e
          (code.strict t e (learned-fits t)).is)
          (λ f. same_parts rep.valid here s (take c.stored text) e
          ((code.fixed f e kind-is).strict (misses f z)).is)

      pub other-code : l ≡ true
          → same_code x.parts (code_of (levels_in s (context_at text c w opened)) e) ≡ false
      other-code z =
          split p.learned
          (λ t. absurd (true≢false (sym z ∙ loose.learned t)))
          (λ f.
          let g : ℕ = (loose.fixed f).row in
          let some-row : g ≡ 0 → ⊥ = eqb-false g 0 (not-true _ (sym (loose.fixed f).is ∙ z)) in
          let one : g ≡ suc (g - 1) = omega (arith, some-row) in
          (code.fixed f e kind-is).loose _ ((finds f).hit (g - 1) one).first)

      -- ---- what the event leaves, where its code is the strict one

      module _ (strict : l ≡ false) where
        by : EventTaught w c.mode c.top p.kind row opened p.learned x e
        by =
            record {
              untaught = λ t. (code.strict t e (learned-fits t)).untaught;
              taught-is = λ f. ((code.fixed f e kind-is).strict (misses f strict)).taught-is;
              fresh = λ f h a d. (loose.fixed f).found.fresh w here.hold h a d
                  (no_row f strict);
            }

        abbrev g : Growth
        g = growth_of work c p.kind p.learned y.strings

        abbrev left : Rows
        left = leaves g.kind g.name g.teaches (learnt_of g) m.rows

        module _ (bs : ContentBounds c y.stored y.strings) where
          pub fits-is : (store : Text)
              → within_grammars sizes
              (context_of left store (mode_after s.fragment g.kind c.mode c.depth)
              (opened_after g.kind g.name opened)) ≡ fits_in c g
          fits-is = update.fits-is rep b top ahead m.joins.valid known by bs.name s.fragment

          pub grows : fits_in c g ≡ true → Grows m.rows c g
          grows = update.grows rep b top ahead m.joins.valid known by bs.name bs.uri

          pub left-valid : Valid left
          left-valid = update.left-valid rep b top ahead m.joins.valid known by

          pub start-named : g.kind ≡ kind_number SE → g.name < length m.rows.names
          start-named = update.start-named rep b top ahead m.joins.valid known by

          -- The definitions' context after the event.
          pub left-context :
              after s (context_at text c w opened) x v.1 (name_of v.0) e
              ≡ context_of left (take y.stored text₁) (mode_after s.fragment g.kind c.mode c.depth)
              (opened_after g.kind g.name opened)
          left-context =
              ap (λ (t : Tables). after s (context_at text c w opened) x t (name_of v.0) e)
              m.tables
              ∙ ap (λ (o : Option (QName Placed)). after s (context_at text c w opened) x
              (tables_at text₁ y.stored m.rows) o e) name-carried
              ∙ update.left-context rep b top ahead m.joins.valid known by s
              (take c.stored text) (take y.stored text₁)
