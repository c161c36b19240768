-- The answers of `read_event`, with what they leave.
use Prim.Native.Nat.{ℕ, ◌+◌, ◌-◌, ◌*◌, ◌≤◌, ◌<◌}
use native.Mathlib.Omega.{arith}
use mathlib.Core.Path.{◌≡◌, refl, sym, ap, subst, ◌∙◌}
use mathlib.Core.Bool.{Bool, true, false}
use mathlib.Core.List.{List, map}
use mathlib.Core.Option.{some}
use lib.ListN.{length, take, drop, replicate}
use Rattle.spec_fields.specs.Bits.{unpack}
use Rattle.spec_fields.proofs.Tests.{split}
use Rattle.spec_fields.specs.Refusal.{number_of, shape, loose, limit}
use Rattle.spec_fields.specs.Parser.{Parser, return, need, ◌>>=◌, ◌>>◌}
use Rattle.spec_exi.specs.Sizes.{sizes}
use Rattle.spec_exi.specs.Settings.{Settings}
use Rattle.spec_exi.specs.Event.{Event, name_of}
use Rattle.spec_exi.specs.Tables.{Placed, Tables, event_text}
use Rattle.spec_exi.specs.Grammar.{State, Production, Code, code_of, same_code, tag_allows}
use Rattle.spec_exi.specs.Context.{Context, levels_in, after}
use Rattle.spec_exi.specs.Lists.{within_grammars}
use Rattle.spec_exi.specs.Reader.{read_code, readContent, step}
use Rattle.mem_rows.specs.Rows.{Rows, placed_at, name_at, kind_at, carries, state_of}
use Rattle.mem_rows.specs.Rows.{context_of}
use Rattle.mem_state.specs.declared.Core.{Core}
use Rattle.mem_state.specs.declared.Growth.{Growth}
use Rattle.mem_state.specs.Holds.{in_store, Topped, Represents, context_at}
use Rattle.read_contract.specs.Outcome.{Declined, Gotten, Outcome}
use Rattle.read_contract.proofs.Outcome.{refused-outcome, declined-then}
use Rattle.read_contract.proofs.Outcome.{outcome-then, return-outcome}
use Rattle.read_contract.proofs.Outcome.{need-passed, need-declined, declined-as, need-true}
use Rattle.read_literal.specs.Literal.{laid_at}
use Rattle.read_literal.proofs.Store.{laid_none}
use Rattle.read_production.specs.View.{ProductionRead}
use Rattle.read_production.specs.Production.{ProductionPre, ProductionPost, IsCode}
use Rattle.grammar_match.proofs.Here.{site-low}
use Rattle.grammar_update.specs.Growth.{GrowthPre, growth_of, fits_in}
use Rattle.grammar_update.proofs.Represented.{code-rows}
use Rattle.read_qname.specs.Texts.{TextRead}
use Rattle.read_qname.specs.Qnames.{tables_at}
use Rattle.read_qname.proofs.Texts.{text-size, text-cleared}
use Rattle.read_content.specs.View.{Content}
use Rattle.read_content.specs.Contents.{ContentPre, ContentMeans, ContentPost, carried_by}
use Rattle.read_event.specs.View.{Judged, EventRead, refused_as}
use Rattle.read_event.specs.Judge.{judge_number, allowed_here, JudgePost, EventPre}
use Rattle.read_event.specs.Judge.{EventBounds, EventPost}
use Rattle.read_event.proofs.Rows.{prepared, content-name}
use Rattle.read_event.proofs.Events.{content-rows, allows-is, same_code_lem, other-code}
use Rattle.read_event.proofs.Events.{fits-is, grows}
use Rattle.read_event.proofs.Events.{left-valid, start-named, left-context, carried_some}

-- ---- what is judged

judge-none : (l f : Bool) → judge_number l f ≡ 0 → (l ≡ false) × (f ≡ true)
unfolding judge_number number_of
judge-none true f e = absurd (omega arith)
judge-none false true e = (refl, refl)
judge-none false false e = absurd (omega arith)

-- The definitions' tests after the content.
module _ (s : Settings) (C : Context) (x : Code) (v : Event Placed × Tables) where
  abbrev left : Context
  left = after s C x v.1 (name_of v.0) (event_text v.0)

  abbrev is_strict : Bool
  is_strict = same_code x.parts (code_of (levels_in s C) (event_text v.0))

  abbrev is_allowed : Bool
  is_allowed = tag_allows C.tag (event_text v.0)

  -- LOOSE, then the sizes.
  abbrev later : Parser (Event Placed × Context)
  later =
      need is_strict loose >> (need (within_grammars sizes left) limit >> return (v.0, left))

  abbrev tests : Parser (Event Placed × Context)
  tests = need is_allowed shape >> later

  tests-equal : {stream : List ℕ} {at : ℕ} → is_allowed ≡ false
      → Declined tests stream at (number_of shape)
  tests-equal a = need-declined is_allowed shape _ a

  later-declined : {stream : List ℕ} {at : ℕ} (l f : Bool) → 0 < judge_number l f
      → (l ≡ true → is_strict ≡ false) → (l ≡ false → is_strict ≡ true)
      → (l ≡ false → within_grammars sizes left ≡ f)
      → Declined later stream at (judge_number l f)
  unfolding judge_number
  later-declined true f h a b d = need-declined is_strict loose _ (a refl)
  later-declined false true h a b d = absurd (omega arith)
  later-declined false false h a b d =
      declined-as (need-true is_strict loose _ _ (b refl))
      (need-declined (within_grammars sizes left) limit _ (d refl))

  tests-declined : {stream : List ℕ} {at k : ℕ} → is_allowed ≡ true → Declined later stream at k
      → Declined tests stream at k
  tests-declined a d = declined-as (need-true is_allowed shape later _ a) d

  tests-passed : {stream : List ℕ} {at : ℕ} {good : Event Placed × Context → Type 0}
      → at ≤ 8 * length stream → is_allowed ≡ true → is_strict ≡ true
      → within_grammars sizes left ≡ true → good (v.0, left) → Outcome tests stream at 0 at good
  tests-passed l o a b h =
      need-passed is_allowed shape o
      (need-passed is_strict loose a
      (need-passed (within_grammars sizes left) limit b (return-outcome (v.0, left) h l)))

pub production-asks : {stream text work : List ℕ} {c : Core} → EventPre stream text work c
    → ProductionPre stream c.at c.top c.learned work
production-asks pre =
    record {
      size = pre.size;
      place = pre.place;
      low = pre.bounded.top;
      few = pre.bounded.learned;
      room = pre.rows;
    }

module _ {s : Settings} {stream text work : List ℕ} {c : Core}
    (pre : EventPre stream text work c) {p : ProductionRead}
    (post₁ : ProductionPost s stream c.at c.mode c.top c.learned work p) where
  -- A code that is refused.
  pub code-refused : 0 < p.number
      → EventPost s stream text work c text (refused_as p.number c)
  unfolding step
  code-refused h =
      record {
        inside = pre.place;
        refused = λ _. (
          refl,
          record {
            cells = 0;
            room = omega (arith, pre.bounded.stored);
            text-is = laid_none text c.stored;
          },
        );
        laid = λ z. absurd (omega arith);
        bounds = λ z. absurd (omega arith);
        meant = λ w opened rep top.
            refused-outcome (declined-then _
            ((post₁.meant w (take c.stored text) opened rep.valid
            (code-rows rep pre.bounded top)).refused h));
      }

  module _ (z₁ : p.number ≡ 0) where
    pub content-asks : ContentPre stream p.next text work c p
    content-asks =
        record {
          pair = record {
            literal = record {
              size = pre.size;
              place = post₁.inside;
              room = pre.room;
              few = pre.bounded.stored;
            };
            room = pre.rows;
            bounded = pre.bounded;
          };
          carried = record {
            room = pre.rows;
            name_low = (post₁.bounds z₁).name;
            uri_low = (post₁.bounds z₁).uri;
            local_low = (post₁.bounds z₁).local;
          };
        }

    module _ {text₁ : List ℕ} {y : Content}
        (post₂ : ContentPost s.alignment stream p.next text work c p text₁ y) where
      pub clear_room : c.stored + (y.stored - c.stored) ≤ length text₁
      clear_room =
          let t = post₂.text-read in
          omega (arith, t.stored_is, t.room, text-size pre.room t, pre.room)

      pub stored_grows : c.stored ≤ y.stored
      stored_grows = omega (arith, post₂.text-read.stored_is)

      stored_back : c.stored + (y.stored - c.stored) ≡ y.stored
      stored_back = omega (arith, post₂.text-read.stored_is)

      -- A refusal after the content: what was laid is cleared.
      module _ {text₂ : List ℕ} (k : ℕ) (h : 0 < k)
          (cl : text₂ ≡ laid_at text₁ c.stored (replicate (y.stored - c.stored) 0)) where
        dropped : ((w : Rows) (opened : List ℕ)
            → Represents work (in_store text c.stored) c w opened → Topped c opened
            → Declined (step sizes s (context_at text c w opened)) stream c.at k)
            → EventPost s stream text work c text₂ (refused_as k c)
        dropped d =
            record {
              inside = pre.place;
              refused = λ _. (
                refl,
                text-cleared (y.stored - c.stored) pre.room post₂.text-read stored_back
                    cl,
              );
              laid = λ z. absurd (omega arith);
              bounds = λ z. absurd (omega arith);
              meant = λ w opened rep top. refused-outcome (d w opened rep top);
            }

      -- ---- the content over rows

      module _ {w : Rows} {opened : List ℕ}
          (rep : Represents work (in_store text c.stored) c w opened) (top : Topped c opened) where
        abbrev C : Context
        C = context_at text c w opened

        code-outcome : Outcome (read_code s.alignment (levels_in s C)) stream c.at p.number
            p.next (IsCode s w (take c.stored text) c.mode opened p)
        code-outcome =
            post₁.meant w (take c.stored text) opened rep.valid
            (code-rows rep pre.bounded top)

        abbrev code_got : Gotten (read_code s.alignment (levels_in s C)) stream c.at p.next
        code_got = code-outcome.read z₁

        code : IsCode s w (take c.stored text) c.mode opened p code_got.value
        code = code-outcome.is z₁

        abbrev state : State
        state = state_of c.mode (map (name_at w) opened)

        content-outcome : Outcome (readContent sizes s (tables_at text c.stored w) state
            (kind_at p.kind) (carried_by p w)) stream p.next y.number y.next
            (ContentMeans p.kind text₁ w y)
        content-outcome =
            post₂.meant s refl w state (prepared rep)
            (content-rows rep pre.bounded top s (post₁.bounds z₁) code)

        -- The whole step, by what comes after the code.
        after-code : {k q : ℕ} {good : Event Placed × Context → Type 0}
            → Outcome (readContent sizes s (tables_at text c.stored w) state (kind_at p.kind)
            (carried_by p w) >>= tests s C code_got.value) stream p.next k q good
            → Outcome (step sizes s C) stream c.at k q good
        unfolding step context_of
        after-code {k} {q} {good} o =
            outcome-then _ code_got
            (subst
            (λ (d : Production). Outcome
            (readContent sizes s (tables_at text c.stored w) state d.kind d.qname
            >>= tests s C code_got.value) stream p.next k q good) (sym code.production) o)

      pub content-stops : 0 < y.number → {text₂ : List ℕ}
          → text₂ ≡ laid_at text₁ c.stored (replicate (y.stored - c.stored) 0)
          → EventPost s stream text work c text₂ (refused_as y.number c)
      content-stops h cl =
          dropped y.number h cl
          (λ w opened rep top.
          (after-code rep top {q = y.next} {good = λ _. Unit {0}}
          (refused-outcome (declined-then _ ((content-outcome rep top).refused h)))).refused h)

      -- ---- the tests

      module _ (z₂ : y.number ≡ 0) where
        pub judge-asks : GrowthPre work c y.strings
        judge-asks =
            record {
              room = pre.rows;
              name = (post₂.bounds z₂).name;
              top = pre.bounded.top;
              few = pre.bounded.learned;
            }

        module _ {j : Judged} (judged : JudgePost work c p y.strings j) where
          abbrev g : Growth
          g = growth_of work c p.kind p.learned y.strings

          module _ {w : Rows} {opened : List ℕ}
              (rep : Represents work (in_store text c.stored) c w opened) (top : Topped c opened) where
            abbrev content-got : Gotten (readContent sizes s (tables_at text c.stored w)
                (state rep top) (kind_at p.kind) (carried_by p w)) stream p.next y.next
            content-got = (content-outcome rep top).read z₂

            means : ContentMeans p.kind text₁ w y content-got.value
            means = (content-outcome rep top).is z₂

            own : p.learned ≡ true → carries (kind_at p.kind) ≡ true
                → name_of content-got.value.0 ≡ some (placed_at w p.name)
            own l k =
                content-name (placed_at w p.name) sizes s (tables_at text c.stored w)
                (state rep top) (kind_at p.kind) (drop p.next (unpack stream)) k
                (ap (λ o. readContent sizes s (tables_at text c.stored w) (state rep top)
                (kind_at p.kind) o (drop p.next (unpack stream)))
                (sym (carried_some w p.learned (kind_at p.kind) p.name l k))
                ∙ content-got.result)

            after-content : {k : ℕ} {good : Event Placed × Context → Type 0}
                → Outcome (tests s (C rep top) (code_got rep top).value content-got.value)
                stream y.next k y.next good
                → Outcome (step sizes s (C rep top)) stream c.at k y.next good
            after-content o = after-code rep top (outcome-then _ content-got o)

            allows : {o : Bool} → allowed_here work c p y.strings ≡ o
                → is_allowed s (C rep top) (code_got rep top).value content-got.value ≡ o
            allows z =
                allows-is rep pre.bounded top s (post₁.bounds z₁) (code rep top) means own
                (post₂.bounds z₂) ∙ z

            -- SHAPE, LOOSE, or a size that is passed.
            abbrev DeclinedAs : ℕ → Type 0
            DeclinedAs k =
                Declined (tests s (C rep top) (code_got rep top).value content-got.value) stream
                y.next k

            declined : 0 < j.number → DeclinedAs j.number
            declined h =
                let e = pre.bounded in
                let b = post₁.bounds z₁ in
                let x = code rep top in
                let d = post₂.bounds z₂ in
                split (allowed_here work c p y.strings)
                (λ z.
                let t = judged.tested z in
                let l = t.l-is in
                subst DeclinedAs (sym t.number_is)
                (tests-declined s (C rep top) (code_got rep top).value content-got.value
                (allows z)
                (later-declined s (C rep top) (code_got rep top).value content-got.value
                t.l (fits_in c g) (omega (arith, t.number_is, h))
                (other-code rep e top s b x means own l) (same_code_lem rep e top s b x means own l)
                (λ i.
                ap (within_grammars sizes) (left-context rep e top s b x means own l i d)
                ∙ fits-is rep e top s b x means own l i d (take y.stored text₁)))))
                (λ z.
                subst DeclinedAs (sym (judged.equal z))
                (tests-equal s (C rep top) (code_got rep top).value content-got.value
                (allows z)))

          pub judge-stops : 0 < j.number → {text₂ : List ℕ}
              → text₂ ≡ laid_at text₁ c.stored (replicate (y.stored - c.stored) 0)
              → EventPost s stream text work c text₂ (refused_as j.number c)
          judge-stops h cl =
              dropped j.number h cl
              (λ w opened rep top.
              (after-content rep top {good = λ _. Unit {0}}
              (refused-outcome (declined rep top h))).refused h)

          abbrev read_as : EventRead
          read_as =
              record {
                number = 0;
                next = y.next;
                stored = y.stored;
                event = y.event;
                strings = y.strings;
                growth = j.growth;
              }

          event-bounds : fits_in c g ≡ true
              → EventBounds c
              (record {
                number = 0;
                next = y.next;
                stored = y.stored;
                event = y.event;
                strings = y.strings;
                growth = growth_of work c p.kind p.learned y.strings;
              })
          unfolding growth_of
          event-bounds f =
              record {
                strings = post₂.bounds z₂;
                stands = (post₁.bounds z₁).stands;
                fits = f;
                site = site-low c.mode c.top pre.bounded.top;
                name = refl;
                uri = refl;
              }

          passes : j.number ≡ 0 → allowed_here work c p y.strings ≡ true
          unfolding number_of
          passes z =
              split (allowed_here work c p y.strings) (λ o. o)
              (λ o. absurd (omega (arith, judged.equal o, z)))

          -- The event.
          pub event-read : j.number ≡ 0 → EventPost s stream text work c text₁ read_as
          event-read z₃ =
              let a = passes z₃ in
              let t = judged.tested a in
              let (l, f) = judge-none t.l (fits_in c g) (sym t.number_is ∙ z₃) in
              subst
              (λ (h : Growth). EventPost s stream text work c text₁
              (record {
                number = 0;
                next = y.next;
                stored = y.stored;
                event = y.event;
                strings = y.strings;
                growth = h;
              })) (sym judged.growth-is)
              (record {
                inside = post₂.inside;
                refused = λ h. absurd (omega arith);
                laid = λ _. subst (λ k. TextRead text c.stored text₁ k y.stored) z₂
                    post₂.text-read;
                bounds = λ _. event-bounds f;
                meant = λ w opened rep top.
                    let e = pre.bounded in
                    let b = post₁.bounds z₁ in
                    let m = means rep top in
                    let o = own rep top in
                    let i = t.l-is in
                    let d = post₂.bounds z₂ in
                    let x = code rep top in
                    let ctx = left-context rep e top s b x m o i l d in
                    after-content rep top
                    (tests-passed s (C rep top) (code_got rep top).value
                    (content-got rep top).value post₂.inside (allows rep top a)
                    (same_code_lem rep e top s b x m o i l)
                    (ap (within_grammars sizes) ctx
                    ∙ fits-is rep e top s b x m o i l d (take y.stored text₁) ∙ f)
                    (record {
                      rows = m.rows;
                      joins = m.joins;
                      grows = grows rep e top s b x m o i l d f;
                      event = m.event;
                      named = start-named rep e top s b x m o i l d;
                      valid = left-valid rep e top s b x m o i l d;
                      context = ctx;
                    }));
              })
