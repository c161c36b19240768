-- The event, as a look sees it.
use Prim.Native.Nat.{ℕ, ◌*◌, ◌≤◌, ◌<◌}
use mathlib.Core.Path.{◌≡◌, refl, sym, ◌∙◌, ap}
use mathlib.Core.Bool.{Bool, true, false, cond, true≢false}
use mathlib.Core.List.{List}
use mathlib.Core.Option.{Option, none, some}
use native.Mathlib.Omega.{arith}
use lib.ListN.{length, drop, take}
use lib.Dec.{eqb}
use borrow.Author.Tests.{eqb-true, eqb-false}
use Rattle.spec_fields.specs.Bits.{Bits, unpack}
use Rattle.spec_fields.specs.Refusal.{number_of, ended, shape, loose, limit}
use Rattle.spec_fields.specs.Parser.{Parser}
use Rattle.spec_fields.proofs.Tests.{split}
use Rattle.spec_exi.specs.Settings.{Settings}
use Rattle.spec_exi.specs.Sizes.{sizes}
use Rattle.spec_exi.specs.Event.{Event, QName, SE, EE}
use Rattle.spec_exi.specs.Tables.{Placed, Tables}
use Rattle.spec_exi.specs.Grammar.{State, Production, Code}
use Rattle.spec_exi.specs.Context.{Context, levels_in}
use Rattle.spec_exi.specs.Reader.{readName, readContent, read_code, step}
use Rattle.spec_exi.proofs.Steady.{steady-code}
use Rattle.mem_rows.specs.Rows.{Learnt, Rows, kind_at, carries, carried_at, tables_of, context_of}
use Rattle.mem_rows.specs.Rows.{name_at, placed_at, production_of}
use Rattle.mem_rows.specs.Valid.{LearntFits, Valid}
use Rattle.mem_state.specs.declared.Core.{Core}
use Rattle.mem_state.specs.Holds.{in_store, Topped, Represents, context_at}
use Rattle.event_code.specs.Numbers.{in_tag}
use Rattle.grammar_update.proofs.Represented.{code-rows, inner-state}
use Rattle.grammar_match.specs.Here.{CodeRows}
use Rattle.read_contract.specs.Outcome.{Declined, Gotten, Outcome}
use Rattle.read_production.specs.View.{ProductionRead}
use Rattle.read_production.specs.Levels.{FixedPre, FixedAt}
use Rattle.read_production.specs.Production.{ProductionPre, IsCode, ProductionPost}
use Rattle.receiver_strings.specs.View.{Looked}
use Rattle.receiver_strings.specs.Cuts.{Passes, CutAt, Sees}
use Rattle.receiver_strings.specs.Strings.{StringSeen}
use Rattle.receiver_strings.proofs.Cuts.{passes-return, passes-need, passes_then, passes-behind}
use Rattle.receiver_strings.proofs.Cuts.{cut-then, cut-behind, not-passed, cut-ended}
use Rattle.receiver_look.specs.Look.{HitPre, Tabled, Carries, ContentSeen, Valued}
use Rattle.receiver_look.specs.Look.{FixedLookPre, FixedFound, FixedSeen, LookPre, LookPost}
use Rattle.receiver_look.proofs.Events.{attribute-known, content-attribute}
use Rattle.receiver_look.proofs.Events.{content-characters}

-- ---- the rest of a code that names no learned production

module _ {stream work : List ℕ} {next : ℕ} {c : Core} (pre : FixedLookPre stream work next c) where
  pub rest-asks : FixedPre stream next
  rest-asks = record { size = pre.spot.size; place = pre.place }

  pub fixed-nothing : (s : Settings)
      → FixedSeen s stream work next c (record { past = false; at = c.at; left = 0 })
  fixed-nothing s =
      record {
        bounds = record { inside = pre.spot.place; few = omega arith };
        found = λ l. absurd (omega arith);
        passed = λ t. absurd (true≢false (sym t));
      }

  module _ {s : Settings} {p : ProductionRead} (read : FixedAt s c.mode stream next c.at p)
    where
      pub fixed-content : HitPre stream work p.next
      fixed-content =
          record {
            spot = record { size = pre.spot.size; place = read.inside };
            rows = pre.rows;
          }

      pub fixed-seen : p.number ≡ 0 → {r : Looked}
          → ContentSeen s.alignment stream work p.next p.kind p.learned c.uris r
          → FixedSeen s stream work next c r
      fixed-seen good h =
          let is : FixedFound s stream work next c _ =
          record { production = p; read = read; good = good; seen = h } in
          record {
            bounds = h.bounds;
            found = λ _. is;
            passed = λ _. is;
          }

-- ---- the step

module _ (s : Settings) (here : Context) (stream : List ℕ) (at next : ℕ)
    (g : Gotten (read_code s.alignment (levels_in s here)) stream at next) where
  abbrev content : Parser (Event Placed × Tables)
  content =
      readContent sizes s here.tables here.state g.value.production.kind
      g.value.production.qname

  abbrev bits : ℕ → Bits
  bits q = drop q (unpack stream)

  step_cut : {r : Looked} → Sees s content stream next r → 0 < r.left
      → CutAt (step sizes s here) (bits at) s (bits r.at) r.left
  unfolding step
  step_cut h l =
      cut-behind _ _ _ g.value _ g.result (steady-code _ _) (cut-then _ _ _ (h.cut l))

  step-passes : {rest : Bits} → Passes content (bits next) rest
      → Passes (step sizes s here) (bits at) rest
  unfolding step number_of
  step-passes h =
      passes-behind _ _ _ g.value _ g.result
      (passes_then _ _ _ _ h (λ x.
      passes-need shape (λ e. absurd (omega arith)) _ _ _
      (passes-need loose (λ e. absurd (omega arith)) _ _ _
      (passes-need limit (λ e. absurd (omega arith)) _ _ _ (passes-return _ _)))))

-- A start tag whose name is known, and an end tag, have no content.
module _ (s : Settings) (t : Tables) (st : State) (bs : Bits) where
  start-passes : (q : QName Placed) → Passes (readContent sizes s t st SE (some q)) bs bs
  unfolding readContent readName
  start-passes q = passes_then _ _ _ _ (passes-return _ _) (λ x. passes-return _ _)

  end-passes : (q : Option (QName Placed)) → Passes (readContent sizes s t st EE q) bs bs
  unfolding readContent
  end-passes q = passes-return _ _

-- Where octets end, nothing is passed.
not-past : {A : Type 0} {p : Parser A} {stream : List ℕ} {at : ℕ} {past : Bool} {rest : Bits}
    → Declined p stream at (number_of ended) → (past ≡ true → Passes p (drop at (unpack stream)) rest)
    → past ≡ false
not-past {past = past} d h = split past (λ t. absurd (not-passed d (h t))) (λ t. t)

-- ---- an event

module _ {stream work : List ℕ} {c : Core} (pre : LookPre stream work c) where
  pub production-asks : ProductionPre stream c.at c.top c.learned work
  production-asks =
      record {
        size = pre.spot.size;
        place = pre.spot.place;
        low = pre.bounded.top;
        few = pre.bounded.learned;
        room = pre.rows;
      }

  pub look-nothing : (s : Settings)
      → LookPost s stream work c (record { past = false; at = c.at; left = 0 })
  look-nothing s =
      record {
        bounds = record { inside = pre.spot.place; few = omega arith };
        cut = λ l. absurd (omega arith);
        ends = λ text w opened rep top d. refl;
      }

  pub fixed-asked : {next : ℕ} → next ≤ 8 * length stream → FixedLookPre stream work next c
  fixed-asked l =
      record { spot = pre.spot; place = l; rows = pre.rows; bounded = pre.bounded }

  module _ (text : List ℕ) (w : Rows) (opened : List ℕ)
      (rep : Represents work (in_store text c.stored) c w opened) (top : Topped c opened) where
    abbrev here : Context
    here = context_at text c w opened

    tabled : Tabled work c.uris here.tables
    unfolding context_of
    tabled =
        record {
          rows = w;
          store = take c.stored text;
          is = refl;
          valid = rep.valid;
          count = sym rep.counts.uris;
          from = (in_store text c.stored).names;
          hold = rep.holds.names;
        }

    valued : in_tag ≤ c.mode → Valued here.state
    unfolding context_of
    valued inner = (name_at w c.top, (inner-state rep pre.bounded top inner).0)

    -- Where a production is known.
    module _ {s : Settings} {p : ProductionRead} {r : Looked}
        (post : ProductionPost s stream c.at c.mode c.top c.learned work p)
        (good : p.number ≡ 0)
        (h : ContentSeen s.alignment stream work p.next p.kind p.learned c.uris r) where
      carried : (x : Code) → x.production
          ≡ record {
            kind = kind_at p.kind;
            qname = cond p.learned (carried_at w (kind_at p.kind) p.name) none;
          }
          → Carries p.learned p.kind x.production.qname
      unfolding carried_at kind_at carries
      carried x e =
          record {
            none_is = λ n. ap (λ (y : Production). y.qname) e ∙ rw n;
            some_is = λ n k.
                (placed_at w p.name, ap (λ (y : Production). y.qname) e ∙ rw (n, k));
          }

      abbrev known : Outcome (read_code s.alignment (levels_in s here)) stream c.at p.number
          p.next (IsCode s w (take c.stored text) c.mode opened p)
      known =
          post.meant w (take c.stored text) opened rep.valid
          (code-rows rep pre.bounded top)

      content-seen : Sees s (content s here stream c.at p.next (known.read good)) stream
          p.next r
      unfolding context_of tables_of
      content-seen =
          let g = known.read good in
          let is = known.is good in
          let kind-is : g.value.production.kind ≡ kind_at p.kind =
          ap (λ (y : Production). y.kind) is.production in
          rw kind-is
          (h.sees s refl here.tables tabled here.state
          (λ k. valued ((post.bounds good).stands.inside (omega arith) (omega arith)))
          g.value.production.qname (carried g.value is.production))

      pub known-cut : 0 < r.left
          → CutAt (step sizes s here) (drop c.at (unpack stream)) s
          (drop r.at (unpack stream)) r.left
      known-cut l = step_cut s here stream c.at _ (known.read good) {r = r} content-seen l

      pub known-passes : r.past ≡ true
          → Passes (step sizes s here) (drop c.at (unpack stream)) (drop r.at (unpack stream))
      known-passes t =
          step-passes s here stream c.at _ (known.read good) (content-seen.past t)

    -- Where some learned production is read.
    module _ (s : Settings) (inner : in_tag ≤ c.mode) (next : ℕ) (row : Learnt)
        (fit : LearntFits (length w.names) row)
        (o : Outcome (read_code s.alignment (levels_in s here)) stream c.at 0 next
        (λ x. x.production ≡ production_of w row)) where
      abbrev g : Gotten (read_code s.alignment (levels_in s here)) stream c.at next
      g = o.read refl

      kind-is : g.value.production.kind ≡ kind_at row.kind
      unfolding production_of
      kind-is = ap (λ (y : Production). y.kind) (o.is refl)

      name-is : g.value.production.qname ≡ carried_at w (kind_at row.kind) row.name
      unfolding production_of
      name-is = ap (λ (y : Production). y.qname) (o.is refl)

      named : Carries true row.kind g.value.production.qname
      unfolding carried_at kind_at carries
      named =
          record {
            none_is = λ n. absurd (true≢false n);
            some_is = λ _ k. (placed_at w row.name, name-is ∙ rw k);
          }

      value-seen : {r : Looked}
          → ContentSeen s.alignment stream work next row.kind true c.uris r
          → Sees s (content s here stream c.at next g) stream next r
      unfolding context_of tables_of
      value-seen h =
          rw kind-is
          (h.sees s refl here.tables tabled here.state
          (λ k. valued inner) g.value.production.qname named)

      start-reads : row.kind ≡ 2
          → Passes (step sizes s here) (drop c.at (unpack stream)) (drop next (unpack stream))
      unfolding carried_at kind_at carries
      start-reads k =
          let e : g.value.production.kind ≡ SE = kind-is ∙ ap kind_at k in
          let f : g.value.production.qname ≡ some (placed_at w row.name) =
          name-is ∙ ap (λ n. carried_at w (kind_at n) row.name) k in
          step-passes s here stream c.at next g (rw (e, f) (start-passes s _ _ _ _))

      end_reads : row.kind ≡ 4
          → Passes (step sizes s here) (drop c.at (unpack stream)) (drop next (unpack stream))
      unfolding kind_at
      end_reads k =
          let e : g.value.production.kind ≡ EE = kind-is ∙ ap kind_at k in
          step-passes s here stream c.at next g (rw e (end-passes s _ _ _ _))

      learned-seen : {r : Looked} → StringSeen stream next 2 r
          → Declined (step sizes s here) stream c.at (number_of ended)
          → Sees s (content s here stream c.at next g) stream next r
      learned-seen h d =
          split (eqb row.kind 3)
          (λ y.
          value-seen
          (content-attribute c.uris (eqb-true _ 3 y) (attribute-known h g.inside)))
          (λ y.
          split (eqb row.kind 5)
          (λ z. value-seen (content-characters c.uris (eqb-true _ 5 z) h))
          (λ z.
          absurd (split (eqb row.kind 2)
          (λ a. not-passed d (start-reads (eqb-true _ 2 a)))
          (λ a.
          not-passed d
          (end_reads (omega (
            arith,
            fit.from,
            fit.up_to,
            eqb-false row.kind 3 y,
            eqb-false row.kind 5 z,
            eqb-false row.kind 2 a,
          )))))))

      module _ {r : Looked} (h : StringSeen stream next 2 r)
          (d : Declined (step sizes s here) stream c.at (number_of ended)) where
        pub learned-cut : 0 < r.left
            → CutAt (step sizes s here) (drop c.at (unpack stream)) s
            (drop r.at (unpack stream)) r.left
        learned-cut l = step_cut s here stream c.at _ g {r = r} (learned-seen h d) l

        pub learned-passes : r.past ≡ true
            → Passes (step sizes s here) (drop c.at (unpack stream))
            (drop r.at (unpack stream))
        learned-passes t = step-passes s here stream c.at _ g ((learned-seen h d).past t)

  -- ---- what is left

  module _ {s : Settings} {p : ProductionRead}
      (post : ProductionPost s stream c.at c.mode c.top c.learned work p)
      (good : p.number ≡ 0) where
    pub content-asks : HitPre stream work p.next
    content-asks =
        record {
          spot = record { size = pre.spot.size; place = post.inside };
          rows = pre.rows;
        }

    pub look_known : {r : Looked}
        → ContentSeen s.alignment stream work p.next p.kind p.learned c.uris r
        → LookPost s stream work c r
    look_known h =
        record {
          bounds = h.bounds;
          cut = λ l text w opened rep top d.
              cut-ended d (known-cut text w opened rep top post good h l);
          ends = λ text w opened rep top d.
              not-past d (known-passes text w opened rep top post good h);
        }

  pub look-fixed : {s : Settings} {next : ℕ} {r : Looked}
      → ((p : ProductionRead) → FixedAt s c.mode stream next c.at p
      → ProductionPost s stream c.at c.mode c.top c.learned work p)
      → FixedSeen s stream work next c r → LookPost s stream work c r
  look-fixed {r = r} post h =
      record {
        bounds = h.bounds;
        cut = λ l.
            let f = h.found l in
            (look_known (post f.production f.read) f.good f.seen).cut l;
        ends = λ text w opened rep top d.
            split r.past
            (λ t.
            let f = h.passed t in
            (look_known (post f.production f.read) f.good f.seen).ends text w
            opened rep top d)
            (λ t. t);
      }

  pub look-learned : (s : Settings) (next : ℕ) {r : Looked} → in_tag ≤ c.mode
      → ((w : Rows) (store : List ℕ) (opened : List ℕ) → Valid w
      → CodeRows work c.learned c.mode c.top w opened
      → (row : Learnt) × LearntFits (length w.names) row
      × Outcome (read_code s.alignment (levels_in s (context_of w store c.mode opened))) stream
      c.at 0 next (λ x. x.production ≡ production_of w row))
      → StringSeen stream next 2 r → LookPost s stream work c r
  look-learned s next inner read h =
      record {
        bounds = h.bounds;
        cut = λ l text w opened rep top d.
            let (row, fit, o) = read w (take c.stored text) opened rep.valid
            (code-rows rep pre.bounded top) in
            cut-ended d (learned-cut text w opened rep top s inner next row fit o h d l);
        ends = λ text w opened rep top d.
            let (row, fit, o) = read w (take c.stored text) opened rep.valid
            (code-rows rep pre.bounded top) in
            not-past d (learned-passes text w opened rep top s inner next row fit o h d);
      }
