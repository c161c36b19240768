-- What `read_production` leaves at each `return`.
use Prim.Native.Nat.{ℕ, ◌+◌, ◌*◌, ◌≤◌, ◌<◌}
use native.Mathlib.Omega.{arith}
use mathlib.Core.Path.{◌≡◌, refl, sym, ap, subst, ◌∙◌}
use mathlib.Core.Bool.{true≢false}
use mathlib.Core.List.{List, []}
use lib.ListN.{length, get_or, get_elem?, drop}
use lib.Dec.{eqb}
use borrow.Author.Tests.{eqb-true, eqb-false}
use Rattle.spec_fields.specs.Parser.{Parser}
use Rattle.spec_fields.proofs.Tests.{split}
use Rattle.text.specs.Text.{Text}
use Rattle.spec_exi.specs.Event.{Kind}
use Rattle.spec_exi.specs.Sizes.{max_stream}
use Rattle.spec_exi.specs.Settings.{Settings}
use Rattle.spec_exi.specs.Grammar.{Production, Code, at_level, learned_in}
use Rattle.spec_exi.specs.Context.{levels_in}
use Rattle.spec_exi.specs.Reader.{read_code}
use Rattle.grammar_codes.specs.Table.{table_of, values_of, leveled, with_learned, FixedCode}
use Rattle.grammar_codes.specs.Table.{after_learned, Stands}
use Rattle.grammar_codes.proofs.Fixed.{fixed-outer, fixed-inner, own-count, own-values, own-kind}
use Rattle.read_field.specs.View.{NumberPre}
use Rattle.mem_learned.specs.Learned.{SitedPre, CountedAt}
use Rattle.mem_rows.specs.Rows.{Learnt, Rows, context_of, site_at, production_of, learned_of}
use Rattle.mem_rows.specs.Valid.{SiteFits, LearntFits, Valid}
use Rattle.read_contract.specs.Outcome.{Outcome}
use Rattle.read_contract.proofs.Outcome.{refused-outcome}
use Rattle.grammar_match.specs.Here.{site_in, CodeRows, learned_here}
use Rattle.grammar_match.proofs.Here.{site-fits, site-low, count-asks, count-inside, levels-here}
use Rattle.grammar_match.proofs.Here.{outer-here, inner-here, table_empty}
use Rattle.grammar_match.proofs.Codes.{count-is}
use Rattle.event_code.specs.Numbers.{in_fragment, in_tag, in_element}
use Rattle.read_production.specs.View.{ProductionRead, refused_as, fixed_as}
use Rattle.read_production.specs.Levels.{PartRead, FixedPre, FixedRead, FixedAt, own_count}
use Rattle.read_production.specs.Learned.{LearnedPre, IsLearned, LearnedRead}
use Rattle.read_production.specs.Production.{ProductionPre, ProductionBounds, IsCode}
use Rattle.read_production.specs.Production.{ProductionPost}
use Rattle.read_production.proofs.Levels.{after_none, FirstRead, table-refused, table-fixed}
use Rattle.read_production.proofs.Levels.{table-learned, table_below, unlearned}
use Rattle.read_production.proofs.Rows.{learned-row}
use Rattle.read_production.proofs.Codes.{fixed-is, learned-is}

-- ---- what the functions that are called ask

pub own-most : (mode : ℕ) {own : ℕ} → own ≡ own_count mode → own ≤ 1
own-most mode e =
    split (eqb mode in_element) (λ y. omega (arith, rw y at e)) (λ y. omega (arith, rw y at e))

module _ {stream : List ℕ} {at top learned : ℕ} {work : List ℕ}
    (h : ProductionPre stream at top learned work) where
  pub fixed-asks : {next : ℕ} → next ≤ 8 * length stream → FixedPre stream next
  fixed-asks l = record { size = h.size; place = l }

  pub site-asks : (mode : ℕ) {site : ℕ} → site ≡ site_in mode top → SitedPre work site 0
  site-asks mode e = count-asks mode (record { room = h.room; low = h.low }) e

  pub part-asked : {site count : ℕ} → CountedAt work site count → (mode : ℕ) {own : ℕ}
      → own ≡ own_count mode → NumberPre stream at (count + own + 1) 65536
  unfolding max_stream
  part-asked c mode e =
      record {
        there = record { size = omega (arith, h.size); place = h.place };
        small = omega (arith, c.within, own-most mode e);
      }

  pub learned-asks : (mode : ℕ) {site : ℕ} → site ≡ site_in mode top → LearnedPre work site learned
  learned-asks mode e =
      record { room = h.room; low = omega (arith, e, site-low mode top h.low); few = h.few }

-- ---- what is left

pub outcome-at : {p : Parser Code} {stream : List ℕ} {at n q q' : ℕ} {good : Code → Type 0} → n ≡ 0
    → q' ≡ q → Outcome p stream at 0 q good → Outcome p stream at n q' good
outcome-at {p} {stream} {at} {q = q} {q'} {good} e f o =
    subst (λ m. Outcome p stream at m q' good) (sym e)
    (subst (λ m. Outcome p stream at 0 m good) (sym f) o)

module _ (s : Settings) (mode : ℕ) {stream : List ℕ} {at top learned : ℕ} {work : List ℕ}
    (h : ProductionPre stream at top learned work) where
  abbrev Meant : ProductionRead → Type 0
  Meant d = (w : Rows) (store : Text) (opened : List ℕ) → Valid w
      → CodeRows work learned mode top w opened
      → Outcome (read_code s.alignment (levels_in s (context_of w store mode opened))) stream at
      d.number d.next (IsCode s w store mode opened d)

  abbrev t : List (List Kind)
  t = table_of s.comments s.instructions mode

  -- A refusal.
  pub refused_post : {n : ℕ} → 0 < n → Meant (refused_as n at)
      → ProductionPost s stream at mode top learned work (refused_as n at)
  refused_post l meant =
      record {
        inside = h.place;
        refused = λ _. refl;
        bounds = λ z. absurd (omega arith);
        meant = meant;
      }

  -- A production that is not learned.
  pub fixed-post : {kind next : ℕ} → next ≤ 8 * length stream → Stands mode kind
      → Meant (fixed_as kind next)
      → ProductionPost s stream at mode top learned work (fixed_as kind next)
  fixed-post l stands meant =
      record {
        inside = l;
        refused = λ z. absurd (omega arith);
        bounds = λ _.
            record {
              stands = stands;
              inner = λ y. absurd (true≢false (sym y));
              plain = λ _. record { name = refl; uri = refl; local = refl };
              name = omega arith;
              uri = omega arith;
              local = omega arith;
            };
        meant = meant;
      }

  -- A production that is not learned, or a refusal, by the levels of a table.
  module _ {ls : List (List Kind)} {next : ℕ} {d : ProductionRead}
      (f : FixedRead s mode ls stream next at d) where
    pub fixed-all : ((w : Rows) (store : Text) (opened : List ℕ) → Valid w
        → CodeRows work learned mode top w opened
        → Outcome (read_code s.alignment (levels_in s (context_of w store mode opened))) stream at
        d.number d.next (IsCode s w store mode opened (fixed_as d.kind d.next)))
        → ProductionPost s stream at mode top learned work d
    fixed-all o =
        split (eqb d.number 0)
        (λ y.
        let z : d.number ≡ 0 = eqb-true d.number 0 y in
        subst (ProductionPost s stream at mode top learned work) (sym (f.read z))
        (fixed-post f.inside (f.stands z) (λ w store opened valid rows.
        subst (λ n. Outcome (read_code s.alignment (levels_in s (context_of w store mode opened)))
        stream at n d.next (IsCode s w store mode opened (fixed_as d.kind d.next))) z
        (o w store opened valid rows))))
        (λ y.
        let l : 0 < d.number = omega (arith, eqb-false d.number 0 y) in
        subst (ProductionPost s stream at mode top learned work) (sym (f.refused l))
        (refused_post l (λ w store opened valid rows.
        refused-outcome ((o w store opened valid rows).refused l))))

  -- ---- where nothing is learned

  pub outer-read : mode < in_fragment → {d : ProductionRead} → FixedAt s mode stream at at d
      → ProductionPost s stream at mode top learned work d
  outer-read l {d} f =
      fixed-all f (λ w store opened valid rows.
      let e : learned_here w mode opened ≡ [] = outer-here rows l in
      let o = subst (λ ls. Outcome (read_code s.alignment (leveled ls)) stream at d.number
      d.next (FixedCode ls d.kind))
      (fixed-outer s.comments s.instructions (omega arith))
      f.outcome in
      let same : levels_in s (context_of w store mode opened) ≡ leveled t =
      levels-here rows s store ∙ ap (λ ps. with_learned ps t) e ∙ unlearned t in
      subst (λ ls. Outcome (read_code s.alignment ls) stream at d.number d.next
      (IsCode s w store mode opened (fixed_as d.kind d.next))) (sym same)
      (record {
        refused = o.refused;
        read = o.read;
        is = λ z.
            let x = (o.read z).value in
            subst (IsCode s w store mode opened (fixed_as d.kind d.next))
            (ap (λ (ps : List Production). after_learned (length ps) x) e ∙ after_none x)
            (fixed-is valid rows s store d.kind d.next x (o.is z));
      }))

  -- ---- in an element

  module _ (inner : in_tag ≤ mode) {site count own : ℕ} (e : site ≡ site_in mode top)
      (counted : CountedAt work site count) (o : own ≡ own_count mode) {number value next : ℕ}
      (g : PartRead s.alignment stream at (count + own + 1) number value next) where
    module _ {w : Rows} {opened : List ℕ} (valid : Valid w)
        (rows : CodeRows work learned mode top w opened) where
      learned-count : count ≡ length (learned_here w mode opened)
      learned-count = count-is valid rows (count-inside (omega arith) e counted)

      own_is : own ≡ length (get_or t 0 [])
      own_is = o ∙ own-count s.comments s.instructions inner rows.fits.known

      first : FirstRead s.alignment (learned_here w mode opened) t stream at number value next
      first =
          let m : count + own + 1
          ≡ length (learned_here w mode opened) + values_of (get_or t 0 []) (drop 1 t) =
          omega (
            arith,
            learned-count,
            o,
            own-values s.comments s.instructions inner rows.fits.known,
          ) in
          subst (λ n. PartRead s.alignment stream at n number value next) m g

    pub inner-refused : 0 < number
        → ProductionPost s stream at mode top learned work (refused_as number at)
    inner-refused l =
        refused_post l (λ w store opened valid rows.
        rw (levels-here rows s store)
        (table-refused (learned_here w mode opened) t
        (table_empty rows s.comments s.instructions) (first valid rows) l))

    module _ (z : number ≡ 0) where
      -- The end tag.
      pub inner-end : count ≤ value → value < count + own
          → ProductionPost s stream at mode top learned work (fixed_as 4 next)
      inner-end a b =
          fixed-post g.inside
          (record {
            known = omega arith;
            outside = λ l. absurd (omega arith);
            inside = λ _ _. inner;
          })
          (λ w store opened valid rows.
          rw (levels-here rows s store)
          (table-fixed (learned_here w mode opened) z t
          (table_empty rows s.comments s.instructions) (first valid rows) 0
          (omega (arith, learned-count valid rows, own-most mode o))
          (omega (arith, own_is valid rows))
          (own-kind s.comments s.instructions inner rows.fits.known (omega (arith, o)))
          (fixed-is valid rows s store 4 next)))

      pub inner-lower : count + own ≤ value → {d : ProductionRead}
          → FixedAt s mode stream next at d → ProductionPost s stream at mode top learned work d
      inner-lower a {d} f =
          fixed-all f (λ w store opened valid rows.
          rw (levels-here rows s store)
          (table_below (learned_here w mode opened) z t
          (table_empty rows s.comments s.instructions) (first valid rows)
          (omega (arith, learned-count valid rows, own_is valid rows))
          (subst (λ ls. Outcome (read_code s.alignment (leveled ls)) stream next d.number
          d.next (FixedCode ls d.kind)) (fixed-inner s.comments s.instructions inner)
          f.outcome)
          (λ _. fixed-is valid rows s store d.kind d.next)))

      -- A learned production, whichever it is.
      pub inner-taught : value < count → (w : Rows) (store : Text) (opened : List ℕ) → Valid w
          → CodeRows work learned mode top w opened
          → (row : Learnt) × LearntFits (length w.names) row
          × Outcome (read_code s.alignment (levels_in s (context_of w store mode opened))) stream at
          0 next (λ x. x.production ≡ production_of w row)
      unfolding at_level
      inner-taught b w store opened valid rows =
          let learns : in_fragment ≤ mode = omega arith in
          let (row, fit, there) = learned-row valid site
          (subst (SiteFits (length w.names)) (sym e) (site-fits rows learns)) rows.hold
          counted b in (
            row,
            fit,
            rw (levels-here rows s store)
                (table-learned (learned_here w mode opened) z t
                (table_empty rows s.comments s.instructions) (first valid rows)
                (ap (λ ps. get_elem? ps value) (inner-here rows learns)
                ∙ ap (λ n. get_elem? (learned_in (site_at w n) (learned_of w)) value) (sym e) ∙ there)
                refl),
          )

      -- A learned production.
      module _ (b : value < count) {d : ProductionRead}
          (k : LearnedRead work site count value learned at next d) where
        learned-refused : 0 < d.number → d ≡ refused_as d.number at
        learned-refused l =
            let x = k.refused l in
            x ∙ ap (λ n. refused_as n at) (sym (ap (λ (p : ProductionRead). p.number) x))

        learned-inside : d.next ≤ 8 * length stream
        learned-inside =
            split (eqb d.number 0)
            (λ t. let x = (k.read (eqb-true d.number 0 t)).1 in omega (arith, x, g.inside))
            (λ t.
            let x = k.refused (omega (arith, eqb-false d.number 0 t)) in
            omega (arith, ap (λ (p : ProductionRead). p.next) x, h.place))

        learned-bounds : d.number ≡ 0 → ProductionBounds mode d
        learned-bounds x =
            let i = k.bounds x in
            record {
              stands =
                  record {
                    known = omega (arith, i.up_to);
                    outside = λ a. absurd (omega (arith, i.from));
                    inside = λ _ _. inner;
                  };
              inner = λ _. record { learns = omega arith; from = i.from; up_to = i.up_to };
              plain = λ y. absurd (true≢false (sym (k.read x).0 ∙ y));
              name = i.name;
              uri = i.uri;
              local = i.local;
            }

        learned-meant : Meant d
        learned-meant w store opened valid rows =
            let learns : in_fragment ≤ mode = omega arith in
            let m = k.means w valid rows.hold
            (subst (SiteFits (length w.names)) (sym e) (site-fits rows learns)) counted b in
            let x = subst (λ n. IsLearned w n value d) e m in
            let (y, there) = k.read x.number in
            rw (levels-here rows s store)
            (outcome-at x.number there
            (table-learned (learned_here w mode opened) z t
            (table_empty rows s.comments s.instructions) (first valid rows)
            (ap (λ ps. get_elem? ps value) (inner-here rows learns) ∙ x.there)
            (learned-is valid rows s store learns x y)))

        pub inner-learned : ProductionPost s stream at mode top learned work d
        inner-learned =
            record {
              inside = learned-inside;
              refused = learned-refused;
              bounds = learned-bounds;
              meant = learned-meant;
            }
