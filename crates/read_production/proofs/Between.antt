-- What `read_between` leaves at each `return`: an event code of a fragment's content.
use Prim.Native.Nat.{ℕ, ◌+◌, ◌-◌, ◌*◌, ◌≤◌, ◌<◌}
use native.Mathlib.Omega.{arith}
use mathlib.Core.Path.{◌≡◌, sym, ap, subst, ◌∙◌}
use mathlib.Core.Bool.{true≢false}
use mathlib.Core.List.{List, [], ◌∷◌}
use lib.ListN.{length, get_or, get_elem?, drop}
use lib.Dec.{eqb}
use borrow.Author.Tests.{eqb-true, eqb-false}
use Rattle.spec_fields.proofs.Tests.{split}
use Rattle.spec_exi.specs.Event.{Kind, SD}
use Rattle.spec_exi.specs.Sizes.{max_stream}
use Rattle.spec_exi.specs.Settings.{Settings}
use Rattle.spec_exi.specs.Grammar.{kind_number}
use Rattle.spec_exi.specs.Reader.{read_code}
use Rattle.event_code.specs.Numbers.{in_fragment}
use Rattle.grammar_codes.specs.Table.{kept_kinds, table_of, no_kinds, values_of, leads_on, fixed_levels}
use Rattle.grammar_codes.specs.Table.{fixed_kinds, leveled, FixedCode, Stands}
use Rattle.grammar_codes.proofs.Fixed.{fixed-outer, fixed-first, fixed-next, fixed-few}
use Rattle.grammar_codes.proofs.Fixed.{fixed-stands}
use Rattle.read_field.specs.View.{NumberPre}
use Rattle.mem_index.specs.Index.{numbers}
use Rattle.mem_layout.specs.Layout.{name_rows, fragment_site}
use Rattle.mem_learned.specs.Learned.{SitedPre, CountedAt}
use Rattle.mem_rows.specs.Rows.{Rows}
use Rattle.mem_rows.specs.Valid.{SiteFits, Valid}
use Rattle.read_contract.specs.Outcome.{Outcome}
use Rattle.grammar_match.specs.Here.{site_in, CodeRows, learned_here}
use Rattle.grammar_match.proofs.Here.{site-fits, outer-site, count-inside, levels-here, inner-here}
use Rattle.grammar_match.proofs.Here.{table_empty}
use Rattle.grammar_match.proofs.Codes.{count-is}
use Rattle.read_production.specs.View.{ProductionRead, refused_as, fixed_as}
use Rattle.read_production.specs.Levels.{PartRead, KeptRead}
use Rattle.read_production.specs.Learned.{LearnedPre, IsLearned, ChildRead}
use Rattle.read_production.specs.Production.{ProductionPre, ProductionBounds, ProductionPost}
use Rattle.read_production.proofs.Levels.{FirstRead, table-refused, table-fixed}
use Rattle.read_production.proofs.Levels.{table-learned, table_below}
use Rattle.read_production.proofs.Unlearned.{main-values}
use Rattle.read_production.proofs.Codes.{fixed-is, learned-is}
use Rattle.read_production.proofs.Returns.{outcome-at, refused_post, fixed-post, fixed-all}

-- ---- bounds

-- They do not depend on the innermost element's name.
pub at_none : {stream : List ℕ} {at top learned : ℕ} {work : List ℕ}
    → ProductionPre stream at top learned work → ProductionPre stream at 0 learned work
at_none h =
    record { size = h.size; place = h.place; low = omega arith; few = h.few; room = h.room }

pub at_top : {stream : List ℕ} {at learned : ℕ} {work : List ℕ} (top : ℕ) → top < name_rows
    → ProductionPre stream at 0 learned work → ProductionPre stream at top learned work
at_top top low h =
    record { size = h.size; place = h.place; low = low; few = h.few; room = h.room }

pub here-few : {here : ℕ} → here ≡ length (fixed_kinds in_fragment) → here ≤ 4
here-few e = omega (arith, e, fixed-few in_fragment)

module _ {stream : List ℕ} {at learned : ℕ} {work : List ℕ}
    (h : ProductionPre stream at 0 learned work) where
  pub fragment-sited : SitedPre work fragment_site 0
  fragment-sited = record { room = h.room; low = omega arith; few = omega arith }

  pub child-asks : LearnedPre work fragment_site learned
  child-asks = record { room = h.room; low = omega arith; few = h.few }

  module _ (s : Settings) {count here on : ℕ} (c : CountedAt work fragment_site count)
      (e : here ≡ length (fixed_kinds in_fragment))
      (f : on ≡ leads_on (drop 1 (fixed_levels s.comments s.instructions in_fragment))) where
    pub between-values : count + here + on ≤ numbers + 5
    between-values = omega (arith, c.within, main-values s in_fragment e f)

    pub between-asks : NumberPre stream at (count + here + on) 65536
    unfolding max_stream
    between-asks =
        record {
          there = record { size = omega (arith, h.size); place = h.place };
          small = omega (arith, between-values);
        }

-- ---- the code

module _ (s : Settings) {stream : List ℕ} {at top learned : ℕ} {work : List ℕ}
    (h : ProductionPre stream at top learned work) {count here on : ℕ}
    (counted : CountedAt work fragment_site count) (e : here ≡ length (fixed_kinds in_fragment))
    (f : on ≡ leads_on (drop 1 (fixed_levels s.comments s.instructions in_fragment)))
    {number value next : ℕ}
    (g : PartRead s.alignment stream at (count + here + on) number value next) where
  abbrev t : List (List Kind)
  t = table_of s.comments s.instructions in_fragment

  whole : fixed_levels s.comments s.instructions in_fragment ≡ t
  whole = fixed-outer s.comments s.instructions (omega arith)

  kinds-are : get_or t 0 [] ≡ fixed_kinds in_fragment
  kinds-are =
      ap (λ ls. get_or ls 0 []) (sym whole) ∙ fixed-first s.comments s.instructions in_fragment

  here-is : here ≡ length (get_or t 0 [])
  here-is = e ∙ ap (λ (l : List Kind). length l) (sym kinds-are)

  on-is : on ≡ leads_on (drop 1 t)
  on-is = f ∙ ap (λ ls. leads_on (drop 1 ls)) whole

  site-is : fragment_site ≡ site_in in_fragment top
  site-is = outer-site {mode = in_fragment} top (omega arith)

  module _ {w : Rows} {opened : List ℕ} (valid : Valid w)
      (rows : CodeRows work learned in_fragment top w opened) where
    learned-count : count ≡ length (learned_here w in_fragment opened)
    learned-count = count-is valid rows (count-inside (omega arith) site-is counted)

    first : FirstRead s.alignment (learned_here w in_fragment opened) t stream at number value next
    first =
        let m : count + here + on
        ≡ length (learned_here w in_fragment opened) + values_of (get_or t 0 []) (drop 1 t) =
        omega (arith, learned-count, here-is, on-is) in
        subst (λ n. PartRead s.alignment stream at n number value next) m g

  pub between-refused : 0 < number
      → ProductionPost s stream at in_fragment top learned work (refused_as number at)
  between-refused l =
      refused_post s in_fragment h l (λ w store opened valid rows.
      rw (levels-here rows s store)
      (table-refused (learned_here w in_fragment opened) t
      (table_empty rows s.comments s.instructions) (first valid rows) l))

  module _ (z : number ≡ 0) where
    pub between-fixed : count ≤ value → value < count + here → {k : ℕ}
        → k ≡ kind_number (get_or (fixed_kinds in_fragment) (value - count) SD)
        → ProductionPost s stream at in_fragment top learned work (fixed_as k next)
    between-fixed a b {k} is =
        fixed-post s in_fragment h g.inside
        (subst (λ j. Stands in_fragment j) (sym is)
        (fixed-stands in_fragment (value - count) (omega (arith, e))))
        (λ w store opened valid rows.
        rw (levels-here rows s store)
        (table-fixed (learned_here w in_fragment opened) z t
        (table_empty rows s.comments s.instructions) (first valid rows) (value - count)
        (omega (arith, learned-count valid rows)) (omega (arith, here-is))
        (is ∙ ap (λ (l : List Kind). kind_number (get_or l (value - count) SD)) (sym kinds-are))
        (fixed-is valid rows s store k next)))

    on-kept : count + here ≤ value
        → drop 1 t ≡ kept_kinds s.comments s.instructions ∷ []
    on-kept a =
        split (no_kinds (drop 1 t))
        (λ y. absurd (omega (arith, g.below z, rw y at on-is)))
        (λ y. ap (λ ls. drop 1 ls) (sym whole)
        ∙ fixed-next s.comments s.instructions in_fragment
        (ap (λ ls. no_kinds (drop 1 ls)) whole ∙ y))

    pub between-kept : count + here ≤ value → {d : ProductionRead} → KeptRead s stream next at d
        → ProductionPost s stream at in_fragment top learned work d
    between-kept a {d} k =
        fixed-all s in_fragment h (k in_fragment) (λ w store opened valid rows.
        rw (levels-here rows s store)
        (table_below (learned_here w in_fragment opened) z t
        (table_empty rows s.comments s.instructions) (first valid rows)
        (omega (arith, learned-count valid rows, here-is))
        (subst (λ ls. Outcome (read_code s.alignment (leveled ls)) stream next d.number
        d.next (FixedCode ls d.kind)) (sym (on-kept a)) (k in_fragment).outcome)
        (λ _. fixed-is valid rows s store d.kind d.next)))

    -- A learned production.
    module _ (b : value < count) {d : ProductionRead}
        (k : ChildRead work count value learned at next d) where
      child-refused : 0 < d.number → d ≡ refused_as d.number at
      child-refused l =
          let x = k.learned-read.refused l in
          x ∙ ap (λ n. refused_as n at) (sym (ap (λ (p : ProductionRead). p.number) x))

      child-inside : d.next ≤ 8 * length stream
      child-inside =
          split (eqb d.number 0)
          (λ t.
          let x = (k.learned-read.read (eqb-true d.number 0 t)).1 in
          omega (arith, x, g.inside))
          (λ t.
          let x = k.learned-read.refused (omega (arith, eqb-false d.number 0 t)) in
          omega (arith, ap (λ (p : ProductionRead). p.next) x, h.place))

      child-bounds : d.number ≡ 0 → ProductionBounds in_fragment d
      child-bounds x =
          let i = k.learned-read.bounds x in
          let se = k.element x in
          record {
            stands =
                record {
                  known = omega (arith, se);
                  outside = λ a. absurd (omega (arith, se));
                  inside = λ a _. absurd (omega (arith, se));
                };
            inner = λ _. record { learns = omega arith; from = i.from; up_to = i.up_to };
            plain = λ y. absurd (true≢false (sym (k.learned-read.read x).0 ∙ y));
            name = i.name;
            uri = i.uri;
            local = i.local;
          }

      pub between-learned : ProductionPost s stream at in_fragment top learned work d
      between-learned =
          record {
            inside = child-inside;
            refused = child-refused;
            bounds = child-bounds;
            meant = λ w store opened valid rows.
                let learns : 4 ≤ in_fragment = omega arith in
                let m = k.learned-read.means w valid rows.hold
                (subst (SiteFits (length w.names)) (sym site-is) (site-fits rows learns))
                counted b in
                let x = subst (λ n. IsLearned w n value d) site-is m in
                let (y, there) = k.learned-read.read x.number in
                rw (levels-here rows s store)
                (outcome-at x.number there
                (table-learned (learned_here w in_fragment opened) z t
                (table_empty rows s.comments s.instructions) (first valid rows)
                (ap (λ ps. get_elem? ps value) (inner-here rows learns) ∙ x.there)
                (learned-is valid rows s store learns x y)));
          }
