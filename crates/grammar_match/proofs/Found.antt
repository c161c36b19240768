-- The learned production that fits an event, whose strings may be ahead of memory; and its part.
use Prim.Native.Nat.{ℕ, suc, ◌-◌, ◌/◌, ◌≤◌, ◌<◌}
use native.Mathlib.Omega.{arith}
use mathlib.Core.Path.{◌≡◌, refl, sym, ap, subst, ◌∙◌}
use mathlib.Core.Bool.{Bool, true, ◌&&◌, true≢false}
use mathlib.Core.List.{List}
use mathlib.Core.Option.{none, some}
use lib.ListN.{length}
use lib.Dec.{eqb, ltb}
use borrow.Author.Tests.{eqb-true, eq-eqb, lt-ltb, le-ltb}
use Rattle.spec_fields.proofs.Tests.{split}
use Rattle.text.specs.Text.{Text}
use Rattle.spec_exi.specs.Event.{Event, kind_of}
use Rattle.spec_exi.specs.Sizes.{max_learned}
use Rattle.spec_exi.specs.Grammar.{Production, kind_number, first_fit, learned_in}
use Rattle.mem_chain.specs.Chain.{last_that}
use Rattle.mem_chain.proofs.Last.{last-most, last-is, last_none}
use Rattle.mem_index.specs.Index.{tally, has_key, number_at}
use Rattle.mem_index.proofs.Tally.{tally-less}
use Rattle.mem_index.proofs.Codes.{both}
use Rattle.mem_learned.specs.Learned.{Taught, row_at, site_of_row, is_row, Meant, LearnedHold}
use Rattle.mem_learned.specs.Learned.{FindRowPre, FoundLearned, LearnedRowPre, ProductionAt, CountedAt}
use Rattle.mem_learned.specs.Learned.{part_in}
use Rattle.mem_learned.specs.declared.Production as cell
use Rattle.mem_learned.specs.Learned as cells
use Rattle.mem_learned.proofs.Newest.{fit_at}
use Rattle.mem_rows.specs.Rows.{Learnt, Rows, name_at, kind_at, site_at, learned_of}
use Rattle.mem_rows.specs.Valid.{learnt_at, SiteFits, LearntFits, Valid}
use Rattle.mem_rows.proofs.Kept.{name-kept, site-kept}
use Rattle.mem_state.specs.Holds.{taught_of, taught_in, Ahead}
use Rattle.mem_state.proofs.Taught.{place_of, is-named, taught-count, taught-row, ahead-kept}
use Rattle.mem_state.proofs.Taught.{learned-ahead, taught-ahead}
use Rattle.mem_state.proofs.Taught as taught
use Rattle.event_code.specs.Numbers.{in_fragment, number_of_se, number_of_ch}
use Rattle.grammar_match.specs.Here.{site_in, learned_here, CodeRows}
use Rattle.grammar_match.specs.Found.{FindPre, found_here, NamedBy, newer_in, FitsAt, Finds}
use Rattle.grammar_match.specs.Found.{FoundHere, PartPre, PartHere}
use Rattle.grammar_match.proofs.Here.{site-fits, site-low, inner-here}
use Rattle.grammar_match.proofs.Unfit.{kind-number, kind-none, outer-none}
use Rattle.grammar_match.proofs.Rows.{fit_found, production-is}

-- ---- what is sought

pub find-asks : {work : List ℕ} (mode : ℕ) {top kind name learned site : ℕ}
    → FindPre work top name learned → kind ≤ number_of_ch → site ≡ site_in mode top
    → FindRowPre work site kind name learned
unfolding max_learned
find-asks mode {top} h k e =
    record {
      room = h.room;
      low = omega (arith, e, site-low mode top h.low);
      kind_low = omega arith;
      name_low = h.name_low;
      few = h.few;
    }

-- ---- none fits

none-fits : {w : Rows} {mode top name : ℕ} {opened : List ℕ} {e : Event Text}
    → first_fit (learned_here w mode opened) e ≡ none → Finds w mode top name opened e 0
none-fits z = record { miss = λ _. z; hit = λ g y. absurd (omega arith) }

module _ {work : List ℕ} {mode : ℕ} (top kind name learned : ℕ) where
  pub found-outside : mode < in_fragment → FoundHere work mode top kind name learned 0
  unfolding found_here first_fit
  found-outside l =
      record {
        is = rw (lt-ltb mode in_fragment l);
        within = omega arith;
        means = λ w v opened e valid ahead-valid ahead rows k n.
            none-fits (outer-none valid rows e l);
        fresh = λ w h m a b z. absurd (omega arith);
      }

  other-post : in_fragment ≤ mode → ((k : ℕ) → 2 ≤ k → k ≤ 5 → kind ≡ k → ⊥)
      → 0 ≡ found_here work mode top kind name learned
      → FoundHere work mode top kind name learned 0
  other-post l other is =
      record {
        is = is;
        within = omega arith;
        means = λ w v opened e valid ahead-valid ahead rows k n.
            none-fits (kind-none valid rows e l (λ j a b _ _ z. other j a b (sym k ∙ z)));
        fresh = λ w h m a b z. absurd (other kind a b refl);
      }

  pub found-low : in_fragment ≤ mode → kind < number_of_se → FoundHere work mode top kind name learned 0
  unfolding found_here
  found-low l h =
      other-post l (λ k a b z. omega arith) (rw (le-ltb mode in_fragment l, lt-ltb kind number_of_se h))

  pub found-high : in_fragment ≤ mode → number_of_se ≤ kind → number_of_ch < kind → FoundHere work mode top kind name learned 0
  unfolding found_here
  found-high l a h =
      other-post l (λ k a b z. omega arith)
      (rw (le-ltb mode in_fragment l, le-ltb kind number_of_se a, lt-ltb number_of_ch kind h))

-- ---- what is found

fit_none : (p : ℕ → Production) (t : ℕ → Bool) (n r : ℕ) → r ≡ 0 → fit_at p t n r ≡ none
unfolding fit_at
fit_none p t n r z = rw z

module _ {w v : Rows} (valid : Valid w) (vv : Valid v) (ahead : Ahead w v) (site : ℕ)
    (there : SiteFits (length w.names) site) (e : Event Text) (name : ℕ) (n : NamedBy v e name) where
  -- What is learned at the site is the same, with the strings ahead.
  same_here : learned_in (site_at v site) (learned_of v) ≡ learned_in (site_at w site) (learned_of w)
  same_here =
      rw (
        site-kept (ahead-kept ahead valid.refers) site there,
        learned-ahead ahead valid.refers,
      )

  meant : Meant (name_at v) (taught.is_row v) e name
  meant =
      let k = is-named (kind_of e) in
      record {
        named = λ t. n.is (sym k ∙ t);
        key = λ t. lt-ltb name (length v.names) (n.low (sym k ∙ t));
        unnamed = λ t. n.nameless (sym k ∙ t);
      }

  ahead-fit : {work : List ℕ} {learned r : ℕ} → LearnedHold work learned (taught_in w)
      → FoundLearned work site (kind_number (kind_of e)) name learned r
      → first_fit (learned_in (site_at w site) (learned_of w)) e
      ≡ fit_at (λ i. cells.production_of (place_of v) (row_at (taught_in v) i))
      (has_key (site_of_row (taught_in v)) site) (length (taught_in v)) r
  ahead-fit {work} {learned} {r} hold f =
      let hold' = subst (LearnedHold work learned) (sym (taught-ahead ahead valid.refers)) hold
      in
      ap (λ l. first_fit l e) (sym same_here)
      ∙ fit_found vv site (λ o. omega (arith, ahead.fewer_names, there o)) e name meant r
      (f.means (taught_in v) hold'
      ∙ ap (last_that (is_row (taught_in v) site (kind_number (kind_of e)) name)) (sym hold'.count))

row-there : (w : Rows) (i : ℕ) → i < length w.learned → (site kind name : ℕ) → kind ≤ number_of_ch
    → learnt_at w.learned i ≡ record { site = site; kind = kind; name = name }
    → is_row (taught_in w) site kind name i ≡ true
unfolding is_row taught_of
row-there w i b site kind name h e =
    let l : Learnt = record { site = site; kind = kind; name = name } in
    let t : row_at (taught_in w) i ≡ taught_of w l = taught-row w i b ∙ ap (taught_of w) e in
    ap (λ (y : Taught). eqb site y.site && (eqb kind (kind_number y.kind) && eqb name y.name))
    t
    ∙ rw (
      eq-eqb site site refl,
      eq-eqb kind (kind_number (kind_at kind)) (sym (kind-number kind (omega arith))),
      eq-eqb name name refl,
    )

-- Where a row has this kind and name, it is the first that fits.
module _ {work : List ℕ} {mode top kind name learned r : ℕ} (l : in_fragment ≤ mode)
    (found : FoundLearned work (site_in mode top) kind name learned r) {w v : Rows}
    {opened : List ℕ} {e : Event Text} (valid : Valid w) (ahead : Ahead w v)
    (rows : CodeRows work learned mode top w opened) (k : kind_number (kind_of e) ≡ kind)
    (n : NamedBy v e name) (g : ℕ) (z : r ≡ suc g) where
  abbrev row : Learnt
  row = learnt_at w.learned g

  last_row : suc g ≡ last_that (is_row (taught_in w) (site_in mode top) kind name) learned
  last_row = sym z ∙ found.means (taught_in w) rows.hold

  row_inside : g < length w.learned
  row_inside =
      omega (
        arith,
        last_row,
        last-most (is_row (taught_in w) (site_in mode top) kind name) learned,
        rows.hold.count,
        taught-count w,
      )

  row_fits : LearntFits (length w.names) row
  row_fits = valid.refers.learned g row_inside

  row_is : (row.site ≡ site_in mode top) × (row.kind ≡ kind) × (row.name ≡ name)
  unfolding is_row taught_of
  row_is =
      let t = last-is (is_row (taught_in w) (site_in mode top) kind name) learned g (sym last_row) in
      let is = taught-row w g row_inside in
      let (a, b) = both (eqb (site_in mode top) (site_of_row (taught_in w) g)) _ t in
      let (c, d) = both (eqb kind (kind_number (row_at (taught_in w) g).kind)) _ b in (
        sym (eqb-true _ _ a ∙ ap (λ (y : Taught). y.site) is),
        sym (kind-number row.kind (omega (arith, row_fits.up_to)))
            ∙ sym (eqb-true _ _ c ∙ ap (λ (y : Taught). kind_number y.kind) is),
        sym (eqb-true _ _ d ∙ ap (λ (y : Taught). y.name) is),
      )

  -- The event's name is one of memory's.
  meant-here : Meant (name_at w) (taught.is_row w) e name
  meant-here =
      let u = is-named (kind_of e) in
      let low : name < length w.names = omega (arith, row_is.2, row_fits.name) in
      record {
        named = λ t. n.is (sym u ∙ t)
            ∙ ap some (name-kept (ahead-kept ahead valid.refers) name low);
        key = λ t. lt-ltb name (length w.names) low;
        unnamed = λ t. n.nameless (sym u ∙ t);
      }

  fits-at : FitsAt w mode top name opened e g
  unfolding newer_in fit_at
  fits-at =
      let site = site_in mode top in
      let there : SiteFits (length w.names) (site_in mode top) = site-fits rows l in
      record {
        learns = l;
        inside = row_inside;
        fit = row_fits;
        site = row_is.0;
        kind = row_is.1 ∙ sym k;
        name = row_is.2;
        first = ap (λ ps. first_fit ps e) (inner-here rows l)
            ∙ fit_found valid site there e name meant-here (suc g)
            (last_row
            ∙ ap (λ m. last_that (is_row (taught_in w) site m name) learned) (sym k)
            ∙ ap (last_that (is_row (taught_in w) site (kind_number (kind_of e)) name))
            (sym rows.hold.count))
            ∙ ap (λ m. some (
              tally (has_key (site_of_row (taught_in w)) m) (length (taught_in w)) - 1
                  - tally (has_key (site_of_row (taught_in w)) m) g,
              cells.production_of (place_of w) (row_at (taught_in w) g),
            )) (sym row_is.0)
            ∙ ap (λ (p : Production). some (newer_in w g, p))
            (production-is valid site there g row_inside);
      }

module _ {work : List ℕ} (mode top : ℕ) {kind name learned site r : ℕ} (l : in_fragment ≤ mode)
    (a : number_of_se ≤ kind) (b : kind ≤ number_of_ch) (s : site ≡ site_in mode top)
    (f : FoundLearned work site kind name learned r) where
  found : FoundLearned work (site_in mode top) kind name learned r
  found = subst (λ k. FoundLearned work k kind name learned r) s f

  pub found-row : FoundHere work mode top kind name learned r
  unfolding found_here
  found-row =
      record {
        is = rw (le-ltb mode in_fragment l, le-ltb kind number_of_se a, le-ltb number_of_ch kind b) found.is;
        within = f.within;
        means = λ w v opened e valid vv ahead rows k n.
            record {
              miss = λ z.
                  ap (λ ps. first_fit ps e) (inner-here rows l)
                  ∙ ahead-fit valid vv ahead (site_in mode top) (site-fits rows l) e name n rows.hold
                  (subst (λ m. FoundLearned work (site_in mode top) m name learned r) (sym k) found)
                  ∙ fit_none _ _ (length (taught_in v)) r z;
              hit = λ g z. fits-at l found valid ahead rows k n g z;
            };
        fresh = λ w h m p q z i d e.
            let n : last_that (is_row (taught_in w) (site_in mode top) kind name) learned ≡ 0 =
            sym (found.means (taught_in w) h) ∙ z in
            true≢false
            (sym (row-there w i d (site_in mode top) kind name b e)
            ∙ last_none (is_row (taught_in w) (site_in mode top) kind name) learned i
            (omega (arith, n)) (omega (arith, h.count, taught-count w)));
      }

-- ---- the part

part-few : (count number : ℕ) → part_in count number ≤ count
unfolding part_in
part-few count number =
    split (ltb number count) (λ t. rw t (omega arith)) (λ t. rw t (omega arith))

part-is : (count number : ℕ) → number < count → part_in count number ≡ count - 1 - number
unfolding part_in
part-is count number h = rw (lt-ltb number count h)

module _ {work : List ℕ} {row : ℕ} (h : PartPre work (suc row)) where
  pub row-asks : LearnedRowPre work row
  unfolding max_learned
  row-asks = record { room = h.room; low = omega (arith, h.few) }

  module _ {p : cell.Production} (at : ProductionAt work row p) (count : ℕ) {r : ℕ}
      (is : r ≡ part_in count p.number) where
    module _ (w : Rows) (learned g : ℕ) (hold : LearnedHold work learned (taught_in w))
        (z : suc row ≡ suc g) (b : g < length w.learned)
        (counted : CountedAt work (learnt_at w.learned g).site count) where
      abbrev rs : List Taught
      rs = taught_in w

      abbrev site : ℕ
      site = (learnt_at w.learned g).site

      abbrev all : ℕ
      all = tally (has_key (site_of_row rs) site) (length rs)

      own-site : site_of_row rs g ≡ site
      unfolding taught_of
      own-site = ap (λ (y : Taught). y.site) (taught-row w g b)

      count-all : count ≡ all
      count-all =
          counted.count learned rs hold
          ∙ ap (tally (has_key (site_of_row rs) site)) (sym hold.count)

      own-number : p.number ≡ tally (has_key (site_of_row rs) site) g
      unfolding number_at
      own-number =
          let y : row ≡ g = omega arith in
          let low : row < learned = omega (arith, taught-count w, hold.count) in
          (at.means learned rs hold low).number
          ∙ ap (number_at (site_of_row rs)) y
          ∙ ap (λ s. tally (has_key (site_of_row rs) s) g) own-site

      -- It is one of those counted.
      number-low : tally (has_key (site_of_row rs) site) g < all
      number-low =
          tally-less (has_key (site_of_row rs) site) (length rs) g (omega (arith, taught-count w))
          (eq-eqb site (site_of_row rs g) (sym own-site))

      part-means : (r ≡ newer_in w g) × (r < count)
      unfolding newer_in
      part-means =
          let e : r ≡ count - 1 - p.number =
          is ∙ part-is count p.number (omega (arith, own-number, count-all, number-low)) in (
            omega (arith, e, own-number, count-all),
            omega (arith, e, own-number, count-all, number-low),
          )

    same : row ≡ suc row - 1
    same = omega arith

    pub part-here : PartHere work (suc row) count r
    part-here =
        record {
          is = is ∙ ap (λ (q : cell.Production). part_in count q.number) at.is
              ∙ ap (λ g. part_in count (cells.production_in work g).number) same;
          few = omega (arith, is, part-few count p.number);
          means = part-means;
        }
