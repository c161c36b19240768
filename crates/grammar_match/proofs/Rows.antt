-- The learned productions of a site, by their rows: how many, and the first that fits an event.
use Prim.Native.Nat.{ℕ, zero, suc, ◌-◌, ◌/◌, ◌<◌}
use native.Mathlib.Omega.{arith}
use mathlib.Core.Path.{◌≡◌, refl, sym, ap, ◌∙◌}
use mathlib.Core.Bool.{Bool, true, false, true≢false}
use mathlib.Core.List.{List}
use mathlib.Core.Option.{Option, none, some, none-ne-some}
use lib.ListN.{length}
use lib.Dec.{T, eqb, ltb}
use borrow.Author.Tests.{eqb-true, eq-eqb, lt-ltb}
use Rattle.spec_fields.proofs.Tests.{split, is_t, right}
use Rattle.text.specs.Text.{Text}
use Rattle.spec_exi.specs.Event.{QName, map_name, Event, start_document, end_document, end_element}
use Rattle.spec_exi.specs.Event.{start_element, attribute, characters, comment, instruction}
use Rattle.spec_exi.specs.Event.{kind_of, name_of}
use Rattle.spec_exi.specs.Tables.{Placed, name_text}
use Rattle.spec_exi.specs.Grammar.{Production, kind_number, fits_name, fits, first_fit, learned_in}
use Rattle.spec_exi.specs.Grammar.{has_kind}
use Rattle.spec_exi.proofs.Codes.{eq_name-eq, fits-kind}
use Rattle.mem_chain.specs.Chain.{last_that}
use Rattle.mem_chain.proofs.Last.{last-only}
use Rattle.mem_index.specs.Index.{tally, has_key}
use Rattle.mem_index.proofs.Codes.{both, and-true}
use Rattle.mem_learned.specs.Learned.{Taught, row_at, site_of_row, is_row, SiteKnown, is_named}
use Rattle.mem_learned.specs.Learned.{Meant}
use Rattle.mem_learned.specs.Learned as cells
use Rattle.mem_learned.specs.declared.Production as cell
use Rattle.mem_learned.proofs.Newest.{fit_at}
use Rattle.mem_learned.proofs.Sites.{learned-count, learned-fit}
use Rattle.mem_learned.proofs.Sites.{learned-kind}
use Rattle.mem_rows.specs.Rows.{Learnt, Rows, placed_at, name_at, kind_at, carries, site_at, carried_at}
use Rattle.mem_rows.specs.Rows.{production_of, learned_of}
use Rattle.mem_rows.specs.Valid.{learnt_at, SiteFits, LearntFits, Valid}
use Rattle.mem_state.specs.Holds.{taught_of, taught_in}
use Rattle.mem_state.proofs.Taught.{place_of, keys_of, site-same, is-named, production-same}
use Rattle.mem_state.proofs.Taught.{taught-count, taught-row, learns-of}
use Rattle.mem_state.proofs.Taught as taught
use Rattle.grammar_match.proofs.Unfit.{kind-number}

-- ---- the name of an event that a production fits

name-fits : (q : QName Placed) (n : Option (QName Text)) → T (fits_name (some q) n)
    → n ≡ some (name_text q)
unfolding fits_name
name-fits q none t = absurd t
name-fits q (some p) t = ap some (sym (eq_name-eq (name_text q) p t))

nameless : (e : Event Text) → name_of e ≡ none → is_named (kind_of e) ≡ false
unfolding name_of kind_of is_named kind_number
nameless start_document n = refl
nameless end_document n = refl
nameless end_element n = refl
nameless (start_element q) n = absurd (none-ne-some _ (sym n))
nameless (attribute q v) n = absurd (none-ne-some _ (sym n))
nameless (characters v) n = refl
nameless (comment x) n = refl
nameless (instruction x y) n = refl

pub no-fit : (p : ℕ → Production) (t : ℕ → Bool) (n r : ℕ) → fit_at p t n r ≡ none → r ≡ 0
unfolding fit_at
no-fit p t n zero e = refl
no-fit p t n (suc g) e = absurd (none-ne-some _ (sym e))

module _ {w : Rows} (valid : Valid w) where
  abbrev rs : List Taught
  rs = taught_in w

  module _ (site : ℕ) (there : SiteFits (length w.names) site) where
    abbrev here : List Production
    here = learned_in (site_at w site) (learned_of w)

    pub site-key : SiteKnown (taught.is_row w) site
    site-key n = lt-ltb (site / 2) (length w.names) (there n)

    -- By the answer of `find`.
    pub fit_found : (e : Event Text) (j : ℕ) → Meant (name_at w) (taught.is_row w) e j → (r : ℕ)
        → r ≡ last_that (is_row rs site (kind_number (kind_of e)) j) (length rs)
        → first_fit here e
        ≡ fit_at (λ i. cells.production_of (place_of w) (row_at rs i)) (has_key (site_of_row rs) site)
        (length rs) r
    fit_found e j m r z =
        ap (λ k. first_fit (learned_in k (learned_of w)) e) (sym (site-same w site))
        ∙ learned-fit (keys_of valid) (learns-of valid) site site-key e j m r z

    -- How many.
    pub here-count : length here ≡ tally (has_key (site_of_row rs) site) (length rs)
    here-count =
        ap (λ k. length (learned_in k (learned_of w))) (sym (site-same w site))
        ∙ learned-count (keys_of valid) (learns-of valid) site site-key

    -- Where none fits an event without a name, none of its kind is learned.
    pub kind-unlearned : (e : Event Text) → name_of e ≡ none → first_fit here e ≡ none
        → has_kind (kind_of e) here ≡ false
    kind-unlearned e n miss =
        let u = nameless e n in
        let r = last_that (is_row rs site (kind_number (kind_of e)) 0) (length rs) in
        let m : Meant (name_at w) (taught.is_row w) e 0 =
        record {
          named = λ t. absurd (true≢false (sym t ∙ u));
          key = λ t. absurd (true≢false (sym t ∙ u));
          unnamed = λ _. refl;
        } in
        let z : r ≡ 0 = no-fit _ _ (length rs) r (sym (fit_found e 0 m r refl) ∙ miss) in
        ap (λ k. has_kind (kind_of e) (learned_in k (learned_of w))) (sym (site-same w site))
        ∙ learned-kind (keys_of valid) (learns-of valid) site site-key (kind_of e) u r refl
        ∙ ap (ltb 0) z

    module _ (g : ℕ) (b : g < length w.learned) where
      abbrev row : Learnt
      row = learnt_at w.learned g

      fit : LearntFits (length w.names) row
      fit = valid.refers.learned g b

      row_is : row_at rs g ≡ taught_of w row
      row_is = taught-row w g b

      pub production-is : cells.production_of (place_of w) (row_at rs g) ≡ production_of w row
      production-is = ap (cells.production_of (place_of w)) row_is ∙ production-same w row

      -- An event that its production fits has its kind and its name.
      module _ (e : Event Text) (f : fits (production_of w row) e ≡ true) where
        kind-is : kind_at row.kind ≡ kind_of e
        unfolding production_of
        kind-is = fits-kind (production_of w row) e (is_t _ f)

        names : T (fits_name (carried_at w (kind_at row.kind) row.name) (name_of e))
        unfolding fits production_of
        names =
            right (eqb (kind_number (kind_at row.kind)) (kind_number (kind_of e)))
            (fits_name (carried_at w (kind_at row.kind) row.name) (name_of e)) (is_t _ f)

        named : carries (kind_at row.kind) ≡ true → name_of e ≡ some (name_at w row.name)
        unfolding carried_at name_text map_name name_at
        named t = name-fits (placed_at w row.name) (name_of e) (rw t at names)

        meant : Meant (name_at w) (taught.is_row w) e row.name
        meant =
            let k : is_named (kind_of e) ≡ carries (kind_at row.kind) =
            is-named (kind_of e) ∙ ap carries (sym kind-is) in
            record {
              named = λ t. named (sym k ∙ t);
              key = λ _. lt-ltb row.name (length w.names) fit.name;
              unnamed = λ t. fit.plain (sym k ∙ t);
            }

        abbrev test : ℕ → Bool
        test i = is_row rs site (kind_number (kind_of e)) row.name i

        own : row.site ≡ site → test g ≡ true
        unfolding is_row taught_of
        own s =
            let x = ap (λ (r : Taught). r.site) row_is in
            let y = ap (λ (r : Taught). r.kind) row_is in
            let z = ap (λ (r : Taught). r.name) row_is in
            and-true (eqb site (site_of_row rs g)) _ (eq-eqb _ _ (sym (x ∙ s)))
            (and-true (eqb (kind_number (kind_of e)) (kind_number (row_at rs g).kind)) _
            (eq-eqb _ _ (ap kind_number (sym (y ∙ kind-is)))) (eq-eqb _ _ (sym z)))

        -- No other row of the site has this kind and name.
        only : row.site ≡ site → (j : ℕ) → j < length w.learned → test j ≡ true → g ≡ j
        unfolding is_row taught_of
        only s j b' t =
            let other = learnt_at w.learned j in
            let is = taught-row w j b' in
            let (p, q) = both (eqb site (site_of_row rs j)) _ t in
            let (a, c) = both (eqb (kind_number (kind_of e)) (kind_number (row_at rs j).kind)) _ q in
            let x : row.site ≡ other.site =
            s ∙ eqb-true site (site_of_row rs j) p ∙ ap (λ (r : Taught). r.site) is in
            let y : row.kind ≡ other.kind =
            sym (kind-number row.kind (omega (arith, fit.up_to))) ∙ ap kind_number kind-is
            ∙ eqb-true (kind_number (kind_of e)) (kind_number (row_at rs j).kind) a
            ∙ ap (λ (r : Taught). kind_number r.kind) is
            ∙ kind-number other.kind (omega (arith, (valid.refers.learned j b').up_to)) in
            let z : row.name ≡ other.name =
            eqb-true row.name (row_at rs j).name c ∙ ap (λ (r : Taught). r.name) is in
            valid.distinct.learned g j b b'
            (λ i. record { site = x i; kind = y i; name = z i })

        newest : row.site ≡ site → last_that test (length rs) ≡ suc g
        newest s =
            last-only test (length rs) g (omega (arith, taught-count w)) (own s)
            (λ j a c. split (test j)
            (λ t. absurd (omega (arith, only s j (omega (arith, taught-count w)) t)))
            (λ t. t))

        pub first-is : row.site ≡ site
            → first_fit here e
            ≡ some (
              tally (has_key (site_of_row rs) site) (length rs) - 1
                  - tally (has_key (site_of_row rs) site) g,
              production_of w row,
            )
        unfolding fit_at
        first-is s =
            fit_found e row.name meant (suc g) (sym (newest s))
            ∙ ap (λ (p : Production).
            some (
              tally (has_key (site_of_row rs) site) (length rs) - 1
                  - tally (has_key (site_of_row rs) site) g,
              p,
            )) production-is
