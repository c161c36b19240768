-- Learned productions as the definitions have them: those of a site, and the first that fits.
use Prim.Native.Nat.{ℕ, suc, ◌-◌, ◌/◌, ◌<◌}
use native.Mathlib.Omega.{arith}
use mathlib.Core.Path.{◌≡◌, sym, ap, ◌∙◌}
use mathlib.Core.Bool.{Bool, true, false, ◌&&◌, true≢false}
use mathlib.Core.List.{List}
use mathlib.Core.Option.{some}
use lib.ListN.{length, get_elem?}
use lib.Dec.{eqb, ltb}
use borrow.Author.Tests.{eqb-true, eqb-false, eq-eqb, ne_eqb}
use Rattle.text.specs.Text.{Text}
use Rattle.spec_exi.specs.Event.{QName, Event, Kind, kind_of, name_of, eq_name}
use Rattle.spec_exi.specs.Tables.{Placed}
use Rattle.spec_exi.specs.Grammar.{kind_number, fits_name, fits}
use Rattle.spec_exi.specs.Grammar.{eq_site}
use Rattle.spec_exi.specs.Grammar.{Learned, learned_in, first_fit, has_kind}
use Rattle.spec_exi.proofs.Codes.{eq_name-refl, eq_name-eq}
use Rattle.mem_chain.specs.Chain.{last_that}
use Rattle.mem_chain.proofs.Last.{split, last-same, last-most, last-is, last_none}
use Rattle.mem_index.specs.Index.{tally, has_key, is_numbered}
use Rattle.mem_index.proofs.Tally.{tally-exists}
use Rattle.mem_index.proofs.Codes.{numbered_is, is-numbered}
use Rattle.mem_entries.specs.Entries.{Keys}
use Rattle.mem_entries.proofs.Alike.{key-test}
use Rattle.mem_entries.proofs.Sites as sites
use Rattle.mem_learned.specs.Learned.{Taught, row_at, site_of_row, is_row, newest_first, site_at}
use Rattle.mem_layout.specs.Layout.{fragment_site}
use Rattle.mem_learned.specs.Learned.{SiteKnown, is_named, production_of, learned_of, Learns}
use Rattle.mem_learned.specs.Learned.{Meant}
use Rattle.mem_learned.proofs.Newest.{fit_at, site-count, site-nth, site-fit}
use Rattle.mem_learned.proofs.Newest.{site-kind}

same-kinds : (a b : Kind) → kind_number a ≡ kind_number b → is_named a ≡ is_named b
unfolding is_named
same-kinds a b z = rw z

turned : (a b : ℕ) → eqb a b ≡ eqb b a
turned a b =
    split (eqb a b)
    (λ e. e ∙ sym (eq-eqb b a (sym (eqb-true a b e))))
    (λ e. e ∙ sym (ne_eqb b a (λ z. eqb-false a b e (sym z))))

-- ---- sites by their numbers

module _ {name : ℕ → QName Text} {is_key : ℕ → Bool} (d : Keys name is_key) where
  pub site-test : (s u : ℕ) → SiteKnown is_key s → SiteKnown is_key u
      → eq_site (site_at name s) (site_at name u) ≡ eqb s u
  unfolding site_at
  site-test s u p q =
      sites.site-test name s u fragment_site
      (λ x y. key-test eq_name eq_name-refl eq_name-eq d (s / 2) (u / 2) (p x) (q y))

-- ---- what is learned at a site

module _ {name : ℕ → QName Text} {is_key : ℕ → Bool} {place : ℕ → ℕ → QName Placed}
    {ls : List Learned}
    {rs : List Taught} (d : Keys name is_key) (w : Learns name is_key place ls rs) (s : ℕ)
    (valid : SiteKnown is_key s) where
  f : ℕ → Learned
  f i = learned_of name place (row_at rs i)

  same : (i : ℕ) → i < length rs → eq_site (site_at name s) (f i).site ≡ has_key (site_of_row rs) s i
  unfolding f learned_of
  same i l = site-test d s (site_of_row rs i) valid (w.site i l)

  list-is : learned_in (site_at name s) ls ≡ learned_in (site_at name s) (newest_first f (length rs))
  unfolding f
  list-is = ap (learned_in (site_at name s)) w.list

  -- How many: the count of the site.
  pub learned-count : length (learned_in (site_at name s) ls) ≡ tally (has_key (site_of_row rs) s)
      (length rs)
  learned-count =
      ap length list-is ∙ site-count (site_at name s) f (has_key (site_of_row rs) s) (length rs) same

  -- The one with v newer ones, by the answer of `nth_newest`.
  pub learned-nth : (v g : ℕ) → v < tally (has_key (site_of_row rs) s) (length rs)
      → suc g ≡ last_that
      (is_numbered (site_of_row rs) s (tally (has_key (site_of_row rs) s) (length rs) - 1 - v))
      (length rs)
      → get_elem? (learned_in (site_at name s) ls) v ≡ some (production_of place (row_at rs g))
  unfolding f learned_of
  learned-nth v g h e =
      let y : is_numbered (site_of_row rs) s (tally (has_key (site_of_row rs) s) (length rs) - 1 - v) g
      ≡ true =
      last-is _ (length rs) g (sym e) in
      let l : g < length rs =
      omega (
        arith,
        last-most
            (is_numbered (site_of_row rs) s (tally (has_key (site_of_row rs) s) (length rs) - 1 - v))
            (length rs),
      ) in
      let (k, z) =
      numbered_is (site_of_row rs) s (tally (has_key (site_of_row rs) s) (length rs) - 1 - v) g y in
      let v-is : tally (has_key (site_of_row rs) s) (length rs) - 1 - tally (has_key (site_of_row rs) s) g
      ≡ v = omega arith in
      ap (λ l. get_elem? l v) list-is
      ∙ ap (get_elem? (learned_in (site_at name s) (newest_first f (length rs)))) (sym v-is)
      ∙ site-nth (site_at name s) f (has_key (site_of_row rs) s) (length rs) same g l
      (eq-eqb s (site_of_row rs g) (sym k))

  -- There is one.
  pub learned-there : (v : ℕ) → v < tally (has_key (site_of_row rs) s) (length rs)
      → 0 ≡ last_that
      (is_numbered (site_of_row rs) s (tally (has_key (site_of_row rs) s) (length rs) - 1 - v))
      (length rs) → ⊥
  learned-there v h e =
      let (g, l, u, z) =
      tally-exists (has_key (site_of_row rs) s) (length rs)
      (tally (has_key (site_of_row rs) s) (length rs) - 1 - v) (omega arith) in
      true≢false
      (sym (is-numbered (site_of_row rs) s (tally (has_key (site_of_row rs) s) (length rs) - 1 - v) g
      (sym (eqb-true s (site_of_row rs g) u)) z)
      ∙ last_none
      (is_numbered (site_of_row rs) s (tally (has_key (site_of_row rs) s) (length rs) - 1 - v))
      (length rs) g (omega arith) l)

  -- ---- the first that fits an event

  module _ (e : Event Text) (j : ℕ) (m : Meant name is_key e j) where
    name-fits : (i : ℕ) → i < length rs → kind_number (row_at rs i).kind ≡ kind_number (kind_of e)
        → fits_name (production_of place (row_at rs i)).qname (name_of e) ≡ eqb j (row_at rs i).name
    unfolding production_of fits_name
    name-fits i l z =
        let q : is_named (row_at rs i).kind ≡ is_named (kind_of e) =
        same-kinds (row_at rs i).kind (kind_of e) z in
        split (is_named (row_at rs i).kind)
        (λ y.
        rw (y, m.named (sym q ∙ y))
        (ap (λ n. eq_name n (name j)) (w.named i l y)
        ∙ key-test eq_name eq_name-refl eq_name-eq d (row_at rs i).name j (w.key i l y)
        (m.key (sym q ∙ y))
        ∙ turned (row_at rs i).name j))
        (λ y.
        let a : j ≡ 0 = m.unnamed (sym q ∙ y) in
        let b : (row_at rs i).name ≡ 0 = w.unnamed i l y in
        rw y (sym (eq-eqb j (row_at rs i).name (a ∙ sym b))))

    never : (a b c : Bool) → a ≡ false → (a && b) ≡ (a && c)
    never a b c e = rw e

    row_fits : (i : ℕ) → i < length rs
        → (has_key (site_of_row rs) s i && fits (f i).production e)
        ≡ is_row rs s (kind_number (kind_of e)) j i
    unfolding f learned_of production_of fits is_row
    row_fits i l =
        let k : eqb (kind_number (row_at rs i).kind) (kind_number (kind_of e))
        ≡ eqb (kind_number (kind_of e)) (kind_number (row_at rs i).kind) =
        turned (kind_number (row_at rs i).kind) (kind_number (kind_of e)) in
        ap (λ b. eqb s (site_of_row rs i) && b)
        (ap (λ b. b && fits_name (production_of place (row_at rs i)).qname (name_of e)) k
        ∙ split (eqb (kind_number (kind_of e)) (kind_number (row_at rs i).kind))
        (λ y.
        ap (λ b. eqb (kind_number (kind_of e)) (kind_number (row_at rs i).kind) && b)
        (name-fits i l (sym (eqb-true _ _ y))))
        (λ y. never _ _ _ y))

    -- By the answer of `find`.
    pub learned-fit : (r : ℕ) → r ≡ last_that (is_row rs s (kind_number (kind_of e)) j) (length rs)
        → first_fit (learned_in (site_at name s) ls) e
        ≡ fit_at (λ i. production_of place (row_at rs i)) (has_key (site_of_row rs) s) (length rs) r
    unfolding f learned_of
    learned-fit r z =
        ap (λ l. first_fit l e) list-is
        ∙ site-fit (site_at name s) f (has_key (site_of_row rs) s) e (length rs) same
        ∙ ap (fit_at (λ i. production_of place (row_at rs i)) (has_key (site_of_row rs) s) (length rs))
        (last-same _ (is_row rs s (kind_number (kind_of e)) j) (length rs) row_fits ∙ sym z)

  -- ---- whether one of a kind without names is learned, by the answer of `find`

  pub learned-kind : (k : Kind) → is_named k ≡ false → (r : ℕ)
      → r ≡ last_that (is_row rs s (kind_number k) 0) (length rs)
      → has_kind k (learned_in (site_at name s) ls) ≡ ltb 0 r
  unfolding f learned_of production_of is_row
  learned-kind k u r z =
      ap (has_kind k) list-is
      ∙ site-kind (site_at name s) f (has_key (site_of_row rs) s) k (length rs) same
      ∙ ap (ltb 0) (last-same _ (is_row rs s (kind_number k) 0) (length rs) (λ i l.
      ap (λ b. eqb s (site_of_row rs i) && b)
      (split (eqb (kind_number k) (kind_number (row_at rs i).kind))
      (λ y.
      let q : is_named (row_at rs i).kind ≡ false =
      sym (same-kinds k (row_at rs i).kind (eqb-true _ _ y)) ∙ u in
      rw (y, eq-eqb 0 (row_at rs i).name (sym (w.unnamed i l q))))
      (λ y. rw y))) ∙ sym z)
