-- Learned productions, the newest first: those of a site, by their numbers in the order of
-- learning.
use Prim.Native.Nat.{ℕ, zero, suc, ◌-◌, ◌<◌}
use native.Mathlib.Omega.{arith}
use mathlib.Core.Path.{◌≡◌, refl, sym, ap, ◌∙◌}
use mathlib.Core.Bool.{Bool, true, false, ◌&&◌, ◌||◌, true≢false}
use mathlib.Core.List.{List, [], ◌∷◌}
use mathlib.Core.Option.{Option, none, some, map}
use lib.ListN.{length, get_elem?}
use lib.Dec.{eqb, ltb}
use borrow.Author.Tests.{eqb-true, eqb-false, lt-ltb}
use Rattle.text.specs.Text.{Text}
use Rattle.spec_exi.specs.Event.{Event, Kind}
use Rattle.spec_exi.specs.Grammar.{Production, kind_number, fits, Site, eq_site, Learned, learned_in}
use Rattle.spec_exi.specs.Grammar.{raised, first_fit, has_kind}
use Rattle.mem_chain.specs.Chain.{last_that}
use Rattle.mem_chain.proofs.Last.{split, last-here, last_on, last-most, last-is}
use Rattle.mem_index.specs.Index.{tally}
use Rattle.mem_index.proofs.Tally.{tally-here, tally-on, tally-less}
use Rattle.mem_index.proofs.Codes.{both}
use Rattle.mem_learned.specs.Learned.{newest_first}

pub newest-same : {A : Type 0} (f g : ℕ → A) (n : ℕ) → ((i : ℕ) → i < n → f i ≡ g i)
    → newest_first f n ≡ newest_first g n
unfolding newest_first
newest-same f g zero same = refl
newest-same f g (suc n) same =
    rw (same n (omega arith), newest-same f g n (λ i h. same i (omega arith)))

-- What a row counted from 1 stands for in the list of its site: how many are newer, and the row's
-- production.
unfoldable pub fit_at : (ℕ → Production) → (ℕ → Bool) → ℕ → ℕ → Option (ℕ × Production)
fit_at p t n zero = none
fit_at p t n (suc g) = some (tally t n - 1 - tally t g, p g)

module _ (k : Site) (f : ℕ → Learned) (t : ℕ → Bool) where
  mine : ℕ → List Production
  mine n = learned_in k (newest_first f n)

  here : (n : ℕ) → eq_site k (f n).site ≡ true → mine (suc n) ≡ (f n).production ∷ mine n
  unfolding mine newest_first learned_in
  here n e = rw e

  on : (n : ℕ) → eq_site k (f n).site ≡ false → mine (suc n) ≡ mine n
  unfolding mine newest_first learned_in
  on n e = rw e

  empty : mine 0 ≡ []
  unfolding mine newest_first learned_in
  empty = refl

  pub site-count : (n : ℕ) → ((i : ℕ) → i < n → eq_site k (f i).site ≡ t i)
      → length (learned_in k (newest_first f n)) ≡ tally t n
  unfolding mine tally
  site-count zero same = ap length empty
  site-count (suc n) same =
      let r : length (mine n) ≡ tally t n = site-count n (λ i h. same i (omega arith)) in
      let e : eq_site k (f n).site ≡ t n = same n (omega arith) in
      split (t n)
      (λ y. ap length (here n (e ∙ y)) ∙ ap suc r ∙ sym (tally-here t n y))
      (λ y. ap length (on n (e ∙ y)) ∙ r ∙ sym (tally-on t n y))

  step_in : (l : List Production) (p : Production) (v : ℕ) → 0 < v
      → get_elem? (p ∷ l) v ≡ get_elem? l (v - 1)
  step_in l p zero h = absurd (omega arith)
  step_in l p (suc v) h = let z : suc v - 1 ≡ v = omega arith in rw z

  -- A production of the site has as many newer ones as have later numbers.
  pub site-nth : (n : ℕ) → ((i : ℕ) → i < n → eq_site k (f i).site ≡ t i) → (g : ℕ) → g < n
      → t g ≡ true
      → get_elem? (learned_in k (newest_first f n)) (tally t n - 1 - tally t g)
      ≡ some (f g).production
  unfolding mine
  site-nth zero same g h y = absurd (omega arith)
  site-nth (suc n) same g h y =
      let e : eq_site k (f n).site ≡ t n = same n (omega arith) in
      split (t n)
      (λ u.
      let c : tally t (suc n) ≡ suc (tally t n) = tally-here t n u in
      split (eqb g n)
      (λ q.
      let z : g ≡ n = eqb-true g n q in
      let v : tally t (suc n) - 1 - tally t g ≡ 0 = ap (λ j. tally t (suc n) - 1 - tally t j) z
      ∙ (omega arith) in
      ap (λ l. get_elem? l (tally t (suc n) - 1 - tally t g)) (here n (e ∙ u))
      ∙ ap (get_elem? ((f n).production ∷ mine n)) v ∙ ap (λ j. some (f j).production) (sym z))
      (λ q.
      let m : g < n = omega (arith, eqb-false g n q) in
      let b : tally t g < tally t n = tally-less t n g m y in
      let v : tally t (suc n) - 1 - tally t g - 1 ≡ tally t n - 1 - tally t g = omega arith in
      ap (λ l. get_elem? l (tally t (suc n) - 1 - tally t g)) (here n (e ∙ u))
      ∙ step_in (mine n) (f n).production (tally t (suc n) - 1 - tally t g) (omega arith)
      ∙ ap (get_elem? (mine n)) v ∙ site-nth n (λ i l. same i (omega arith)) g m y))
      (λ u.
      let c : tally t (suc n) ≡ tally t n = tally-on t n u in
      split (eqb g n)
      (λ q. let z : g ≡ n = eqb-true g n q in absurd (true≢false (sym y ∙ rw z u)))
      (λ q.
      let m : g < n = omega (arith, eqb-false g n q) in
      ap (λ l. get_elem? l (tally t (suc n) - 1 - tally t g)) (on n (e ∙ u))
      ∙ ap (λ j. get_elem? (mine n) (j - 1 - tally t g)) c
      ∙ site-nth n (λ i l. same i (omega arith)) g m y))

  -- ---- the first that fits an event

  module _ (e : Event Text) where
    fit-here : (p : Production) (ps : List Production) → fits p e ≡ true
        → first_fit (p ∷ ps) e ≡ some (0, p)
    unfolding first_fit
    fit-here p ps y = rw y

    fit_on : (p : Production) (ps : List Production) → fits p e ≡ false
        → first_fit (p ∷ ps) e ≡ map raised (first_fit ps e)
    unfolding first_fit
    fit_on p ps y = rw y

    fit_none : first_fit [] e ≡ none
    unfolding first_fit
    fit_none = refl

    fits-too : ℕ → Bool
    fits-too i = t i && fits (f i).production e

    raise : (n r : ℕ) → r ≡ last_that fits-too n → tally t (suc n) ≡ suc (tally t n)
        → map raised (fit_at (λ i. (f i).production) t n r) ≡ fit_at (λ i. (f i).production) t
        (suc n) r
    unfolding fit_at raised fits-too
    raise n zero z c = refl
    raise n (suc g) z c =
        let b : tally t g < tally t n =
        tally-less t n g (omega (arith, last-most fits-too n))
        (both (t g) (fits (f g).production e) (last-is fits-too n g (sym z))).0 in
        let v : suc (tally t n - 1 - tally t g) ≡ tally t (suc n) - 1 - tally t g = omega arith in
        ap (λ j. some (j, (f g).production)) v

    keep : (n r : ℕ) → tally t (suc n) ≡ tally t n
        → fit_at (λ i. (f i).production) t n r ≡ fit_at (λ i. (f i).production) t (suc n) r
    unfolding fit_at
    keep n zero c = refl
    keep n (suc g) c = ap (λ j. some (j - 1 - tally t g, (f g).production)) (sym c)

    nothing : none ≡ fit_at (λ i. (f i).production) t 0 (last_that fits-too 0)
    unfolding fit_at last_that
    nothing = refl

    first_one : (n : ℕ) → tally t (suc n) ≡ suc (tally t n)
        → some (0, (f n).production) ≡ fit_at (λ i. (f i).production) t (suc n) (suc n)
    unfolding fit_at
    first_one n c =
        let z : 0 ≡ tally t (suc n) - 1 - tally t n = omega arith in
        ap (λ j. some (j, (f n).production)) z

    fit-list : (n : ℕ) → ((i : ℕ) → i < n → eq_site k (f i).site ≡ t i)
        → first_fit (mine n) e ≡ fit_at (λ i. (f i).production) t n (last_that fits-too n)
    unfolding fits-too
    fit-list zero same = ap (λ l. first_fit l e) empty ∙ fit_none ∙ nothing
    fit-list (suc n) same =
        let r : first_fit (mine n) e ≡ fit_at (λ i. (f i).production) t n (last_that fits-too n) =
        fit-list n (λ i h. same i (omega arith)) in
        let s : eq_site k (f n).site ≡ t n = same n (omega arith) in
        split (t n)
        (λ u.
        let c : tally t (suc n) ≡ suc (tally t n) = tally-here t n u in
        split (fits (f n).production e)
        (λ y.
        let z : last_that fits-too (suc n) ≡ suc n = last-here fits-too n (rw (u, y)) in
        ap (λ l. first_fit l e) (here n (s ∙ u)) ∙ fit-here (f n).production (mine n) y
        ∙ first_one n c ∙ ap (fit_at (λ i. (f i).production) t (suc n)) (sym z))
        (λ y.
        let z : last_that fits-too (suc n) ≡ last_that fits-too n = last_on fits-too n (rw (u, y)) in
        ap (λ l. first_fit l e) (here n (s ∙ u)) ∙ fit_on (f n).production (mine n) y
        ∙ ap (map raised) r ∙ raise n (last_that fits-too n) refl c
        ∙ ap (fit_at (λ i. (f i).production) t (suc n)) (sym z)))
        (λ u.
        let c : tally t (suc n) ≡ tally t n = tally-on t n u in
        let z : last_that fits-too (suc n) ≡ last_that fits-too n = last_on fits-too n (rw u) in
        ap (λ l. first_fit l e) (on n (s ∙ u)) ∙ r ∙ keep n (last_that fits-too n) c
        ∙ ap (fit_at (λ i. (f i).production) t (suc n)) (sym z))

    -- By the newest row of the site that fits.
    pub site-fit : (n : ℕ) → ((i : ℕ) → i < n → eq_site k (f i).site ≡ t i)
        → first_fit (learned_in k (newest_first f n)) e
        ≡ fit_at (λ i. (f i).production) t n (last_that (λ i. t i && fits (f i).production e) n)
    unfolding mine fits-too
    site-fit n same = fit-list n same

  -- ---- whether one of a kind is learned

  module _ (kind : Kind) where
    of-kind : ℕ → Bool
    of-kind i = t i && eqb (kind_number kind) (kind_number (f i).production.kind)

    pub site-kind : (n : ℕ) → ((i : ℕ) → i < n → eq_site k (f i).site ≡ t i)
        → has_kind kind (learned_in k (newest_first f n))
        ≡ ltb 0 (last_that (λ i. t i && eqb (kind_number kind) (kind_number (f i).production.kind))
        n)
    unfolding mine of-kind has_kind last_that
    site-kind zero same = ap (has_kind kind) empty
    site-kind (suc n) same =
        let r : has_kind kind (mine n) ≡ ltb 0 (last_that of-kind n) =
        site-kind n (λ i h. same i (omega arith)) in
        let s : eq_site k (f n).site ≡ t n = same n (omega arith) in
        split (t n)
        (λ u.
        split (eqb (kind_number kind) (kind_number (f n).production.kind))
        (λ y.
        let z : last_that of-kind (suc n) ≡ suc n = last-here of-kind n (rw (u, y)) in
        ap (has_kind kind) (here n (s ∙ u))
        ∙ ap (λ b. b || has_kind kind (mine n)) y
        ∙ sym (ap (ltb 0) z ∙ lt-ltb 0 (suc n) (omega arith)))
        (λ y.
        let z : last_that of-kind (suc n) ≡ last_that of-kind n = last_on of-kind n (rw (u, y)) in
        ap (has_kind kind) (here n (s ∙ u))
        ∙ ap (λ b. b || has_kind kind (mine n)) y ∙ r ∙ ap (ltb 0) (sym z)))
        (λ u.
        let z : last_that of-kind (suc n) ≡ last_that of-kind n = last_on of-kind n (rw u) in
        ap (has_kind kind) (on n (s ∙ u)) ∙ r ∙ ap (ltb 0) (sym z))
