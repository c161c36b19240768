-- The state's site and what is learned there, by the rows.
use Prim.Native.Nat.{ℕ, zero, suc, ◌+◌, ◌*◌, ◌/◌, ◌≤◌, ◌<◌}
use native.Mathlib.Omega.{arith}
use mathlib.Core.Path.{◌≡◌, refl, sym, ap, subst, ◌∙◌}
use mathlib.Core.Bool.{Bool}
use mathlib.Core.List.{List, [], ◌∷◌, map}
use mathlib.Core.Option.{some}
use lib.ListN.{length, get_or, length-map}
use lib.Dec.{eqb, ltb}
use borrow.Author.Tests.{eqb-true, eqb-false, ne_eqb, lt-ltb, le-ltb, ltb-true, ltb-false}
use Rattle.spec_fields.proofs.Tests.{split}
use Rattle.text.specs.Text.{Text}
use Rattle.spec_exi.specs.Event.{QName}
use Rattle.spec_exi.specs.Settings.{Settings}
use Rattle.spec_exi.specs.Grammar.{learned_in, learned_at, site_of}
use Rattle.spec_exi.specs.Context.{levels_in}
use Rattle.event_code.specs.Numbers.{mode_of, in_fragment, in_tag, in_element}
use Rattle.grammar_codes.specs.Table.{table_of, with_learned}
use Rattle.grammar_codes.proofs.Codes.{levels-table}
use Rattle.grammar_codes.proofs.Bits.{learning-levels}
use Rattle.mem_layout.specs.Layout.{name_rows, sites, fragment_site}
use Rattle.mem_learned.specs.Learned.{SitedPre, CountedAt}
use Rattle.mem_rows.specs.Rows.{Rows, name_at, site_number, site_at, learned_of, state_of}
use Rattle.mem_rows.specs.Rows.{ModeFits, context_of}
use Rattle.mem_rows.specs.Valid.{SiteFits}
use Rattle.mem_rows.proofs.States.{site-of, site-fragment, site-none}
use Rattle.grammar_match.specs.Here.{site_in, SitePre, CountedHere, CodeRows, learned_here}

-- ---- the site's number

pub tag-site : {mode : ℕ} (top : ℕ) → mode ≡ in_tag → 2 * top + 1 ≡ site_in mode top
tag-site {mode} top e = rw e

pub outer-site : {mode : ℕ} (top : ℕ) → mode < in_tag → fragment_site ≡ site_in mode top
outer-site {mode} top l = rw (lt-ltb mode in_tag l)

pub content-site : {mode : ℕ} (top : ℕ) → (mode ≡ in_tag → ⊥) → in_tag ≤ mode
    → 2 * top ≡ site_in mode top
content-site {mode} top n l = rw (le-ltb mode in_tag l, ne_eqb mode in_tag n)

module _ (mode top : ℕ) where
  element-site : in_tag ≤ mode → site_number top (eqb mode in_tag) ≡ site_in mode top
  element-site l = rw (le-ltb mode in_tag l)

  pub site-half : in_tag ≤ mode → site_in mode top / 2 ≡ top
  site-half l =
      rw (le-ltb mode in_tag l)
      (split (eqb mode in_tag) (λ t. rw t (omega arith)) (λ t. rw t (omega arith)))

  pub site-low : top < name_rows → site_in mode top < sites
  site-low h =
      split (ltb mode in_tag) (λ u. rw u (omega arith))
      (λ u. rw u (split (eqb mode in_tag) (λ t. rw t (omega arith)) (λ t. rw t (omega arith))))

-- Only outside of every element it is the fragment's.
pub site-outer : (mode top : ℕ) → top < name_rows → site_in mode top ≡ fragment_site → mode < in_tag
site-outer mode top h e =
    split (ltb mode in_tag)
    (λ t. ltb-true mode in_tag t)
    (λ t. absurd (split (eqb mode in_tag)
    (λ u. let z = rw (t, u) at e in omega (arith, z))
    (λ u. let z = rw (t, u) at e in omega (arith, z))))

pub count-asks : {work : List ℕ} (mode : ℕ) {top site : ℕ} → SitePre work top
    → site ≡ site_in mode top → SitedPre work site 0
count-asks mode {top} h e =
    record { room = h.room; low = omega (arith, e, site-low mode top h.low); few = omega arith }

pub count-outside : {work : List ℕ} {mode top : ℕ} → mode < in_fragment → CountedHere work mode top 0
count-outside l =
    record { outside = λ _. refl; counted = λ h. absurd (omega arith); few = omega arith }

pub count-inside : {work : List ℕ} {mode top site r : ℕ} → in_fragment ≤ mode → site ≡ site_in mode top
    → CountedAt work site r → CountedHere work mode top r
count-inside {work} {mode} {top} {r = r} l e g =
    record {
      outside = λ h. absurd (omega arith);
      counted = λ _. subst (λ n. CountedAt work n r) e g;
      few = g.within;
    }

-- ---- the state

-- The number of a state is the one that it was made of.
mode-of : (mode : ℕ) (qs : List (QName Text)) → ModeFits mode (length qs)
    → mode_of (state_of mode qs) ≡ mode
unfolding mode_of state_of
mode-of mode (q ∷ outer) f =
    split (eqb mode in_tag)
    (λ t. rw t (sym (eqb-true mode in_tag t)))
    (λ t. split (ltb mode in_tag)
    (λ u. absurd (omega (arith, f.outer (ltb-true mode in_tag u))))
    (λ u. rw t (omega (arith, eqb-false mode in_tag t, ltb-false mode in_tag u, f.known))))
mode-of zero [] f = refl
mode-of (suc zero) [] f = refl
mode-of (suc (suc zero)) [] f = refl
mode-of (suc (suc (suc zero))) [] f = refl
mode-of (suc (suc (suc (suc zero)))) [] f = refl
mode-of (suc (suc (suc (suc (suc m))))) [] f = absurd (omega (arith, f.inner (omega arith)))

module _ {work : List ℕ} {learned mode top : ℕ} {w : Rows} {opened : List ℕ}
    (h : CodeRows work learned mode top w opened) where
  names-fit : ModeFits mode (length (map (name_at w) opened))
  names-fit = subst (ModeFits mode) (sym (length-map opened (name_at w))) h.fits

  pub state-mode : mode_of (state_of mode (map (name_at w) opened)) ≡ mode
  state-mode = mode-of mode (map (name_at w) opened) names-fit

  -- The definitions' levels are the table's.
  pub levels-here : (s : Settings) (store : Text)
      → levels_in s (context_of w store mode opened)
      ≡ with_learned (learned_here w mode opened) (table_of s.comments s.instructions mode)
  unfolding levels_in context_of
  levels-here s store =
      levels-table s (learned_of w) (state_of mode (map (name_at w) opened))
      ∙ ap (λ m. with_learned (learned_here w mode opened)
      (table_of s.comments s.instructions m))
      state-mode

  outside : mode < in_tag → opened ≡ []
  outside l = empty opened (h.fits.outer l)
    where
      empty : (l : List ℕ) → length l ≡ 0 → l ≡ []
      empty [] e = refl
      empty (x ∷ l) e = absurd (omega arith)

  -- In the document's own states nothing is learned.
  pub outer-here : mode < in_fragment → learned_here w mode opened ≡ []
  unfolding learned_at
  outer-here l = rw (outside (omega arith), site-none mode l)

  pub top-row : in_tag ≤ mode → top < length w.names
  top-row l =
      let a = h.fits.inner l in
      omega (arith, h.topped a, h.rows 0 a)

  module _ (l : in_fragment ≤ mode) where
    pub site-fits : SiteFits (length w.names) (site_in mode top)
    site-fits other =
        split (ltb mode in_tag)
        (λ t. absurd (other (sym (outer-site top (ltb-true mode in_tag t)))))
        (λ t.
        let m = ltb-false mode in_tag t in
        omega (arith, site-half mode top m, top-row m))

    element-here : in_tag ≤ mode
        → site_of (state_of mode (map (name_at w) opened)) ≡ some (site_at w (site_in mode top))
    element-here m = go opened (h.fits.inner m) h.topped
      where
        go : (ns : List ℕ) → 0 < length ns → (0 < length ns → get_or ns 0 0 ≡ top)
            → site_of (state_of mode (map (name_at w) ns)) ≡ some (site_at w (site_in mode top))
        go [] a b = absurd (omega arith)
        go (n ∷ ns) a b =
            ap (λ m. site_of (state_of mode (name_at w m ∷ map (name_at w) ns))) (b a)
            ∙ site-of w mode top (map (name_at w) ns) h.low
            ∙ ap (λ k. some (site_at w k)) (element-site mode top m)

    pub site-here :
        site_of (state_of mode (map (name_at w) opened)) ≡ some (site_at w (site_in mode top))
    site-here =
        split (ltb mode in_tag)
        (λ t.
        let m = ltb-true mode in_tag t in
        let z : mode ≡ in_fragment = omega arith in
        rw (outside m, z) (site-fragment w))
        (λ t. element-here (ltb-false mode in_tag t))

    pub inner-here :
        learned_here w mode opened ≡ learned_in (site_at w (site_in mode top)) (learned_of w)
    unfolding learned_at
    inner-here = rw site-here

  -- Where the table is empty nothing is learned.
  pub table_empty : (c i : Bool) → table_of c i mode ≡ [] → learned_here w mode opened ≡ []
  table_empty c i e =
      split (ltb mode in_fragment)
      (λ t. outer-here (ltb-true mode in_fragment t))
      (λ t.
      let n = ap length e in
      let m = learning-levels c i (ltb-false mode in_fragment t) h.fits.known in
      absurd (omega arith))
