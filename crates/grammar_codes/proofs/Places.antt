-- Where a kind stands in the table, and what its code is.
use Prim.Native.Nat.{ℕ, zero, suc, ◌≤◌, ◌<◌}
use native.Mathlib.Omega.{arith}
use mathlib.Core.Path.{◌≡◌, refl, sym, ap, subst, ◌∙◌}
use mathlib.Core.Bool.{Bool, true, false}
use mathlib.Core.List.{List, [], ◌∷◌, map}
use mathlib.Core.Option
use mathlib.Core.Option.{Option, none, some, none-ne-some}
use lib.ListN.{length, get_or}
use lib.Dec.{eqb}
use borrow.Author.Tests.{eqb-true, eqb-false, eq-eqb, ne_eqb}
use Rattle.spec_fields.proofs.Tests.{split}
use Rattle.text.specs.Text.{Text}
use Rattle.spec_exi.specs.Event.{Event, Kind, SD, kind_of}
use Rattle.spec_exi.specs.Grammar.{Production, unnamed, kind_number, fits_name, fits, at_level}
use Rattle.spec_exi.specs.Grammar.{below, first_fit, code_or, code_of}
use Rattle.event_code.specs.Numbers.{in_document, in_doc_content, in_doc_end, in_fragment, in_tag, in_element}
use Rattle.event_code.specs.Numbers.{number_of_sd, number_of_ed, number_of_se, number_of_at, number_of_ee, number_of_ch}
use Rattle.event_code.specs.Numbers.{number_of_cm, number_of_pi}
use Rattle.grammar_codes.specs.declared.Place.{Place}
use Rattle.grammar_codes.specs.Table.{kept_kinds, tables, table_of, level_at, number_in, in_level, max_levels}
use Rattle.grammar_codes.specs.Table.{place_in, place_as, kept_place, leveled, with_learned}
use Rattle.grammar_codes.specs.Table.{on_level, in-next, FixedCode, code_at, PlaceAt}
use Rattle.grammar_codes.proofs.Table.{few-levels, beyond}
use Rattle.grammar_codes.proofs.Codes.{fit-right}

-- ---- among kinds

-- The kind stands there.
number_at : (l : List Kind) (k : ℕ) {v : ℕ} → number_in l k ≡ some v
    → (v < length l) × (kind_number (get_or l v SD) ≡ k)
unfolding number_in
number_at [] k e = absurd (none-ne-some _ e)
number_at (x ∷ xs) k {v} e =
    split (eqb (kind_number x) k)
    (λ t.
    let z : 0 ≡ v = cc (rw t at e) in
    subst (λ n. (n < suc (length xs)) × (kind_number (get_or (x ∷ xs) n SD) ≡ k)) z
    (omega arith, eqb-true (kind_number x) k t))
    (λ t. later (number_in xs k) (λ u f. number_at xs k f) (rw t at e))
  where
    later : (o : Option ℕ)
        → ((u : ℕ) → o ≡ some u → (u < length xs) × (kind_number (get_or xs u SD) ≡ k))
        → Option.map suc o ≡ some v
        → (v < suc (length xs)) × (kind_number (get_or (x ∷ xs) v SD) ≡ k)
    later none f z = absurd (none-ne-some _ z)
    later (some u) f z =
        let i : suc u ≡ v = cc in
        let (a, b) = f u refl in
        subst (λ n. (n < suc (length xs)) × (kind_number (get_or (x ∷ xs) n SD) ≡ k)) i
        (omega (arith, a), b)

-- No production of these fits.
number-none : (e : Event Text) (l : List Kind) → number_in l (kind_number (kind_of e)) ≡ none
    → first_fit (map unnamed l) e ≡ none
unfolding number_in first_fit fits fits_name unnamed
number-none e [] h = refl
number-none e (k ∷ l) h =
    split (eqb (kind_number k) (kind_number (kind_of e)))
    (λ t. absurd (none-ne-some _ (sym (rw t at h))))
    (λ t. rw (t, number-none e l (empty (number_in l (kind_number (kind_of e))) (rw t at h))))
  where
    empty : (o : Option ℕ) → Option.map suc o ≡ none → o ≡ none
    empty none z = refl
    empty (some u) z = absurd (none-ne-some _ (sym z))

-- ---- in a table

-- A place that a table has, and its code.
pub record HasPlace (t : List (List Kind)) (k : ℕ) (x : ℕ × ℕ) : Type 0 where
  pub level : x.0 < length t
  pub value : x.1 < length (get_or t x.0 [])
  pub code : FixedCode t k (code_at t x.0 x.1)

pub place-has : (t : List (List Kind)) (k : ℕ) {x : ℕ × ℕ} → place_in t k ≡ some x → HasPlace t k x
unfolding place_in in_level code_at at_level below unnamed
place-has [] k e = absurd (none-ne-some _ e)
place-has (l ∷ ls) k {x} e =
    go (number_in l k) refl (place_in ls k) (λ u f. place-has ls k f) e
  where
    go : (o : Option ℕ) → number_in l k ≡ o → (p : Option (ℕ × ℕ))
        → ((u : ℕ × ℕ) → p ≡ some u → HasPlace ls k u) → in_level o p ≡ some x
        → HasPlace (l ∷ ls) k x
    go (some v) f p g z =
        let y : (0, v) ≡ x = cc in
        let (a, b) = number_at l k f in
        subst (HasPlace (l ∷ ls) k) y
        (record {
          level = omega arith;
          value = a;
          code = record { reaches = on_level v a; is = b };
        })
    go none f none g z = absurd (none-ne-some _ z)
    go none f (some u) g z =
        let y : (suc u.0, u.1) ≡ x = cc in
        let h = g u refl in
        subst (HasPlace (l ∷ ls) k) y
        (record {
          level = omega (arith, h.level);
          value = h.value;
          code = record { reaches = in-next h.code.reaches; is = h.code.is };
        })

-- No place: then no production fits.
place-apart : (e : Event Text) (l : List Kind) (ls : List (List Kind))
    → place_in (l ∷ ls) (kind_number (kind_of e)) ≡ none
    → (number_in l (kind_number (kind_of e)) ≡ none) × (place_in ls (kind_number (kind_of e)) ≡ none)
unfolding place_in in_level
place-apart e l ls h =
    go (number_in l (kind_number (kind_of e))) (place_in ls (kind_number (kind_of e))) h
  where
    go : (o : Option ℕ) (p : Option (ℕ × ℕ)) → in_level o p ≡ none → (o ≡ none) × (p ≡ none)
    go none none z = (refl, refl)
    go none (some x) z = absurd (none-ne-some _ (sym z))
    go (some v) p z = absurd (none-ne-some _ (sym z))

lower-none : (e : Event Text) (t : List (List Kind)) → place_in t (kind_number (kind_of e)) ≡ none
    → code_of (leveled t) e ≡ none
unfolding leveled code_of code_or
lower-none e [] h = refl
lower-none e (l ∷ ls) h =
    let (a, b) = place-apart e l ls h in rw (number-none e l a, lower-none e ls b)

pub place_none : (e : Event Text) (ps : List Production) (t : List (List Kind))
    → place_in t (kind_number (kind_of e)) ≡ none → first_fit ps e ≡ none
    → code_of (with_learned ps t) e ≡ none
unfolding with_learned code_of code_or
place_none e ps [] h miss = refl
place_none e ps (l ∷ ls) h miss =
    let (a, b) = place-apart e l ls h in
    rw (fit-right e ps (map unnamed l) miss, number-none e l a, lower-none e ls b)

-- ---- by two numbers

-- Level 3 is none.
place-numbers : (t : List (List Kind)) (k : ℕ) → length t ≤ max_levels → (place_as (place_in t k)).level ≡ max_levels
    → place_in t k ≡ none
unfolding place_as
place-numbers t k few e = go (place_in t k) refl e
  where
    go : (o : Option (ℕ × ℕ)) → place_in t k ≡ o → (place_as o).level ≡ max_levels → place_in t k ≡ none
    go none f z = f
    go (some x) f z = absurd (omega (arith, (place-has t k f).level))

place-there : (t : List (List Kind)) (k : ℕ) → (place_as (place_in t k)).level < max_levels
    → HasPlace t k ((place_as (place_in t k)).level, (place_as (place_in t k)).value)
unfolding place_as
place-there t k l = go (place_in t k) refl l
  where
    go : (o : Option (ℕ × ℕ)) → place_in t k ≡ o → (place_as o).level < max_levels
        → HasPlace t k ((place_as o).level, (place_as o).value)
    go none f l = absurd (omega arith)
    go (some x) f l = place-has t k f

place-few : (t : List (List Kind)) (k : ℕ) → length t ≤ max_levels → (place_as (place_in t k)).level ≤ max_levels
unfolding place_as
place-few t k few = go (place_in t k) refl
  where
    go : (o : Option (ℕ × ℕ)) → place_in t k ≡ o → (place_as o).level ≤ max_levels
    go none f = omega arith
    go (some x) f = omega (arith, (place-has t k f).level)

module _ (c i : Bool) (mode kind : ℕ) where
  pub place_is : {r : Place} → r ≡ place_as (place_in (table_of c i mode) kind)
      → PlaceAt c i mode kind r
  unfolding level_at
  place_is {r} e =
      subst (PlaceAt c i mode kind) (sym e)
      (record {
        is = refl;
        few = place-few (table_of c i mode) kind (few-levels c i mode);
        low = λ l. (place-there (table_of c i mode) kind l).value;
      })

module _ {c i : Bool} {mode kind : ℕ} {r : Place} (p : PlaceAt c i mode kind r) where
  -- Where the state has no such production.
  pub no_place : r.level ≡ max_levels → place_in (table_of c i mode) kind ≡ none
  no_place e =
      place-numbers (table_of c i mode) kind (few-levels c i mode)
      (ap (λ (x : Place). x.level) (sym p.is) ∙ e)

  -- Where it has one, its code.
  pub has-place : r.level < max_levels → HasPlace (table_of c i mode) kind (r.level, r.value)
  has-place l =
      subst (λ (x : Place). HasPlace (table_of c i mode) kind (x.level, x.value)) (sym p.is)
      (place-there (table_of c i mode) kind
      (subst (λ (x : Place). x.level < max_levels) p.is l))

-- ---- the answers

module _ (c i : Bool) (level : ℕ) {kind : ℕ} where
  pub kept-comment : kind ≡ number_of_cm → c ≡ true
      → record { level = level; value = 0 } ≡ kept_place level (number_in (kept_kinds c i) kind)
  unfolding kept_place number_in kept_kinds kind_number
  kept-comment e t = rw (e, t)

  pub no-comment : kind ≡ number_of_cm → c ≡ false
      → place_as none ≡ kept_place level (number_in (kept_kinds c i) kind)
  unfolding place_as kept_place number_in kept_kinds kind_number
  no-comment e t = rw (e, t) (split i (λ u. rw u) (λ u. rw u))

  pub no-instruction : kind ≡ number_of_pi → i ≡ false
      → place_as none ≡ kept_place level (number_in (kept_kinds c i) kind)
  unfolding place_as kept_place number_in kept_kinds kind_number
  no-instruction e t = rw (e, t) (split c (λ u. rw u) (λ u. rw u))

  pub kept-both : kind ≡ number_of_pi → i ≡ true → c ≡ true
      → record { level = level; value = 1 } ≡ kept_place level (number_in (kept_kinds c i) kind)
  unfolding kept_place number_in kept_kinds kind_number
  kept-both e t u = rw (e, t, u)

  pub kept-instruction : kind ≡ number_of_pi → i ≡ true → c ≡ false
      → record { level = level; value = 0 } ≡ kept_place level (number_in (kept_kinds c i) kind)
  unfolding kept_place number_in kept_kinds kind_number
  kept-instruction e t u = rw (e, t, u)

  pub kept-none : (kind ≡ number_of_cm → ⊥) → (kind ≡ number_of_pi → ⊥)
      → place_as none ≡ kept_place level (number_in (kept_kinds c i) kind)
  unfolding place_as kept_place number_in kept_kinds kind_number
  kept-none a b =
      let x = ne_eqb number_of_cm kind (λ z. a (sym z)) in
      let y = ne_eqb number_of_pi kind (λ z. b (sym z)) in
      split c
      (λ t. split i (λ u. rw (t, u, x, y)) (λ u. rw (t, u, x)))
      (λ t. split i (λ u. rw (t, u, y)) (λ u. rw (t, u)))

-- The level of those that are kept, below one and below two.
below_one : (o : Option ℕ) → kept_place 1 o ≡ place_as (in_level none (in_level o none))
unfolding kept_place place_as in_level
below_one none = refl
below_one (some v) = refl

below_two : (o : Option ℕ)
    → kept_place 2 o ≡ place_as (in_level none (in_level none (in_level o none)))
unfolding kept_place place_as in_level
below_two none = refl
below_two (some v) = refl

module _ (c i : Bool) (kind : ℕ) where
  pub tag-other : (kind ≡ number_of_ee → ⊥) → (kind ≡ number_of_at → ⊥) → (kind ≡ number_of_se → ⊥) → (kind ≡ number_of_ch → ⊥)
      → {r : Place}
      → r ≡ kept_place 2 (number_in (kept_kinds c i) kind)
      → r ≡ place_as (place_in (table_of c i in_tag) kind)
  unfolding table_of tables place_in number_in kind_number
  tag-other a b d e z =
      z ∙ below_two (number_in (kept_kinds c i) kind)
      ∙ rw (
        ne_eqb number_of_ee kind (λ y. a (sym y)),
        ne_eqb number_of_at kind (λ y. b (sym y)),
        ne_eqb number_of_se kind (λ y. d (sym y)),
        ne_eqb number_of_ch kind (λ y. e (sym y)),
      )

  pub element-other : (kind ≡ number_of_ee → ⊥) → (kind ≡ number_of_se → ⊥) → (kind ≡ number_of_ch → ⊥) → {r : Place}
      → r ≡ kept_place 2 (number_in (kept_kinds c i) kind)
      → r ≡ place_as (place_in (table_of c i in_element) kind)
  unfolding table_of tables place_in number_in kind_number
  element-other a d e z =
      z ∙ below_two (number_in (kept_kinds c i) kind)
      ∙ rw (
        ne_eqb number_of_ee kind (λ y. a (sym y)),
        ne_eqb number_of_se kind (λ y. d (sym y)),
        ne_eqb number_of_ch kind (λ y. e (sym y)),
      )

  pub fragment-other : (kind ≡ number_of_se → ⊥) → (kind ≡ number_of_ed → ⊥) → {r : Place}
      → r ≡ kept_place 1 (number_in (kept_kinds c i) kind)
      → r ≡ place_as (place_in (table_of c i in_fragment) kind)
  unfolding table_of tables place_in number_in kind_number
  fragment-other a d z =
      z ∙ below_one (number_in (kept_kinds c i) kind)
      ∙ rw (ne_eqb number_of_se kind (λ y. a (sym y)), ne_eqb number_of_ed kind (λ y. d (sym y)))

  module _ (k : Kind) {first : ℕ} (f : kind_number k ≡ first) where
    pub outer-first : kind ≡ first
        → record { level = 0; value = 0 } ≡ place_as (place_in ((k ∷ []) ∷ kept_kinds c i ∷ []) kind)
    unfolding place_in number_in in_level place_as
    outer-first e = rw (eq-eqb (kind_number k) kind (f ∙ sym e))

    pub outer-other : (kind ≡ first → ⊥) → {r : Place}
        → r ≡ kept_place 1 (number_in (kept_kinds c i) kind)
        → r ≡ place_as (place_in ((k ∷ []) ∷ kept_kinds c i ∷ []) kind)
    unfolding place_in number_in
    outer-other ne z =
        z ∙ below_one (number_in (kept_kinds c i) kind)
        ∙ rw (ne_eqb (kind_number k) kind (λ y. ne (sym y ∙ f)))

  pub document-other : (kind ≡ number_of_sd → ⊥) → place_as none ≡ place_as (place_in (table_of c i in_document) kind)
  unfolding table_of tables place_in number_in in_level place_as kind_number
  document-other ne = rw (ne_eqb number_of_sd kind (λ y. ne (sym y)))

  pub over-place : {mode : ℕ} → (mode ≡ in_document → ⊥) → (mode ≡ in_doc_content → ⊥) → (mode ≡ in_doc_end → ⊥)
      → (mode ≡ in_tag → ⊥)
      → (mode ≡ in_element → ⊥) → (mode ≡ in_fragment → ⊥)
      → place_as none ≡ place_as (place_in (table_of c i mode) kind)
  unfolding place_in
  over-place {mode} a b d e f g = rw (beyond c i mode a b d e f g)

-- ---- in an element

-- SE, EE and CH have a place, and AT in a start tag.
module _ (c i : Bool) where
  tag-has : (k : ℕ) → number_of_se ≤ k → k ≤ number_of_ch → place_in (table_of c i in_tag) k ≡ none → ⊥
  unfolding table_of tables place_in number_in in_level kind_number
  tag-has zero a b e = omega arith
  tag-has (suc zero) a b e = omega arith
  tag-has (suc (suc zero)) a b e = none-ne-some _ (sym e)
  tag-has (suc (suc (suc zero))) a b e = none-ne-some _ (sym e)
  tag-has (suc (suc (suc (suc zero)))) a b e = none-ne-some _ (sym e)
  tag-has (suc (suc (suc (suc (suc zero))))) a b e = none-ne-some _ (sym e)
  tag-has (suc (suc (suc (suc (suc (suc k)))))) a b e = omega arith

  content-has : (k : ℕ) → number_of_se ≤ k → k ≤ number_of_ch → (k ≡ number_of_at → ⊥)
      → place_in (table_of c i in_element) k ≡ none → ⊥
  unfolding table_of tables place_in number_in in_level kind_number
  content-has zero a b n e = omega arith
  content-has (suc zero) a b n e = omega arith
  content-has (suc (suc zero)) a b n e = none-ne-some _ (sym e)
  content-has (suc (suc (suc zero))) a b n e = n refl
  content-has (suc (suc (suc (suc zero)))) a b n e = none-ne-some _ (sym e)
  content-has (suc (suc (suc (suc (suc zero))))) a b n e = none-ne-some _ (sym e)
  content-has (suc (suc (suc (suc (suc (suc k)))))) a b n e = omega arith

  -- SE has one in a fragment's content, too.
  pub fragment-has : place_in (table_of c i in_fragment) number_of_se ≡ none → ⊥
  unfolding table_of tables place_in number_in in_level kind_number
  fragment-has e = none-ne-some _ (sym e)

  pub element-has : {mode : ℕ} → in_tag ≤ mode → mode ≤ in_element → (k : ℕ) → number_of_se ≤ k → k ≤ number_of_ch
      → (k ≡ number_of_at → mode ≡ in_tag) → place_in (table_of c i mode) k ≡ none → ⊥
  element-has {mode} l h k a b tag e =
      split (eqb mode in_tag)
      (λ t. let z : mode ≡ in_tag = eqb-true mode in_tag t in tag-has k a b (rw z at e))
      (λ t.
      let z : mode ≡ in_element = omega (arith, eqb-false mode in_tag t) in
      content-has k a b (λ y. omega (arith, tag y)) (rw z at e))
