-- The main level, those kept below it, and an element's first level.
use Prim.Native.Nat.{ℕ, zero, suc, ◌+◌, ◌≤◌, ◌<◌}
use native.Mathlib.Omega.{arith}
use mathlib.Core.Path.{◌≡◌, refl, sym, ap, subst, ◌∙◌}
use mathlib.Core.Bool.{Bool, true, false, cond, ◌||◌, true≢false}
use mathlib.Core.List.{List, [], ◌∷◌}
use lib.ListN.{length, get_or, drop}
use lib.Dec.{eqb, ltb}
use borrow.Author.Tests.{eqb-true, eqb-false, lt-ltb, le-ltb}
use Rattle.spec_fields.proofs.Tests.{split}
use Rattle.spec_exi.specs.Event.{Kind, SD, ED, SE, AT, EE, CH}
use Rattle.spec_exi.specs.Grammar.{kind_number}
use Rattle.event_code.specs.Numbers.{in_document, in_doc_content, in_doc_end, in_fragment, in_tag, in_element}
use Rattle.event_code.specs.Numbers.{number_of_ed, number_of_se, number_of_at, number_of_ee, number_of_ch}
use Rattle.grammar_codes.specs.Table.{kept_kinds, tables, table_of, level_at, no_kinds, values_of}
use Rattle.grammar_codes.specs.Table.{leads_on, fixed_levels, fixed_kinds, Stands}
use Rattle.grammar_codes.proofs.Table.{nth-is, one-kind, beyond, dropped, few-kinds}
use Rattle.grammar_codes.proofs.Table.{kind-stands}

-- ---- those kept

kept-none : (c i : Bool) → (c || i) ≡ false → no_kinds (kept_kinds c i ∷ []) ≡ true
unfolding kept_kinds no_kinds
kept-none true i z = absurd (true≢false z)
kept-none false true z = absurd (true≢false z)
kept-none false false z = refl

pub leads-kept : (c i : Bool) → (c || i) ≡ true → 1 ≡ leads_on (kept_kinds c i ∷ [])
unfolding kept_kinds no_kinds
leads-kept true true z = refl
leads-kept true false z = refl
leads-kept false true z = refl
leads-kept false false z = absurd (true≢false (sym z))

pub kept-few : (c i : Bool) → length (kept_kinds c i) ≤ 4
unfolding level_at table_of tables
kept-few c i = few-kinds c i 1 1

-- They stand in every state: both outside an element and in one.
pub kept-stands : (c i : Bool) (mode v : ℕ) → v < length (kept_kinds c i)
    → Stands mode (kind_number (get_or (kept_kinds c i) v SD))
unfolding level_at table_of tables
kept-stands c i mode v h =
    let a = kind-stands c i 1 1 v h in
    let b = kind-stands c i in_tag 2 v h in
    record {
      known = a.known;
      outside = λ l. absurd (omega (arith, b.outside l));
      inside = λ l m. absurd (omega (arith, a.inside l m));
    }

-- ---- the main level

module _ (c i : Bool) where
  pub fixed-outer : {mode : ℕ} → mode < in_tag → fixed_levels c i mode ≡ table_of c i mode
  unfolding fixed_levels
  fixed-outer {mode} l = rw (lt-ltb mode in_tag l)

  pub fixed-inner : {mode : ℕ} → in_tag ≤ mode → fixed_levels c i mode ≡ drop 1 (table_of c i mode)
  unfolding fixed_levels
  fixed-inner {mode} l = rw (le-ltb mode in_tag l)

  fixed-over : (mode : ℕ) → table_of c i mode ≡ [] → fixed_levels c i mode ≡ []
  unfolding fixed_levels
  fixed-over mode e = split (ltb mode in_tag) (λ t. rw (t, e)) (λ t. rw (t, e))

  pub fixed-first : (mode : ℕ) → get_or (fixed_levels c i mode) 0 [] ≡ fixed_kinds mode
  unfolding fixed_levels fixed_kinds table_of tables
  fixed-first zero = refl
  fixed-first (suc zero) = refl
  fixed-first (suc (suc zero)) = refl
  fixed-first (suc (suc (suc zero))) = refl
  fixed-first (suc (suc (suc (suc zero)))) = refl
  fixed-first (suc (suc (suc (suc (suc zero))))) = refl
  fixed-first (suc (suc (suc (suc (suc (suc zero)))))) = refl
  fixed-first (suc (suc (suc (suc (suc (suc (suc mode))))))) = refl

  -- Where one leads on, it is to those kept.
  pub fixed-next : (mode : ℕ) → no_kinds (drop 1 (fixed_levels c i mode)) ≡ false
      → drop 1 (fixed_levels c i mode) ≡ kept_kinds c i ∷ []
  unfolding fixed_levels table_of tables no_kinds
  fixed-next zero h = absurd (true≢false h)
  fixed-next (suc zero) h = refl
  fixed-next (suc (suc zero)) h = refl
  fixed-next (suc (suc (suc zero))) h = absurd (true≢false h)
  fixed-next (suc (suc (suc (suc zero)))) h = refl
  fixed-next (suc (suc (suc (suc (suc zero))))) h = refl
  fixed-next (suc (suc (suc (suc (suc (suc zero)))))) h = refl
  fixed-next (suc (suc (suc (suc (suc (suc (suc m))))))) h =
      let e = fixed-over (suc (suc (suc (suc (suc (suc (suc m))))))) refl in
      absurd (true≢false (ap (λ ls. no_kinds (drop 1 ls)) (sym e) ∙ h))

  -- ---- where the level leads on

  pub leads-none : (c || i) ≡ false → (mode : ℕ)
      → 0 ≡ leads_on (drop 1 (fixed_levels c i mode))
  leads-none z mode =
      split (no_kinds (drop 1 (fixed_levels c i mode))) (λ t. rw t)
      (λ t. absurd (true≢false
      (sym (kept-none c i z) ∙ ap no_kinds (sym (fixed-next mode t)) ∙ t)))

  pub leads-over : (mode : ℕ) → (mode ≡ in_doc_content → ⊥) → (mode ≡ in_doc_end → ⊥) → (mode ≡ in_tag → ⊥)
      → (mode ≡ in_element → ⊥) → (mode ≡ in_fragment → ⊥)
      → 0 ≡ leads_on (drop 1 (fixed_levels c i mode))
  unfolding fixed_levels table_of tables no_kinds
  leads-over mode b d e f g =
      split (eqb mode in_document)
      (λ t. let z : mode ≡ in_document = eqb-true mode in_document t in rw z)
      (λ t.
      rw (fixed-over mode (beyond c i mode (eqb-false mode in_document t) b d e f g)))

-- ---- their kinds

pub fixed-none : (mode v : ℕ) → (mode ≡ in_doc_content → ⊥) → (mode ≡ in_doc_end → ⊥) → (mode ≡ in_tag → ⊥)
    → (mode ≡ in_element → ⊥) → (mode ≡ in_fragment → ⊥)
    → 0 ≡ kind_number (get_or (fixed_kinds mode) v SD)
unfolding fixed_kinds fixed_levels table_of tables kind_number
fixed-none mode v b d e f g =
    split (eqb mode in_document)
    (λ t. let z : mode ≡ in_document = eqb-true mode in_document t in rw z (nothing v))
    (λ t. rw (fixed-over false false mode (beyond false false mode (eqb-false mode in_document t) b d e f g)))
  where
    nothing : (n : ℕ) → 0 ≡ kind_number (get_or (SD ∷ []) n SD)
    nothing zero = refl
    nothing (suc n) = refl

pub no-fixed : (mode : ℕ) → (mode ≡ in_document → ⊥) → (mode ≡ in_doc_content → ⊥) → (mode ≡ in_doc_end → ⊥)
    → (mode ≡ in_tag → ⊥)
    → (mode ≡ in_element → ⊥) → (mode ≡ in_fragment → ⊥) → 0 ≡ length (fixed_kinds mode)
unfolding fixed_kinds
no-fixed mode a b d e f g = rw (fixed-over false false mode (beyond false false mode a b d e f g))

module _ (v : ℕ) where
  pub content-kind : get_or (2 ∷ 0 ∷ 0 ∷ 0 ∷ []) v 0 ≡ kind_number (get_or (fixed_kinds 1) v SD)
  unfolding fixed_kinds fixed_levels table_of tables kind_number
  content-kind = one-kind v SE

  pub end-kind : get_or (1 ∷ 0 ∷ 0 ∷ 0 ∷ []) v 0 ≡ kind_number (get_or (fixed_kinds 2) v SD)
  unfolding fixed_kinds fixed_levels table_of tables kind_number
  end-kind = one-kind v ED

  pub tag-kind : get_or (number_of_ee ∷ number_of_at ∷ number_of_se ∷ number_of_ch ∷ []) v 0 ≡ kind_number (get_or (fixed_kinds in_tag) v SD)
  unfolding fixed_kinds fixed_levels table_of tables kind_number
  tag-kind =
      nth-is (λ n. kind_number (get_or (EE ∷ AT ∷ SE ∷ CH ∷ []) n SD)) refl refl refl refl (λ n. refl)
      v

  pub element-kind : get_or (number_of_se ∷ number_of_ch ∷ 0 ∷ 0 ∷ []) v 0 ≡ kind_number (get_or (fixed_kinds in_element) v SD)
  unfolding fixed_kinds fixed_levels table_of tables kind_number
  element-kind =
      nth-is (λ n. kind_number (get_or (SE ∷ CH ∷ []) n SD)) refl refl refl refl (λ n. refl) v

  pub fragment-kind : get_or (number_of_se ∷ number_of_ed ∷ 0 ∷ 0 ∷ []) v 0
      ≡ kind_number (get_or (fixed_kinds in_fragment) v SD)
  unfolding fixed_kinds fixed_levels table_of tables kind_number
  fragment-kind =
      nth-is (λ n. kind_number (get_or (SE ∷ ED ∷ []) n SD)) refl refl refl refl (λ n. refl) v

pub fixed-few : (mode : ℕ) → length (fixed_kinds mode) ≤ 4
unfolding fixed_kinds fixed_levels level_at
fixed-few mode =
    let n : ℕ = cond (ltb mode in_tag) 0 1 in
    omega (
      arith,
      few-kinds false false mode n,
      ap (λ (l : List Kind). length l) (dropped (table_of false false mode) n),
    )

pub fixed-stands : (mode v : ℕ) → v < length (fixed_kinds mode)
    → Stands mode (kind_number (get_or (fixed_kinds mode) v SD))
unfolding fixed_kinds fixed_levels level_at
fixed-stands mode v h =
    let n : ℕ = cond (ltb mode in_tag) 0 1 in
    let e = dropped (table_of false false mode) n in
    subst (λ l. v < length l → Stands mode (kind_number (get_or l v SD))) (sym e)
    (kind-stands false false mode n v) h

-- ---- an element's first level

module _ (c i : Bool) {mode : ℕ} (l : in_tag ≤ mode) (m : mode ≤ in_element) where
  in-element : (mode ≡ in_tag → ⊥) → mode ≡ in_element
  in-element n = omega (arith, n)

  pub own-count : cond (eqb mode in_element) 1 0 ≡ length (get_or (table_of c i mode) 0 [])
  unfolding table_of tables
  own-count =
      split (eqb mode in_tag)
      (λ t. let z : mode ≡ in_tag = eqb-true mode in_tag t in rw z)
      (λ t. let z : mode ≡ in_element = in-element (eqb-false mode in_tag t) in rw z)

  pub own-values : cond (eqb mode in_element) 1 0 + 1
      ≡ values_of (get_or (table_of c i mode) 0 []) (drop 1 (table_of c i mode))
  unfolding table_of tables no_kinds
  own-values =
      split (eqb mode in_tag)
      (λ t. let z : mode ≡ in_tag = eqb-true mode in_tag t in rw z)
      (λ t. let z : mode ≡ in_element = in-element (eqb-false mode in_tag t) in rw z)

  pub own-kind : 0 < cond (eqb mode in_element) 1 0
      → number_of_ee ≡ kind_number (get_or (get_or (table_of c i mode) 0 []) 0 SD)
  unfolding table_of tables kind_number
  own-kind h =
      split (eqb mode in_element)
      (λ t. let z : mode ≡ in_element = eqb-true mode in_element t in rw z)
      (λ t. absurd (omega (arith, rw t at h)))
