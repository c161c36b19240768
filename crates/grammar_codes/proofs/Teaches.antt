-- What a code of the table teaches, by the state and the kind.
use Prim.Native.Nat.{ℕ, suc, ◌≤◌}
use native.Mathlib.Omega.{arith}
use mathlib.Core.Path.{◌≡◌, refl, sym, subst, ◌∙◌}
use mathlib.Core.Bool.{Bool, true, false, cond, ◌&&◌, not, true≢false}
use mathlib.Core.List.{List, [], ◌∷◌}
use lib.ListN.{length}
use lib.Dec.{T, eqb}
use borrow.Author.Tests.{eqb-true, eqb-false, not-true}
use Rattle.spec_fields.proofs.Tests.{split, T-is, is_t, left, right}
use Rattle.spec_exi.specs.Event.{Kind, SD, ED, SE, AT, EE, CH, CM, PI}
use Rattle.spec_exi.specs.Grammar.{Production, Code, unnamed, kind_number, is_wildcard, at_level, below}
use Rattle.spec_exi.specs.Grammar.{has_kind, teaches}
use Rattle.event_code.specs.Numbers.{teaches_in, in_fragment, in_tag, in_element, number_of_at, number_of_ee}
use Rattle.event_code.specs.Numbers.{number_of_ch}
use Rattle.grammar_codes.specs.Table.{kept_kinds, tables, table_of, Reaches, on_level, in-next}
use Rattle.grammar_codes.specs.Table.{FixedCode, raised_by, after_learned}
use Rattle.grammar_codes.proofs.Table.{every, every-at}

-- ---- one test of the table

-- Where AT and CH stand, and how many parts the codes of EE and CH have.
unfoldable parts_test : ℕ → ℕ → ℕ → Bool
parts_test mode parts kind =
    cond (eqb kind number_of_at) (eqb mode in_tag)
    (cond (eqb kind number_of_ee) (cond (eqb mode in_tag) (eqb parts 2) (not (eqb parts 2)))
    (cond (eqb kind number_of_ch) (not (eqb mode in_fragment) && eqb parts 2) true))

unfoldable levels_test : (ℕ → Kind → Bool) → List (List Kind) → Bool
levels_test p [] = true
levels_test p (l ∷ ls) = every (p 1) l && levels_test (λ n. p (suc n)) ls

abbrev tested : ℕ → ℕ → Kind → Bool
tested mode n k = parts_test mode n (kind_number k)

tag-tested : (c i : Bool) → levels_test (tested in_tag) (table_of c i in_tag) ≡ true
unfolding levels_test parts_test every table_of tables kept_kinds kind_number
tag-tested true true = refl
tag-tested true false = refl
tag-tested false true = refl
tag-tested false false = refl

element-tested : (c i : Bool) → levels_test (tested in_element) (table_of c i in_element) ≡ true
unfolding levels_test parts_test every table_of tables kept_kinds kind_number
element-tested true true = refl
element-tested true false = refl
element-tested false true = refl
element-tested false false = refl

fragment-tested : (c i : Bool) → levels_test (tested in_fragment) (table_of c i in_fragment) ≡ true
unfolding levels_test parts_test every table_of tables kept_kinds kind_number
fragment-tested true true = refl
fragment-tested true false = refl
fragment-tested false true = refl
fragment-tested false false = refl

reached-test : (p : ℕ → Kind → Bool) {t : List (List Kind)} {x : Code} → Reaches t x
    → T (levels_test p t) → T (p (length x.parts) x.production.kind)
unfolding levels_test at_level below unnamed
reached-test p (on_level {l} {ls} v h) o =
    every-at (p 1) l v (left (every (p 1) l) (levels_test (λ n. p (suc n)) ls) o) h
reached-test p (in-next {l} {ls} r) o =
    reached-test (λ n. p (suc n)) r (right (every (p 1) l) (levels_test (λ n. p (suc n)) ls) o)

-- ---- what it says

pub reached-unnamed : {t : List (List Kind)} {x : Code} → Reaches t x
    → x.production ≡ unnamed x.production.kind
unfolding at_level below unnamed
reached-unnamed (on_level v h) = refl
reached-unnamed (in-next r) = reached-unnamed r

raised-length : (n : ℕ) (vs : List ℕ) → length (raised_by n vs) ≡ length vs
unfolding raised_by
raised-length n [] = refl
raised-length n (v ∷ vs) = refl

module _ (n : ℕ) (ls : List Production) (x : Code) (wild : is_wildcard x.production.qname ≡ true)
  where
    -- In a start tag.
    tag-teaches : (k : Kind) → parts_test in_tag (length x.parts) (kind_number k) ≡ true
        → (number_of_ee ≤ kind_number k → kind_number k ≤ number_of_ch → has_kind k ls ≡ false)
        → teaches ls (after_learned n x) k ≡ teaches_in in_tag (kind_number k)
    unfolding teaches teaches_in parts_test after_learned kind_number
    tag-teaches SD t new = refl
    tag-teaches ED t new = refl
    tag-teaches SE t new = wild
    tag-teaches AT t new = wild
    tag-teaches EE t new = rw (raised-length n x.parts, t, new (omega arith) (omega arith))
    tag-teaches CH t new = rw (raised-length n x.parts, t, new (omega arith) (omega arith))
    tag-teaches CM t new = refl
    tag-teaches PI t new = refl

    -- In an element's content.
    element-teaches : (k : Kind) → parts_test in_element (length x.parts) (kind_number k) ≡ true
        → (number_of_ee ≤ kind_number k → kind_number k ≤ number_of_ch → has_kind k ls ≡ false)
        → teaches ls (after_learned n x) k ≡ teaches_in in_element (kind_number k)
    unfolding teaches teaches_in parts_test after_learned kind_number
    element-teaches SD t new = refl
    element-teaches ED t new = refl
    element-teaches SE t new = wild
    element-teaches AT t new = wild ∙ sym t
    element-teaches EE t new = rw (raised-length n x.parts, not-true (eqb (length x.parts) 2) t)
    element-teaches CH t new = rw (raised-length n x.parts, t, new (omega arith) (omega arith))
    element-teaches CM t new = refl
    element-teaches PI t new = refl

    -- In a fragment's content.
    fragment-teaches : (k : Kind) → parts_test in_fragment (length x.parts) (kind_number k) ≡ true
        → teaches ls (after_learned n x) k ≡ teaches_in in_fragment (kind_number k)
    unfolding teaches teaches_in parts_test after_learned kind_number
    fragment-teaches SD t = refl
    fragment-teaches ED t = refl
    fragment-teaches SE t = wild
    fragment-teaches AT t = wild ∙ sym t
    fragment-teaches EE t = rw (raised-length n x.parts, not-true (eqb (length x.parts) 2) t)
    fragment-teaches CH t = absurd (true≢false (sym t))
    fragment-teaches CM t = refl
    fragment-teaches PI t = refl

module _ (c i : Bool) {mode : ℕ} (l : in_fragment ≤ mode) (h : mode ≤ in_element) {x : Code} (k : Kind)
    (f : FixedCode (table_of c i mode) (kind_number k) x) where
  wild : is_wildcard x.production.qname ≡ true
  unfolding is_wildcard unnamed
  wild = rw (reached-unnamed f.reaches)

  parts-test : (m : ℕ) → mode ≡ m → levels_test (tested m) (table_of c i m) ≡ true
      → parts_test m (length x.parts) (kind_number k) ≡ true
  parts-test m e t =
      T-is _ (subst (λ j. T (parts_test m (length x.parts) j)) f.is
      (reached-test (tested m) (subst (λ j. Reaches (table_of c i j) x) e f.reaches) (is_t _ t)))

  -- Where CH and EE teach, none of their kind is learned.
  pub fixed-teaches : (n : ℕ) (ls : List Production)
      → (number_of_ee ≤ kind_number k → kind_number k ≤ number_of_ch → has_kind k ls ≡ false)
      → teaches ls (after_learned n x) k ≡ teaches_in mode (kind_number k)
  fixed-teaches n ls new =
      split (eqb mode in_tag)
      (λ t.
      let z : mode ≡ in_tag = eqb-true mode in_tag t in
      rw z (tag-teaches n ls x wild k (parts-test in_tag z (tag-tested c i)) new))
      (λ t. split (eqb mode in_element)
      (λ u.
      let z : mode ≡ in_element = eqb-true mode in_element u in
      rw z (element-teaches n ls x wild k (parts-test in_element z (element-tested c i)) new))
      (λ u.
      let z : mode ≡ in_fragment = omega (arith, eqb-false mode in_tag t, eqb-false mode in_element u) in
      rw z (fragment-teaches n ls x wild k (parts-test in_fragment z (fragment-tested c i)))))
