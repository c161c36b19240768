-- The bits of a code, part by part, by the counts of the table.
use Prim.Native.Nat.{ℕ, zero, suc, ◌+◌, ◌≤◌, ◌<◌}
use native.Mathlib.Omega.{arith}
use mathlib.Core.Path.{◌≡◌, refl, ap, ◌∙◌}
use mathlib.Core.Bool.{Bool, cond}
use mathlib.Core.List.{List, [], ◌∷◌, ◌++◌, map, append-nil}
use mathlib.Core.Option.{Option, none, some}
use lib.ListN.{length, get_or, drop, length-append, length-map}
use lib.Dec.{eqb}
use borrow.Author.Tests.{eqb-true, eqb-false}
use Rattle.spec_fields.specs.Field.{Alignment, choice_bits}
use Rattle.spec_fields.proofs.Tests.{split}
use Rattle.spec_exi.specs.Event.{Kind}
use Rattle.spec_exi.specs.Grammar.{Production, unnamed, all_empty, choices, at_level, below, code_bits}
use Rattle.event_code.specs.Numbers.{in_fragment, in_tag, in_element}
use Rattle.grammar_codes.specs.Table.{tables, table_of, level_at, no_kinds, values_of, values_at}
use Rattle.grammar_codes.specs.Table.{leveled, with_learned, code_at, raised_by, after_learned}
use Rattle.grammar_codes.specs.Table.{fixed_bits}

-- ---- how many values a part has

pub none_left : (ls : List (List Kind)) → all_empty (leveled ls) ≡ no_kinds ls
unfolding all_empty leveled no_kinds
none_left [] = refl
none_left ([] ∷ ls) = none_left ls
none_left ((k ∷ ks) ∷ ls) = refl

module _ (ps : List Production) (l : List Kind) (ls : List (List Kind)) where
  abbrev all : List Production
  all = ps ++ map unnamed l

  pub level-count : length (ps ++ map unnamed l) ≡ length ps + length l
  level-count = length-append ps (map unnamed l) ∙ ap (λ n. length ps + n) (length-map l unnamed)

  pub choices-count : length (choices (ps ++ map unnamed l) (leveled ls))
      ≡ length ps + values_of l ls
  unfolding choices
  choices-count =
      length-append (map some all) (cond (all_empty (leveled ls)) [] (none ∷ []))
      ∙ rw (length-map all (λ (p : Production). some p), level-count, none_left ls) last
    where
      last : length ps + length l
          + length (cond {A = List (Option Production)} (no_kinds ls) [] (none ∷ []))
          ≡ length ps + (length l + cond (no_kinds ls) 0 1)
      last = split (no_kinds ls) (λ t. rw t (omega arith)) (λ t. rw t (omega arith))

-- ---- a code of the table

from-level : (t : List (List Kind)) (j : ℕ) → j < length t
    → drop j t ≡ get_or t j [] ∷ drop (suc j) t
from-level [] j h = absurd (omega arith)
from-level (l ∷ t) zero h = refl
from-level (l ∷ t) (suc j) h = from-level t j (omega arith)

module _ (a : Alignment) where
  -- After the last part there is none.
  no-parts : (ls : List (List Production)) → code_bits a ls [] ≡ []
  unfolding code_bits
  no-parts [] = refl
  no-parts (l ∷ ls) = refl

  one-part : (ps : List Production) (l : List Kind) (ls : List (List Kind)) (v : ℕ)
      → code_bits a ((ps ++ map unnamed l) ∷ leveled ls) (v ∷ [])
      ≡ choice_bits a (length ps + values_of l ls) v
  unfolding code_bits
  one-part ps l ls v =
      rw (choices-count ps l ls, no-parts (leveled ls))
      (append-nil (choice_bits a (length ps + values_of l ls) v))

  lower-bits : (t : List (List Kind)) (level v : ℕ) → level < length t
      → code_bits a (leveled t) (code_at t level v).parts ≡ fixed_bits a t 0 level v
  unfolding code_bits leveled code_at fixed_bits at_level below
  lower-bits [] level v h = absurd (omega arith)
  lower-bits (l ∷ ls) zero v h =
      let z : v ≡ 0 + v = omega arith in
      one-part [] l ls v ∙ ap (choice_bits a (0 + values_of l ls)) z
  lower-bits (l ∷ ls) (suc level) v h =
      let z : length l ≡ 0 + length l = omega arith in
      rw (choices-count [] l ls, lower-bits ls level v (omega arith))
      (ap (λ n. choice_bits a (0 + values_of l ls) n ++ fixed_bits a ls 0 level v) z)

  pub code-bits : (ps : List Production) (t : List (List Kind)) (level v : ℕ) → level < length t
      → code_bits a (with_learned ps t) (after_learned (length ps) (code_at t level v)).parts
      ≡ fixed_bits a t (length ps) level v
  unfolding code_bits with_learned code_at after_learned raised_by fixed_bits at_level below
  code-bits ps [] level v h = absurd (omega arith)
  code-bits ps (l ∷ ls) zero v h = one-part ps l ls (length ps + v)
  code-bits ps (l ∷ ls) (suc level) v h =
      rw (choices-count ps l ls, lower-bits ls level v (omega arith))

  -- ---- by the counts of a state

  module _ (c i : Bool) (mode : ℕ) where
    module _ (j : ℕ) (h : j < length (table_of c i mode)) (n v : ℕ) where
      -- The last part.
      pub bits-here : fixed_bits a (drop j (table_of c i mode)) n 0 v
          ≡ choice_bits a (n + values_at c i mode j) (n + v)
      unfolding fixed_bits level_at
      bits-here = rw (from-level (table_of c i mode) j h)

      -- One that leads on.
      pub bits-on : (level : ℕ)
          → fixed_bits a (drop j (table_of c i mode)) n (suc level) v
          ≡ choice_bits a (n + values_at c i mode j) (n + length (level_at c i mode j))
          ++ fixed_bits a (drop (suc j) (table_of c i mode)) 0 level v
      unfolding fixed_bits level_at
      bits-on level = rw (from-level (table_of c i mode) j h)

    -- A learned production's.
    pub learned-bits : 0 < length (table_of c i mode) → (ps : List Production) (v : ℕ)
        → code_bits a (with_learned ps (table_of c i mode)) (v ∷ [])
        ≡ choice_bits a (length ps + values_at c i mode 0) v
    unfolding level_at with_learned
    learned-bits h ps v = go (table_of c i mode) h
      where
        go : (t : List (List Kind)) → 0 < length t
            → code_bits a (with_learned ps t) (v ∷ [])
            ≡ choice_bits a (length ps + values_of (get_or t 0 []) (drop 1 t)) v
        go [] z = absurd (omega arith)
        go (l ∷ ls) z = one-part ps l ls v

-- Where something is learned the table has levels.
pub learning-levels : (c i : Bool) {mode : ℕ} → in_fragment ≤ mode → mode ≤ in_element
    → 0 < length (table_of c i mode)
unfolding table_of tables
learning-levels c i {mode} l h =
    split (eqb mode in_tag)
    (λ t. let z : mode ≡ in_tag = eqb-true mode in_tag t in rw z (omega arith))
    (λ t. split (eqb mode in_element)
    (λ u. let z : mode ≡ in_element = eqb-true mode in_element u in rw z (omega arith))
    (λ u.
    let z : mode ≡ in_fragment = omega (arith, eqb-false mode in_tag t, eqb-false mode in_element u) in
    rw z (omega arith)))

-- A level that has a production is one of the table.
pub level-there : (c i : Bool) (mode level : ℕ) {v : ℕ} → v < length (level_at c i mode level)
    → level < length (table_of c i mode)
unfolding level_at
level-there c i mode level {v} h = go (table_of c i mode) level h
  where
    go : (t : List (List Kind)) (j : ℕ) → v < length (get_or t j []) → j < length t
    go [] j z = absurd (omega arith)
    go (l ∷ t) zero z = omega arith
    go (l ∷ t) (suc j) z = omega (arith, go t j z)
