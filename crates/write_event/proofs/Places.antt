-- An event whose kind has a place in the table of a state stands there.
use Prim.Native.Nat.{ℕ, zero, suc, ◌<◌}
use native.Mathlib.Omega.{arith}
use mathlib.Core.Path.{◌≡◌, refl, sym, ap, subst, ◌∙◌}
use mathlib.Core.Bool.{Bool}
use mathlib.Core.List.{List, [], ◌∷◌}
use lib.ListN.{length, get_or}
use Rattle.spec_exi.specs.Event.{Kind, SD}
use Rattle.spec_exi.specs.Grammar.{unnamed, kind_number, at_level, below}
use Rattle.grammar_codes.specs.declared.Place.{Place}
use Rattle.grammar_codes.specs.Table.{table_of, level_at, code_at, Stands, PlaceAt, max_levels}
use Rattle.grammar_codes.proofs.Table.{kind-stands}
use Rattle.grammar_codes.proofs.Places.{has-place}

code-kind : (t : List (List Kind)) (level v : ℕ) → level < length t
    → (code_at t level v).production.kind ≡ get_or (get_or t level []) v SD
unfolding code_at at_level below unnamed
code-kind [] level v h = absurd (omega arith)
code-kind (l ∷ ls) zero v h = refl
code-kind (l ∷ ls) (suc level) v h = code-kind ls level v (omega arith)

module _ {c i : Bool} {mode kind : ℕ} {p : Place} (at : PlaceAt c i mode kind p) (l : p.level < max_levels)
  where
    pub place-stands : Stands mode kind
    unfolding level_at
    place-stands =
        let h = has-place at l in
        subst (Stands mode)
        (ap kind_number (sym (code-kind (table_of c i mode) p.level p.value h.level))
        ∙ h.code.is)
        (kind-stands c i mode p.level p.value (at.low l))

pub some-level : {n : ℕ} → n < max_levels → n ≡ max_levels → ⊥
some-level l e = omega (arith, l, e)
