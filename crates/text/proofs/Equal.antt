-- `eq_text` holds of equal texts and of no others.
use mathlib.Core.Path.{◌≡◌, refl}
use mathlib.Core.Bool.{Bool, true, false, ◌&&◌}
use mathlib.Core.List.{[], ◌∷◌}
use lib.Dec.{T, eqb, eqb→eq, eqb_refl}
use Rattle.text.specs.Text.{Text, eq_text}

both : (a b : Bool) → T a → T b → T (a && b)
both true b s t = t
both false b s t = absurd s

parts : (a b : Bool) → T (a && b) → T a × T b
parts true b t = (tt, t)
parts false b t = absurd t

-- A text is the same as itself.
pub eq_text-refl : (x : Text) → T (eq_text x x)
unfolding eq_text
eq_text-refl [] = tt
eq_text-refl (c ∷ x) = both (eqb c c) (eq_text x x) (eqb_refl c) (eq_text-refl x)

-- Texts that the test finds the same are equal.
pub eq_text-eq : (x y : Text) → T (eq_text x y) → x ≡ y
unfolding eq_text
eq_text-eq [] [] t = refl
eq_text-eq [] (d ∷ y) t = absurd t
eq_text-eq (c ∷ x) [] t = absurd t
eq_text-eq (c ∷ x) (d ∷ y) t =
    let (s, r) = parts (eqb c d) (eq_text x y) t in
    cc (eqb→eq c d s, eq_text-eq x y r)

fails : (b : Bool) → (T b → ⊥) → b ≡ false
fails true h = absurd (h tt)
fails false h = refl

-- Texts that it finds different are not.
pub eq_text-no : (x y : Text) → (x ≡ y → ⊥) → eq_text x y ≡ false
eq_text-no x y h = fails (eq_text x y) (λ t. h (eq_text-eq x y t))
