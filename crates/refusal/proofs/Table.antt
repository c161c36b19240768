-- The names' table, by computation.
use Prim.Native.Nat.{ℕ, zero, suc, ◌+◌, ◌≤◌, ◌<◌}
use native.Mathlib.Omega.{arith}
use mathlib.Core.Path.{◌≡◌, refl, ◌∙◌}
use mathlib.Core.Bool.{Bool, true, ◌&&◌}
use mathlib.Core.List.{List, [], ◌∷◌}
use lib.Dec.{T, ltb, ltb→lt}
use lib.ListN.{get_or, replicate}
use borrow.Author.Tests.{ne_eqb}
use Rattle.spec_fields.proofs.Tests.{left, right}
use Rattle.spec_fields.specs.Refusal.{Refusal, number_of, room, settings, long, header, ended, code, number, character}
use Rattle.spec_fields.specs.Refusal.{reference, loose, name, limit, tail, shape, place}
use Rattle.text.specs.Text.{Text, text}
use Rattle.refusal.specs.Names.{name_of, refusals, of_readings, names, name_among, padded, name_at}

-- Each refusal is found by its number.
pub name-found : (r : Refusal) → name_at (number_of r) ≡ padded (name_of r)
unfolding name_at name_among names name_of refusals number_of padded text
name-found room = refl
name-found settings = refl
name-found long = refl
name-found header = refl
name-found ended = refl
name-found code = refl
name-found number = refl
name-found character = refl
name-found reference = refl
name-found loose = refl
name-found name = refl
name-found limit = refl
name-found tail = refl
name-found shape = refl
name-found place = refl

-- The values of a function from i on.
abbrev values : (ℕ → List ℕ) → ℕ → ℕ → List (List ℕ)
values f i zero = []
values f i (suc n) = f i ∷ values f (suc i) n

value-at : (f : ℕ → List ℕ) (i n k : ℕ) → k < n → get_or (values f i n) k [] ≡ f (i + k)
value-at f i zero k h = let z : ⊥ = omega arith in absurd z
value-at f i (suc n) zero h = let e : i + 0 ≡ i = omega arith in rw e
value-at f i (suc n) (suc k) h =
    let e : i + suc k ≡ suc i + k = omega arith in rw e (value-at f (suc i) n k (omega arith))

pub in_table : (n : ℕ) → n < 20 → get_or (values name_at 0 20) n [] ≡ name_at n
in_table n h = let e : 0 + n ≡ n = omega arith in rw e at (value-at name_at 0 20 n h)

-- No number has a name from 20 on.
abbrev below : List (ℕ × Text) → Bool
below [] = true
below (x ∷ xs) = ltb x.0 20 && below xs

none-among : (xs : List (ℕ × Text)) → T (below xs) → (n : ℕ) → 20 ≤ n → name_among xs n ≡ []
unfolding name_among
none-among [] t n h = refl
none-among (x ∷ xs) t n h =
    let small : x.0 < 20 = ltb→lt x.0 20 (left (ltb x.0 20) (below xs) t) in
    rw (ne_eqb x.0 n (λ e. omega arith)) (none-among xs (right (ltb x.0 20) (below xs) t) n h)

pub none_above : (n : ℕ) → 20 ≤ n → name_at n ≡ replicate 16 0
unfolding name_at padded names refusals of_readings number_of
none_above n h = let e : name_among names n ≡ [] = none-among names tt n h in rw e
