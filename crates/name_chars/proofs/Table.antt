-- The table of classes agrees with the ranges: the checker computes each entry, and one law reads any of them.
use Prim.Native.Nat.{ℕ, zero, suc, ◌+◌, ◌<◌}
use native.Mathlib.Omega.{arith}
use mathlib.Core.Path.{◌≡◌, refl, ap, ◌∙◌}
use mathlib.Core.Bool.{Bool, true, false, cond, not, ◌||◌}
use lib.ListN.{length, get_or}
use lib.Dec.{eqb}
use Rattle.text.specs.Names.{in_ranges, further_ranges, is_name_start, is_name_char}
use Rattle.name_chars.specs.Class.{first, further, no_name, class_of, classes, table}

classes-size : (k n : ℕ) → length (classes k n) ≡ n
unfolding classes
classes-size k zero = refl
classes-size k (suc n) = ap suc (classes-size (suc k) n)

pub table-size : length table ≡ 768
unfolding table
table-size = classes-size 0 768

entry-from : (n k i : ℕ) → i < n → get_or (classes k n) i 0 ≡ class_of (k + i)
unfolding classes
entry-from zero k i h = absurd (omega arith)
entry-from (suc n) k zero h = let e : k + 0 ≡ k = omega arith in rw e
entry-from (suc n) k (suc i) h =
    let e : k + suc i ≡ suc k + i = omega arith in
    rw e (entry-from n (suc k) i (omega arith))

pub entry : (p : ℕ) → p < 768 → get_or table p 0 ≡ class_of p
unfolding table
entry p h = let e : 0 + p ≡ p = omega arith in entry-from 768 0 p h ∙ ap class_of e

-- What the two tests read from a class.
first-is : (a b : Bool) → eqb (cond a first (cond b further no_name)) first ≡ a
first-is true b = refl
first-is false true = refl
first-is false false = refl

some_is : (a b : Bool) → not (eqb (cond a first (cond (a || b) further no_name)) no_name) ≡ (a || b)
some_is true b = refl
some_is false true = refl
some_is false false = refl

module _ (p c : ℕ) (is : c ≡ class_of p) where
  pub class-first : eqb c first ≡ is_name_start p
  unfolding class_of
  class-first = rw is (first-is (is_name_start p) (is_name_char p))

  pub class-some : not (eqb c no_name) ≡ is_name_char p
  unfolding class_of is_name_char
  class-some = rw is (some_is (is_name_start p) (in_ranges p further_ranges))
