-- The settings for values by their numbers: which values join, how many are replaced, and how many have
-- the first global numbers.
use Prim.Native.Nat.{ℕ, zero, suc, ◌-◌, ◌%◌, ◌<◌}
use native.Mathlib.Omega.{arith}
use mathlib.Core.Path.{◌≡◌, refl, sym, ap, ◌∙◌}
use mathlib.Core.Bool.{Bool, true, false, not, ◌&&◌, true≢false}
use mathlib.Core.List.{[], ◌∷◌}
use lib.ListN.{length}
use lib.Dec.{eqb, ltb}
use borrow.Author.Tests.{eqb-true, eqb-false, eq-eqb, ne_eqb, ltb-true, ltb-false, le-leb, lt-leb}
use Rattle.text.specs.Text.{Text, is_empty}
use Rattle.mem_chain.proofs.Last.{split}
use Rattle.spec_exi.specs.Settings.{bound_of}
use Rattle.spec_exi.specs.Tables.{Values, joins, replaced, is_zero, at_most}
use Rattle.mem_values.specs.Window.{joins_by, newest_in, Replaced, Newest}
use Rattle.mem_values.proofs.Order.{newest-few}

-- ---- which values join

zero-only : (capacity : ℕ) → (capacity ≡ 1 → ⊥) → is_zero (bound_of capacity) ≡ false
unfolding is_zero bound_of
zero-only zero h = refl
zero-only (suc c) h = ne_eqb c 0 (λ e. h (omega arith))

module _ (size longest capacity : ℕ) where
  pub empty-not : size ≡ 0 → false ≡ joins_by size longest capacity
  unfolding joins_by
  empty-not e = rw (eq-eqb size 0 e) (either (not (is_zero (bound_of capacity))))
    where
      either : (b : Bool) → false ≡ (b && false && at_most size (bound_of longest))
      either true = refl
      either false = refl

  pub closed-not : capacity ≡ 1 → false ≡ joins_by size longest capacity
  unfolding joins_by is_zero bound_of
  closed-not e = rw e refl

  joins-by : (size ≡ 0 → ⊥) → (capacity ≡ 1 → ⊥)
      → joins_by size longest capacity ≡ at_most size (bound_of longest)
  unfolding joins_by
  joins-by a b = rw (zero-only capacity b, ne_eqb size 0 a)

pub any-joins : (size longest capacity : ℕ) → (size ≡ 0 → ⊥) → (capacity ≡ 1 → ⊥) → longest ≡ 0
    → true ≡ joins_by size longest capacity
unfolding at_most bound_of
any-joins size longest capacity a b e = sym (joins-by size longest capacity a b ∙ rw e refl)

pub short-joins : (size longest capacity : ℕ) → (size ≡ 0 → ⊥) → (capacity ≡ 1 → ⊥)
    → (longest ≡ 0 → ⊥) → ltb size longest ≡ joins_by size longest capacity
unfolding at_most bound_of
short-joins size zero capacity a b c = absurd (c refl)
short-joins size (suc l) capacity a b c =
    split (ltb size (suc l))
    (λ t. t ∙ sym (joins-by size (suc l) capacity a b
    ∙ le-leb size l (omega (arith, ltb-true size (suc l) t))))
    (λ t. t ∙ sym (joins-by size (suc l) capacity a b
    ∙ lt-leb size l (omega (arith, ltb-false size (suc l) t))))

-- What joins has a code point.
pub joins-some : (size longest capacity : ℕ) → joins_by size longest capacity ≡ true → 0 < size
joins-some size longest capacity e =
    split (eqb size 0)
    (λ t. absurd (true≢false (sym (empty-not size longest capacity (eqb-true size 0 t) ∙ e))))
    (λ t. omega (arith, eqb-false size 0 t))

empty-is : (x : Text) → is_empty x ≡ eqb (length x) 0
unfolding is_empty
empty-is [] = refl
empty-is (p ∷ x) = sym (ne_eqb (suc (length x)) 0 (λ e. omega arith))

-- A text joins as its size does.
pub joins-is : (v : Values) (x : Text) (longest capacity : ℕ) → bound_of longest ≡ v.longest
    → bound_of capacity ≡ v.capacity → joins_by (length x) longest capacity ≡ joins v x
unfolding joins_by joins
joins-is v x longest capacity p q = rw (p, q, empty-is x)

-- ---- how many are replaced

pub replaced-none : (n capacity : ℕ) → capacity ≡ 0 → Replaced n capacity 0
unfolding replaced bound_of
replaced-none n capacity e = rw e (record { is = refl; within = omega arith })

replaced-by : (n capacity : ℕ) → (capacity ≡ 0 → ⊥)
    → replaced (bound_of capacity) n ≡ n - (capacity - 1)
unfolding replaced bound_of
replaced-by n zero h = absurd (h refl)
replaced-by n (suc c) h = omega arith

pub replaced-few-yet : (n capacity : ℕ) → (capacity ≡ 0 → ⊥) → n < capacity
    → Replaced n capacity 0
replaced-few-yet n capacity h l =
    record { is = omega (arith, replaced-by n capacity h); within = omega arith }

pub replaced-some : (n capacity : ℕ) → (capacity ≡ 0 → ⊥)
    → Replaced n capacity (n - (capacity - 1))
replaced-some n capacity h = record { is = sym (replaced-by n capacity h); within = omega arith }

-- ---- how many have the first global numbers

newest-within : {n capacity r : ℕ} → r ≡ newest_in (bound_of capacity) n → Newest n capacity r
newest-within {n} {capacity} e =
    record { is = e; within = omega (arith, e, newest-few (bound_of capacity) n) }

pub newest-all : (n capacity : ℕ) → capacity ≡ 0 → Newest n capacity n
unfolding newest_in bound_of
newest-all n capacity e = newest-within (rw e refl)

pub newest-none : (n capacity : ℕ) → capacity ≡ 1 → Newest n capacity 0
unfolding newest_in bound_of
newest-none n capacity e = newest-within (rw e refl)

newest-by : (n capacity : ℕ) → (capacity ≡ 0 → ⊥) → (capacity ≡ 1 → ⊥)
    → n % (capacity - 1) ≡ newest_in (bound_of capacity) n
unfolding newest_in bound_of
newest-by n zero a b = absurd (a refl)
newest-by n (suc zero) a b = absurd (b refl)
newest-by n (suc (suc c)) a b =
    let z : suc (suc c) - 1 ≡ suc c = omega arith in ap (λ k. n % k) z

pub newest-ring : (n capacity : ℕ) → (capacity ≡ 0 → ⊥) → (capacity ≡ 1 → ⊥)
    → Newest n capacity (n % (capacity - 1))
newest-ring n capacity a b = newest-within (newest-by n capacity a b)
