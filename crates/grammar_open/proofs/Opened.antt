-- The open elements in the array.
use Prim.Native.Nat.{ℕ, zero, suc, ◌+◌, ◌-◌, ◌%◌, ◌≤◌, ◌<◌}
use native.Mathlib.Omega.{arith}
use native.Mathlib.Nat.{ne_of_lt, le_refl}
use native.Mathlib.Numerals.{add-one}
use mathlib.Core.Path.{◌≡◌, refl, sym, ◌∙◌}
use mathlib.Core.List.{List, ◌∷◌}
use lib.ListN.{length, set, get_or}
use lib.Seq.{get_or-set_same, get_or-set_other}
use Rattle.mem_layout.specs.Layout.{name_rows}
use Rattle.grammar_open.specs.Opened.{last_first, innermost_in}

-- A row written behind the first n leaves them.
last_set : (n at v : ℕ) (l : List ℕ) → n ≤ at → last_first n (set l at v) ≡ last_first n l
unfolding last_first
last_set zero at v l h = refl
last_set (suc n) at v l h =
    rw (get_or-set_other l at n v 0 (ne_of_lt h), last_set n at v l (omega arith))

-- An element begins.
pub last-pushed : (n v : ℕ) (l : List ℕ) → n < length l
    → last_first (n + 1) (set l n v) ≡ v ∷ last_first n l
unfolding last_first
last-pushed n v l h =
    rw (add-one, get_or-set_same l n v 0 h, last_set n n v l (le_refl n))

-- The innermost ends.
pub last_popped : (n m : ℕ) (l : List ℕ) (x : ℕ) (outer : List ℕ) → m + 1 ≡ n
    → last_first n l ≡ x ∷ outer → last_first m l ≡ outer
unfolding last_first
last_popped n m l x outer e h = go (rw (← e, add-one) at h)
  where
    go : last_first (suc m) l ≡ x ∷ outer → last_first m l ≡ outer
    go f = cc

-- The first is the innermost.
pub last-top : (n : ℕ) (l : List ℕ) → 0 < n → get_or (last_first n l) 0 0 ≡ get_or l (n - 1) 0
unfolding last_first
last-top zero l h = absurd (omega arith)
last-top (suc n) l h = let e : suc n - 1 ≡ n = omega arith in rw e

-- ---- the row that is loaded

pub innermost-none : (l : List ℕ) (n : ℕ) → n ≡ 0 → 0 ≡ innermost_in l n
unfolding innermost_in
innermost-none l n e = rw e

pub innermost-some : (l : List ℕ) (n : ℕ) → (n ≡ 0 → ⊥)
    → get_or l (n - 1) 0 % name_rows ≡ innermost_in l n
unfolding innermost_in
innermost-some l zero h = absurd (h refl)
innermost-some l (suc n) h = let e : suc n - 1 ≡ n = omega arith in rw e

pub innermost-small : (l : List ℕ) (n : ℕ) → innermost_in l n < name_rows
unfolding innermost_in
innermost-small l zero = omega arith
innermost-small l (suc n) = omega arith

pub innermost-is : (l : List ℕ) (n : ℕ) → 0 < n → get_or l (n - 1) 0 < name_rows
    → innermost_in l n ≡ get_or l (n - 1) 0
innermost-is l n some low =
    sym (innermost-some l n (λ e. omega arith))
    ∙ (let e : get_or l (n - 1) 0 % name_rows ≡ get_or l (n - 1) 0 = omega arith in e)
