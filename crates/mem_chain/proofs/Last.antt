-- Laws of `last_that`, `since` and `below`.
use Prim.Native.Nat.{ℕ, zero, suc, ◌≤◌, ◌<◌}
use native.Mathlib.Omega.{arith}
use mathlib.Core.Path.{◌≡◌, refl, sym, ap, ◌∙◌}
use mathlib.Core.Bool.{Bool, true, false, true≢false}
use borrow.Author.Tests.{ltb-true, ltb-false, lt-ltb, le-ltb}
use lib.Dec.{ltb}
use Rattle.mem_chain.specs.Chain.{last_that, since, below}

pub split {ℓ} : {A : Type ℓ} (b : Bool) → (b ≡ true → A) → (b ≡ false → A) → A
split true f g = f refl
split false f g = g refl

module _ (t : ℕ → Bool) where
  pub last-here : (k : ℕ) → t k ≡ true → last_that t (suc k) ≡ suc k
  unfolding last_that
  last-here k e = rw e

  pub last_on : (k : ℕ) → t k ≡ false → last_that t (suc k) ≡ last_that t k
  unfolding last_that
  last_on k e = rw e

  pub last-most : (k : ℕ) → last_that t k ≤ k
  unfolding last_that
  last-most zero = omega arith
  last-most (suc k) =
      split (t k) (λ e. omega (arith, last-here k e)) (λ e. omega (arith, last_on k e, last-most k))

  -- What passes below k is below one more.
  pub last_more : (k : ℕ) → 0 < last_that t k → 0 < last_that t (suc k)
  last_more k h =
      split (t k) (λ e. omega (arith, last-here k e)) (λ e. omega (arith, last_on k e))

  pub last-is : (k i : ℕ) → last_that t k ≡ suc i → t i ≡ true
  unfolding last_that
  last-is zero i e = absurd (omega arith)
  last-is (suc k) i e =
      split (t k)
      (λ h. let z : k ≡ i = omega (arith, last-here k h, e) in rw (← z) h)
      (λ h. last-is k i (sym (last_on k h) ∙ e))

  -- No later row passes the test.
  pub last_none : (k i : ℕ) → last_that t k ≤ i → i < k → t i ≡ false
  unfolding last_that
  last_none zero i l h = absurd (omega arith)
  last_none (suc k) i l h =
      split (t k)
      (λ e. absurd (omega (arith, last-here k e)))
      (λ e.
      split (ltb i k)
      (λ f. last_none k i (omega (arith, last_on k e)) (ltb-true i k f))
      (λ f. let z : k ≡ i = omega (arith, ltb-false i k f) in rw (← z) e))

  -- The row that passes the test, where no later one does.
  pub last-only : (k i : ℕ) → i < k → t i ≡ true → ((j : ℕ) → i < j → j < k → t j ≡ false)
      → last_that t k ≡ suc i
  last-only zero i h e f = absurd (omega arith)
  last-only (suc k) i h e f =
      split (ltb i k)
      (λ l. let m : i < k = ltb-true i k l in last_on k (f k m (omega arith))
      ∙ last-only k i m e (λ j a b. f j a (omega arith)))
      (λ l. let z : i ≡ k = omega (arith, ltb-false i k l) in rw z (last-here k (rw (← z) e)))

  -- A test that none of the rows passes.
  pub last-zero : (k : ℕ) → ((j : ℕ) → j < k → t j ≡ false) → last_that t k ≡ 0
  unfolding last_that
  last-zero zero f = refl
  last-zero (suc k) f = last_on k (f k (omega arith)) ∙ last-zero k (λ j h. f j (omega arith))

pub last-same : (t u : ℕ → Bool) (k : ℕ) → ((i : ℕ) → i < k → t i ≡ u i)
    → last_that t k ≡ last_that u k
unfolding last_that
last-same t u zero same = refl
last-same t u (suc k) same =
    cc (same k (omega arith), last-same t u k (λ i h. same i (omega arith)))

-- A narrower test finds the same below the newest row of a wider one.
pub last-below : (t u : ℕ → Bool) (k : ℕ) → ((i : ℕ) → i < k → u i ≡ true → t i ≡ true)
    → last_that u (last_that t k) ≡ last_that u k
unfolding last_that
last-below t u zero wide = refl
last-below t u (suc k) wide =
    split (t k)
    (λ h. ap (last_that u) (last-here t k h))
    (λ h.
    let n : u k ≡ false =
    split (u k) (λ e. absurd (true≢false (sym (wide k (omega arith) e) ∙ h))) (λ e. e) in
    ap (last_that u) (last_on t k h) ∙ last-below t u k (λ i l. wide i (omega arith))
    ∙ sym (last_on u k n))

-- ---- the two bounds

module _ (low c : ℕ) where
  pub since-in : low < c → since low c ≡ c
  unfolding since
  since-in h = rw (lt-ltb low c h)

  pub since-out : c ≤ low → since low c ≡ 0
  unfolding since
  since-out h = rw (le-ltb low c h)

pub since-all : (c : ℕ) → since 0 c ≡ c
since-all c =
    split (ltb 0 c) (λ e. since-in 0 c (ltb-true 0 c e))
    (λ e. since-out 0 c (ltb-false 0 c e) ∙ (omega (arith, ltb-false 0 c e)))

module _ (top c : ℕ) where
  pub below_in : c < top → below top c ≡ c
  unfolding below
  below_in h = rw (lt-ltb c top h)

  pub below_out : top ≤ c → below top c ≡ 0
  unfolding below
  below_out h = rw (le-ltb c top h)

  pub below_less : 0 < top → below top c < top
  below_less h =
      split (ltb c top) (λ e. omega (arith, below_in (ltb-true c top e), ltb-true c top e))
      (λ e. omega (arith, below_out (ltb-false c top e)))
