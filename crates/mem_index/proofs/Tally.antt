-- Laws of `tally`: how many of the first rows pass a test.
use Prim.Native.Nat.{ℕ, zero, suc, ◌≤◌, ◌<◌}
use native.Mathlib.Omega.{arith}
use mathlib.Core.Path.{◌≡◌, refl}
use mathlib.Core.Bool.{Bool, true, false}
use lib.Dec.{ltb}
use borrow.Author.Tests.{ltb-true, ltb-false}
use Rattle.mem_chain.proofs.Last.{split}
use Rattle.mem_index.specs.Index.{tally}

module _ (t : ℕ → Bool) where
  pub tally-zero : tally t 0 ≡ 0
  unfolding tally
  tally-zero = refl

  pub tally-here : (n : ℕ) → t n ≡ true → tally t (suc n) ≡ suc (tally t n)
  unfolding tally
  tally-here n e = rw e

  pub tally-on : (n : ℕ) → t n ≡ false → tally t (suc n) ≡ tally t n
  unfolding tally
  tally-on n e = rw e

  pub tally-most : (n : ℕ) → tally t n ≤ n
  tally-most zero = omega (arith, tally-zero)
  tally-most (suc n) =
      split (t n)
      (λ e. omega (arith, tally-here n e, tally-most n))
      (λ e. omega (arith, tally-on n e, tally-most n))

  -- A row that passes is counted behind it.
  pub tally-less : (n g : ℕ) → g < n → t g ≡ true → tally t g < tally t n
  tally-less zero g h e = absurd (omega arith)
  tally-less (suc n) g h e =
      split (ltb g n)
      (λ l.
      let m : tally t g < tally t n = tally-less n g (ltb-true g n l) e in
      split (t n) (λ u. omega (arith, tally-here n u)) (λ u. omega (arith, tally-on n u)))
      (λ l.
      let z : g ≡ n = omega (arith, ltb-false g n l) in
      rw z (omega (arith, tally-here n (rw (← z) e))))

  -- A number below the count is that of some row.
  pub tally-exists : (n i : ℕ) → i < tally t n → (g : ℕ) × (g < n) × (t g ≡ true) × (tally t g ≡ i)
  tally-exists zero i h = absurd (omega (arith, tally-zero))
  tally-exists (suc n) i h =
      split (ltb i (tally t n))
      (λ l.
      let (g, k, e, z) = tally-exists n i (ltb-true i (tally t n) l) in
      (g, omega arith, e, z))
      (λ l.
      split (t n)
      (λ e. (n, omega arith, e, omega (arith, ltb-false i (tally t n) l, tally-here n e)))
      (λ e. absurd (omega (arith, ltb-false i (tally t n) l, tally-on n e))))

pub tally-same : (t u : ℕ → Bool) (n : ℕ) → ((i : ℕ) → i < n → t i ≡ u i) → tally t n ≡ tally u n
unfolding tally
tally-same t u zero same = refl
tally-same t u (suc n) same =
    cc (same n (omega arith), tally-same t u n (λ i h. same i (omega arith)))

-- By the first row instead of the last.
module _ (t : ℕ → Bool) where
  pub tally-head-in : (n : ℕ) → t 0 ≡ true → tally t (suc n) ≡ suc (tally (λ i. t (suc i)) n)
  unfolding tally
  tally-head-in zero e = rw e
  tally-head-in (suc n) e = let r = tally-head-in n e in
      split (t (suc n)) (λ u. rw (u, r)) (λ u. rw (u, r))

  pub tally-head-out : (n : ℕ) → t 0 ≡ false → tally t (suc n) ≡ tally (λ i. t (suc i)) n
  unfolding tally
  tally-head-out zero e = rw e
  tally-head-out (suc n) e = let r = tally-head-out n e in
      split (t (suc n)) (λ u. rw (u, r)) (λ u. rw (u, r))
