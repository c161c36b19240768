-- Laws of `first_that`.
use Prim.Native.Nat.{ℕ, zero, suc, ◌≤◌, ◌<◌}
use native.Mathlib.Omega.{arith}
use mathlib.Core.Path.{◌≡◌, refl, sym, ◌∙◌}
use mathlib.Core.Bool.{Bool, true, false, ◌&&◌}
use lib.Dec.{eqb}
use borrow.Author.Tests.{eqb-true, eqb-false, eq-eqb, ne_eqb}
use Rattle.mem_chain.specs.Chain.{last_that, first_that}
use Rattle.mem_chain.proofs.Last.{split, last-here, last_on}

module _ (t : ℕ → Bool) where
  pub first-start : first_that t 0 ≡ 0
  unfolding first_that
  first-start = refl

  pub first-here : (n : ℕ) → first_that t n ≡ 0 → t n ≡ true → first_that t (suc n) ≡ suc n
  unfolding first_that
  first-here n z e = rw (z, e)

  pub first_on : (n : ℕ) → first_that t n ≡ 0 → t n ≡ false → first_that t (suc n) ≡ 0
  unfolding first_that
  first_on n z e = rw (z, e)

  pub first-kept : (n : ℕ) → (first_that t n ≡ 0 → ⊥) → first_that t (suc n) ≡ first_that t n
  unfolding first_that
  first-kept n z = rw (ne_eqb (first_that t n) 0 z)

  -- What is found among the first n is found among more.
  pub first-longer : (n k : ℕ) → n ≤ k → (first_that t n ≡ 0 → ⊥) → first_that t k ≡ first_that t n
  first-longer n zero h z = let e : n ≡ 0 = omega arith in rw e
  first-longer n (suc k) h z =
      split (eqb n (suc k))
      (λ e. rw (eqb-true n (suc k) e))
      (λ e.
      let r : first_that t k ≡ first_that t n =
      first-longer n k (omega (arith, eqb-false n (suc k) e)) z in
      first-kept k (λ y. z (sym r ∙ y)) ∙ r)

  pub first-most : (n : ℕ) → first_that t n ≤ n
  first-most zero = omega (arith, first-start)
  first-most (suc n) =
      split (eqb (first_that t n) 0)
      (λ e.
      let z : first_that t n ≡ 0 = eqb-true (first_that t n) 0 e in
      split (t n) (λ u. omega (arith, first-here n z u)) (λ u. omega (arith, first_on n z u)))
      (λ e. omega (arith, first-kept n (eqb-false (first_that t n) 0 e), first-most n))

  pub first-is : (n i : ℕ) → first_that t n ≡ suc i → t i ≡ true
  first-is zero i e = absurd (omega (arith, first-start))
  first-is (suc n) i e =
      split (eqb (first_that t n) 0)
      (λ y.
      let z : first_that t n ≡ 0 = eqb-true (first_that t n) 0 y in
      split (t n)
      (λ u. let s : n ≡ i = omega (arith, first-here n z u) in rw (← s) u)
      (λ u. absurd (omega (arith, first_on n z u))))
      (λ y. first-is n i (sym (first-kept n (eqb-false (first_that t n) 0 y)) ∙ e))

  pub first-none : (n i : ℕ) → first_that t n ≡ 0 → i < n → t i ≡ false
  first-none zero i z h = absurd (omega arith)
  first-none (suc n) i z h =
      let w : first_that t n ≡ 0 =
      split (eqb (first_that t n) 0) (λ y. eqb-true (first_that t n) 0 y)
      (λ y. sym (first-kept n (eqb-false (first_that t n) 0 y)) ∙ z) in
      split (eqb i n)
      (λ e.
      let s : i ≡ n = eqb-true i n e in
      split (t i) (λ u. absurd (omega (arith, first-here n w (rw (← s) u)))) (λ u. u))
      (λ e. first-none n i w (omega (arith, eqb-false i n e)))

  -- No earlier row passes the test.
  pub first-before : (n i j : ℕ) → first_that t n ≡ suc i → j < i → t j ≡ false
  first-before n i j e h =
      split (eqb (first_that t i) 0)
      (λ y. first-none i j (eqb-true (first_that t i) 0 y) h)
      (λ y.
      let ne : first_that t i ≡ 0 → ⊥ = eqb-false (first_that t i) 0 y in
      let m : first_that t n ≤ n = first-most n in
      absurd (omega (arith, first-longer i n (omega arith) ne, first-most i)))

  pub first_found : (n i : ℕ) → i < n → first_that t i ≡ 0 → t i ≡ true → first_that t n ≡ suc i
  first_found n i h z e =
      let s : first_that t (suc i) ≡ suc i = first-here i z e in
      first-longer (suc i) n (omega arith) (λ y. omega arith) ∙ s

  pub first-zero : (n : ℕ) → ((j : ℕ) → j < n → t j ≡ false) → first_that t n ≡ 0
  first-zero zero f = first-start
  first-zero (suc n) f = first_on n (first-zero n (λ j h. f j (omega arith))) (f n (omega arith))

  -- The newest of the rows that are first is the first.
  pub last-first : (n : ℕ) → last_that (λ i. t i && eqb (first_that t (suc i)) (suc i)) n
      ≡ first_that t n
  unfolding last_that
  last-first zero = sym first-start
  last-first (suc n) =
      let r : last_that (λ i. t i && eqb (first_that t (suc i)) (suc i)) n ≡ first_that t n =
      last-first n in
      split (eqb (first_that t n) 0)
      (λ y.
      let z : first_that t n ≡ 0 = eqb-true (first_that t n) 0 y in
      split (t n)
      (λ u.
      let s : first_that t (suc n) ≡ suc n = first-here n z u in
      last-here (λ i. t i && eqb (first_that t (suc i)) (suc i)) n
      (rw (u, s) (eq-eqb (suc n) (suc n) refl)) ∙ sym s)
      (λ u. last_on (λ i. t i && eqb (first_that t (suc i)) (suc i)) n (rw u) ∙ r ∙ z
      ∙ sym (first_on n z u)))
      (λ y.
      let k : first_that t (suc n) ≡ first_that t n = first-kept n (eqb-false (first_that t n) 0 y) in
      let b : eqb (first_that t (suc n)) (suc n) ≡ false =
      ne_eqb (first_that t (suc n)) (suc n) (λ w. omega (arith, first-most n)) in
      last_on (λ i. t i && eqb (first_that t (suc i)) (suc i)) n
      (and-false (t n) (eqb (first_that t (suc n)) (suc n)) b) ∙ r ∙ sym k)
    where
      and-false : (a b : Bool) → b ≡ false → (a && b) ≡ false
      and-false true b e = e
      and-false false b e = refl

pub first-same : (t u : ℕ → Bool) (n : ℕ) → ((i : ℕ) → i < n → t i ≡ u i)
    → first_that t n ≡ first_that u n
unfolding first_that
first-same t u zero same = refl
first-same t u (suc n) same =
    rw (first-same t u n (λ i h. same i (omega arith)), same n (omega arith))
