-- How a code point is shown, where its match goes by a range.
use Prim.Native.Nat.{ℕ, ◌≤◌, ◌<◌}
use native.Mathlib.Omega.{arith}
use mathlib.Core.Path.{◌≡◌}
use borrow.Author.Tests.{le-leb, lt-leb, ne_eqb}
use Rattle.exi_text.specs.Shown.{shown_as}
use Rattle.exi_text.specs.declared.Shown.TheVariants.{Plain, Number}

module _ (p : ℕ) where
  pub plain : 32 ≤ p → p ≤ 126 → (p ≡ 34 → ⊥) → (p ≡ 92 → ⊥) → Plain p ≡ shown_as p
  unfolding shown_as
  plain low high a b = simp (le-leb 32 p low, le-leb p 126 high, ne_eqb p 34 a, ne_eqb p 92 b)

  pub control : p < 32 → (p ≡ 9 → ⊥) → (p ≡ 10 → ⊥) → (p ≡ 13 → ⊥) → Number ≡ shown_as p
  unfolding shown_as
  control h a b c = simp (lt-leb 32 p h, ne_eqb p 9 a, ne_eqb p 10 b, ne_eqb p 13 c)

  pub beyond : 126 < p → Number ≡ shown_as p
  unfolding shown_as
  beyond h =
      simp (
        lt-leb p 126 h,
        le-leb 32 p (omega arith),
        ne_eqb p 9 (λ e. omega arith),
        ne_eqb p 10 (λ e. omega arith),
        ne_eqb p 13 (λ e. omega arith),
      )
