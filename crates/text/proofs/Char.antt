-- `is_char` by its tests: a number in the range of most texts, and one that passes no test.
use native.Mathlib.Decide.{dec_le}
use mathlib.Core.Path.{◌≡◌, refl, sym, subst}
use mathlib.Core.Bool.{Bool, true, false, ◌||◌, ◌&&◌}
use Prim.Native.Nat.{ℕ, ◌≤◌}
use native.Mathlib.Nat.{lt_of_not-le}
use native.Mathlib.Omega.{arith}
use lib.Dec.{leb, T}
use borrow.Author.Tests.{le-leb, ne_eqb, leb-true}
use Rattle.text.specs.Text.{is_char}

or-true : (b : Bool) → (b || true) ≡ true
or-true true = refl
or-true false = refl

and-false : (a b : Bool) → (a ≡ true → b ≡ true → ⊥) → (a && b) ≡ false
and-false true true h = absurd (h refl refl)
and-false true false h = refl
and-false false b h = refl

module _ (p : ℕ) where
  -- From the space up to the surrogates.
  pub low : 32 ≤ p → p ≤ 55295 → true ≡ is_char p
  unfolding is_char
  low g h = simp (or-true, le-leb 32 p g, le-leb p 55295 h)

  -- In none of the ranges.
  pub record None : Type 0 where
    pub not-tab : p ≡ 9 → ⊥
    pub not-feed : p ≡ 10 → ⊥
    pub not-return : p ≡ 13 → ⊥
    pub not_low : 32 ≤ p → p ≤ 55295 → ⊥
    pub not-middle : 57344 ≤ p → p ≤ 65533 → ⊥
    pub not-high : 65536 ≤ p → p ≤ 1114111 → ⊥

  out : (lo hi : ℕ) → (lo ≤ p → p ≤ hi → ⊥) → (leb lo p && leb p hi) ≡ false
  out lo hi h = and-false _ _ (λ g k. h (leb-true lo p g) (leb-true p hi k))

  -- Then it is no Char.
  pub none : None → false ≡ is_char p
  unfolding is_char
  none h =
      simp (
        ne_eqb p 9 h.not-tab,
        ne_eqb p 10 h.not-feed,
        ne_eqb p 13 h.not-return,
        out 32 55295 h.not_low,
        out 57344 65533 h.not-middle,
        out 65536 1114111 h.not-high,
      )

-- No Char is above U+10FFFF.
pub char-bound : (p : ℕ) → T (is_char p) → p ≤ 1114111
char-bound p t =
    elim (dec_le p 1114111) [
      | yes h ↦ h
      | no n ↦ let large = lt_of_not-le n in
          absurd (subst T (sym (none p (omega arith))) t)
    ]
