-- How `all_chars` is decided; texts that are the same at both ends.
use mathlib.Core.Path.{◌≡◌, refl, sym, ap}
use mathlib.Core.Bool.{Bool, true, false, ◌&&◌}
use Prim.Native.Nat.{ℕ, zero, suc, ◌+◌, ◌-◌, ◌≤◌, ◌<◌}
use native.Mathlib.Omega.{arith}
use native.Mathlib.Decide.{dec_le}
use mathlib.Core.List.{[], ◌∷◌}
use lib.ListN.{length, get_or}
use lib.Seq.{ext_get_or}
use Rattle.std.specs.Prelude.{MatchBool}
use Rattle.std.specs.List.{AllWithin, HoldsAt}
use lib.Dec.{T}
use Rattle.text.proofs.Equal.{eq_text-refl, eq_text-no}
use Rattle.text.specs.Text.{Text, is_char, all_chars, eq_text}

and-no : (a : Bool) {b : Bool} → false ≡ b → false ≡ (a && b)
and-no true e = e
and-no false e = refl

-- No code point but Chars, or one that is none, decides a text.
pub chars-decide : (r : Bool) (x : Text)
    → MatchBool r (AllWithin (λ p. is_char p ≡ true) x 0 (length x))
    ((k : ℕ) × (k < length x) × HoldsAt (λ p. is_char p ≡ false) x k)
    → r ≡ all_chars x
unfolding all_chars
chars-decide true [] h = refl
chars-decide false [] (k, l, h) = absurd (omega arith)
chars-decide true (p ∷ x) h =
    rw (h 0 0 (omega arith) (omega arith))
    (chars-decide true x (λ k d l m. h (suc k) d (omega arith) (omega arith)))
chars-decide false (p ∷ x) (zero, l, h) = rw (h 0)
chars-decide false (p ∷ x) (suc k, l, h) = and-no (is_char p) (chars-decide false x (k, omega arith, h))

-- Texts of two lengths are not the same.
pub lengths_differ : (a b : Text) → (length a ≡ length b → ⊥) → false ≡ eq_text a b
lengths_differ a b h = sym (eq_text-no a b (λ e. h (ap length e)))

-- The first k and the last k code points are the same.
pub record SameEnds (a b : Text) (k : ℕ) : Type 0 where
  pub inside : k ≤ length a
  pub front : (i : ℕ) → i < k → get_or a i 0 ≡ get_or b i 0
  pub back : (i : ℕ) → length a ≤ i + k → i < length a → get_or a i 0 ≡ get_or b i 0

true-is : (b : Bool) → T b → true ≡ b
true-is true t = refl
true-is false t = absurd t

module _ (a b : Text) where
  -- At the start nothing has been compared.
  pub same_start : SameEnds a b 0
  same_start =
      record { inside = omega arith; front = λ i h. absurd (omega arith); back = λ i l h. absurd (omega arith) }

  -- A code point differs.
  pub same_stop : (i : ℕ) → (get_or a i 0 ≡ get_or b i 0 → ⊥) → false ≡ eq_text a b
  same_stop i e = sym (eq_text-no a b (λ z. e (ap (λ (x : Text). get_or x i 0) z)))

  -- One more at each end.
  pub same-on : (k : ℕ) → k < length a - k → SameEnds a b k → get_or a k 0 ≡ get_or b k 0
      → get_or a (length a - 1 - k) 0 ≡ get_or b (length a - 1 - k) 0 → SameEnds a b (k + 1)
  same-on k p s e f =
      record {
        inside = omega (arith, s.inside);
        front = λ i h.
            elim (dec_le k i) [
              | yes y ↦ let z : i ≡ k = omega arith in rw z e
              | no n ↦ s.front i (omega arith)
            ];
        back = λ i l h.
            elim (dec_le (length a) (i + k)) [
              | yes y ↦ s.back i y h
              | no n ↦ let z : i ≡ length a - 1 - k = omega arith in rw z f
            ];
      }

  -- The ends meet: the texts are the same.
  pub same_end : (k : ℕ) → length a - k ≤ k → length a ≡ length b → SameEnds a b k → true ≡ eq_text a b
  same_end k p len s =
      let each : (i : ℕ) → i < length a → get_or a i 0 ≡ get_or b i 0 =
      λ i h.
      elim (dec_le k i) [
        | yes y ↦ s.back i (omega arith) h
        | no n ↦ s.front i (omega arith)
      ]
      in
      let e : a ≡ b = ext_get_or 0 a b len each in
      rw e (true-is (eq_text b b) (eq_text-refl b))
