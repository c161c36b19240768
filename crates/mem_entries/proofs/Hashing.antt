-- Hashing a text, code point by code point.
use Prim.Native.Nat.{ℕ, suc, ◌+◌, ◌≤◌, ◌<◌}
use native.Mathlib.Omega.{arith}
use native.Mathlib.Numerals.{add-one}
use mathlib.Core.Path.{◌≡◌, refl, sym, ◌∙◌}
use mathlib.Core.Bool.{Bool, true, ◌&&◌, and_assoc, and-true}
use mathlib.Core.List.{[], ◌∷◌, ◌++◌}
use lib.ListN.{length, get_or, drop, drop_of_length-le}
use lib.Seq.{drop-cons}
use Rattle.text.specs.Text.{Text, is_char, all_chars}
use Rattle.mem_entries.specs.Texts.{mixed, hash_from, hash_of}

-- ---- one code point more

module _ (c : ℕ) where
  from_more : (h : ℕ) (x : Text) → hash_from h (x ++ c ∷ []) ≡ mixed (hash_from h x) c
  unfolding hash_from
  from_more h [] = refl
  from_more h (b ∷ x) = from_more (mixed h b) x

  pub hash-more : (x : Text) → hash_of (x ++ c ∷ []) ≡ mixed (hash_of x) c
  unfolding hash_of
  hash-more x = from_more 0 x

mixed-low : (h c : ℕ) → mixed h c < 4294967296
unfolding mixed
mixed-low h c = omega arith

from_low : (h : ℕ) (x : Text) → h < 4294967296 → hash_from h x < 4294967296
unfolding hash_from
from_low h [] l = l
from_low h (c ∷ x) l = from_low (mixed h c) x (mixed-low h c)

pub hash-low : (x : Text) → hash_of x < 4294967296
unfolding hash_of
hash-low x = from_low 0 x (omega arith)

-- ---- from the first code point on

pub record Hashing (x : Text) (h i : ℕ) : Type 0 where
  pub low : h < 4294967296
  pub rest : hash_from h (drop i x) ≡ hash_of x

module _ (x : Text) where
  pub hash-start : Hashing x 0 0
  unfolding hash_of
  hash-start = record { low = omega arith; rest = refl }

  pub hash-on : (h i : ℕ) → Hashing x h i → i < length x → (k : ℕ) → k ≡ mixed h (get_or x i 0)
      → Hashing x k (i + 1)
  unfolding hash_from
  hash-on h i s l k e =
      let r : hash_from h (get_or x i 0 ∷ drop (suc i) x) ≡ hash_of x =
      rw (drop-cons x i 0 l) at s.rest in
      record { low = omega (arith, mixed-low h (get_or x i 0)); rest = rw (e, add-one) r }

  pub hash-end : (h i : ℕ) → Hashing x h i → length x ≤ i → h ≡ hash_of x
  unfolding hash_from
  hash-end h i s l = rw (drop_of_length-le x l) at s.rest

-- ---- the same, and whether each code point is a Char

pub record Weighing (x : Text) (h : ℕ) (chars : Bool) (i : ℕ) : Type 0 where
  pub hashing : Hashing x h i
  pub rest : chars && all_chars (drop i x) ≡ all_chars x

module _ (x : Text) where
  pub weigh-start : Weighing x 0 true 0
  weigh-start = record { hashing = hash-start x; rest = refl }

  pub weigh-on : {h i : ℕ} {chars : Bool} → Weighing x h chars i → i < length x → {k : ℕ}
      → k ≡ mixed h (get_or x i 0) → {d : Bool} → d ≡ is_char (get_or x i 0)
      → Weighing x k (chars && d) (i + 1)
  unfolding all_chars
  weigh-on {h} {i} {chars} s l {k} e {d} f =
      let r : chars && all_chars (get_or x i 0 ∷ drop (suc i) x) ≡ all_chars x =
      rw (drop-cons x i 0 l) at s.rest in
      record {
        hashing = hash-on x h i s.hashing l k e;
        rest =
            rw (f, add-one)
            (and_assoc chars (is_char (get_or x i 0)) (all_chars (drop (suc i) x)) ∙ r);
      }

  pub weigh-end : {h i : ℕ} {chars : Bool} → Weighing x h chars i → length x ≤ i
      → (h ≡ hash_of x) × (chars ≡ all_chars x)
  unfolding all_chars
  weigh-end {h} {i} {chars} s l =
      let r : chars && true ≡ all_chars x = rw (drop_of_length-le x l) at s.rest in
      (hash-end x h i s.hashing l, sym (and-true chars) ∙ r)
