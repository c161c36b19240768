-- A pair of code points in a text, the last one, and names that were judged as an element's.
use mathlib.Core.Path.{◌≡◌, refl}
use mathlib.Core.Bool.{Bool, true, false, not, ◌&&◌, ◌||◌}
use mathlib.Core.List.{[], ◌∷◌}
use Prim.Native.Nat.{ℕ, suc, ◌-◌, ◌≤◌, ◌<◌}
use native.Mathlib.Omega.{arith}
use lib.ListN.{length, get_or, take, drop}
use lib.Dec.{eqb}
use borrow.Author.Tests.{eq-eqb, ne_eqb}
use Rattle.text.specs.Text.{Text}
use Rattle.text.specs.Names.{is_ncname, has_pair, ends_in}
use Rattle.spec_exi.specs.Tables.{name_allowed, local}
use Rattle.name_rules.specs.Names.{is_reserved}

-- ---- comments and instructions' texts

-- A pair at the start, or behind its first code point.
module _ (a b : ℕ) where
  pub pair-first : (x : Text) → 2 ≤ length x
      → has_pair a b x ≡ ((eqb (get_or x 0 0) a && eqb (get_or x 1 0) b) || has_pair a b (drop 1 x))
  unfolding has_pair
  pair-first [] h = absurd (omega arith)
  pair-first (c ∷ []) h = absurd (omega arith)
  pair-first (c ∷ d ∷ x) h = refl

  pub pair-none : (x : Text) → length x < 2 → has_pair a b x ≡ false
  unfolding has_pair
  pair-none [] h = refl
  pair-none (c ∷ []) h = refl
  pair-none (c ∷ d ∷ x) h = absurd (omega arith)

first-of : (x : Text) → get_or (take 2 x) 0 0 ≡ get_or x 0 0
first-of [] = refl
first-of (c ∷ x) = refl

second-of : (x : Text) → get_or (take 2 x) 1 0 ≡ get_or x 1 0
second-of [] = refl
second-of (c ∷ []) = refl
second-of (c ∷ d ∷ x) = refl

right-fails : (p : Bool) {q : Bool} → q ≡ false → (p && q) ≡ false
right-fails true e = e
right-fails false e = refl

-- The pair is, or is not, in the first two of what is left; y is what is left then.
module _ (a b : ℕ) (x w : Text) {n : ℕ} (two : n ≡ 2) (long : n ≤ length x) (is : w ≡ take n x) where
  first : get_or w 0 0 ≡ get_or x 0 0
  first = rw (is, two) (first-of x)

  second : get_or w 1 0 ≡ get_or x 1 0
  second = rw (is, two) (second-of x)

  more : 2 ≤ length x
  more = omega arith

  pub pair-here : get_or w 0 0 ≡ a → get_or w 1 0 ≡ b → true ≡ has_pair a b x
  pair-here e f = rw (pair-first a b x more, ← first, ← second, eq-eqb _ _ e, eq-eqb _ _ f)

  module _ {y : Text} (left : y ≡ drop 1 x) where
    pub not-first : (get_or w 0 0 ≡ a → ⊥) → has_pair a b y ≡ has_pair a b x
    not-first e = rw (left, pair-first a b x more, ← first, ne_eqb _ _ e)

    pub not-second : (get_or w 1 0 ≡ b → ⊥) → has_pair a b y ≡ has_pair a b x
    not-second e =
        rw (left, pair-first a b x more, ← second, right-fails (eqb (get_or x 0 0) a) (ne_eqb _ _ e))

pub no_end : (a : ℕ) (x : Text) → length x ≡ 0 → false ≡ ends_in a x
unfolding ends_in
no_end a [] h = refl
no_end a (c ∷ x) h = absurd (omega arith)

pub last-is : (a : ℕ) (x : Text) → (length x ≡ 0 → ⊥) → eqb (get_or x (length x - 1) 0) a ≡ ends_in a x
unfolding ends_in
last-is a [] h = absurd (h refl)
last-is a (c ∷ []) h = refl
last-is a (c ∷ d ∷ x) h =
    let e : length (c ∷ d ∷ x) - 1 ≡ suc (length (d ∷ x) - 1) = omega arith in
    rw e (last-is a (d ∷ x) (λ z. omega arith))

-- ---- names that were judged as an element's

and_left : (a b : Bool) → (a && b) ≡ true → a ≡ true
and_left true b h = refl
and_left false b h = h

-- An element's name may be an attribute's, unless it is reserved.
pub attribute-allowed : (attr : Bool) (u x : Text) → name_allowed (local false u) x ≡ true
    → name_allowed (local attr u) x ≡ not (attr && is_reserved u x)
unfolding name_allowed is_reserved
attribute-allowed true u x h = rw (and_left (is_ncname x) true h)
attribute-allowed false u x h = h

-- A name that is allowed may be an element's.
pub element-allowed : (attr : Bool) (u x : Text) → name_allowed (local attr u) x ≡ true
    → name_allowed (local false u) x ≡ true
unfolding name_allowed
element-allowed attr u x h = rw (and_left (is_ncname x) _ h)
