-- What is left of a text at a position: how a name goes on there, stops and ends.
use mathlib.Core.Path.{◌≡◌, refl}
use mathlib.Core.Bool.{true, false, ◌&&◌}
use mathlib.Core.List.{[], ◌∷◌}
use Prim.Native.Nat.{ℕ, ◌+◌, ◌-◌, ◌≤◌, ◌<◌}
use native.Mathlib.Omega.{arith}
use native.Mathlib.Numerals.{add-one}
use lib.ListN.{length, get_or, take, drop, drop_of_length-le}
use lib.Seq.{drop-cons, take_all}
use Rattle.text.specs.Text.{Text}
use Rattle.text.specs.Names.{is_name_start, is_name_char, all_name_chars, is_ncname, is_letter, is_xml}

-- At the end, and at a code point that may stand in a name or not.
module _ (y : Text) (i : ℕ) where
  pub name-end : length y ≤ i → true ≡ all_name_chars (drop i y)
  unfolding all_name_chars
  name-end h = rw (drop_of_length-le y h)

  module _ (h : i < length y) where
    pub name-stop : is_name_char (get_or y i 0) ≡ false → false ≡ all_name_chars (drop i y)
    unfolding all_name_chars
    name-stop e = rw (drop-cons y i 0 h, e)

    pub name-on : is_name_char (get_or y i 0) ≡ true → all_name_chars (drop (i + 1) y) ≡ all_name_chars (drop i y)
    unfolding all_name_chars
    name-on e = rw (add-one, drop-cons y i 0 h, e)

-- The first code point of a name.
pub no_name : (x : Text) → length x ≡ 0 → false ≡ is_ncname x
unfolding is_ncname
no_name [] e = refl
no_name (p ∷ x) e = absurd (omega arith)

pub first-stop : (x : Text) → is_name_start (get_or x 0 0) ≡ false → false ≡ is_ncname x
unfolding is_ncname
first-stop [] e = refl
first-stop (p ∷ x) e = rw e

-- The others decide.
pub first_on : (x : Text) → 1 ≤ length x → is_name_start (get_or x 0 0) ≡ true
    → all_name_chars (take (length x - 1) (drop 1 x)) ≡ is_ncname x
unfolding is_ncname
first_on [] h e = absurd (omega arith)
first_on (p ∷ x) h e =
    let n : length (p ∷ x) - 1 ≡ length x = omega arith in
    rw (n, take_all (length x) x (omega arith), e)

-- The three letters of `xml`, one after the other.
pub other_length : (x : Text) → (length x ≡ 3 → ⊥) → false ≡ is_xml x
unfolding is_xml
other_length [] h = refl
other_length (a ∷ []) h = refl
other_length (a ∷ b ∷ []) h = refl
other_length (a ∷ b ∷ c ∷ []) h = absurd (h refl)
other_length (a ∷ b ∷ c ∷ d ∷ x) h = refl

pub xml-letters : (x : Text) → length x ≡ 3
    → is_xml x ≡ (is_letter 0x58 (get_or x 0 0) && is_letter 0x4D (get_or x 1 0) && is_letter 0x4C (get_or x 2 0))
unfolding is_xml
xml-letters [] h = absurd (omega arith)
xml-letters (a ∷ []) h = absurd (omega arith)
xml-letters (a ∷ b ∷ []) h = absurd (omega arith)
xml-letters (a ∷ b ∷ c ∷ []) h = refl
xml-letters (a ∷ b ∷ c ∷ d ∷ x) h = absurd (omega arith)
