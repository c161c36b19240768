-- Names (02, P6): NCName of Namespaces in XML 1.0, that is Name of XML 1.0, Fifth Edition, without
-- the colon; and what may not stand in a comment or an instruction's text.
use Rattle.std.specs.Prelude.{ℕ, ◌+◌, Bool, true, false, ◌&&◌, ◌||◌, List, [], ◌∷◌, eqb, leb}
use Rattle.text.specs.Text.{Text}

-- A range of code points, both ends in it.
unfoldable pub in_range : ℕ → ℕ × ℕ → Bool
in_range p r = leb r.0 p && leb p r.1

-- In one of these.
unfoldable pub in_ranges : ℕ → List (ℕ × ℕ) → Bool
in_ranges p [] = false
in_ranges p (r ∷ rs) = in_range p r || in_ranges p rs

-- NameStartChar without the colon (XML 1.0, production 4).
unfoldable pub start_ranges : List (ℕ × ℕ)
start_ranges =
    (0x41, 0x5A) ∷ (0x5F, 0x5F) ∷ (0x61, 0x7A) ∷ (0xC0, 0xD6) ∷ (0xD8, 0xF6) ∷ (0xF8, 0x2FF)
    ∷ (0x370, 0x37D) ∷ (0x37F, 0x1FFF) ∷ (0x200C, 0x200D) ∷ (0x2070, 0x218F) ∷ (0x2C00, 0x2FEF)
    ∷ (0x3001, 0xD7FF) ∷ (0xF900, 0xFDCF) ∷ (0xFDF0, 0xFFFD) ∷ (0x10000, 0xEFFFF) ∷ []

-- What NameChar has besides (XML 1.0, production 4a): - . 0-9, the middle dot, combining marks,
-- ties.
unfoldable pub further_ranges : List (ℕ × ℕ)
further_ranges = (0x2D, 0x2E) ∷ (0x30, 0x39) ∷ (0xB7, 0xB7) ∷ (0x300, 0x36F) ∷ (0x203F, 0x2040) ∷ []

-- May stand first in a name.
unfoldable pub is_name_start : ℕ → Bool
is_name_start p = in_ranges p start_ranges

-- May stand in a name.
unfoldable pub is_name_char : ℕ → Bool
is_name_char p = is_name_start p || in_ranges p further_ranges

-- Each may stand in a name.
unfoldable pub all_name_chars : Text → Bool
all_name_chars [] = true
all_name_chars (p ∷ ps) = is_name_char p && all_name_chars ps

-- An NCName (Namespaces in XML 1.0, production 4); the empty text is none.
unfoldable pub is_ncname : Text → Bool
is_ncname [] = false
is_ncname (p ∷ ps) = is_name_start p && all_name_chars ps

-- This capital letter of ASCII, or its small one.
unfoldable pub is_letter : ℕ → ℕ → Bool
is_letter c p = eqb p c || eqb p (c + 32)

-- The three letters x m l, each in either case (XML 1.0, production 17).
unfoldable pub is_xml : Text → Bool
is_xml [] = false
is_xml (a ∷ []) = false
is_xml (a ∷ b ∷ []) = false
is_xml (a ∷ b ∷ c ∷ []) = is_letter 0x58 a && is_letter 0x4D b && is_letter 0x4C c
is_xml (a ∷ b ∷ c ∷ d ∷ x) = false

-- These two code points stand one after the other.
unfoldable pub has_pair : ℕ → ℕ → Text → Bool
has_pair a b [] = false
has_pair a b (x ∷ []) = false
has_pair a b (x ∷ y ∷ ys) = (eqb x a && eqb y b) || has_pair a b (y ∷ ys)

-- The last code point is this one.
unfoldable pub ends_in : ℕ → Text → Bool
ends_in a [] = false
ends_in a (x ∷ []) = eqb x a
ends_in a (x ∷ y ∷ ys) = ends_in a (y ∷ ys)
