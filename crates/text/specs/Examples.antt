-- Worked examples of names (P6): both sides of each range, and of each rule over a text.
use Rattle.std.specs.Prelude.{ℕ, ◌≡◌, true, false, List, [], ◌∷◌, ◌++◌, map, replicate}
use Rattle.text.specs.Text.{text}
use Rattle.text.specs.Names.{is_name_start, is_name_char, is_ncname, is_xml, has_pair, ends_in}

-- The ends of the ranges of NameStartChar (XML 1.0, production 4).
unfoldable pub starts : List ℕ
starts =
    65 ∷ 90 ∷ 95 ∷ 97 ∷ 122 ∷ 0xC0 ∷ 0xD6 ∷ 0xD8 ∷ 0xF6 ∷ 0xF8 ∷ 0x2FF ∷ 0x370 ∷ 0x37D ∷ 0x37F
    ∷ 0x1FFF ∷ 0x200C ∷ 0x200D ∷ 0x2070 ∷ 0x218F ∷ 0x2C00 ∷ 0x2FEF ∷ 0x3001 ∷ 0xD7FF ∷ 0xF900
    ∷ 0xFDCF ∷ 0xFDF0 ∷ 0xFFFD ∷ 0x10000 ∷ 0xEFFFF ∷ []

-- Beside them, in no name; the colon, 58, too.
unfoldable pub beside_starts : List ℕ
beside_starts =
    58 ∷ 64 ∷ 91 ∷ 94 ∷ 96 ∷ 123 ∷ 0xBF ∷ 0xD7 ∷ 0xF7 ∷ 0x37E ∷ 0x2000 ∷ 0x200B ∷ 0x200E ∷ 0x206F
    ∷ 0x2190 ∷ 0x2BFF ∷ 0x2FF0 ∷ 0x3000 ∷ 0xD800 ∷ 0xF8FF ∷ 0xFDD0 ∷ 0xFDEF ∷ 0xFFFE ∷ 0xFFFF
    ∷ 0xF0000 ∷ []

-- The ends of what NameChar has besides (XML 1.0, production 4a).
unfoldable pub further : List ℕ
further = 45 ∷ 46 ∷ 48 ∷ 57 ∷ 0xB7 ∷ 0x300 ∷ 0x36F ∷ 0x203F ∷ 0x2040 ∷ []

-- Beside them.
unfoldable pub beside_further : List ℕ
beside_further = 44 ∷ 47 ∷ 0xB6 ∷ 0xB8 ∷ 0x203E ∷ 0x2041 ∷ []

-- What is a name, and what is none.
pub record NameExamples : Type 0 where
  pub first : map is_name_start starts ≡ replicate 29 true
  pub not_first : map is_name_start (beside_starts ++ further) ≡ replicate 34 false
  pub next : map is_name_char (starts ++ further) ≡ replicate 38 true
  pub not_next : map is_name_char (beside_starts ++ beside_further) ≡ replicate 31 false
  pub names : map is_ncname (text "a" ∷ text "_" ∷ text "a1-.·" ∷ []) ≡ replicate 3 true
  pub no_names : map is_ncname
      (text "" ∷ text "bas:" ∷ text ":a" ∷ text "1" ∷ text "-a" ∷ text "·" ∷ text "a b" ∷ [])
      ≡ replicate 7 false
  -- Just three letters, each in either case.
  pub xml : map is_xml (text "xml" ∷ text "Xml" ∷ text "xMl" ∷ text "xmL" ∷ text "XML" ∷ [])
      ≡ replicate 5 true
  pub no_xml : map is_xml
      (text "" ∷ text "xm" ∷ text "aml" ∷ text "xal" ∷ text "xma" ∷ text "xmlx" ∷ text "xml-" ∷ [])
      ≡ replicate 7 false
  -- Two hyphens, and `?>`.
  pub hyphens : map (has_pair 45 45) (text "--" ∷ text "--a" ∷ text "a--" ∷ []) ≡ replicate 3 true
  pub no_hyphens : map (has_pair 45 45) (text "" ∷ text "-" ∷ text "-a-" ∷ []) ≡ replicate 3 false
  pub end_marks : map (has_pair 63 62) (text "?>" ∷ text "??>" ∷ text "?>a" ∷ []) ≡ replicate 3 true
  pub no_end_marks : map (has_pair 63 62) (text ">?" ∷ text "?a>" ∷ text "??" ∷ []) ≡ replicate 3 false
  pub ends : map (ends_in 45) (text "-" ∷ text "a-" ∷ []) ≡ replicate 2 true
  pub no_ends : map (ends_in 45) (text "" ∷ text "-a" ∷ []) ≡ replicate 2 false
