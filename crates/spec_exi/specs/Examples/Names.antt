-- Names are names (P6): local names and targets that are NAME, comments and instructions' texts
-- that are CHARACTER. Lists that end after what is no fault are SHAPE at their length.
use Rattle.std.specs.Prelude.{◌∷◌, ◌++◌}
use Rattle.spec_exi.specs.Lists.{every}
use Rattle.spec_exi.specs.Examples
use Examples.{ℕ, String, List, [], some, T, replicate, Refusal, ended, character, name}
use Examples.{limit, shape, Answer, refused, Span, Text, text, Event, start_element, attribute}
use Examples.{comment, instruction, Settings, Sizes, name_allowed, initial_entries, Example, numbers}
use Examples.{in_octets, example, two_lines, begin, begin_in, attr, chars, remark, instruct, end}
use Examples.{whole, Places.at, Places.named, Bounds.only, Written.WriteExample, Written.listed}
use Examples.{Written.listed_in}

-- No initial entry is refused (EXI D.1, D.3), so that a hit can only be NAME as an attribute's: nil
-- and type of XMLSchema-instance.
abbrev pub InitialNames : Type 0
InitialNames = (s : Settings) → T (every (λ x. name_allowed x.0 x.1) (initial_entries s))

-- ---- streams

-- Comments alone, or instructions, are kept, byte-aligned; these octets come after the code of the
-- first.
unfoldable pub after_comment : String → Answer (List (Event Text)) → Example
after_comment x a = two_lines (numbers (1 ∷ 0 ∷ 1 ∷ [])) "80 01" x a

unfoldable pub after_instruction : String → Answer (List (Event Text)) → Example
after_instruction x a = two_lines (numbers (1 ∷ 0 ∷ 0 ∷ 1 ∷ [])) "80 01" x a

-- This event, then <a/>.
unfoldable pub before : Event Text → Answer (List (Event Text))
before e = whole (e ∷ begin "a" ∷ end ∷ [])

-- Local names.
unfoldable pub names_read : List Example
names_read =
    -- bas: has a colon. A colon, and a code point that is no Char: CHARACTER.
    example in_octets "80 01 05 62 61 73 3A" (refused name 1)
    ∷ example in_octets "80 01 03 3A 00" (refused character 1)
    -- A digit, a hyphen and the middle dot: not first, but further on.
    ∷ example in_octets "80 01 02 31" (refused name 1)
    ∷ example in_octets "80 01 03 2D 61" (refused name 1)
    ∷ example in_octets "80 01 02 B7 01" (refused name 1)
    ∷ example in_octets "80 01 05 61 31 2D B7 01 00" (whole (begin "a1-·" ∷ end ∷ []))
    -- U+EFFFF, U+F0000.
    ∷ example in_octets "80 01 02 FF FF 3B 00" (whole (begin "\u{effff}" ∷ end ∷ []))
    ∷ example in_octets "80 01 02 80 80 3C" (refused name 1)
    -- <xml/>, <a xmlns="x"/>. An attribute's name, too, has no colon: NAME before its value.
    ∷ example in_octets "80 01 04 78 6D 6C 00" (whole (begin "xml" ∷ end ∷ []))
    ∷ example in_octets "80 01 02 61 01 01 06 78 6D 6C 6E 73 03 78 01 00"
    (whole (begin "a" ∷ attr "xmlns" "x" ∷ end ∷ []))
    ∷ example in_octets "80 01 02 61 01 01 02 3A" (refused name 2)
    -- Hyphens end a name, a URI, characters; and ?> does: <a-->, {-}a, <a>--</a>, <a>?></a>.
    ∷ example in_octets "80 01 04 61 2D 2D 00" (whole (begin "a--" ∷ end ∷ []))
    ∷ example in_octets "80 00 01 2D 02 61 00" (whole (begin_in "-" "a" ∷ end ∷ []))
    ∷ example in_octets "80 01 02 61 03 04 2D 2D 00" (whole (begin "a" ∷ chars "--" ∷ end ∷ []))
    ∷ example in_octets "80 01 02 61 03 04 3F 3E 00" (whole (begin "a" ∷ chars "?>" ∷ end ∷ [])) ∷ []

-- Comments, targets and instructions' texts.
unfoldable pub texts_read : List Example
texts_read =
    -- Two hyphens of a comment of three code points: ENDED, and CHARACTER for the third.
    after_comment "03 2D 2D" (refused ended 1)
    ∷ after_comment "03 2D 2D 00" (refused character 1)
    -- Two hyphens alone, at the end, and before another; one alone, and at the end: CHARACTER.
    ∷ after_comment "02 2D 2D" (refused character 1)
    ∷ after_comment "03 61 2D 2D" (refused character 1)
    ∷ after_comment "03 2D 2D 61" (refused character 1)
    ∷ after_comment "01 2D" (refused character 1)
    ∷ after_comment "02 61 2D" (refused character 1)
    -- <!---a-->, <!--?>-->.
    ∷ after_comment "02 2D 61 00 01 02 61 00 00" (before (remark "-a"))
    ∷ after_comment "02 3F 3E 00 01 02 61 00 00" (before (remark "?>"))
    -- Targets xml, XmL and a colon: NAME before their text.
    ∷ after_instruction "03 78 6D 6C" (refused name 1)
    ∷ after_instruction "03 58 6D 4C" (refused name 1)
    ∷ after_instruction "01 3A" (refused name 1)
    -- <?xmlx ?>, <?xml- ?>.
    ∷ after_instruction "04 78 6D 6C 78 00 00 01 02 61 00 00" (before (instruct "xmlx" ""))
    ∷ after_instruction "04 78 6D 6C 2D 00 00 01 02 61 00 00" (before (instruct "xml-" ""))
    -- A text of ?>, alone and at the end: CHARACTER. <?t ??>, <?t --?>.
    ∷ after_instruction "01 74 02 3F 3E" (refused character 1)
    ∷ after_instruction "01 74 03 61 3F 3E" (refused character 1)
    ∷ after_instruction "01 74 01 3F 00 01 02 61 00 00" (before (instruct "t" "?"))
    ∷ after_instruction "01 74 02 2D 2D 00 01 02 61 00 00" (before (instruct "t" "--")) ∷ []

-- ---- lists

-- An element of this name.
unfoldable pub element : Text → ℕ → Refusal → ℕ → WriteExample
element x n k i = listed (some (start_element (named 0 n)) ∷ []) x (refused k i)

-- This event alone, comments and instructions kept.
unfoldable pub keeping : Event Span → Text → Refusal → ℕ → WriteExample
keeping e x k i = listed_in (numbers (1 ∷ 0 ∷ 1 ∷ 1 ∷ [])) (some e ∷ []) x (refused k i)

-- The same refusals, with their indexes.
unfoldable pub names_written : List WriteExample
names_written =
    element (text "bas:") 4 name 1
    ∷ element (58 ∷ 0 ∷ []) 2 character 1
    ∷ element (text "1") 1 name 1
    ∷ element (0xB7 ∷ []) 1 name 1
    ∷ element (text "a1-·") 4 shape 2
    ∷ element (0xEFFFF ∷ []) 1 shape 2
    ∷ element (0xF0000 ∷ []) 1 name 1
    ∷ element (text "xml") 3 shape 2
    -- <a xmlns="a", <a :="a"
    ∷ listed (some (start_element (named 0 1)) ∷ some (attribute (named 1 5) (at 0 1)) ∷ [])
    (text "axmlns") (refused shape 3)
    ∷ listed (some (start_element (named 0 1)) ∷ some (attribute (named 1 1) (at 0 1)) ∷ [])
    (text "a:") (refused name 2)
    -- comments: 4,097 hyphens are LIMIT
    ∷ keeping (comment (at 0 4097)) (replicate 4097 45) limit 1
    ∷ keeping (comment (at 0 2)) (text "--") character 1
    ∷ keeping (comment (at 0 3)) (text "--a") character 1
    ∷ keeping (comment (at 0 1)) (text "-") character 1
    ∷ keeping (comment (at 0 2)) (text "a-") character 1
    ∷ keeping (comment (at 0 2)) (text "-a") shape 2
    ∷ keeping (comment (at 0 2)) (text "?>") shape 2
    -- instructions: NAME for the target, before its text is judged
    ∷ keeping (instruction (at 0 3) (at 3 1)) (text "xml" ++ (0 ∷ [])) name 1
    ∷ keeping (instruction (at 0 3) (at 3 2)) (text "XmL?>") name 1
    ∷ keeping (instruction (at 0 4) (at 0 0)) (text "xmlx") shape 2
    ∷ keeping (instruction (at 0 4) (at 0 0)) (text "xml-") shape 2
    ∷ keeping (instruction (at 0 1) (at 1 2)) (text "t?>") character 1
    ∷ keeping (instruction (at 0 1) (at 1 1)) (text "t?") shape 2
    ∷ keeping (instruction (at 0 1) (at 1 2)) (text "t--") shape 2 ∷ []

-- Under small sizes: the store's limit, before CHARACTER for a hyphen.
unfoldable pub names_in_order : List (Sizes × WriteExample)
names_in_order = (only 9 99, keeping (comment (at 0 1)) (text "-") limit 1) ∷ []
