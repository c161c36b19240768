-- Fragments (EXI 8.4.2; P1): streams and lists.
use Rattle.std.specs.Prelude.{◌∷◌}
use Rattle.spec_exi.specs.Examples
use Examples.{ℕ, List, [], some, ended, code, loose, tail, shape, Answer, refused, accepted}
use Examples.{Text, text, end_document, end_element, start_element, attribute, characters}
use Examples.{SettingNumbers, Stored, Example, numbers, octets, example, begin, remark, instruct}
use Examples.{end, whole, Places.at, Places.named, Written.WriteExample, Written.listed}
use Examples.{Written.listed_in}

-- A fragment, byte-aligned.
unfoldable pub in_pieces : SettingNumbers
in_pieces = numbers (1 ∷ 0 ∷ 0 ∷ 0 ∷ 1 ∷ [])

-- Streams.
unfoldable pub fragments_read : List Example
fragments_read =
    -- No element: ED is 1 of 2.
    example in_pieces "80 01" (whole [])
    ∷ example (numbers (0 ∷ 0 ∷ 0 ∷ 0 ∷ 1 ∷ [])) "80 80" (whole [])
    -- <a/>. ED is 2 of 3, behind SE(a) and SE(*).
    ∷ example in_pieces "80 00 01 02 61 00 02" (whole (begin "a" ∷ end ∷ []))
    ∷ example (numbers (0 ∷ 0 ∷ 0 ∷ 0 ∷ 1 ∷ [])) "80 20 4C 24" (whole (begin "a" ∷ end ∷ []))
    -- A comment alone: 2.0, its last part the one of its level. Both kept: 2.0 and 2.1.
    ∷ example (numbers (1 ∷ 0 ∷ 1 ∷ 0 ∷ 1 ∷ [])) "80 02 01 63 01" (whole (remark "c" ∷ []))
    ∷ example (numbers (1 ∷ 0 ∷ 1 ∷ 1 ∷ 1 ∷ [])) "80 02 00 01 63 02 01 01 70 01 31 01"
    (whole (remark "c" ∷ instruct "p" "1" ∷ []))
    -- <a/><b/><a/>. SE(a) is 1, behind SE(b).
    ∷ example in_pieces "80 00 01 02 61 00 01 01 02 62 00 01 00 03"
    (whole (begin "a" ∷ end ∷ begin "b" ∷ end ∷ begin "a" ∷ end ∷ []))
    -- <a><b/></a><b/>. The content of a has learned SE(b), that of the fragment SE(a) alone.
    ∷ example in_pieces "80 00 01 02 61 02 01 02 62 00 00 01 01 00 01 00 03"
    (whole (begin "a" ∷ begin "b" ∷ end ∷ end ∷ begin "b" ∷ end ∷ []))
    -- <a/><a by SE(*): LOOSE.
    ∷ example in_pieces "80 00 01 02 61 00 01 01 00" (refused loose 3)
    -- Nothing is complete by itself.
    ∷ example in_pieces "80" (refused ended 1)
    ∷ example in_pieces "80 02" (refused code 1)
    ∷ example in_pieces "80 01 00" (refused tail 2) ∷ []

-- Events after a start document, byte-aligned.
unfoldable pub pieced : List Stored → Text → Answer (List ℕ) → WriteExample
pieced = listed_in in_pieces

-- Lists.
unfoldable pub fragments_written : List WriteExample
fragments_written =
    -- No element, and <a/>.
    pieced (some end_document ∷ []) [] (accepted (octets "80 01"))
    ∷ pieced (some (start_element (named 0 1)) ∷ some end_element ∷ some end_document ∷ []) (text "a")
    (accepted (octets "80 00 01 02 61 00 02"))
    -- Characters, attributes and end elements outside an element: SHAPE.
    ∷ pieced (some (characters (at 0 1)) ∷ some end_document ∷ []) (text "x") (refused shape 1)
    ∷ pieced (some (attribute (named 0 1) (at 0 1)) ∷ some end_document ∷ []) (text "x")
    (refused shape 1)
    ∷ pieced (some end_element ∷ some end_document ∷ []) [] (refused shape 1)
    -- A list that ends early, an element that does not end, and an event behind the end: SHAPE.
    ∷ pieced [] [] (refused shape 1)
    ∷ pieced (some (start_element (named 0 1)) ∷ some end_document ∷ []) (text "a") (refused shape 2)
    ∷ pieced (some end_document ∷ some end_document ∷ []) [] (refused shape 2)
    -- No fragment, two elements: SHAPE.
    ∷ listed (some (start_element (named 0 1)) ∷ some end_element ∷ some (start_element (named 0 1))
    ∷ some end_element ∷ some end_document ∷ []) (text "a") (refused shape 3) ∷ []
