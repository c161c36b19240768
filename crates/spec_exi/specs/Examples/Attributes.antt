-- Equal attributes (P3): the second attribute of one name in a start tag is SHAPE, after the checks
-- of its content and before LOOSE for the production. Each stream and list begins with <a k="x".
use Rattle.std.specs.Prelude.{◌∷◌, ◌++◌}
use Rattle.spec_exi.specs.Examples
use Examples.{ℕ, String, List, [], some, Refusal, ended, number, character, reference}
use Examples.{loose, limit, shape, place, Answer, refused, Text, text, Event, start_element}
use Examples.{attribute, Stored, Example, in_octets, two_lines, begin, attr, end, whole, Places.at}
use Examples.{Places.in_uri, Places.named, Written.WriteExample, Written.listed}

-- ---- streams

-- These octets come next, byte-aligned.
unfoldable pub then_octets : String → Answer (List (Event Text)) → Example
then_octets x a = two_lines in_octets "80 01 02 61 01 01 02 6B 03 78" x a

-- (<a k="x" u:k="y"/> is in Streams; values that pass a limit are in Bounds.)
unfoldable pub equal_read : List Example
equal_read =
    -- <a k="x"><b k="x"><a k="x" j="x"/></b><b j="x" k="x"/></a>: each start tag begins anew.
    two_lines in_octets
    "80 01 02 61 01 01 02 6B 03 78 01 02 01 02 62 01 01 00 01 00 01 02 01 00 00 01 00 02 01"
    "01 02 6A 01 03 00 00 01 00 01 00 02 02 01 01 00 03 01 02 00 03 00 01"
    (whole (begin "a" ∷ attr "k" "x" ∷ begin "b" ∷ attr "k" "x" ∷ begin "a" ∷ attr "k" "x"
    ∷ attr "j" "x" ∷ end ∷ end ∷ begin "b" ∷ attr "j" "x" ∷ attr "k" "x" ∷ end ∷ end ∷ []))
    -- <a k="x" k="" by the learned AT(k), in its strict form. In a child: <a k="x"><a k="x" k="".
    ∷ then_octets "00 02" (refused shape 3)
    ∷ then_octets "01 02 01 00 00 01 00 01 02" (refused shape 5)
    -- <a k="x" j="x" k="": the two are no neighbours.
    ∷ then_octets "01 01 01 02 6A 01 01 02" (refused shape 4)
    -- <a k="x" k="" by AT(*), where AT(k) is learned: SHAPE before LOOSE. Without its value: ENDED.
    ∷ then_octets "01 01 01 00 01 02" (refused shape 3)
    ∷ then_octets "01 01 01 00 01" (refused ended 3)
    -- The same with its name as a literal, which is LOOSE by itself.
    ∷ then_octets "01 01 01 02 6B 02" (refused loose 3)
    -- With a value that is refused: its length not in fewest octets, or 4,097; no Char; a literal
    -- that the table has; a number that names no entry.
    ∷ then_octets "00 82 00" (refused number 3)
    ∷ then_octets "00 83 20" (refused limit 3)
    ∷ then_octets "00 03 00" (refused character 3)
    ∷ then_octets "00 03 78" (refused loose 3)
    ∷ then_octets "01 01 01 02 6A 03 79 01 01 02" (refused reference 4) ∷ []

-- ---- lists

-- These events come next, and these code points after "akx".
unfoldable pub then_events : List Stored → Text → Refusal → ℕ → WriteExample
then_events xs more k i =
    listed (some (start_element (named 0 1)) ∷ some (attribute (named 1 1) (at 2 1)) ∷ xs)
    (text "akx" ++ more) (refused k i)

-- (Values that pass a limit are in Written.)
unfoldable pub equal_written : List WriteExample
equal_written =
    -- <a k="x" j="x" k="", the second k at another place: names are equal by their texts.
    then_events (some (attribute (named 3 1) (at 2 1)) ∷ some (attribute (named 4 1) (at 0 0)) ∷ [])
    (text "jk") shape 4
    -- <a k="x" u:k="x" and <a k="x"><a k="x": no fault, and lists that end early are SHAPE at their
    -- length.
    ∷ then_events (some (attribute (in_uri 3 1 1 1) (at 2 1)) ∷ []) (text "u") shape 4
    ∷ then_events (some (start_element (named 0 1)) ∷ some (attribute (named 1 1) (at 2 1)) ∷ []) []
    shape 5
    -- A second k with a value outside the store: PLACE. With one that is no Char: CHARACTER.
    ∷ then_events (some (attribute (named 1 1) (at 9 9)) ∷ []) [] place 3
    ∷ then_events (some (attribute (named 1 1) (at 3 1)) ∷ []) (0 ∷ []) character 3 ∷ []
