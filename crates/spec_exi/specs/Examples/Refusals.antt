-- What the reader refuses: the order of its tests, and both sides of what no other module has.
use Rattle.std.specs.Prelude.{◌∷◌}
use Rattle.spec_exi.specs.Examples.{String, List, [], settings, header, ended, number}
use Rattle.spec_exi.specs.Examples.{character, reference, loose, name, limit, tail, Answer}
use Rattle.spec_exi.specs.Examples.{refused, Text, Event, Example, numbers, in_bits, in_octets}
use Rattle.spec_exi.specs.Examples.{two_lines, example, begin, chars, end, whole}

-- Where two tests fail, the first is answered (scope, "Refusal numbers", "Order").
unfoldable pub orders : List Example
orders =
    -- SETTINGS, before HEADER.
    example (numbers (1 ∷ 2 ∷ [])) "00" (refused settings 0)
    -- The header: ENDED at each octet, then HEADER.
    ∷ example in_octets "" (refused ended 0)
    ∷ example (numbers (1 ∷ 1 ∷ [])) "24 45 58" (refused ended 0)
    ∷ example (numbers (1 ∷ 1 ∷ [])) "24 45 59" (refused header 0)
    ∷ example in_octets "A0" (refused header 0)
    ∷ example in_octets "80" (refused ended 1)
    -- A URI number past the table: REFERENCE.
    ∷ example in_octets "80 04" (refused reference 1)
    -- 4,096 code points that are not there: ENDED. 4,097, and the first is no Char: LIMIT. So many
    -- that they are NUMBER: NUMBER.
    ∷ example in_octets "80 01 81 20" (refused ended 1)
    ∷ example in_octets "80 01 82 20 00" (refused limit 1)
    ∷ example in_octets "80 01 FF FF FF FF 07" (refused limit 1)
    ∷ example in_octets "80 01 FF FF FF FF 08" (refused number 1)
    -- A fifth octet that continues: NUMBER, and not ENDED.
    ∷ example in_octets "80 01 FF FF FF FF 87" (refused number 1)
    -- Two code points, of which the first is no Char and the second is not there: CHARACTER.
    ∷ example in_octets "80 01 03 00" (refused character 1)
    -- Attribute type of XMLSchema-instance as a literal: LOOSE. As the hit that it should be: NAME.
    ∷ example in_octets "80 01 02 61 01 03 05 74 79 70 65" (refused loose 2)
    ∷ example in_octets "80 01 02 61 01 03 00 01" (refused name 2)
    -- <a><a><a>, the last by SE(*) where SE(a) is learned: LOOSE, but after its content.
    ∷ example in_octets "80 01 02 61 02 01 00 01 02 01" (refused ended 3)
    ∷ example in_octets "80 01 02 61 02 01 00 01 02 01 00" (refused loose 3) ∷ []

-- These octets come after <a> and the code of characters, byte-aligned.
unfoldable pub then_characters : String → Answer (List (Event Text)) → Example
then_characters x a = two_lines in_octets "80 01 02 61 03" x a

-- Names, characters, and the end of the stream. (More of names is in Names.)
unfoldable pub refusals : List Example
refusals =
    -- NAME: an empty local name of an element and of an attribute, an empty target, the attribute
    -- nil. (Type is among the orders; both are names of elements in Places.)
    example in_octets "80 01 01" (refused name 1)
    ∷ example in_octets "80 01 02 61 01 01 01" (refused name 2)
    ∷ example (numbers (1 ∷ 0 ∷ 0 ∷ 1 ∷ [])) "80 01 00" (refused name 1)
    ∷ example in_octets "80 01 02 61 01 03 00 00" (refused name 2)
    -- Chars, as the characters of <a>: 9, 10, 13; 31 is none; 55295, 55296; 65533, 65534; 1114111,
    -- 1114112.
    ∷ then_characters "05 09 0A 0D 00" (whole (begin "a" ∷ chars "\t\n\r" ∷ end ∷ []))
    ∷ then_characters "03 1F" (refused character 2)
    ∷ then_characters "03 FF AF 03 00" (whole (begin "a" ∷ chars "\u{d7ff}" ∷ end ∷ []))
    ∷ then_characters "03 80 B0 03" (refused character 2)
    ∷ then_characters "03 FD FF 03 00" (whole (begin "a" ∷ chars "�" ∷ end ∷ []))
    ∷ then_characters "03 FE FF 03" (refused character 2)
    ∷ then_characters "03 FF FF 43 00" (whole (begin "a" ∷ chars "\u{10ffff}" ∷ end ∷ []))
    ∷ then_characters "03 80 80 44" (refused character 2)
    -- K2 with a pad bit set: TAIL, at the number of the events.
    ∷ example in_bits "80 40 98 41" (refused tail 4) ∷ []
