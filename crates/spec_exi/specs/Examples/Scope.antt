-- K1 to K12 (scope, "Streams to check"), and the replies to them in numbers.
use Rattle.std.specs.Prelude.{◌∷◌}
use Rattle.spec_exi.specs.Examples.{List, [], code, number, reference, loose, tail}
use Rattle.spec_exi.specs.Examples.{refused, ReadReply, Example, reply, in_bits, in_octets}
use Rattle.spec_exi.specs.Examples.{example, begin, attr, chars, end, whole}

-- Streams that are accepted, and streams that are refused.
unfoldable pub K : List Example
K =
    example in_octets "80 01 02 61 00" (whole (begin "a" ∷ end ∷ []))
    ∷ example in_bits "80 40 98 40" (whole (begin "a" ∷ end ∷ []))
    ∷ example in_octets "80 01 02 61 03 03 62 00" (whole (begin "a" ∷ chars "b" ∷ end ∷ []))
    ∷ example in_bits "80 40 98 70 36 20" (whole (begin "a" ∷ chars "b" ∷ end ∷ []))
    ∷ example in_octets "80 01 02 61 01 01 02 6B 03 78 01 00"
    (whole (begin "a" ∷ attr "k" "x" ∷ end ∷ []))
    ∷ example in_octets "80 01 02 61 02 01 00 01 00 00"
    (whole (begin "a" ∷ begin "a" ∷ end ∷ end ∷ []))
    ∷ example in_octets "80 01 02 72 02 01 02 70 01 01 02 74 03 31 01 00 01 00 01 00 01 01 00 00 01"
    (whole (begin "r" ∷ begin "p" ∷ attr "t" "1" ∷ end ∷ begin "p" ∷ attr "t" "1" ∷ end ∷ end ∷ []))
    ∷ example in_octets "80 01 02 61 04" (refused code 2)
    ∷ example in_octets "80 01 82 00 61 00" (refused number 1)
    ∷ example in_octets "80 00 00" (refused loose 1)
    ∷ example in_octets "80 01 00" (refused reference 1)
    ∷ example in_octets "80 01 02 61 00 00" (refused tail 4) ∷ []

-- Number, index, events, code points of each.
unfoldable pub KReplies : List ReadReply
KReplies =
    reply 0 0 4 100 ∷ reply 0 0 4 100 ∷ reply 0 0 5 101 ∷ reply 0 0 5 101 ∷ reply 0 0 5 102
    ∷ reply 0 0 6 100 ∷ reply 0 0 10 103 ∷ reply 6 2 0 0 ∷ reply 7 1 0 0 ∷ reply 10 1 0 0
    ∷ reply 9 1 0 0 ∷ reply 13 4 0 0 ∷ []
