-- Streams for what tables and grammars hold, and for each setting.
use Rattle.std.specs.Prelude.{◌∷◌}
use Rattle.spec_exi.specs.Examples.{List, [], loose, refused, Example, numbers, in_bits}
use Rattle.spec_exi.specs.Examples.{in_octets, two_lines, example, begin_in, begin, attr_in, attr}
use Rattle.spec_exi.specs.Examples.{chars, remark, instruct, end, whole}

-- The scope's "mistakes that look right", by its numbers, and more of tables and grammars.
unfoldable pub mistakes : List Example
mistakes =
    -- 1: <r><a>x</a><b>x</b><b>y</b><b>y</b></r>. The value x under another name is a global hit
    -- and joins no table, so y is the one value local to b.
    two_lines in_octets "80 01 02 72 02 01 02 61 03 03 78 00 01 00 01 02 62 03 01 00 00 00 03 79"
    "00 00 00 00 00 01"
    (whole (begin "r" ∷ begin "a" ∷ chars "x" ∷ end ∷ begin "b" ∷ chars "x" ∷ end
    ∷ begin "b" ∷ chars "y" ∷ end ∷ begin "b" ∷ chars "y" ∷ end ∷ end ∷ []))
    -- 2: <a k="" j="x"><b k="x"/></a>. The empty value joins no table, so x is the one value.
    ∷ two_lines in_octets "80 01 02 61 01 01 02 6B 02 01 01 01 02 6A 03 78 02 02 01 02 62"
    "01 01 00 01 01 01 00 00"
    (whole (begin "a" ∷ attr "k" "" ∷ attr "j" "x" ∷ begin "b" ∷ attr "k" "x" ∷ end ∷ end ∷ []))
    -- 3: <a><b><a><b/></a></b></a>. The inner a finds SE(b) learned, and the inner b SE(a).
    ∷ example in_octets "80 01 02 61 02 01 02 62 02 01 00 00 00 01 00 00 00 00"
    (whole (begin "a" ∷ begin "b" ∷ begin "a" ∷ begin "b" ∷ end ∷ end ∷ end ∷ end ∷ []))
    -- 4: <a xmlns="u"><b/></a>. With four URIs, a choice among five: 3 bits.
    ∷ example in_bits "80 00 5D 40 98 68 04 C4 00"
    (whole (begin_in "u" "a" ∷ begin_in "u" "b" ∷ end ∷ end ∷ []))
    -- 5: <a>x<a>x</a></a>. The name a and the value x are each the one entry of their partition: a
    -- choice of no bits.
    ∷ example in_bits "80 40 98 70 37 89 00 00 28"
    (whole (begin "a" ∷ chars "x" ∷ begin "a" ∷ chars "x" ∷ end ∷ end ∷ []))
    -- 6: <a k="1">x<b/></a>. The start tag has learned AT(k) and CH, and the content begins with
    -- nothing learned.
    ∷ example in_bits "80 40 98 54 09 AC 0C C7 81 BC 48 13 10 80"
    (whole (begin "a" ∷ attr "k" "1" ∷ chars "x" ∷ begin "b" ∷ end ∷ end ∷ []))
    -- <r><a/><a k="1"/><a>x</a><a><b/></a></r>, the four twice: the start tag of a has learned
    -- SE(b), CH, AT(k) and EE, the newest first, and the second four go by them.
    ∷ two_lines in_octets
    "80 01 02 72 02 01 02 61 00 01 00 01 00 01 01 01 01 02 6B 03 31 01 00 02 03 03 78 00 00 03 02"
    "01 02 62 00 00 00 03 00 02 00 03 00 01 00 00 00 00 00 00 01"
    (whole (begin "r" ∷ begin "a" ∷ end ∷ begin "a" ∷ attr "k" "1" ∷ end ∷ begin "a" ∷ chars "x"
    ∷ end ∷ begin "a" ∷ begin "b" ∷ end ∷ end ∷ begin "a" ∷ end ∷ begin "a" ∷ attr "k" "1" ∷ end
    ∷ begin "a" ∷ chars "x" ∷ end ∷ begin "a" ∷ begin "b" ∷ end ∷ end ∷ end ∷ []))
    -- <a><b/>x<b/><c/>x<b/></a>. The content of a learns CH, SE(b) and SE(c), and goes by the first
    -- two; its EE stays of one part, after them.
    ∷ example in_bits "80 40 98 64 09 88 C0 DE 22 01 64 09 8C 40 04 C0"
    (whole (begin "a" ∷ begin "b" ∷ end ∷ chars "x" ∷ begin "b" ∷ end ∷ begin "c" ∷ end ∷ chars "x"
    ∷ begin "b" ∷ end ∷ end ∷ []))
    -- <a xmlns="u" xml:lang="fr">é<b xml:lang="fr"/></a>. URI and name of xml:lang are initial
    -- entries; é takes two octets.
    ∷ example in_bits "80 00 5D 40 98 54 01 02 33 39 70 3E 90 1A 01 31 28 02 00 88"
    (whole (begin_in "u" "a" ∷ attr_in "http://www.w3.org/XML/1998/namespace" "lang" "fr" ∷ chars "é"
    ∷ begin_in "u" "b" ∷ attr_in "http://www.w3.org/XML/1998/namespace" "lang" "fr" ∷ end ∷ end ∷ []))
    -- <a a="x">xy<u:a>y</u:a>x</a>. An element and an attribute of one name share their values; the
    -- name a in another URI has values and a grammar of its own; values are numbered from the
    -- oldest, all of them and those of a name.
    ∷ two_lines in_octets "80 01 02 61 01 01 00 03 78 01 03 00 01 01 03 79 02 00 00 01 75 02 61"
    "03 01 01 00 01 00 00 02"
    (whole (begin "a" ∷ attr "a" "x" ∷ chars "x" ∷ chars "y" ∷ begin_in "u" "a" ∷ chars "y" ∷ end
    ∷ chars "x" ∷ end ∷ []))
    -- <a k="x" u:k="y"/>. A name is learned with its URI, and with another it is another name (P3).
    ∷ example in_octets "80 01 02 61 01 01 02 6B 03 78 01 01 00 01 75 02 6B 03 79 02 00"
    (whole (begin "a" ∷ attr "k" "x" ∷ attr_in "u" "k" "y" ∷ end ∷ []))
    -- <a k="x"><a k="x" with AT(*) for the second k, where the learned AT(k) fits: LOOSE after its
    -- content.
    ∷ example in_octets "80 01 02 61 01 01 02 6B 03 78 01 02 01 00 00 02 01 01 00 01 00"
    (refused loose 4)
    -- The same with a global hit for the second x, where a local one exists.
    ∷ example in_octets "80 01 02 61 01 01 02 6B 03 78 01 02 01 00 00 01 01" (refused loose 4) ∷ []

-- Comments and instructions kept, and the cookie.
unfoldable pub kept : List Example
kept =
    -- Comments alone: <!--1--><a><!--2--><!--3--></a><!--4-->. CM is 1.0, 0.4.0, 1.2.0 and 1.0; its
    -- last part is the one of its level, and has no bits.
    example (numbers (1 ∷ 0 ∷ 1 ∷ []))
    "80 01 01 31 00 01 02 61 04 01 32 01 02 01 33 00 01 01 34 00"
    (whole (remark "1" ∷ begin "a" ∷ remark "2" ∷ remark "3" ∷ end ∷ remark "4" ∷ []))
    -- An empty one.
    ∷ example (numbers (1 ∷ 0 ∷ 1 ∷ [])) "80 01 00 00 01 02 61 00 00"
    (whole (remark "" ∷ begin "a" ∷ end ∷ []))
    -- Instructions alone: <?p 1?><a><?p 2?><?p 3?></a><?p 4?>. PI has closed up: it is 1.0, 0.4.0,
    -- 1.2.0 and 1.0.
    ∷ example (numbers (0 ∷ 0 ∷ 0 ∷ 1 ∷ []))
    "80 80 B8 00 98 90 26 18 02 E0 02 65 80 5C 00 4C D0 17 00 13 40"
    (whole (instruct "p" "1" ∷ begin "a" ∷ instruct "p" "2" ∷ instruct "p" "3" ∷ end
    ∷ instruct "p" "4" ∷ []))
    -- Both: <!--1--><?p 2?><a><!--3--><?p 4?><b><?p 5?><!--6--></b></a><!--7--><?p 8?>. CM and PI
    -- have a last part, 0 and 1.
    ∷ two_lines (numbers (1 ∷ 0 ∷ 1 ∷ 1 ∷ []))
    "80 01 00 01 31 01 01 01 70 01 32 00 01 02 61 04 00 01 33 01 02 01 01 70 01 34 01 00 01 02 62"
    "04 01 01 70 01 35 01 02 00 01 36 00 01 01 00 01 37 01 01 01 70 01 38 00"
    (whole (remark "1" ∷ instruct "p" "2" ∷ begin "a" ∷ remark "3" ∷ instruct "p" "4" ∷ begin "b"
    ∷ instruct "p" "5" ∷ remark "6" ∷ end ∷ end ∷ remark "7" ∷ instruct "p" "8" ∷ []))
    -- The cookie, before K2.
    ∷ example (numbers (0 ∷ 1 ∷ [])) "24 45 58 49 80 40 98 40" (whole (begin "a" ∷ end ∷ [])) ∷ []
