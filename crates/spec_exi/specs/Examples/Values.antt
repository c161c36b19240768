-- Bounded value tables (P5): which values join, numbers that go round, and numbers that are gone.
use Rattle.std.specs.Prelude.{◌+◌, ◌≡◌, ◌∷◌, ◌++◌}
use Rattle.spec_exi.specs.Examples
use Examples.{ℕ, String, List, [], map, loose, reference, Answer, refused}
use Examples.{Text, text, Event, characters, SettingNumbers, ReadReply, read_sized, read, read_reply}
use Examples.{WriteReply, write_reply, Example, reply, full, numbers, octets, two_lines, begin, chars}
use Examples.{end, whole, Bounds.only, Bounds.rewritten, Written.wrote}

-- Byte-aligned under a bound: no value longer than n joins, or the table has room for n.
unfoldable pub longest_of : ℕ → SettingNumbers
longest_of n = numbers (1 ∷ 0 ∷ 0 ∷ 0 ∷ 0 ∷ (n + 1) ∷ [])

unfoldable pub room_for : ℕ → SettingNumbers
room_for n = numbers (1 ∷ 0 ∷ 0 ∷ 0 ∷ 0 ∷ 0 ∷ (n + 1) ∷ [])

-- <a> in its start tag, then these octets.
unfoldable pub in_a : SettingNumbers → String → Answer (List (Event Text)) → Example
in_a o x a = two_lines o "80 01 02 61" x a

-- Characters events, a code point each.
unfoldable pub letters : String → List (Event Text)
letters x = map (λ p. characters (p ∷ [])) (text x)

-- <a> with these events.
unfoldable pub within : List (Event Text) → Answer (List (Event Text))
within l = whole (begin "a" ∷ (l ++ end ∷ []))

-- <b> with these characters.
unfoldable pub in_b : String → List (Event Text)
in_b x = begin "b" ∷ (letters x ++ end ∷ [])

-- Streams.
unfoldable pub bounded_read : List Example
bounded_read =
    -- x twice: at capacity 0, and over the length, it joins no table.
    in_a (room_for 0) "03 03 78 01 01 03 78 01" (within (letters "xx"))
    ∷ in_a (longest_of 0) "03 03 78 01 01 03 78 01" (within (letters "xx"))
    ∷ in_a (room_for 0) "03 03 78 01 01 03 79 00 00" (refused reference 4)
    -- xy xy x x, where one code point is the longest; x xy x, with room for 1.
    ∷ in_a (longest_of 1) "03 04 78 79 01 01 04 78 79 00 03 78 00 00 01"
    (within (chars "xy" ∷ chars "xy" ∷ letters "xx"))
    ∷ in_a (numbers (1 ∷ 0 ∷ 0 ∷ 0 ∷ 0 ∷ 2 ∷ 2 ∷ [])) "03 03 78 01 01 04 78 79 00 00 01"
    (within (chars "x" ∷ chars "xy" ∷ chars "x" ∷ []))
    -- x y z z with room for 2: the last is local number 2 of 3.
    ∷ in_a (room_for 2) "03 03 78 01 01 03 79 00 03 7A 00 00 02 01" (within (letters "xyzz"))
    -- x y z z with room for 1, bit-packed: a choice among 3 takes two bits.
    ∷ two_lines (numbers (0 ∷ 0 ∷ 0 ∷ 0 ∷ 0 ∷ 0 ∷ 2 ∷ [])) "80 40 98 70 37 8C 0D E4 03 7A 00 24" ""
    (within (letters "xyzz"))
    -- Number 0 was taken away with x; number 1 is y.
    ∷ in_a (room_for 2) "03 03 78 01 01 03 79 00 03 7A 00 00 00" (refused reference 5)
    ∷ in_a (room_for 2) "03 03 78 01 01 03 79 00 03 7A 00 00 01 01" (within (letters "xyzy"))
    -- A literal is LOOSE while its text is present, and right again once it is replaced.
    ∷ in_a (room_for 1) "03 03 78 01 01 03 78" (refused loose 3)
    ∷ in_a (room_for 1) "03 03 78 01 01 03 79 00 03 78 01" (within (letters "xyx"))
    -- Global numbers with room for 3: 4 is number 1, there is no number 3, and after 6 the numbers
    -- are those of 6, 4 and 5.
    ∷ in_a (room_for 3)
    "03 03 30 01 01 03 31 00 03 32 00 03 33 00 03 34 02 00 01 02 62 03 01 01 00 02"
    (within (letters "01234" ++ in_b "4"))
    ∷ in_a (room_for 3) "03 03 30 01 01 03 31 00 03 32 00 03 33 00 03 34 02 00 01 02 62 03 01 03"
    (refused reference 8)
    ∷ two_lines (room_for 3) "80 01 02 61 03 03 30 01 01 03 31 00 03 32 00 03 33 00 03 34 00 03 35"
    "00 03 36 02 00 01 02 62 03 01 00 01 01 01 01 00 01 02 01 02"
    (within (letters "0123456" ++ in_b "645"))
    -- One value is present: a global choice among 1, with room for 2, and for 1.
    ∷ in_a (room_for 2) "03 03 78 01 00 01 02 62 03 01 00 01" (within (chars "x" ∷ in_b "x"))
    ∷ in_a (room_for 1) "03 03 78 01 00 01 02 62 03 03 79 01 01 03 78 01 02 01 01 02"
    (within (chars "x" ∷ (in_b "yx" ++ chars "x" ∷ [])))
    -- y of b takes away x of a: y is still number 0 of b, and a has no number 0.
    ∷ in_a (room_for 1) "03 03 78 01 00 01 02 62 03 03 79 01 01 00 01 01"
    (within (chars "x" ∷ in_b "yy"))
    ∷ in_a (room_for 1) "03 03 78 01 00 01 02 62 03 03 79 00 02 01 00" (refused reference 6) ∷ []

-- The reader's reply, where the size with this place among the sizes is n, and the writer's to what
-- was read.
unfoldable pub replied_under : ℕ → ℕ → SettingNumbers → String → ReadReply
replied_under j n o x = read_reply (read_sized (only j n) full o (octets x))

unfoldable pub wrote_under : ℕ → ℕ → SettingNumbers → String → WriteReply
wrote_under j n o x = write_reply (rewritten (only j n) o (read full o (octets x)))

-- What the sizes say of values that are replaced or join no table.
pub record BoundedSizes : Type 0 where
  -- x y x with room for 1, where the tables hold 1, and x x, where they hold none
  pub replacing : replied_under 5 1 (room_for 1) "80 01 02 61 03 03 78 01 01 03 79 00 03 78 01"
      ≡ reply 0 0 7 103
  pub rewriting : wrote_under 5 1 (room_for 1) "80 01 02 61 03 03 78 01 01 03 79 00 03 78 01"
      ≡ wrote 0 0 15
  pub joining : replied_under 5 0 (longest_of 0) "80 01 02 61 03 03 78 01 01 03 78 01"
      ≡ reply 0 0 6 102
  -- each lies in the store: LIMIT for the third code point
  pub stored : replied_under 9 101 (room_for 0) "80 01 02 61 03 03 78 01 01 03 78 01"
      ≡ reply 12 3 0 0
