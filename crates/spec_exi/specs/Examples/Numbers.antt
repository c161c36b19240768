-- The scope's numbers, each written out: refusals, sizes, settings, lent lengths, Chars.
use Rattle.std.specs.Prelude.{◌≡◌, ◌∷◌, ◌++◌}
use Rattle.spec_exi.specs.Examples
use Examples.{ℕ, true, false, List, [], map, replicate, Numbered, is_char}
use Examples.{SettingNumbers, sizes, ReaderRoom, read, read_reply, WriterRoom, write, write_reply}
use Examples.{full, full_to_write, numbers, Bounds.sizes_as, Bounds.Bounded, Bounds.bounds}

-- The i-th settings' number is v, the others are 0.
unfoldable pub setting : ℕ → ℕ → SettingNumbers
setting i v = numbers (replicate i 0 ++ (v ∷ []))

-- Each at the first number that has no meaning; of value lengths there is none.
unfoldable pub meaningless : List SettingNumbers
meaningless =
    setting 0 2 ∷ setting 1 2 ∷ setting 2 2 ∷ setting 3 2 ∷ setting 4 2 ∷ setting 6 2050
    ∷ setting 7 1 ∷ setting 8 1 ∷ setting 9 1 ∷ []

-- Lent lengths.
unfoldable pub reader_room : ℕ → ℕ → ℕ → ReaderRoom
reader_room e t w = record { events = e; text = t; work = w }

unfoldable pub writer_room : ℕ → ℕ → WriterRoom
writer_room k w = record { octets = k; work = w }

-- Just enough, then each part one short.
unfoldable pub reader_rooms : List ReaderRoom
reader_rooms =
    reader_room 36864 16384 18432 ∷ reader_room 36863 16384 18432 ∷ reader_room 36864 16383 18432
    ∷ reader_room 36864 16384 18431 ∷ []

unfoldable pub writer_rooms : List WriterRoom
writer_rooms = writer_room 16384 18432 ∷ writer_room 16383 18432 ∷ writer_room 16384 18431 ∷ []

-- What the scope says in numbers.
pub record Pinned : Type 0 where
  pub refusals : Numbered
  pub sizes_are : sizes
      ≡ sizes_as (16384 ∷ 4096 ∷ 100 ∷ 16 ∷ 128 ∷ 2048 ∷ 64 ∷ 512 ∷ 4096 ∷ 16384 ∷ 18432 ∷ [])
  pub both_sides : Bounded bounds
  -- Of a stream, and of a list, without octets and events: SETTINGS. ROOM comes before it.
  pub reader_settings : map (λ o. (read_reply (read full o [])).number) meaningless ≡ replicate 9 2
  pub writer_settings : map (λ o. (write_reply (write full_to_write o [] [])).number) meaningless
      ≡ replicate 9 2
  -- ENDED and SHAPE: the largest value capacity and any value length have a meaning.
  pub reader_bounds : map (λ o. (read_reply (read full o [])).number)
      (setting 5 4294967295 ∷ setting 6 2049 ∷ []) ≡ replicate 2 5
  pub writer_bounds : map (λ o. (write_reply (write full_to_write o [] [])).number)
      (setting 5 4294967295 ∷ setting 6 2049 ∷ []) ≡ replicate 2 14
  pub reader_lent : map (λ r. (read_reply (read r (setting 0 2) [])).number) reader_rooms
      ≡ 2 ∷ 1 ∷ 1 ∷ 1 ∷ []
  pub writer_lent : map (λ r. (write_reply (write r (setting 0 2) [] [])).number) writer_rooms
      ≡ 2 ∷ 1 ∷ 1 ∷ []
  -- Both sides of each end of the ranges of Char.
  pub outside : map is_char
      (8 ∷ 11 ∷ 12 ∷ 14 ∷ 31 ∷ 55296 ∷ 57343 ∷ 65534 ∷ 65535 ∷ 1114112 ∷ []) ≡ replicate 10 false
  pub inside : map is_char (9 ∷ 10 ∷ 13 ∷ 32 ∷ 55295 ∷ 57344 ∷ 65533 ∷ 65536 ∷ 1114111 ∷ [])
      ≡ replicate 9 true
