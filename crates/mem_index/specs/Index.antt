-- Rows by a code; rows by a key and their number among those of the key.
use Rattle.std.specs.Prelude.{ℕ, zero, suc, ◌+◌, ◌*◌, ◌/◌, ◌%◌, ◌≤◌, ◌<◌, ◌≡◌, Bool, cond, ◌&&◌, List, length, get_or, set, eqb, ltb}
use Rattle.mem_chain.specs.Chain.{last_that, since, below, linked, walked_from, Chained}
use Rattle.mem_chain.specs.Chain.{row_has_code, has_code}
use Rattle.mem_index.specs.declared.Index.{Index}

-- One more than the greatest number of a key.
abbrev pub numbers : ℕ
numbers = 16384

-- One more than the greatest key.
abbrev pub max_keys : ℕ
max_keys = 512

-- So many buckets from the first row of a key to that of the next: an odd number, so that keys
-- share as few as can be.
abbrev pub stride : ℕ
stride = 37

unfoldable pub spot_of : ℕ → ℕ → ℕ
spot_of code size = (code + code / numbers * stride) % size

-- ---- rows by a code

-- The cells from codes on have the codes of the rows in the ring, and every bucket is a chain.
pub record Coded (work : List ℕ) (x : Index) (code_of : ℕ → ℕ) (n : ℕ) : Type 0 where
  pub cells : (i : ℕ) → i < n → n ≤ i + x.ring → get_or work (x.codes + i % x.ring) 0 ≡ code_of i
  pub chain : Chained work x.heads x.size x.nexts x.ring
      (λ i. spot_of (code_of i) x.size) n

-- What a search finds in memory.
unfoldable pub found_in : List ℕ → Index → ℕ → ℕ → ℕ → ℕ
found_in work x n low code =
    walked_from work (x.heads + spot_of code x.size) x.nexts x.ring n low
    (row_has_code work x.codes code)

-- Work memory with row n under a code: three cells.
unfoldable pub entered : List ℕ → Index → ℕ → ℕ → List ℕ
entered work x n code =
    linked (set work (x.codes + n % x.ring) code) (x.heads + spot_of code x.size) x.nexts
    x.ring n

-- ---- rows by a key and a number

-- How many of the first n rows pass the test.
unfoldable pub tally : (ℕ → Bool) → ℕ → ℕ
tally test zero = 0
tally test (suc n) = cond (test n) (suc (tally test n)) (tally test n)

abbrev pub has_key : (ℕ → ℕ) → ℕ → ℕ → Bool
has_key key_of k i = eqb k (key_of i)

-- The number of row i: how many rows of its key are before it.
unfoldable pub number_at : (ℕ → ℕ) → ℕ → ℕ
number_at key_of i = tally (has_key key_of (key_of i)) i

-- Key and number in one code.
unfoldable pub code_at : (ℕ → ℕ) → ℕ → ℕ
code_at key_of i = key_of i * numbers + number_at key_of i

-- Row i is the one with this key and number.
unfoldable pub is_numbered : (ℕ → ℕ) → ℕ → ℕ → ℕ → Bool
is_numbered key_of key number i = eqb key (key_of i) && eqb (number_at key_of i) number

-- The rows are found by key and number, and each key's count stands in its cell.
pub record Numbered (work : List ℕ) (x : Index) (counts keys : ℕ) (key_of : ℕ → ℕ) (n : ℕ) : Type 0
  where
    pub few : n ≤ numbers
    pub owned : (i : ℕ) → i < n → key_of i < keys
    pub coded : Coded work x (code_at key_of) n
    pub counted : (k : ℕ) → k < keys → get_or work (counts + k) 0 ≡ tally (has_key key_of k) n

-- A key's count as it stands in memory, or 0 where no count can be so large.
unfoldable pub count_in : List ℕ → ℕ → ℕ → ℕ
count_in work counts key = below (numbers + 1) (get_or work (counts + key) 0)

unfoldable pub nth_in : List ℕ → Index → ℕ → ℕ → ℕ → ℕ → ℕ
nth_in work x key number n low =
    cond (ltb number numbers) (found_in work x n low (key * numbers + number)) 0

-- Work memory with row n as the newest of its key: four cells.
unfoldable pub joined : List ℕ → Index → ℕ → ℕ → ℕ → List ℕ
joined work x counts n key =
    set (entered work x n (key * numbers + count_in work counts key)) (counts + key)
    (count_in work counts key + 1)

-- ---- what the functions ask: bounds only

pub record SpotRowPre (code size : ℕ) : Type 0 where
  pub some : 0 < size
  pub small : code < max_keys * numbers

pub record SeekPre (work : List ℕ) (x : Index) (n code : ℕ) : Type 0 where
  pub some : 0 < x.ring
  pub sized : 0 < x.size
  pub head_room : x.heads + x.size ≤ length work
  pub code_room : x.codes + x.ring ≤ length work
  pub next_room : x.nexts + x.ring ≤ length work
  pub few : n ≤ numbers
  pub small : code < max_keys * numbers

abbrev pub EnterRowPre : List ℕ → Index → ℕ → ℕ → Type 0
EnterRowPre = SeekPre

pub record CountAtPre (work : List ℕ) (counts key : ℕ) : Type 0 where
  pub room : counts + key < length work
  pub low : key < max_keys

pub record NthPre (work : List ℕ) (x : Index) (key n : ℕ) : Type 0 where
  pub some : 0 < x.ring
  pub sized : 0 < x.size
  pub head_room : x.heads + x.size ≤ length work
  pub code_room : x.codes + x.ring ≤ length work
  pub next_room : x.nexts + x.ring ≤ length work
  pub few : n ≤ numbers
  pub low : key + 1 < max_keys

pub record Joining (work : List ℕ) (x : Index) (counts n key : ℕ) : Type 0 where
  pub asking : NthPre work x key n
  pub count_room : counts + key < length work

-- ---- what they answer: what the cells say and bounds, on any memory; the meaning where memory is
-- an index

pub record Spot (code size r : ℕ) : Type 0 where
  pub is : r ≡ spot_of code size
  pub low : r < size

pub record Found (work : List ℕ) (x : Index) (n low code r : ℕ) : Type 0 where
  pub is : r ≡ found_in work x n low code
  pub within : r ≤ n
  pub above : 0 < r → low < r
  pub newest : (code_of : ℕ → ℕ) → Coded work x code_of n → n ≤ low + x.ring
      → r ≡ since low (last_that (has_code code_of code) n)

pub record Counted (work : List ℕ) (counts key r : ℕ) : Type 0 where
  pub is : r ≡ count_in work counts key
  pub within : r ≤ numbers
  pub means : (x : Index) (keys : ℕ) (key_of : ℕ → ℕ) (n : ℕ) → Numbered work x counts keys key_of n
      → key < keys → r ≡ tally (has_key key_of key) n

pub record NthFound (work : List ℕ) (x : Index) (key number n low r : ℕ) : Type 0 where
  pub is : r ≡ nth_in work x key number n low
  pub within : r ≤ n
  pub above : 0 < r → low < r
  pub newest : (counts keys : ℕ) (key_of : ℕ → ℕ) → Numbered work x counts keys key_of n
      → n ≤ low + x.ring → r ≡ since low (last_that (is_numbered key_of key number) n)
