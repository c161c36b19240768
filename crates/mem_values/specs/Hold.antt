-- What work memory means as a value table, and what the functions over it ask and answer.
use Rattle.std.specs.Prelude.{ℕ, ◌+◌, ◌%◌, ◌≤◌, ◌<◌, ◌≡◌, List, length}
use Rattle.mem_layout.specs.Layout.{value_text_heads, value_counts, value_buckets, value_ring}
use Rattle.mem_layout.specs.Layout.{value_places, value_sizes, value_text_nexts, name_rows, work_cells}
use Rattle.mem_chain.specs.Chain.{last_that, since, Chained}
use Rattle.mem_index.specs.Index.{numbers, number_at, is_numbered, Numbered, count_in, nth_in}
use Rattle.mem_entries.specs.Texts.{hash_of, Names}
use Rattle.mem_entries.specs.Entries.{Entries, entry_at, key_at, text_at, has_text_at, given}
use Rattle.mem_values.specs.declared.Value.{Value}
use Rattle.mem_values.specs.Values.{value_index, text_bucket, value_in, found_in}

-- Work memory is the table of these n values; their texts lie in the first cells of the store.
pub record ValuesHold (work store : List ℕ) (stored n : ℕ) (es : Entries) : Type 0 where
  pub room : work_cells ≤ length work
  pub inside : stored ≤ length store
  pub count : length es ≡ n
  pub rows : (i : ℕ) → i < n → n ≤ i + value_ring
      → Names work store stored (value_places + i % value_ring) (value_sizes + i % value_ring)
      (entry_at es i).string
  pub by_owner : Numbered work value_index value_counts name_rows (key_at es) n
  pub by_text : Chained work value_text_heads value_buckets value_text_nexts value_ring (text_bucket es) n

-- ---- what the functions ask: bounds only

pub record ValueAtPre (work : List ℕ) (row : ℕ) : Type 0 where
  pub room : work_cells ≤ length work
  pub low : row < value_ring

pub record FindRowPre (work : List ℕ) (n : ℕ) : Type 0 where
  pub room : work_cells ≤ length work
  pub few : n ≤ numbers

pub record NthLocalPre (work : List ℕ) (owner n : ℕ) : Type 0 where
  pub room : work_cells ≤ length work
  pub low : owner < name_rows
  pub few : n ≤ numbers

pub record AddRowPre (work : List ℕ) (n owner : ℕ) : Type 0 where
  pub room : work_cells ≤ length work
  pub few : n < numbers
  pub low : owner < name_rows

-- ---- what they answer: what the cells say and bounds, on any memory; the meaning where memory is
-- a
-- table

pub record FoundText (work store x : List ℕ) (h n low r : ℕ) : Type 0 where
  pub is : r ≡ found_in work store x h n low
  pub within : r ≤ n
  pub above : 0 < r → low < r
  pub newest : (stored : ℕ) (es : Entries) → ValuesHold work store stored n es → h ≡ hash_of x
      → n ≤ low + value_ring → r ≡ since low (last_that (has_text_at es x) n)

pub record FoundLocal (work : List ℕ) (owner number n low r : ℕ) : Type 0 where
  pub is : r ≡ nth_in work value_index owner number n low
  pub within : r ≤ n
  pub above : 0 < r → low < r
  pub newest : (store : List ℕ) (stored : ℕ) (es : Entries) → ValuesHold work store stored n es
      → n ≤ low + value_ring → r ≡ since low (last_that (is_numbered (key_at es) owner number) n)

pub record CountedLocal (work : List ℕ) (owner r : ℕ) : Type 0 where
  pub is : r ≡ count_in work value_counts owner
  pub within : r ≤ numbers
  pub count : (store : List ℕ) (stored n : ℕ) (es : Entries) → ValuesHold work store stored n es
      → r ≡ length (given es owner)

-- This is value g.
pub record IsValue (es : Entries) (g : ℕ) (r : Value) : Type 0 where
  pub owner : r.owner ≡ key_at es g
  pub number : r.number ≡ number_at (key_at es) g
  pub place : r.place ≡ (entry_at es g).string.place
  pub size : r.size ≡ length (text_at es g)

pub record ValueAt (work : List ℕ) (g : ℕ) (r : Value) : Type 0 where
  pub cells : r ≡ value_in work (g % value_ring)
  pub small : r.number < numbers
  pub means : (store : List ℕ) (stored n : ℕ) (es : Entries) → ValuesHold work store stored n es
      → g < n → n ≤ g + value_ring → IsValue es g r
