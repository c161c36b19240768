-- The table of local names in work memory.
use Rattle.std.specs.Prelude.{ℕ, suc, ◌+◌, ◌*◌, ◌/◌, ◌%◌, ◌≤◌, ◌<◌, ◌≡◌, Bool, cond, ◌&&◌, List, length, get_or, set, eqb, ltb}
use Rattle.text.specs.Text.{Text}
use Rattle.mem_layout.specs.Layout.{name_text_heads, name_code_heads, name_counts, name_buckets, name_rows}
use Rattle.mem_layout.specs.Layout.{name_places, name_sizes, name_codes, name_text_nexts, name_code_nexts}
use Rattle.mem_layout.specs.Layout.{name_firsts, uri_rows, work_cells, opening_names}
use Rattle.mem_chain.specs.Chain.{first_that, last_that, below, linked, walked_from, Chained}
use Rattle.mem_index.specs.declared.Index.{Index}
use Rattle.mem_index.specs.Index.{numbers, stride, number_at, is_numbered, Numbered, count_in, nth_in}
use Rattle.mem_index.specs.Index.{joined}
use Rattle.mem_entries.specs.Texts.{hash_of, row_has, with_text, Names, Source, store_of}
use Rattle.mem_entries.specs.Entries.{Entries, entry_at, key_at, text_at, has_text_at, given}
use Rattle.mem_names.specs.declared.Name.{Name}

-- ---- the list: entries by the first row of their URI

abbrev pub is_entry : Entries → ℕ → Text → ℕ → Bool
is_entry ns k x i = eqb k (key_at ns i) && has_text_at ns x i

-- The first row with the URI and the text of row i, counted from 1.
unfoldable pub first_name : Entries → ℕ → ℕ
first_name ns i = first_that (is_entry ns (key_at ns i) (text_at ns i)) (suc i)

-- Row i is the first of its URI and text: a key.
unfoldable pub is_name : Entries → ℕ → Bool
is_name ns i = ltb i (length ns) && eqb (first_name ns i) (suc i)

-- ---- cells

-- Names by URI and number.
abbrev pub name_index : Index
name_index =
    record {
      heads = name_code_heads;
      size = name_buckets;
      codes = name_codes;
      nexts = name_code_nexts;
      ring = name_rows;
    }

unfoldable pub name_spot : ℕ → ℕ → ℕ
name_spot h k = (h % name_buckets + k * stride) % name_buckets

-- Names by URI and text: a row that repeats another is in no chain.
unfoldable pub name_bucket : Entries → ℕ → ℕ
name_bucket ns i =
    cond (eqb (first_name ns i) (suc i)) (name_spot (hash_of (text_at ns i)) (key_at ns i)) name_buckets

-- Work memory is the table of these n names; their texts lie in first cells of stores.
pub record NamesHold (work : List ℕ) (from : ℕ → Source) (n : ℕ) (ns : Entries) : Type 0 where
  pub room : work_cells ≤ length work
  pub inside : (i : ℕ) → i < n → (from i).stored ≤ length (from i).store
  pub count : length ns ≡ n
  pub few : n ≤ name_rows
  pub rows : (i : ℕ) → i < n
      → Names work (from i).store (from i).stored (name_places + i) (name_sizes + i)
      (entry_at ns i).string
  pub firsts : (i : ℕ) → i < n → suc (get_or work (name_firsts + i) 0) ≡ first_name ns i
  pub by_uri : Numbered work name_index name_counts uri_rows (key_at ns) n
  pub by_text : Chained work name_text_heads name_buckets name_text_nexts name_rows (name_bucket ns) n

-- The store of a row, where the initial entries lie in the opening text.
abbrev pub name_store : List ℕ → List ℕ → ℕ → List ℕ
name_store = store_of opening_names

unfoldable pub row_is_name : List ℕ → (ℕ → Text) → ℕ → Text → ℕ → Bool
row_is_name work stores uri x row =
    eqb (get_or work (name_codes + row) 0 / numbers) uri
    && row_has work (stores row) (name_places + row) (name_sizes + row) x

-- What a search by URI and text finds in memory.
unfoldable pub name_found_in : List ℕ → (ℕ → Text) → ℕ → Text → ℕ → ℕ → ℕ
name_found_in work stores uri x h n =
    walked_from work (name_text_heads + name_spot h uri) name_text_nexts name_rows n 0
    (row_is_name work stores uri x)

unfoldable pub name_in : List ℕ → ℕ → Name
name_in work row =
    record {
      uri = below uri_rows (get_or work (name_codes + row) 0 / numbers);
      number = get_or work (name_codes + row) 0 % numbers;
      place = get_or work (name_places + row) 0;
      size = get_or work (name_sizes + row) 0;
      first = below name_rows (get_or work (name_firsts + row) 0);
    }

-- Work memory with name n: its cells in no chain, its number, its link.
unfoldable pub with_cells : List ℕ → ℕ → ℕ → ℕ → List ℕ
with_cells work n place size =
    set (with_text work (name_places + n) (name_sizes + n) place size) (name_firsts + n) n

unfoldable pub with_name : List ℕ → ℕ → ℕ → ℕ → ℕ → ℕ → List ℕ
with_name work n uri place size h =
    linked (joined (with_cells work n place size) name_index name_counts n uri)
    (name_text_heads + name_spot h uri) name_text_nexts name_rows n

-- ---- what the functions ask: bounds only

pub record NameRowPre (work : List ℕ) (row : ℕ) : Type 0 where
  pub room : work_cells ≤ length work
  pub low : row < name_rows

pub record FindNamePre (work : List ℕ) (uri n : ℕ) : Type 0 where
  pub room : work_cells ≤ length work
  pub low : uri < uri_rows
  pub few : n ≤ name_rows

abbrev pub NthNamePre : List ℕ → ℕ → ℕ → Type 0
NthNamePre = FindNamePre

pub record AddNamePre (work : List ℕ) (n uri : ℕ) : Type 0 where
  pub room : work_cells ≤ length work
  pub few : n < name_rows
  pub low : uri < uri_rows

-- ---- what they answer: what the cells say and bounds, on any memory; the meaning where memory is
-- a
-- table

pub record NameSpot (h uri r : ℕ) : Type 0 where
  pub is : r ≡ name_spot h uri
  pub low : r < name_buckets

pub record FoundName (work : List ℕ) (stores : ℕ → List ℕ) (uri : ℕ) (x : List ℕ) (h n r : ℕ)
    : Type 0 where
  pub is : r ≡ name_found_in work stores uri x h n
  pub within : r ≤ n
  pub means : (from : ℕ → Source) (ns : Entries) → NamesHold work from n ns
      → ((i : ℕ) → (from i).store ≡ stores i) → h ≡ hash_of x → r ≡ first_that (is_entry ns uri x) n

pub record CountedNames (work : List ℕ) (uri r : ℕ) : Type 0 where
  pub is : r ≡ count_in work name_counts uri
  pub within : r ≤ numbers
  pub count : (from : ℕ → Source) (n : ℕ) (ns : Entries) → NamesHold work from n ns
      → r ≡ length (given ns uri)

pub record NthName (work : List ℕ) (uri number n r : ℕ) : Type 0 where
  pub is : r ≡ nth_in work name_index uri number n 0
  pub within : r ≤ n
  pub means : (from : ℕ → Source) (ns : Entries) → NamesHold work from n ns
      → r ≡ last_that (is_numbered (key_at ns) uri number) n

pub record IsName (ns : Entries) (i : ℕ) (r : Name) : Type 0 where
  pub uri : r.uri ≡ key_at ns i
  pub number : r.number ≡ number_at (key_at ns) i
  pub place : r.place ≡ (entry_at ns i).string.place
  pub size : r.size ≡ length (text_at ns i)
  pub first : suc r.first ≡ first_name ns i

pub record NameAt (work : List ℕ) (row : ℕ) (r : Name) : Type 0 where
  pub is : r ≡ name_in work row
  pub low : r.uri < uri_rows
  pub small : r.number < numbers
  pub low_first : r.first < name_rows
  pub means : (from : ℕ → Source) (n : ℕ) (ns : Entries) → NamesHold work from n ns → row < n
      → IsName ns row r
