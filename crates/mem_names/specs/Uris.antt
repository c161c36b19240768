-- The table of URIs in work memory.
use Rattle.std.specs.Prelude.{ℕ, zero, suc, ◌+◌, ◌≤◌, ◌<◌, ◌≡◌, Bool, ◌&&◌, List, [], length, get_or, set, eqb, ltb}
use Rattle.std.proofs.Math.Option.{Option, none, some}
use Rattle.text.specs.Text.{Text, eq_text}
use Rattle.spec_exi.specs.Tables.{Placed}
use Rattle.mem_layout.specs.Layout.{uri_places, uri_sizes, uri_firsts, uri_rows, work_cells}
use Rattle.mem_layout.specs.Layout.{opening_uris}
use Rattle.mem_chain.specs.Chain.{first_that, below}
use Rattle.mem_entries.specs.Texts.{row_has, with_text, Names, Source, store_of}
use Rattle.mem_names.specs.declared.Uri.{Uri}

-- ---- the list

abbrev pub no_uri : Placed
no_uri = record { place = 0; text = [] }

unfoldable pub uri_at : List Placed → ℕ → Placed
uri_at us i = get_or us i no_uri

abbrev pub uri_text : List Placed → ℕ → Text
uri_text us i = (uri_at us i).text

abbrev pub has_uri : List Placed → Text → ℕ → Bool
has_uri us x i = eq_text (uri_text us i) x

-- The first row with the text of row i, counted from 1.
unfoldable pub first_uri : List Placed → ℕ → ℕ
first_uri us i = first_that (has_uri us (uri_text us i)) (suc i)

-- Row i is the first of its text: a key.
unfoldable pub is_uri : List Placed → ℕ → Bool
is_uri us i = ltb i (length us) && eqb (first_uri us i) (suc i)

-- What a row counted from 1 stands for.
unfoldable pub row_of : ℕ → Option ℕ
row_of zero = none
row_of (suc i) = some i

-- ---- cells

-- Work memory is the table of these n URIs; their texts lie in first cells of stores.
pub record UrisHold (work : List ℕ) (from : ℕ → Source) (n : ℕ) (us : List Placed) : Type 0 where
  pub room : work_cells ≤ length work
  pub inside : (i : ℕ) → i < n → (from i).stored ≤ length (from i).store
  pub count : length us ≡ n
  pub few : n ≤ uri_rows
  pub rows : (i : ℕ) → i < n
      → Names work (from i).store (from i).stored (uri_places + i) (uri_sizes + i) (uri_at us i)
  pub firsts : (i : ℕ) → i < n → suc (get_or work (uri_firsts + i) 0) ≡ first_uri us i

-- The store of a row, where the initial entries lie in the opening text.
abbrev pub uri_store : List ℕ → List ℕ → ℕ → List ℕ
uri_store = store_of opening_uris

unfoldable pub uri_has_text : List ℕ → (ℕ → Text) → Text → ℕ → Bool
uri_has_text work stores x row =
    row_has work (stores row) (uri_places + row) (uri_sizes + row) x

unfoldable pub uri_in : List ℕ → ℕ → Uri
uri_in work row =
    record {
      place = get_or work (uri_places + row) 0;
      size = get_or work (uri_sizes + row) 0;
      first = below uri_rows (get_or work (uri_firsts + row) 0);
    }

unfoldable pub with_uri : List ℕ → ℕ → ℕ → ℕ → ℕ → List ℕ
with_uri work n place size first =
    set (with_text work (uri_places + n) (uri_sizes + n) place size) (uri_firsts + n) first

-- ---- what the functions ask and answer

pub record UriRowPre (work : List ℕ) (row : ℕ) : Type 0 where
  pub room : work_cells ≤ length work
  pub low : row < uri_rows

pub record FindUriPre (work : List ℕ) (n : ℕ) : Type 0 where
  pub room : work_cells ≤ length work
  pub few : n ≤ uri_rows

pub record FoundUri (work : List ℕ) (stores : ℕ → List ℕ) (x : List ℕ) (n r : ℕ) : Type 0 where
  pub is : r ≡ first_that (uri_has_text work stores x) n
  pub within : r ≤ n
  pub means : (from : ℕ → Source) (us : List Placed) → UrisHold work from n us
      → ((i : ℕ) → (from i).store ≡ stores i) → r ≡ first_that (has_uri us x) n

pub record IsUri (us : List Placed) (i : ℕ) (r : Uri) : Type 0 where
  pub place : r.place ≡ (uri_at us i).place
  pub size : r.size ≡ length (uri_text us i)
  pub first : suc r.first ≡ first_uri us i

pub record UriAt (work : List ℕ) (row : ℕ) (r : Uri) : Type 0 where
  pub is : r ≡ uri_in work row
  pub low : r.first < uri_rows
  pub means : (from : ℕ → Source) (n : ℕ) (us : List Placed) → UrisHold work from n us → row < n
      → IsUri us row r
