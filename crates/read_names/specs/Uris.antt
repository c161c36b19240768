-- What reading the URI of a name asks and leaves (EXI 7.3.2).
use Rattle.std.specs.Prelude.{ℕ, ◌≤◌, ◌<◌, ◌≡◌, true, false, List, [], length}
use Rattle.spec_fields.specs.Parser.{◌>>=◌}
use Rattle.spec_fields.specs.Field.{Alignment}
use Rattle.text.specs.Text.{part}
use Rattle.spec_exi.specs.Sizes.{sizes, max_store, max_uris}
use Rattle.spec_exi.specs.Tables.{Placed, uri}
use Rattle.spec_exi.specs.Reader.{read_by_literals}
use Rattle.mem_layout.specs.Layout.{uri_rows, work_cells}
use Rattle.mem_entries.specs.Texts.{throughout}
use Rattle.mem_names.specs.Uris.{uri_at, UrisHold}
use Rattle.mem_rows.specs.Rows.{Rows, with_uri}
use Rattle.read_literal.specs.Literal.{LiteralPre}
use Rattle.read_partition.specs.View.{StringRead}
use Rattle.read_partition.specs.Strings.{judge, Reading, as_string, as_literal, StringPost}

-- ---- bounds

pub record UriPre (stream : List ℕ) (at : ℕ) (text : List ℕ) (stored : ℕ) (work : List ℕ)
    (uris : ℕ) : Type 0 where
  pub literal : LiteralPre stream at text stored
  pub room : work_cells ≤ length work
  pub few : uris ≤ max_uris

pub record SeekUriPre (stored : ℕ) (work : List ℕ) (uris : ℕ) : Type 0 where
  pub store : stored ≤ max_store
  pub room : work_cells ≤ length work
  pub few : uris ≤ max_uris

-- ---- what is left

-- Memory holds the URIs of w.
pub record UriRows (work text : List ℕ) (stored uris : ℕ) (w : Rows) : Type 0 where
  pub hold : UrisHold work (throughout text stored) uris w.uris

abbrev pub as_uri : Reading
as_uri = as_string uri

-- After a miss: a String (EXI 7.1.10).
abbrev pub as_missed : Reading
as_missed s t = read_by_literals sizes s t [] >>= judge t uri

abbrev pub as_new_uri : ℕ → Reading
as_new_uri n = as_literal uri n

abbrev pub UriPost : Alignment → Reading → List ℕ → ℕ → List ℕ → ℕ → List ℕ → ℕ → List ℕ
    → StringRead → Type 0
UriPost a read stream at text stored work uris text' r =
    StringPost a (UriRows work text stored uris) (λ w store. read) (λ w x. with_uri w x) stream at
    text stored text' r

-- The answer is this string.
pub record Spans (text : List ℕ) (r : StringRead) (x : Placed) : Type 0 where
  pub place : r.place ≡ x.place
  pub size : r.size ≡ length x.text
  pub found : part text (record { place = r.place; size = r.size }) ≡ x.text

-- The answer is the URI in its row.
pub record InUris (us : List Placed) (text : List ℕ) (r : StringRead) : Type 0 where
  pub inside : r.row < length us
  pub spans : Spans text r (uri_at us r.row)

-- The row of the URI that was read: on every memory one of the table; after the others where the
-- URI is to join; else, where memory holds these URIs, the row that has it.
pub record UriRowed (text : List ℕ) (stored : ℕ) (work : List ℕ) (uris : ℕ) (text' : List ℕ)
    (r : StringRead) : Type 0 where
  pub low : r.number ≡ 0 → r.row < uri_rows
  pub left : r.joins ≡ true → uris < max_uris
  pub new : r.joins ≡ true → r.row ≡ uris
  pub unhashed : r.hash ≡ 0
  pub old : r.number ≡ 0 → r.joins ≡ false → (us : List Placed)
      → UrisHold work (throughout text stored) uris us → InUris us text' r
