-- What reading a value asks and leaves.
use Rattle.std.specs.Prelude.{ℕ, ◌+◌, ◌*◌, ◌≤◌, ◌<◌, ◌≡◌, true, List, length}
use Rattle.spec_fields.specs.Field.{Alignment}
use Rattle.text.specs.Text.{Text, part}
use Rattle.spec_exi.specs.Settings.{bound_of}
use Rattle.spec_exi.specs.Sizes.{max_stream, max_store, max_values}
use Rattle.spec_exi.specs.Tables.{Role, value, replaced, values_of, all_values}
use Rattle.mem_layout.specs.Layout.{name_rows, work_cells}
use Rattle.mem_entries.specs.Texts.{hash_of}
use Rattle.mem_values.specs.Window.{newest_in}
use Rattle.mem_values.specs.Forms.{ValuesStand}
use Rattle.mem_rows.specs.Rows.{Rows, name_at, tables_of, with_value}
use Rattle.read_literal.specs.Literal.{LiteralPre}
use Rattle.read_partition.specs.View.{StringRead}
use Rattle.read_partition.specs.Strings.{Hashed, Reading, as_string, as_hit, as_literal, StringPost}

-- ---- bounds

pub record HitPre (stream : List ℕ) (at : ℕ) (stored : ℕ) (work : List ℕ)
    (values owner : ℕ) : Type 0 where
  pub size : length stream ≤ max_stream
  pub place : at ≤ 8 * length stream
  pub store : stored ≤ max_store
  pub room : work_cells ≤ length work
  pub few : values ≤ stored
  pub low : owner < name_rows

pub record NewPre (stream : List ℕ) (at : ℕ) (text : List ℕ) (stored : ℕ) (work : List ℕ)
    (values : ℕ) : Type 0 where
  pub literal : LiteralPre stream at text stored
  pub room : work_cells ≤ length work
  pub few : values ≤ stored

pub record ValuePre (stream : List ℕ) (at : ℕ) (text : List ℕ) (stored : ℕ) (work : List ℕ)
    (values owner : ℕ) : Type 0 where
  pub literal : LiteralPre stream at text stored
  pub room : work_cells ≤ length work
  pub few : values ≤ stored
  pub low : owner < name_rows

-- With the hash of the text after the store.
pub record SoughtPre (text : List ℕ) (stored n hash : ℕ) (work : List ℕ) (values : ℕ)
    : Type 0 where
  pub is : hash ≡ hash_of (part text (record { place = stored; size = n }))
  pub store : stored ≤ max_store
  pub room : work_cells ≤ length work
  pub few : values ≤ stored

-- ---- what is left

-- Memory holds the values of w, of which no two present are the same; the numbers mean the settings
-- of w (P5), and the capacity is within its size; the name has a row in w.
pub record ValueRows (work text : List ℕ) (stored values longest capacity owner : ℕ) (w : Rows) :
    Type 0 where
  pub stand : ValuesStand work text stored values (replaced w.capacity values)
      (newest_in w.capacity values) w.values w.capacity
  pub longest-is : bound_of longest ≡ w.longest
  pub capacity-is : bound_of capacity ≡ w.capacity
  pub few : capacity ≤ max_values + 1
  pub row : owner < length w.names

abbrev pub value_role : ℕ → Rows → Role
value_role owner w = value (name_at w owner)

abbrev pub as_value : ℕ → Rows → Text → Reading
as_value owner w store = as_string (value_role owner w)

abbrev pub as_own : ℕ → Rows → Text → Reading
as_own owner w store = as_hit (value_role owner w) 0 (values_of (tables_of w store) (name_at w owner))

abbrev pub as_any : ℕ → Rows → Text → Reading
as_any owner w store = as_hit (value_role owner w) 1 (all_values (tables_of w store))

abbrev pub as_new : ℕ → ℕ → Rows → Text → Reading
as_new n owner w store = as_literal (value_role owner w) n

abbrev pub ValuePost : Alignment → (ℕ → Rows → Text → Reading) → List ℕ → ℕ → List ℕ → ℕ → List ℕ
    → ℕ → ℕ → ℕ → ℕ → List ℕ → StringRead → Type 0
ValuePost a read stream at text stored work values longest capacity owner text' r =
    StringPost a (ValueRows work text stored values longest capacity owner) (read owner)
    (λ w x. with_value w owner x) stream at text stored text' r

-- On every memory: the table has room for a value that is to join, which has a code point in the
-- store.
pub record JoinsWithin (values : ℕ) (text : List ℕ) (r : StringRead) : Type 0 where
  pub left : r.joins ≡ true → values < r.stored
  pub room : r.joins ≡ true → r.stored ≤ max_store
  pub hashed : Hashed text r
