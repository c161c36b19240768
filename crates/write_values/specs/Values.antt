-- What judging and writing a value asks and leaves (EXI 7.3.3).
use Rattle.std.specs.Prelude.{ℕ, ◌+◌, ◌-◌, ◌*◌, ◌≤◌, ◌<◌, ◌≡◌, Bool, true, false, cond, List, [], ◌∷◌, ◌++◌, length, T, eqb, ltb, Result, Ok, Err}
use Rattle.spec_fields.specs.Bits.{Bits}
use Rattle.spec_fields.specs.Field.{Alignment}
use Rattle.spec_fields.specs.Refusal.{limit}
use Rattle.text.specs.Text.{Text, all_chars}
use Rattle.spec_exi.specs.Sizes.{max_store, max_values}
use Rattle.spec_exi.specs.Settings.{bound_of}
use Rattle.spec_exi.specs.Tables.{value, string_bits, replaced}
use Rattle.spec_exi.specs.Writer.{first_failed}
use Rattle.mem_layout.specs.Layout.{value_counts, name_rows, work_cells}
use Rattle.mem_index.specs.Index.{count_in}
use Rattle.mem_entries.specs.Texts.{hash_of}
use Rattle.refusal.specs.declared.Refusal.{Refusal}
use Rattle.refusal.specs.Numbers.{number_in}
use Rattle.mem_values.specs.declared.Form.{Form}
use Rattle.mem_values.specs.declared.Form.TheVariants.{Local, Global, Absent}
use Rattle.mem_values.specs.Window.{newest_in, joins_by}
use Rattle.mem_values.specs.Forms.{ValuesStand, Formed}
use Rattle.mem_rows.specs.Rows.{Rows, name_at}
use Rattle.mem_rows.specs.Valid.{Valid}
use Rattle.mem_state.specs.Strung.{value_added}
use Rattle.write_field.specs.Written.{blank_from, farthest}
use Rattle.write_partition.specs.Writable.{Written, Writable, Few}
use Rattle.write_partition.specs.Judged.{fault_number, literal_tests, StringMeans}
use Rattle.write_partition.specs.Bits.{hit_bits}
use Rattle.write_string.specs.Fits.{max_string_bits}
use Rattle.write_values.specs.declared.ValueJudged.{ValueJudged}

-- ---- the answers

abbrev pub own : ℕ
own = 0

abbrev pub all : ℕ
all = 1

abbrev pub neither : ℕ
neither = 2

-- The partition that has a value, and its compact identifier there.
abbrev pub partition_in : Form → ℕ
partition_in (Local i) = own
partition_in (Global i) = all
partition_in Absent = neither

abbrev pub id_in : Form → ℕ
id_in (Local i) = i
id_in (Global i) = i
id_in Absent = 0

-- Of a value that is judged: the number of a refusal or 0; the partition that has it and its compact
-- identifier; the code points in the store after it; and whether it is to join, with its hash.
pub record ValueAnswer : Type 0 where
  pub number : ℕ
  pub partition : ℕ
  pub id : ℕ
  pub stored : ℕ
  pub joins : Bool
  pub hash : ℕ

abbrev pub refused_as : ℕ → ℕ → ValueAnswer
refused_as number stored =
    record {
      number = number;
      partition = neither;
      id = 0;
      stored = stored;
      joins = false;
      hash = 0;
    }

abbrev pub found_as : ℕ → ℕ → ℕ → ValueAnswer
found_as partition id stored =
    record { number = 0; partition = partition; id = id; stored = stored; joins = false; hash = 0 }

abbrev pub literal_as : ℕ → ℕ → Bool → ℕ → ValueAnswer
literal_as stored n joins hash =
    record {
      number = 0;
      partition = neither;
      id = 0;
      stored = stored + n;
      joins = joins;
      hash = hash;
    }

abbrev pub told_value : ValueJudged → ValueAnswer
told_value v =
    record {
      number = 0;
      partition = partition_in v.form;
      id = id_in v.form;
      stored = v.stored;
      joins = v.joins;
      hash = v.hash;
    }

-- A refusal leaves the store.
abbrev pub value_answer : ℕ → Result ValueJudged Refusal → ValueAnswer
value_answer stored (Ok v) = told_value v
value_answer stored (Err k) = refused_as (number_in k) stored

-- ---- a literal that joins

pub record NewValuePre (x : Text) (chars : Bool) (stored : ℕ) : Type 0 where
  pub store : stored ≤ max_store
  pub weighed : chars ≡ all_chars x

-- The table has a row for it: one that joins, and replaces none, takes a free one (P5).
unfoldable pub has_row : ℕ → ℕ → ℕ → ℕ → Bool
has_row size values longest capacity =
    cond (joins_by size longest capacity) (cond (eqb capacity 0) (ltb values max_values) true) true

pub record NewValuePost (x : Text) (values longest capacity stored h : ℕ) (r : ValueAnswer)
    : Type 0 where
  pub number_is : r.number
      ≡ fault_number (first_failed
      (literal_tests x stored ++ ((has_row (length x) values longest capacity, limit) ∷ [])))
  pub refused : 0 < r.number → r ≡ refused_as r.number stored
  pub judged : r.number ≡ 0
      → r ≡ literal_as stored (length x) (joins_by (length x) longest capacity)
      (cond (joins_by (length x) longest capacity) h 0)

-- ---- the form

pub record FormPre (work : List ℕ) (values : ℕ) : Type 0 where
  pub room : work_cells ≤ length work
  pub few : values ≤ max_store

abbrev pub FormPost : List ℕ → List ℕ → Text → ℕ → ℕ → ℕ → ℕ → Form → Type 0
FormPost work text x h values capacity owner r =
    Formed work text x h values (replaced (bound_of capacity) values)
    (newest_in (bound_of capacity) values) owner r

-- ---- the judgement

-- Bounds alone.
pub record ValuePre (work : List ℕ) (owner values capacity stored : ℕ) : Type 0 where
  pub room : work_cells ≤ length work
  pub low : owner < name_rows
  pub few : values ≤ stored
  pub bound : capacity ≤ max_values + 1
  pub store : stored ≤ max_store

-- The bits by what the judgement answers, and by cells: all numbers that a name gave, or the values
-- that are not replaced.
unfoldable pub value_bits : List ℕ → ℕ → ℕ → ℕ → ℕ → ℕ → Text → Alignment → Bits
value_bits work partition id owner values capacity x a =
    cond (eqb partition own) (hit_bits a 0 (count_in work value_counts owner) id)
    (cond (eqb partition all) (hit_bits a 1 (values - replaced (bound_of capacity) values) id)
    (string_bits 2 x))

-- On every memory.
pub record ValueBounds (x : Text) (values stored : ℕ) (r : ValueAnswer) : Type 0 where
  pub which : r.partition ≤ neither
  pub literal : r.partition ≡ neither → Written x
  pub new : r.joins ≡ true
      → (r.partition ≡ neither) × (values < r.stored) × (r.hash ≡ hash_of x)
  pub unhashed : r.joins ≡ false → r.hash ≡ 0
  pub unnumbered : r.partition ≡ neither → r.id ≡ 0
  pub stored_is : r.stored ≡ stored + cond (eqb r.partition neither) (length x) 0
  pub store : r.stored ≤ max_store

-- Memory holds the values of the rows, and the numbers are those of their settings.
pub record ValuesMeant (work text : List ℕ) (values longest capacity : ℕ) (w : Rows) : Type 0
  where
    pub stand : ValuesStand work text (length text) values (replaced w.capacity values)
        (newest_in w.capacity values) w.values w.capacity
    pub longest-is : bound_of longest ≡ w.longest
    pub capacity-is : bound_of capacity ≡ w.capacity

pub record ValuePost (text : List ℕ) (x : Text) (owner values longest capacity stored : ℕ)
    (work : List ℕ) (r : ValueAnswer) : Type 0 where
  pub refused : 0 < r.number → r ≡ refused_as r.number stored
  pub bounds : r.number ≡ 0 → ValueBounds x values stored r
  -- w may be ahead of memory in its URIs and names
  pub meant : (w : Rows) → Valid w → Writable w → Few w
      → ValuesMeant work text values longest capacity w
      → owner < length w.names → (place : ℕ)
      → StringMeans (value (name_at w owner)) w
      (value_added r.joins owner w (record { place = place; text = x })) stored x r.number
      r.stored (value_bits work r.partition r.id owner values capacity x)

-- ---- the writing

pub record PutValuePre (stream : List ℕ) (at partition owner values : ℕ) (x : Text)
    (work : List ℕ) : Type 0 where
  pub blank : T (blank_from stream at)
  pub near : at + max_string_bits ≤ farthest
  pub room : work_cells ≤ length work
  pub low : owner < name_rows
  pub few : values ≤ max_store
  pub literal : (partition ≡ own → ⊥) → (partition ≡ all → ⊥) → Written x
