-- What judging and writing the local name of a qualified name asks and leaves (EXI 7.3.3).
use Rattle.std.specs.Prelude.{ℕ, ◌+◌, ◌*◌, ◌≤◌, ◌<◌, ◌≡◌, Bool, true, false, cond, List, [], ◌∷◌, ◌++◌, length, T, ltb}
use Rattle.spec_fields.specs.Bits.{Bits}
use Rattle.spec_fields.specs.Field.{Alignment}
use Rattle.spec_fields.specs.Refusal.{name, limit}
use Rattle.text.specs.Text.{Text}
use Rattle.spec_exi.specs.Sizes.{max_string, max_store, max_names}
use Rattle.spec_exi.specs.Tables.{Placed, local, name_allowed, string_bits}
use Rattle.spec_exi.specs.Writer.{first_failed}
use Rattle.mem_layout.specs.Layout.{name_counts, uri_rows, name_rows, work_cells}
use Rattle.mem_index.specs.Index.{count_in}
use Rattle.mem_entries.specs.Texts.{hash_of}
use Rattle.mem_entries.specs.Entries.{key_at, text_at}
use Rattle.mem_names.specs.Uris.{uri_text}
use Rattle.mem_names.specs.Names.{NamesHold, name_in}
use Rattle.mem_rows.specs.Rows.{Rows}
use Rattle.mem_rows.specs.Valid.{Valid}
use Rattle.mem_state.specs.Strung.{name_added}
use Rattle.write_field.specs.Written.{blank_from, farthest}
use Rattle.write_partition.specs.Writable.{Written, Writable, Few, tables_in, name_source}
use Rattle.write_partition.specs.Judged.{StringAnswer, fault_number, literal_tests, refused_as, literal_as}
use Rattle.write_partition.specs.Judged.{StringMeans, IsHit}
use Rattle.write_partition.specs.Bits.{hit_bits}
use Rattle.write_string.specs.Fits.{max_string_bits}

-- ---- a literal

pub record NewNamePre (x : Text) (names stored : ℕ) : Type 0 where
  pub store : stored ≤ max_store
  pub short : length x ≤ max_string

pub record NewNamePost (attr : Bool) (u x : Text) (names stored h : ℕ) (r : StringAnswer) : Type 0
  where
    pub number_is : r.number
        ≡ fault_number (first_failed (literal_tests x stored
        ++ ((name_allowed (local attr u) x, name) ∷ (ltb names max_names, limit) ∷ [])))
    pub refused : 0 < r.number → r ≡ refused_as r.number stored
    pub judged : r.number ≡ 0 → r ≡ literal_as names stored (length x) true h

-- ---- the judgement

-- Bounds alone.
pub record NamePre (work : List ℕ) (names uri stored : ℕ) : Type 0 where
  pub room : work_cells ≤ length work
  pub few : names ≤ max_names
  pub low : uri < uri_rows
  pub store : stored ≤ max_store

-- The bits by what the judgement answers, and by cells.
unfoldable pub name_bits : List ℕ → ℕ → ℕ → Bool → Text → Alignment → Bits
name_bits work uri row joins x a =
    cond joins (string_bits 1 x)
    (hit_bits a 0 (count_in work name_counts uri) (name_in work row).number)

-- On every memory.
pub record NameBounds (x : Text) (names stored : ℕ) (r : StringAnswer) : Type 0 where
  pub old : r.joins ≡ false → r.row < names
  pub new : r.joins ≡ true
      → (r.row ≡ names) × (names < max_names) × Written x × (r.hash ≡ hash_of x)
  pub unhashed : r.joins ≡ false → r.hash ≡ 0
  pub stored_is : r.stored ≡ stored + cond r.joins (length x) 0
  pub store : r.stored ≤ max_store

-- Where memory holds the names of w: x is the local name in its row of the rows after it.
pub record NameMeans (attr : Bool) (w v : Rows) (uri stored : ℕ) (u x : Text) (work : List ℕ)
    (r : StringAnswer) : Type 0 where
  pub string : StringMeans (local attr u) w v stored x r.number r.stored
      (name_bits work uri r.row r.joins x)
  pub row : r.number ≡ 0 → r.row < length v.names
  pub key : r.number ≡ 0 → key_at v.names r.row ≡ uri
  pub text : r.number ≡ 0 → text_at v.names r.row ≡ x
  pub hit : r.number ≡ 0 → r.joins ≡ false → IsHit (tables_in w stored) (local attr u) x

pub record NamePost (opening text : List ℕ) (attr : Bool) (uri : ℕ) (u x : Text) (names stored : ℕ)
    (work : List ℕ) (r : StringAnswer) : Type 0 where
  pub refused : 0 < r.number → r ≡ refused_as r.number stored
  pub bounds : r.number ≡ 0 → NameBounds x names stored r
  -- w may be ahead of memory in its URIs
  pub meant : (w : Rows) → Valid w → Writable w → Few w
      → NamesHold work (name_source opening text) names w.names → uri < length w.uris
      → uri_text w.uris uri ≡ u → (place : ℕ)
      → NameMeans attr w (name_added r.joins uri w (record { place = place; text = x })) uri
      stored u x work r

-- ---- the writing

pub record PutNamePre (stream : List ℕ) (at uri row : ℕ) (joins : Bool) (x : Text) (work : List ℕ)
    : Type 0 where
  pub blank : T (blank_from stream at)
  pub near : at + max_string_bits ≤ farthest
  pub room : work_cells ≤ length work
  pub low : uri < uri_rows
  pub row_low : row < name_rows
  pub new : joins ≡ true → Written x
