-- What judging and writing the URI of a name asks and leaves (EXI 7.3.2).
use Rattle.std.specs.Prelude.{ℕ, suc, ◌+◌, ◌*◌, ◌≤◌, ◌<◌, ◌≡◌, Bool, true, false, cond, List, [], ◌∷◌, ◌++◌, length, T, ltb}
use Rattle.spec_fields.specs.Bits.{Bits}
use Rattle.spec_fields.specs.Field.{Alignment, choice_bits}
use Rattle.spec_fields.specs.Refusal.{limit}
use Rattle.text.specs.Text.{Text}
use Rattle.spec_exi.specs.Sizes.{max_string, max_store, max_uris}
use Rattle.spec_exi.specs.Tables.{Placed, uri, string_bits}
use Rattle.spec_exi.specs.Writer.{first_failed}
use Rattle.mem_layout.specs.Layout.{uri_rows, work_cells}
use Rattle.mem_names.specs.Uris.{uri_text, UrisHold}
use Rattle.mem_rows.specs.Rows.{Rows}
use Rattle.mem_rows.specs.Valid.{Valid}
use Rattle.mem_state.specs.Strung.{uri_added}
use Rattle.write_field.specs.Written.{blank_from, farthest}
use Rattle.write_partition.specs.Writable.{Written, Writable, Few, tables_in, uri_source}
use Rattle.write_partition.specs.Judged.{StringAnswer, fault_number, literal_tests, refused_as, literal_as}
use Rattle.write_partition.specs.Judged.{StringMeans, IsHit}
use Rattle.write_string.specs.Fits.{max_string_bits}

-- ---- a literal

pub record NewUriPre (x : Text) (uris stored : ℕ) : Type 0 where
  pub store : stored ≤ max_store
  pub short : length x ≤ max_string

-- The first of the tests that are left, or the row after the others.
pub record NewUriPost (x : Text) (uris stored : ℕ) (r : StringAnswer) : Type 0 where
  pub number_is : r.number
      ≡ fault_number (first_failed (literal_tests x stored ++ ((ltb uris max_uris, limit) ∷ [])))
  pub refused : 0 < r.number → r ≡ refused_as r.number stored
  pub judged : r.number ≡ 0 → r ≡ literal_as uris stored (length x) true 0

-- ---- the judgement

-- Bounds alone.
pub record UriPre (work : List ℕ) (uris stored : ℕ) : Type 0 where
  pub room : work_cells ≤ length work
  pub few : uris ≤ max_uris
  pub store : stored ≤ max_store

-- The bits by what the judgement answers.
unfoldable pub uri_bits : ℕ → ℕ → Bool → Text → Alignment → Bits
uri_bits uris row joins x a =
    cond joins (choice_bits a (suc uris) 0 ++ string_bits 0 x) (choice_bits a (suc uris) (suc row))

-- On every memory.
pub record UriBounds (x : Text) (uris stored : ℕ) (r : StringAnswer) : Type 0 where
  pub old : r.joins ≡ false → r.row < uris
  pub new : r.joins ≡ true → (r.row ≡ uris) × (uris < max_uris) × Written x
  pub unhashed : r.hash ≡ 0
  pub stored_is : r.stored ≡ stored + cond r.joins (length x) 0
  pub store : r.stored ≤ max_store

-- Where memory holds the URIs of w: x is the URI in its row of the rows after it.
pub record UriMeans (w v : Rows) (uris stored : ℕ) (x : Text) (r : StringAnswer) : Type 0 where
  pub string : StringMeans uri w v stored x r.number r.stored
      (uri_bits uris r.row r.joins x)
  pub row : r.number ≡ 0 → r.row < length v.uris
  pub text : r.number ≡ 0 → uri_text v.uris r.row ≡ x
  pub hit : r.number ≡ 0 → r.joins ≡ false → IsHit (tables_in w stored) uri x

pub record UriPost (opening text : List ℕ) (x : Text) (uris stored : ℕ) (work : List ℕ)
    (r : StringAnswer) : Type 0 where
  pub refused : 0 < r.number → r ≡ refused_as r.number stored
  pub bounds : r.number ≡ 0 → UriBounds x uris stored r
  -- the place of x may be any
  pub meant : (w : Rows) → Valid w → Writable w → Few w
      → UrisHold work (uri_source opening text) uris w.uris → (place : ℕ)
      → UriMeans w (uri_added r.joins w (record { place = place; text = x })) uris stored x r

-- ---- the writing

pub record PutUriPre (stream : List ℕ) (at uris row : ℕ) (joins : Bool) (x : Text) : Type 0 where
  pub blank : T (blank_from stream at)
  pub near : at + max_string_bits ≤ farthest
  pub few : uris ≤ max_uris
  pub old : joins ≡ false → row < uris
  pub new : joins ≡ true → Written x
