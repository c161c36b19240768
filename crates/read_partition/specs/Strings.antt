-- What reading a string leaves: of every memory outright, and by the definitions where memory holds
-- rows. A string function reads its own table alone. So its contract speaks of every w whose rows
-- of this table memory holds, also of one that is ahead of memory by the URI and the name of the
-- same event.
use Rattle.std.specs.Prelude.{ℕ, ◌+◌, ◌*◌, ◌≤◌, ◌<◌, ◌≡◌, Bool, true, false, List, [], ◌++◌, length, take, replicate}
use Rattle.spec_fields.specs.Refusal.{character, loose, name, limit}
use Rattle.spec_fields.specs.Parser.{Parser, return, need, ◌>>=◌, ◌>>◌}
use Rattle.spec_fields.specs.Field.{Alignment}
use Rattle.text.specs.Text.{Text, part}
use Rattle.spec_exi.specs.Settings.{Settings}
use Rattle.spec_exi.specs.Sizes.{sizes, max_store}
use Rattle.spec_exi.specs.Tables.{Placed, Slot, Tables, Role, partitions_of, Form, eq_form, form_of}
use Rattle.spec_exi.specs.Tables.{tables_after, name_allowed, text_allowed}
use Rattle.spec_exi.specs.Lists.{within_tables}
use Rattle.spec_exi.specs.Reader.{read_character, read_literal, read_hit, read_string}
use Rattle.mem_entries.specs.Texts.{hash_of}
use Rattle.mem_rows.specs.Rows.{Rows, tables_of}
use Rattle.mem_rows.specs.Valid.{Valid}
use Rattle.read_contract.specs.Outcome.{Outcome}
use Rattle.read_literal.specs.Awaits.{Waits}
use Rattle.read_literal.specs.Literal.{laid_at, Cleared}
pub use Rattle.read_partition.specs.View.{StringRead, refused_as}

abbrev pub found_as : ℕ → ℕ → ℕ → ℕ → ℕ → StringRead
found_as next place size row stored =
    record {
      number = 0;
      next = next;
      left = 0;
      place = place;
      size = size;
      row = row;
      stored = stored;
      joins = false;
      hash = 0;
    }

-- A literal of n code points after the store.
abbrev pub literal_as : ℕ → ℕ → ℕ → ℕ → Bool → ℕ → StringRead
literal_as next stored n row joins hash =
    record {
      number = 0;
      next = next;
      left = 0;
      place = stored;
      size = n;
      row = row;
      stored = stored + n;
      joins = joins;
      hash = hash;
    }

-- ---- on every memory

-- A refusal answers its number and where it stopped, and clears what it laid.
pub record Refused (text : List ℕ) (stored : ℕ) (text' : List ℕ) (r : StringRead) : Type 0 where
  pub is : r ≡ refused_as r.number r.next r.left stored
  pub cleared : Cleared text stored text'

-- A refusal of n code points that lie after the store.
pub record Dropped (number next n stored : ℕ) (text text' : List ℕ) (r : StringRead) : Type 0 where
  pub is : r ≡ refused_as number next 0 stored
  pub text-is : text' ≡ laid_at text stored (replicate n 0)

-- What was laid after the store: nothing for a hit. A string that joins is what was laid.
pub record Laid (text : List ℕ) (stored : ℕ) (text' : List ℕ) (r : StringRead) : Type 0 where
  pub x : Text
  pub text-is : text' ≡ laid_at text stored x
  pub stored_is : r.stored ≡ stored + length x
  pub room : r.stored ≤ max_store
  pub whole : r.left ≡ 0
  pub place : r.joins ≡ true → r.place ≡ stored
  pub size : r.joins ≡ true → r.size ≡ length x

-- A string that is found by its hash: where it joins, the hash is that of its text.
pub record Hashed (text : List ℕ) (r : StringRead) : Type 0 where
  pub is : r.joins ≡ true
      → r.hash ≡ hash_of (part text (record { place = r.place; size = r.size }))

-- ---- by the definitions

-- The rows w, and the first cells of the text as their store: tables within the sizes.
pub record Tabled (text : List ℕ) (stored : ℕ) (w : Rows) (store : Text) : Type 0 where
  pub valid : Valid w
  pub is : take stored text ≡ store
  pub size : length store ≡ stored
  pub within : within_tables sizes (tables_of w store) ≡ true

-- v is the string and the tables after it; the rows grow by it where it joins.
pub record Means (join : Rows → Placed → Rows) (w : Rows) (store : Text) (text : List ℕ)
    (stored : ℕ) (text' : List ℕ) (r : StringRead) (v : Placed × Tables) : Type 0 where
  pub laid : Laid text stored text' r
  pub place : r.place ≡ v.0.place
  pub size : r.size ≡ length v.0.text
  pub found : part text' (record { place = r.place; size = r.size }) ≡ v.0.text
  pub old : r.joins ≡ false → v.1 ≡ tables_of w (store ++ laid.x)
  pub new : r.joins ≡ true
      → (v.0.text ≡ laid.x) × (v.1 ≡ tables_of (join w v.0) (store ++ laid.x))
  pub valid : r.joins ≡ true → Valid (join w v.0)

-- What stands after a string's form v: CHARACTER for a comment or an instruction's text, LOOSE,
-- NAME, then its table's limit (`read_string`).
unfoldable pub judge : Tables → Role → Form × Placed → Parser (Placed × Tables)
judge t r v = do
  need (text_allowed r v.1.text) character
  need (eq_form v.0 (form_of (partitions_of t r) v.1.text)) loose
  need (name_allowed r v.1.text) name
  need (within_tables sizes (tables_after t r v.0 v.1.text)) limit
  return (v.1, tables_after t r v.0 v.1.text)

-- A whole string, and what is left of one where a hit, or a literal of n code points, is to be
-- read.
abbrev pub Reading : Type 0
Reading = Settings → Tables → Parser (Placed × Tables)

abbrev pub as_string : Role → Reading
as_string r s t = read_string sizes s t r

abbrev pub as_hit : Role → ℕ → List Slot → Reading
as_hit r j es s t = read_hit sizes s j es >>= judge t r

abbrev pub as_literal : Role → ℕ → Reading
as_literal r n s t = read_literal sizes s t n >>= judge t r

-- What a reading of the definitions over the tables of any rows comes to, where the premise on
-- memory and rows holds; and what holds on every memory.
pub record StringPost (a : Alignment) (Premise : Rows → Type 0) (read : Rows → Text → Reading)
    (join : Rows → Placed → Rows) (stream : List ℕ) (at : ℕ) (text : List ℕ) (stored : ℕ)
    (text' : List ℕ) (r : StringRead) : Type 0 where
  pub inside : r.next ≤ 8 * length stream
  pub refused : 0 < r.number → Refused text stored text' r
  pub laid : r.number ≡ 0 → Laid text stored text' r
  pub meant : (s : Settings) → s.alignment ≡ a → (w : Rows) (store : Text)
      → Tabled text stored w store → Premise w
      → Outcome (read w store s (tables_of w store)) stream at r.number r.next
      (Means join w store text stored text' r)
  pub waits : 0 < r.left → (s : Settings) → s.alignment ≡ a → (w : Rows) (store : Text)
      → Tabled text stored w store → Premise w
      → Waits (read_character s) (read w store s (tables_of w store)) stream at r.next r.left
