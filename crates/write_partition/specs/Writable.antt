-- What the writer knows of the rows besides: every text was judged when it joined.
use Rattle.std.specs.Prelude.{ℕ, ◌-◌, ◌≤◌, ◌<◌, ◌≡◌, true, List, length, replicate, ltb, cond}
use Rattle.text.specs.Text.{Text, all_chars}
use Rattle.spec_exi.specs.Sizes.{max_string, max_uris, max_names, max_values}
use Rattle.spec_exi.specs.Tables.{Tables}
use Rattle.mem_entries.specs.Texts.{Source, up_to}
use Rattle.mem_entries.specs.Entries.{text_at}
use Rattle.mem_layout.specs.Layout.{opening_uris, opening_names}
use Rattle.mem_names.specs.Uris.{uri_text}
use Rattle.mem_rows.specs.Rows.{Rows, tables_of}
use Rattle.mem_rows.specs.Valid.{gone_in}

-- A text that may be written: not too long, and Chars alone.
pub record Written (x : Text) : Type 0 where
  pub short : length x ≤ max_string
  pub chars : all_chars x ≡ true

pub record Writable (w : Rows) : Type 0 where
  pub uris : (i : ℕ) → i < length w.uris → Written (uri_text w.uris i)
  pub names : (i : ℕ) → i < length w.names → Written (text_at w.names i)
  pub values : (i : ℕ) → i < length w.values → Written (text_at w.values i)

-- The tables pass no size; of the values those count that are not replaced.
pub record Few (w : Rows) : Type 0 where
  pub uris : length w.uris ≤ max_uris
  pub names : length w.names ≤ max_names
  pub values : length w.values - gone_in w ≤ max_values

-- The definitions' tables of the rows. The writer keeps no text store: of the definitions' store it
-- knows how many code points it has, and they stand as zeros here.
abbrev pub tables_in : Rows → ℕ → Tables
tables_in w stored = tables_of w (replicate stored 0)

-- Where the texts of rows lie: the initial entries' in the opening text, all others in the list's
-- own store.
unfoldable pub source_of : ℕ → List ℕ → List ℕ → ℕ → Source
source_of first opening text i =
    cond (ltb i first) (up_to opening (length opening)) (up_to text (length text))

abbrev pub uri_source : List ℕ → List ℕ → ℕ → Source
uri_source = source_of opening_uris

abbrev pub name_source : List ℕ → List ℕ → ℕ → Source
name_source = source_of opening_names
