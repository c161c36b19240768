-- The initial entries (EXI, appendix D.1 and D.3) in lent memory, and the rows that it then holds.
use Rattle.std.specs.Prelude.{ℕ, suc, ◌+◌, ◌-◌, ◌≤◌, List, [], ◌∷◌, ◌++◌, map, length, take, drop, replicate}
use Rattle.std.proofs.Math.Option.{Option}
use Rattle.text.specs.Text.{Text, text}
use Rattle.spec_exi.specs.Settings.{bound_of}
use Rattle.spec_exi.specs.Tables.{xml_uri, xsi_uri}
use Rattle.mem_layout.specs.Layout.{zero_from, zero_to, work_cells, opening_uris, opening_names}
use Rattle.mem_entries.specs.Texts.{hash_of}
use Rattle.mem_names.specs.Uris.{with_uri}
use Rattle.mem_names.specs.Names.{with_name}
use Rattle.mem_rows.specs.Rows as rows
use Rattle.mem_rows.specs.Rows.{Rows}
use Rattle.mem_state.specs.declared.Core.{Core}
use Rattle.event_code.specs.Numbers.{in_document}
use Rattle.mem_chain.specs.Chain.{max_count}

-- ---- the entries

unfoldable pub initial_uris : List Text
initial_uris = [] ∷ xml_uri ∷ xsi_uri ∷ []

-- The local names, by the row of their URI.
pub record Local : Type 0 where
  pub uri : ℕ
  pub name : Text

unfoldable pub initial_names : List Local
initial_names =
    record { uri = 1; name = text "base" }
    ∷ record { uri = 1; name = text "id" }
    ∷ record { uri = 1; name = text "lang" }
    ∷ record { uri = 1; name = text "space" }
    ∷ record { uri = 2; name = text "nil" }
    ∷ record { uri = 2; name = text "type" }
    ∷ []

-- Texts, one behind the other.
unfoldable pub together : List Text → Text
together [] = []
together (x ∷ xs) = x ++ together xs

unfoldable pub uris_text : Text
uris_text = together initial_uris

unfoldable pub names_text : Text
names_text = together (map (λ l. l.name) initial_names)

-- What the text store begins with.
unfoldable pub initial_text : Text
initial_text = uris_text ++ names_text

-- Its code points.
abbrev pub initial_size : ℕ
initial_size = 99

-- ---- cells

-- Work memory whose counts are cleared.
unfoldable pub zeroed : List ℕ → List ℕ
zeroed work = take zero_from work ++ replicate (zero_to - zero_from) 0 ++ drop zero_to work

-- The cells with that text at the origin.
unfoldable pub with_text : List ℕ → ℕ → List ℕ
with_text cells origin = take origin cells ++ initial_text ++ drop (origin + initial_size) cells

-- Work memory with these URIs from row n on. Their texts lie one behind the other, the first k code
-- points after the origin.
unfoldable pub with_uris : List ℕ → ℕ → ℕ → ℕ → List Text → List ℕ
with_uris work origin n k [] = work
with_uris work origin n k (x ∷ xs) =
    with_uris (with_uri work n (origin + k) (length x) n) origin (suc n) (k + length x) xs

-- And with these local names.
unfoldable pub with_names : List ℕ → ℕ → ℕ → ℕ → List Local → List ℕ
with_names work origin n k [] = work
with_names work origin n k (l ∷ ls) =
    with_names (with_name work n l.uri (origin + k) (length l.name) (hash_of l.name)) origin
    (suc n) (k + length l.name) ls

unfoldable pub uris_laid : List ℕ → ℕ → List ℕ
uris_laid work origin = with_uris work origin 0 0 initial_uris

unfoldable pub names_laid : List ℕ → ℕ → List ℕ
names_laid work origin = with_names work origin 0 (length uris_text) initial_names

-- Work memory with the initial entries.
unfoldable pub with_rows : List ℕ → ℕ → List ℕ
with_rows work origin = names_laid (uris_laid work origin) origin

pub record LayRowsPre (work : List ℕ) (origin : ℕ) : Type 0 where
  pub room : work_cells ≤ length work
  pub near : origin ≤ max_count

-- ---- the rows that it holds

unfoldable pub plus_uris : Rows → ℕ → ℕ → List Text → Rows
plus_uris w origin k [] = w
plus_uris w origin k (x ∷ xs) =
    plus_uris (rows.with_uri w (record { place = origin + k; text = x })) origin (k + length x) xs

unfoldable pub plus_names : Rows → ℕ → ℕ → List Local → Rows
plus_names w origin k [] = w
plus_names w origin k (l ∷ ls) =
    plus_names (rows.with_name w l.uri (record { place = origin + k; text = l.name })) origin
    (k + length l.name) ls

-- With these settings for values, the longest and the capacity.
abbrev pub no_rows : Option ℕ → Option ℕ → Rows
no_rows longest capacity =
    record {
      uris = [];
      names = [];
      values = [];
      learned = [];
      grammars = [];
      attributes = [];
      longest = longest;
      capacity = capacity;
    }

unfoldable pub initial_rows : Option ℕ → Option ℕ → ℕ → Rows
initial_rows longest capacity origin =
    plus_names (plus_uris (no_rows longest capacity) origin 0 initial_uris) origin (length uris_text)
    initial_names

-- Where the store begins with their texts; the settings as their numbers have them.
abbrev pub start_rows : ℕ → ℕ → Rows
start_rows longest capacity = initial_rows (bound_of longest) (bound_of capacity) 0

-- ---- the numbers at the start of a stream, whose header ends at a position

unfoldable pub start_at : ℕ → ℕ → ℕ → Core
start_at at longest capacity =
    record {
      at = at;
      stored = initial_size;
      uris = opening_uris;
      names = opening_names;
      values = 0;
      learned = 0;
      grammars = 0;
      mode = in_document;
      top = 0;
      depth = 0;
      tag = 1;
      longest = longest;
      capacity = capacity;
    }
