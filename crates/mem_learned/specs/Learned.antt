-- Learned productions in work memory, and what they are in the definitions.
use Rattle.std.specs.Prelude.{ℕ, zero, suc, ◌+◌, ◌-◌, ◌*◌, ◌/◌, ◌%◌, ◌≤◌, ◌<◌, ◌≡◌, Bool, true, false, cond, ◌&&◌, ◌||◌, List, [], ◌∷◌, length, get_or, set, eqb, ltb}
use Rattle.std.proofs.Math.Option.{none, some}
use Rattle.text.specs.Text.{Text}
use Rattle.spec_exi.specs.Event.{QName, Event, Kind, CH, kind_of, name_of}
use Rattle.spec_exi.specs.Tables.{Placed, name_text}
use Rattle.spec_exi.specs.Grammar.{Production, kind_number, Site, tag_of, content_of, fragment}
use Rattle.spec_exi.specs.Grammar.{Learned}
use Rattle.event_code.specs.Numbers.{number_of_se, number_of_at, kinds}
use Rattle.mem_layout.specs.Layout.{learned_name_heads, learned_code_heads, learned_counts}
use Rattle.mem_layout.specs.Layout.{learned_buckets}
use Rattle.mem_layout.specs.Layout.{learned_name_codes, learned_name_nexts, learned_codes}
use Rattle.mem_layout.specs.Layout.{learned_code_nexts, learned_uri_rows, learned_name_rows, learned_rows}
use Rattle.mem_layout.specs.Layout.{uri_rows, name_rows, sites, fragment_site, work_cells}
use Rattle.mem_chain.specs.Chain.{last_that, below}
use Rattle.mem_index.specs.declared.Index.{Index}
use Rattle.mem_index.specs.Index.{numbers, tally, has_key, number_at, is_numbered, Coded, Numbered}
use Rattle.mem_index.specs.Index.{count_in, nth_in, found_in, entered, joined}
use Rattle.mem_learned.specs.declared.Production as cells

-- ---- the list, in the order of learning

pub record Taught : Type 0 where
  pub site : ℕ
  pub kind : Kind
  -- the first row of its name, 0 where it has none
  pub name : ℕ
  -- the rows that named it
  pub uri_row : ℕ
  pub name_row : ℕ

abbrev pub no_row : Taught
no_row = record { site = 0; kind = CH; name = 0; uri_row = 0; name_row = 0 }

unfoldable pub row_at : List Taught → ℕ → Taught
row_at rs i = get_or rs i no_row

abbrev pub site_of_row : List Taught → ℕ → ℕ
site_of_row rs i = (row_at rs i).site

-- Site, kind and name in one number.
unfoldable pub name_code : ℕ → ℕ → ℕ → ℕ
name_code site kind name = site * numbers + kind * name_rows + name

abbrev pub name_code_at : List Taught → ℕ → ℕ
name_code_at rs i = name_code (row_at rs i).site (kind_number (row_at rs i).kind) (row_at rs i).name

-- Row i has this site, kind and name.
unfoldable pub is_row : List Taught → ℕ → ℕ → ℕ → ℕ → Bool
is_row rs site kind name i =
    eqb site (site_of_row rs i)
    && (eqb kind (kind_number (row_at rs i).kind) && eqb name (row_at rs i).name)

-- ---- cells

-- By site and number.
abbrev pub site_index : Index
site_index =
    record {
      heads = learned_code_heads;
      size = learned_buckets;
      codes = learned_codes;
      nexts = learned_code_nexts;
      ring = learned_rows;
    }

-- By site, kind and name.
abbrev pub name_index : Index
name_index =
    record {
      heads = learned_name_heads;
      size = learned_buckets;
      codes = learned_name_codes;
      nexts = learned_name_nexts;
      ring = learned_rows;
    }

-- Work memory has these n learned productions.
pub record LearnedHold (work : List ℕ) (n : ℕ) (rs : List Taught) : Type 0 where
  pub room : work_cells ≤ length work
  pub count : length rs ≡ n
  pub few : n ≤ learned_rows
  pub names : (i : ℕ) → i < n → (row_at rs i).name < name_rows
  pub uri_row : (i : ℕ) → i < n → get_or work (learned_uri_rows + i) 0 ≡ (row_at rs i).uri_row
  pub uri_low : (i : ℕ) → i < n → (row_at rs i).uri_row < uri_rows
  pub name_row : (i : ℕ) → i < n → get_or work (learned_name_rows + i) 0 ≡ (row_at rs i).name_row
  pub name_low : (i : ℕ) → i < n → (row_at rs i).name_row < name_rows
  pub by_site : Numbered work site_index learned_counts sites (site_of_row rs) n
  pub by_name : Coded work name_index (name_code_at rs) n

unfoldable pub production_in : List ℕ → ℕ → cells.Production
production_in work row =
    record {
      kind = get_or work (learned_name_codes + row) 0 % numbers / name_rows;
      name = get_or work (learned_name_codes + row) 0 % name_rows;
      number = get_or work (learned_codes + row) 0 % numbers;
      uri = below uri_rows (get_or work (learned_uri_rows + row) 0);
      local = below name_rows (get_or work (learned_name_rows + row) 0);
    }

-- How many of its site are newer than the production with this number, of count in all.
unfoldable pub part_in : ℕ → ℕ → ℕ
part_in count number = cond (ltb number count) (count - 1 - number) 0

unfoldable pub newest_in : List ℕ → ℕ → ℕ → ℕ → ℕ → ℕ
newest_in work site count v n =
    cond (ltb v count) (nth_in work site_index site (count - 1 - v) n 0) 0

unfoldable pub with_rows : List ℕ → ℕ → ℕ → ℕ → List ℕ
with_rows work n uri_row name_row =
    set (set work (learned_uri_rows + n) uri_row) (learned_name_rows + n) name_row

-- Work memory with production n.
unfoldable pub with_learned : List ℕ → ℕ → ℕ → ℕ → ℕ → ℕ → ℕ → List ℕ
with_learned work n site kind name uri_row name_row =
    joined (entered (with_rows work n uri_row name_row) name_index n (name_code site kind name))
    site_index
    learned_counts n site

-- ---- in the definitions

-- The newest first.
unfoldable pub newest_first : {A : Type 0} → (ℕ → A) → ℕ → List A
newest_first f zero = []
newest_first f (suc n) = f n ∷ newest_first f n

-- The site of a number, where rows have these names.
unfoldable pub site_at : (ℕ → QName Text) → ℕ → Site
site_at name s =
    cond (eqb s fragment_site) fragment
    (cond (eqb (s % 2) 1) (tag_of (name (s / 2))) (content_of (name (s / 2))))

-- The site is the fragment's, or that of a key.
abbrev pub SiteKnown : (ℕ → Bool) → ℕ → Type 0
SiteKnown is_key s = (s ≡ fragment_site → ⊥) → is_key (s / 2) ≡ true

-- The names of these kinds are carried.
unfoldable pub is_named : Kind → Bool
is_named k = eqb (kind_number k) number_of_se || eqb (kind_number k) number_of_at

-- The production of a row, where its name lies there.
unfoldable pub production_of : (ℕ → ℕ → QName Placed) → Taught → Production
production_of place r =
    record {
      kind = r.kind;
      qname = cond (is_named r.kind) (some (place r.uri_row r.name_row)) none;
    }

unfoldable pub learned_of : (ℕ → QName Text) → (ℕ → ℕ → QName Placed) → Taught → Learned
learned_of name place r =
    record { site = site_at name r.site; production = production_of place r }

-- The definitions' list has these rows. A row's name has the texts of the rows that named it, and
-- it and the site's, if any, are keys.
pub record Learns (name : ℕ → QName Text) (is_key : ℕ → Bool) (place : ℕ → ℕ → QName Placed)
    (ls : List Learned) (rs : List Taught) : Type 0 where
  pub list : ls ≡ newest_first (λ i. learned_of name place (row_at rs i)) (length rs)
  pub site : (i : ℕ) → i < length rs → SiteKnown is_key (site_of_row rs i)
  pub key : (i : ℕ) → i < length rs → is_named (row_at rs i).kind ≡ true
      → is_key (row_at rs i).name ≡ true
  pub named : (i : ℕ) → i < length rs → is_named (row_at rs i).kind ≡ true
      → name_text (place (row_at rs i).uri_row (row_at rs i).name_row) ≡ name (row_at rs i).name
  pub unnamed : (i : ℕ) → i < length rs → is_named (row_at rs i).kind ≡ false → (row_at rs i).name ≡ 0

-- An event's name is that of row j, where it has one.
pub record Meant (name : ℕ → QName Text) (is_key : ℕ → Bool) (e : Event Text) (j : ℕ) : Type 0 where
  pub named : is_named (kind_of e) ≡ true → name_of e ≡ some (name j)
  pub key : is_named (kind_of e) ≡ true → is_key j ≡ true
  pub unnamed : is_named (kind_of e) ≡ false → j ≡ 0

-- ---- what the functions ask: bounds only

pub record SitedPre (work : List ℕ) (site n : ℕ) : Type 0 where
  pub room : work_cells ≤ length work
  pub low : site < sites
  pub few : n ≤ learned_rows

pub record FindRowPre (work : List ℕ) (site kind name n : ℕ) : Type 0 where
  pub room : work_cells ≤ length work
  pub low : site < sites
  pub kind_low : kind < kinds
  pub name_low : name < name_rows
  pub few : n ≤ learned_rows

pub record LearnedRowPre (work : List ℕ) (row : ℕ) : Type 0 where
  pub room : work_cells ≤ length work
  pub low : row < learned_rows

pub record AddRowPre (work : List ℕ) (n site kind name : ℕ) : Type 0 where
  pub room : work_cells ≤ length work
  pub few : n < learned_rows
  pub low : site < sites
  pub kind_low : kind < kinds
  pub name_low : name < name_rows

-- ---- what they answer: what the cells say and bounds, on any memory; the meaning where memory is
-- a
-- table

pub record CountedAt (work : List ℕ) (site r : ℕ) : Type 0 where
  pub is : r ≡ count_in work learned_counts site
  pub within : r ≤ numbers
  pub count : (n : ℕ) (rs : List Taught) → LearnedHold work n rs
      → r ≡ tally (has_key (site_of_row rs) site) n

pub record NthLearned (work : List ℕ) (site count v n r : ℕ) : Type 0 where
  pub is : r ≡ newest_in work site count v n
  pub within : r ≤ n
  pub means : (rs : List Taught) → LearnedHold work n rs → v < count
      → r ≡ last_that (is_numbered (site_of_row rs) site (count - 1 - v)) n

pub record FoundLearned (work : List ℕ) (site kind name n r : ℕ) : Type 0 where
  pub is : r ≡ found_in work name_index n 0 (name_code site kind name)
  pub within : r ≤ n
  pub means : (rs : List Taught) → LearnedHold work n rs → r ≡ last_that (is_row rs site kind name) n

pub record IsProduction (rs : List Taught) (i : ℕ) (r : cells.Production) : Type 0 where
  pub kind : r.kind ≡ kind_number (row_at rs i).kind
  pub name : r.name ≡ (row_at rs i).name
  pub number : r.number ≡ number_at (site_of_row rs) i
  pub uri_row : r.uri ≡ (row_at rs i).uri_row
  pub name_row : r.local ≡ (row_at rs i).name_row

pub record ProductionAt (work : List ℕ) (row : ℕ) (r : cells.Production) : Type 0 where
  pub is : r ≡ production_in work row
  pub kind_low : r.kind < numbers / name_rows
  pub name_low : r.name < name_rows
  pub small : r.number < numbers
  pub uri_row_low : r.uri < uri_rows
  pub name_row_low : r.local < name_rows
  pub means : (n : ℕ) (rs : List Taught) → LearnedHold work n rs → row < n → IsProduction rs row r
