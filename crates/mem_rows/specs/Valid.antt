-- What holds of the rows between events: each refers to rows that are there, no two of a table that
-- are present are the same, the values are within their bounds, and every name was judged when it
-- joined.
use Rattle.std.specs.Prelude.{ℕ, ◌-◌, ◌/◌, ◌%◌, ◌≤◌, ◌<◌, ◌≡◌, true, false, List, length, get_or}
use Rattle.std.proofs.Math.Option.{Option}
use Rattle.spec_exi.specs.Sizes.{max_values}
use Rattle.spec_exi.specs.Tables.{Placed, Entry, local, name_allowed, replaced, is_zero}
use Rattle.mem_entries.specs.Entries.{entry_at, text_at}
use Rattle.mem_names.specs.Uris.{uri_text}
use Rattle.event_code.specs.Numbers.{number_of_se, number_of_at, number_of_ch}
use Rattle.mem_layout.specs.Layout.{fragment_site}
use Rattle.mem_rows.specs.Rows.{Learnt, Rows, name_at, kind_at, carries}

abbrev pub no_learnt : Learnt
no_learnt = record { site = 0; kind = 0; name = 0 }

abbrev pub learnt_at : List Learnt → ℕ → Learnt
learnt_at ls i = get_or ls i no_learnt

-- Every key is below the bound.
pub record KeysBelow (most : ℕ) (es : List (Entry ℕ)) : Type 0 where
  pub below : (i : ℕ) → i < length es → (entry_at es i).key < most

-- The site is the fragment's, or that of a name that is there.
abbrev pub SiteFits : ℕ → ℕ → Type 0
SiteFits names k = (k ≡ fragment_site → ⊥) → k / 2 < names

-- A learned production is SE, AT, EE or CH, stands at a site that is there, AT in a start tag and
-- SE alone in a fragment's content, and carries the name of a row, or 0.
pub record LearntFits (names : ℕ) (l : Learnt) : Type 0 where
  pub site : SiteFits names l.site
  pub alone : l.site ≡ fragment_site → l.kind ≡ number_of_se
  pub from : number_of_se ≤ l.kind
  pub up_to : l.kind ≤ number_of_ch
  pub tag : l.kind ≡ number_of_at → l.site % 2 ≡ 1
  pub name : l.name < names
  pub plain : carries (kind_at l.kind) ≡ false → l.name ≡ 0

pub record Refers (w : Rows) : Type 0 where
  pub names : KeysBelow (length w.uris) w.names
  pub values : KeysBelow (length w.names) w.values
  pub learned : (i : ℕ) → i < length w.learned
      → LearntFits (length w.names) (learnt_at w.learned i)
  pub grammars : (i : ℕ) → i < length w.grammars → get_or w.grammars i 0 < length w.names
  pub attributes : (i : ℕ) → i < length w.attributes
      → get_or w.attributes i 0 < length w.names

-- How many values are replaced (EXI 7.3.3; P5).
abbrev pub gone_in : Rows → ℕ
gone_in w = replaced w.capacity (length w.values)

-- Of n values none has joined under a capacity of zero, and no more are present than the size (P5).
pub record Windowed (cap : Option ℕ) (n : ℕ) : Type 0 where
  pub closed : is_zero cap ≡ true → n ≡ 0
  pub few : n - replaced cap n ≤ max_values

-- Strict reading and writing keep entries apart.
pub record Distinct (w : Rows) : Type 0 where
  pub uris : (i j : ℕ) → i < length w.uris → j < length w.uris
      → uri_text w.uris i ≡ uri_text w.uris j → i ≡ j
  pub names : (i j : ℕ) → i < length w.names → j < length w.names
      → name_at w i ≡ name_at w j → i ≡ j
  -- of the values those that are not replaced
  pub values : (i j : ℕ) → gone_in w ≤ i → i < length w.values → gone_in w ≤ j
      → j < length w.values → text_at w.values i ≡ text_at w.values j → i ≡ j
  pub learned : (i j : ℕ) → i < length w.learned → j < length w.learned
      → learnt_at w.learned i ≡ learnt_at w.learned j → i ≡ j
  pub grammars : (i j : ℕ) → i < length w.grammars → j < length w.grammars
      → get_or w.grammars i 0 ≡ get_or w.grammars j 0 → i ≡ j

-- Every name may be an element's.
pub record Judged (w : Rows) : Type 0 where
  pub names : (n : ℕ) → n < length w.names
      → name_allowed (local false (name_at w n).uri) (name_at w n).local ≡ true

pub record Valid (w : Rows) : Type 0 where
  pub refers : Refers w
  pub window : Windowed w.capacity (length w.values)
  pub distinct : Distinct w
  pub judged : Judged w
