-- The learned production that fits an event: what is asked, and what the answers say.
use Rattle.std.specs.Prelude.{ℕ, suc, ◌-◌, ◌≤◌, ◌<◌, ◌≡◌, true, false, cond, ◌||◌, List, length, ltb}
use Rattle.std.proofs.Math.Option.{none, some}
use Rattle.text.specs.Text.{Text}
use Rattle.spec_exi.specs.Event.{Event, kind_of, name_of}
use Rattle.spec_exi.specs.Sizes.{max_learned}
use Rattle.spec_exi.specs.Grammar.{kind_number, first_fit}
use Rattle.mem_layout.specs.Layout.{name_rows, work_cells}
use Rattle.mem_index.specs.Index.{tally, has_key, found_in}
use Rattle.mem_learned.specs.Learned.{site_of_row, name_index, name_code, LearnedHold, production_in}
use Rattle.mem_learned.specs.Learned.{part_in, CountedAt}
use Rattle.mem_rows.specs.Rows.{Rows, name_at, carries, production_of}
use Rattle.mem_rows.specs.Valid.{learnt_at, LearntFits, Valid}
use Rattle.mem_state.specs.Holds.{taught_in, Ahead}
use Rattle.event_code.specs.Numbers.{in_fragment, number_of_se, number_of_ch}
use Rattle.grammar_match.specs.Here.{site_in, CodeRows, learned_here}

-- ---- by kind and name

pub record FindPre (work : List ℕ) (top name learned : ℕ) : Type 0 where
  pub room : work_cells ≤ length work
  pub low : top < name_rows
  pub name_low : name < name_rows
  pub few : learned ≤ max_learned

-- Only SE, AT, EE and CH are learned, and nothing in the document's own states.
unfoldable pub found_here : List ℕ → ℕ → ℕ → ℕ → ℕ → ℕ → ℕ
found_here work mode top kind name learned =
    cond (ltb mode in_fragment || ltb kind number_of_se || ltb number_of_ch kind) 0
    (found_in work name_index learned 0 (name_code (site_in mode top) kind name))

-- The event's name has this row in v, which has the rows of memory and the event's own strings.
pub record NamedBy (v : Rows) (e : Event Text) (name : ℕ) : Type 0 where
  pub low : carries (kind_of e) ≡ true → name < length v.names
  pub is : carries (kind_of e) ≡ true → name_of e ≡ some (name_at v name)
  pub nameless : carries (kind_of e) ≡ false → name ≡ 0

-- How many productions of its site are newer than the one in row g.
unfoldable pub newer_in : Rows → ℕ → ℕ
newer_in w g =
    let mine = has_key (site_of_row (taught_in w)) (learnt_at w.learned g).site in
    tally mine (length (taught_in w)) - 1 - tally mine g

-- The first that fits is the one in row g.
pub record FitsAt (w : Rows) (mode top name_row : ℕ) (opened : List ℕ) (e : Event Text) (g : ℕ)
    : Type 0 where
  pub learns : in_fragment ≤ mode
  pub inside : g < length w.learned
  pub fit : LearntFits (length w.names) (learnt_at w.learned g)
  pub site : (learnt_at w.learned g).site ≡ site_in mode top
  pub kind : (learnt_at w.learned g).kind ≡ kind_number (kind_of e)
  pub name : (learnt_at w.learned g).name ≡ name_row
  pub first : first_fit (learned_here w mode opened) e
      ≡ some (newer_in w g, production_of w (learnt_at w.learned g))

-- r is 0, or such a row and 1.
pub record Finds (w : Rows) (mode top name_row : ℕ) (opened : List ℕ) (e : Event Text) (r : ℕ)
    : Type 0 where
  pub miss : r ≡ 0 → first_fit (learned_here w mode opened) e ≡ none
  pub hit : (g : ℕ) → r ≡ suc g → FitsAt w mode top name_row opened e g

pub record FoundHere (work : List ℕ) (mode top kind name learned r : ℕ) : Type 0 where
  pub is : r ≡ found_here work mode top kind name learned
  pub within : r ≤ learned
  pub means : (w v : Rows) (opened : List ℕ) (e : Event Text) → Valid w → Valid v → Ahead w v
      → CodeRows work learned mode top w opened → kind_number (kind_of e) ≡ kind → NamedBy v e name
      → Finds w mode top name opened e r
  -- no learned production of the site has this kind and name
  pub fresh : (w : Rows) → LearnedHold work learned (taught_in w) → in_fragment ≤ mode
      → number_of_se ≤ kind → kind ≤ number_of_ch → r ≡ 0 → (i : ℕ) → i < length w.learned
      → learnt_at w.learned i
      ≡ record { site = site_in mode top; kind = kind; name = name } → ⊥

-- ---- its part

pub record PartPre (work : List ℕ) (row : ℕ) : Type 0 where
  pub room : work_cells ≤ length work
  pub some : 0 < row
  pub few : row ≤ max_learned

pub record PartHere (work : List ℕ) (row count r : ℕ) : Type 0 where
  pub is : r ≡ part_in count (production_in work (row - 1)).number
  pub few : r ≤ count
  pub means : (w : Rows) (learned g : ℕ) → LearnedHold work learned (taught_in w) → row ≡ suc g
      → g < length w.learned → CountedAt work (learnt_at w.learned g).site count
      → (r ≡ newer_in w g) × (r < count)
