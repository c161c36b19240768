-- What the readers of learned productions ask and leave.
use Rattle.std.specs.Prelude.{ℕ, ◌≤◌, ◌<◌, ◌≡◌, true, cond, List, length}
use Rattle.std.proofs.Math.Option.{some}
use Rattle.std.proofs.Math.ListN.{get_elem?}
use Rattle.spec_fields.specs.Refusal.{number_of, code}
use Rattle.text.specs.Text.{Text}
use Rattle.spec_exi.specs.Event.{Event}
use Rattle.spec_exi.specs.Sizes.{max_learned}
use Rattle.spec_exi.specs.Grammar.{learned_in, fits, first_fit}
use Rattle.mem_layout.specs.Layout.{uri_rows, name_rows, sites, fragment_site, work_cells}
use Rattle.mem_entries.specs.Entries.{key_at}
use Rattle.mem_learned.specs.Learned.{LearnedHold, CountedAt}
use Rattle.event_code.specs.Numbers.{number_of_se, number_of_ch}
use Rattle.mem_rows.specs.Rows.{Learnt, Rows, kind_at, carries, site_at, production_of}
use Rattle.mem_rows.specs.Rows.{learned_of}
use Rattle.mem_rows.specs.Valid.{SiteFits, LearntFits, Valid}
use Rattle.mem_state.specs.Holds.{taught_in}
use Rattle.read_production.specs.View.{ProductionRead, refused_as}

pub record LearnedPre (work : List ℕ) (site learned : ℕ) : Type 0 where
  pub room : work_cells ≤ length work
  pub low : site < sites
  pub few : learned ≤ max_learned

-- The production of this site in w that has v newer ones, by its row: the first that fits each
-- event that it fits.
pub record IsLearned (w : Rows) (site v : ℕ) (r : ProductionRead) : Type 0 where
  pub number : r.number ≡ 0
  pub row : Learnt
  pub fit : LearntFits (length w.names) row
  pub site-is : row.site ≡ site
  pub kind : r.kind ≡ row.kind
  pub name : r.name ≡ row.name
  pub uri : r.uri ≡ cond (carries (kind_at row.kind)) (key_at w.names row.name) 0
  pub local : r.local ≡ row.name
  pub there : get_elem? (learned_in (site_at w site) (learned_of w)) v ≡ some (production_of w row)
  pub first : (e : Event Text) → fits (production_of w row) e ≡ true
      → first_fit (learned_in (site_at w site) (learned_of w)) e ≡ some (v, production_of w row)

pub record LearnedBounds (r : ProductionRead) : Type 0 where
  pub from : number_of_se ≤ r.kind
  pub up_to : r.kind ≤ number_of_ch
  pub name : r.name < name_rows
  pub uri : r.uri < uri_rows
  pub local : r.local < name_rows

pub record LearnedRead (work : List ℕ) (site count v learned at next : ℕ) (r : ProductionRead)
    : Type 0 where
  pub refused : 0 < r.number → r ≡ refused_as (number_of code) at
  pub read : r.number ≡ 0 → (r.learned ≡ true) × (r.next ≡ next)
  pub bounds : r.number ≡ 0 → LearnedBounds r
  pub means : (w : Rows) → Valid w → LearnedHold work learned (taught_in w)
      → SiteFits (length w.names) site → CountedAt work site count → v < count
      → IsLearned w site v r

-- In a fragment's content, where SE alone is learned.
pub record ChildRead (work : List ℕ) (count v learned at next : ℕ) (r : ProductionRead) : Type 0
  where
    pub learned-read : LearnedRead work fragment_site count v learned at next r
    pub element : r.number ≡ 0 → r.kind ≡ number_of_se
