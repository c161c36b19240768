-- The site of the grammar's state, and what is learned there, by memory and by rows.
use Rattle.std.specs.Prelude.{ℕ, ◌≤◌, ◌<◌, ◌≡◌, cond, List, map, length, get_or, eqb, ltb}
use Rattle.std.proofs.Math.Option.{Option}
use Rattle.text.specs.Text.{Text}
use Rattle.spec_exi.specs.Event.{Event}
use Rattle.spec_exi.specs.Settings.{Settings}
use Rattle.spec_exi.specs.Grammar.{Production, Code, site_of, learned_at, code_of}
use Rattle.spec_exi.specs.Context.{levels_in}
use Rattle.mem_layout.specs.Layout.{name_rows, fragment_site, work_cells}
use Rattle.mem_learned.specs.Learned.{LearnedHold, CountedAt}
use Rattle.mem_rows.specs.Rows.{Rows, name_at, site_number, learned_of, state_of, ModeFits, context_of}
use Rattle.mem_state.specs.Holds.{taught_in}
use Rattle.event_code.specs.Numbers.{in_fragment, in_tag}
use Rattle.mem_index.specs.Index.{numbers}

-- ---- memory

-- The number of the site, by the state's and the row of the innermost element's name; outside an
-- element the fragment's.
abbrev pub site_in : ℕ → ℕ → ℕ
site_in mode top = cond (ltb mode in_tag) fragment_site (site_number top (eqb mode in_tag))

pub record SitePre (work : List ℕ) (top : ℕ) : Type 0 where
  pub room : work_cells ≤ length work
  pub low : top < name_rows

pub record CountedHere (work : List ℕ) (mode top r : ℕ) : Type 0 where
  pub outside : mode < in_fragment → r ≡ 0
  pub counted : in_fragment ≤ mode → CountedAt work (site_in mode top) r
  pub few : r ≤ numbers

-- ---- rows

-- Memory holds the learned productions of w; these elements are open, the innermost first.
pub record CodeRows (work : List ℕ) (learned mode top : ℕ) (w : Rows) (opened : List ℕ)
    : Type 0 where
  pub hold : LearnedHold work learned (taught_in w)
  pub fits : ModeFits mode (length opened)
  pub rows : (i : ℕ) → i < length opened → get_or opened i 0 < length w.names
  pub topped : 0 < length opened → get_or opened 0 0 ≡ top
  pub low : top < name_rows

-- What is learned in the state.
abbrev pub learned_here : Rows → ℕ → List ℕ → List Production
learned_here w mode opened =
    learned_at (site_of (state_of mode (map (name_at w) opened))) (learned_of w)

-- The code of an event there.
abbrev pub code_here : Settings → Rows → Text → ℕ → List ℕ → Event Text → Option Code
code_here s w store mode opened e = code_of (levels_in s (context_of w store mode opened)) e
