-- What an event leaves in the grammars, by the rows with its strings.
use Rattle.std.specs.Prelude.{ℕ, ◌<◌, ◌≡◌, Bool, true, ◌&&◌, not, length, eqb}
use Rattle.spec_exi.specs.Event.{SE}
use Rattle.spec_exi.specs.Grammar.{kind_number}
use Rattle.mem_layout.specs.Layout.{uri_rows, name_rows, learned_rows, sites}
use Rattle.mem_rows.specs.Rows.{Learnt, Rows, kind_at, is_among}
use Rattle.mem_state.specs.declared.Core.{Core}
use Rattle.mem_state.specs.declared.Growth.{Growth}
use Rattle.mem_state.specs.Holds.{taught_of}

-- The production that is learned.
abbrev pub learnt_of : Growth → Learnt
learnt_of g = record { site = g.site; kind = g.kind; name = g.name }

-- A start element's name gets a grammar where it has none.
abbrev pub enters_in : Rows → ℕ → ℕ → Bool
enters_in v kind n = eqb kind (kind_number SE) && not (is_among n v.grammars)

-- What an event's growth says of the rows with its strings.
pub record Grows (v : Rows) (c : Core) (g : Growth) : Type 0 where
  pub enters : g.enters ≡ enters_in v g.kind g.name
  pub name : g.name < name_rows
  pub site : g.site < sites
  pub uri : g.uri < uri_rows
  pub few : g.teaches ≡ true → length v.learned < learned_rows
  pub count : c.learned ≡ length v.learned
  pub kind-is : kind_number (kind_at g.kind) ≡ g.kind
  pub uri-is : g.teaches ≡ true → g.uri ≡ (taught_of v (learnt_of g)).uri_row
