-- What an event leaves in the grammars, and whether it may come and has room, over cells.
use Rattle.std.specs.Prelude.{ℕ, ◌≤◌, ◌<◌, Bool, ◌&&◌, not, List, length, eqb, leb}
use Rattle.spec_exi.specs.Sizes.{max_open, max_grammars, max_learned}
use Rattle.spec_exi.specs.Event.{SE, AT}
use Rattle.spec_exi.specs.Grammar.{kind_number}
use Rattle.event_code.specs.Numbers.{teaches_in}
use Rattle.mem_layout.specs.Layout.{name_rows, work_cells}
use Rattle.mem_marks.specs.Marks.{marked_in}
use Rattle.mem_learned.specs.Grammars.{flag_in}
use Rattle.mem_state.specs.declared.Core.{Core}
use Rattle.mem_state.specs.declared.Strings.{Strings}
use Rattle.mem_state.specs.declared.Growth.{Growth}
use Rattle.grammar_match.specs.Here.{site_in}

pub record GrowthPre (work : List ℕ) (c : Core) (s : Strings) : Type 0 where
  pub room : work_cells ≤ length work
  pub name : s.name_row < name_rows
  pub top : c.top < name_rows
  pub few : c.learned ≤ max_learned

unfoldable pub growth_of : List ℕ → Core → ℕ → Bool → Strings → Growth
growth_of work c kind learned s =
    record {
      enters = eqb kind (kind_number SE) && not (flag_in work s.name_row);
      teaches = not learned && teaches_in c.mode kind;
      site = site_in c.mode c.top;
      kind = kind;
      name = s.name_row;
      uri = s.uri_row;
    }

-- The event is no attribute, or its name has not the start tag's mark (P3).
unfoldable pub allowed_in : List ℕ → ℕ → ℕ → ℕ → Bool
allowed_in work tag kind name = not (eqb kind (kind_number AT) && marked_in work tag name)

-- Open elements, element grammars and learned productions have room.
unfoldable pub fits_in : Core → Growth → Bool
fits_in c g =
    not (eqb g.kind (kind_number SE) && leb max_open c.depth)
    && not (g.enters && leb max_grammars c.grammars)
    && not (g.teaches && leb max_learned c.learned)
