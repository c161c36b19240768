-- The numbers after an event.
use Rattle.std.specs.Prelude.{ℕ, ◌<◌, Bool}
use Rattle.spec_exi.specs.Sizes.{max_events}
use Rattle.grammar_codes.specs.Table.{Stands}
use Rattle.mem_state.specs.declared.Core.{Core}
use Rattle.mem_state.specs.declared.Strings.{Strings}
use Rattle.mem_state.specs.declared.Growth.{Growth}
use Rattle.mem_state.specs.Holds.{Bounded}
use Rattle.mem_state.specs.Commit.{counted, turned}

abbrev pub moved_to : Core → ℕ → ℕ → Core
moved_to c at stored =
    record {
      at = at;
      stored = stored;
      uris = c.uris;
      names = c.names;
      values = c.values;
      learned = c.learned;
      grammars = c.grammars;
      mode = c.mode;
      top = c.top;
      depth = c.depth;
      tag = c.tag;
      longest = c.longest;
      capacity = c.capacity;
    }

-- So many events have come before it, in a fragment or not.
abbrev pub core_after : Bool → Core → ℕ → ℕ → Strings → Growth → ℕ → Core
core_after fragment c at stored s g n =
    turned fragment (counted (moved_to c at stored) s g) g.kind g.name n

pub record AfterPre (c : Core) (g : Growth) (n : ℕ) : Type 0 where
  pub bounded : Bounded c
  pub early : n < max_events
  pub stands : Stands c.mode g.kind
