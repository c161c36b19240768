-- The numbers after an event.
use Rattle.std.specs.Prelude.{ℕ, ◌+◌, Bool, cond}
use Rattle.mem_state.specs.declared.Core.{Core}
use Rattle.grammar_stepped.specs.declared.Stepped.{Stepped}

-- The numbers of an answer.
abbrev pub core_of : Stepped → Core
core_of r =
    record {
      at = r.at;
      stored = r.stored;
      uris = r.uris;
      names = r.names;
      values = r.values;
      learned = r.learned;
      grammars = r.grammars;
      mode = r.mode;
      top = r.top;
      depth = r.depth;
      tag = r.tag;
      longest = r.longest;
      capacity = r.capacity;
    }

abbrev pub stepped_as : ℕ → Core → Stepped
stepped_as number c =
    record {
      number = number;
      at = c.at;
      stored = c.stored;
      uris = c.uris;
      names = c.names;
      values = c.values;
      learned = c.learned;
      grammars = c.grammars;
      mode = c.mode;
      top = c.top;
      depth = c.depth;
      tag = c.tag;
      longest = c.longest;
      capacity = c.capacity;
    }

-- After an event that teaches no production: a value may join, and a name may get its grammar.
abbrev pub moved_on : Core → ℕ → ℕ → Bool → Bool → ℕ → ℕ → ℕ → ℕ → Core
moved_on c at stored joins enters mode top depth tag =
    record {
      at = at;
      stored = stored;
      uris = c.uris;
      names = c.names;
      values = c.values + cond joins 1 0;
      learned = c.learned;
      grammars = c.grammars + cond enters 1 0;
      mode = mode;
      top = top;
      depth = depth;
      tag = tag;
      longest = c.longest;
      capacity = c.capacity;
    }
