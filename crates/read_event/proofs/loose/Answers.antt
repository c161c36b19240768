use mathlib.Core.Bool.{true≢false}
use mathlib.Core.Path.{sym, ◌∙◌}
use Rattle.read_event.proofs.Judges.{some-linked}
use Rattle.read_event.proofs.loose.Goals as goal

pub find_learned-requires : goal.find_learned-requires
find_learned-requires c =
    let pre = c.requires.growth_pre in
    record { room = pre.room; low = pre.top; name_low = pre.name; few = pre.few }

pub returns : goal.returns
returns c =
    record {
      learned = λ t. absurd (true≢false (sym t ∙ c.requires.learned_value));
      fixed = λ _.
          record {
            row = _;
            found = c.find_learned.ensures;
            is = c.is_some.ensures ∙ some-linked c.find_learned.result;
          };
    }
