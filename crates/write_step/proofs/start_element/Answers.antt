use mathlib.Core.Path.{refl}
use native.Mathlib.Omega.{arith}
use Rattle.spec_exi.specs.Sizes.{max_open}
use Rattle.spec_exi.specs.Grammar.{kind_number}
use Rattle.settings.specs.Meant.{settings_from}
use Rattle.write_step.proofs.Steps.{name-found, element-tests, element-step}
use Rattle.write_step.proofs.start_element.Goals as goal

pub known_element-requires-clause-learned_pre : goal.known_element-requires-clause-learned_pre
unfolding kind_number
known_element-requires-clause-learned_pre c =
    record {
      found = (name-found c.in-Some.is c.learned_name-f.ensures).found (omega arith);
      some = omega arith;
      inner = (element-tests c.args.c.depth c.args.c.mode c.has_grammar-has.result c.if-has-c.true).2;
    }

pub known_element-requires-clause-depth_lt_max_open :
    goal.known_element-requires-clause-depth_lt_max_open
unfolding max_open
known_element-requires-clause-depth_lt_max_open c = (element-tests c.args.c.depth c.args.c.mode c.has_grammar-has.result c.if-has-c.true).1

pub returns-in-Some : goal.returns-in-Some
unfolding settings_from
returns-in-Some c =
    element-step (name-found c.in-Some.is c.learned_name-f.ensures) (omega arith)
    c.known_element.ensures _ refl
