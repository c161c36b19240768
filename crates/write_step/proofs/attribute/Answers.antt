use mathlib.Core.Path.{refl}
use native.Mathlib.Omega.{arith}
use Rattle.spec_exi.specs.Grammar.{kind_number}
use Rattle.settings.specs.Meant.{settings_from}
use Rattle.write_step.proofs.Steps.{name-found, attribute-tests, tag-inner, attribute-step}
use Rattle.write_step.proofs.attribute.Goals as goal

pub known_attribute-requires-clause-learned_pre : goal.known_attribute-requires-clause-learned_pre
unfolding kind_number
known_attribute-requires-clause-learned_pre c =
    record {
      found = (name-found c.in-Some.is c.learned_name-f.ensures).found (omega arith);
      some = omega arith;
      inner = tag-inner (attribute-tests _ _ c.if-marked-c.true).1;
    }

pub returns-in-Some : goal.returns-in-Some
unfolding settings_from
returns-in-Some c =
    attribute-step (name-found c.in-Some.is c.learned_name-f.ensures) (omega arith)
    c.known_attribute.ensures c.requires.early _ refl
