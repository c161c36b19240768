use mathlib.Core.Path.{refl}
use native.Mathlib.Omega.{arith}
use Rattle.spec_exi.specs.Grammar.{kind_number}
use Rattle.settings.specs.Meant.{settings_from}
use Rattle.write_step.proofs.characters.Goals as goal

pub known_characters-requires-clause-learned_pre :
    goal.known_characters-requires-clause-learned_pre
unfolding kind_number
known_characters-requires-clause-learned_pre c =
    record { found = c.in-Some.ensures; some = omega arith; inner = c.if-c-ge-IN_TAG.true }

pub returns-in-Some : goal.returns-in-Some
unfolding settings_from
returns-in-Some c = c.known_characters.ensures.steps _ refl _
