use Rattle.write_partition.proofs.Tests.{number-some}
use Rattle.grammar_codes.specs.Table.{place_as}
use Rattle.write_event.proofs.Places.{some-level}
use Rattle.write_first.proofs.Unnamed.{characters-lie}
use Rattle.write_first.proofs.First.{first-shape, first-outside, first-stopped, first-accepted, content-pre}
use Rattle.write_content.proofs.Unnamed.{characters-refused, characters-judged}
use native.Mathlib.Omega.{arith}
use mathlib.Core.Path.{refl}
use Rattle.spec_fields.specs.Refusal.{number_of}
use Rattle.settings.specs.Meant.{settings_from}
use Rattle.event.specs.declared.Event.TheVariants.{Characters}
use Rattle.event.specs.Cells.{meaning}
use Rattle.spec_exi.specs.Grammar.{kind_number}
use Rattle.spec_exi.specs.Event.{kind_of}
use borrow.Author.Rules.{rules}
use Rattle.write_first.proofs.first_characters.Goals as goal

pub returns-in_default : goal.returns-in_default
unfolding place_as settings_from kind_of meaning kind_number number_of
returns-in_default c =
    rw c.answer.ensures
    (first-shape c.requires _ _ _ (Characters _) refl c.in_default.ensures.is refl)

pub returns-then-not-is_inside : goal.returns-then-not-is_inside
unfolding settings_from kind_of meaning kind_number number_of
returns-then-not-is_inside c =
    rw c.answer-then-not-is_inside.ensures
    (first-outside c.requires _ _ _ (Characters _) refl c.in-Some.ensures.is
    (some-level c.in-Some.ensures.low) (characters-lie _ _ c.is_inside.ensures) c.if-not-is_inside.true-raw)

pub returns-in-Err : goal.returns-in-Err
unfolding settings_from kind_of meaning kind_number number_of
returns-in-Err c =
    rw (c.answer-in-Err.ensures, c.number.ensures)
    (first-stopped c.requires _ _ _ (Characters _) refl c.in-Some.ensures.is
    (some-level c.in-Some.ensures.low) (characters-lie _ _ c.is_inside.ensures) c.if-not-is_inside.false-raw
    (characters-refused (content-pre c.requires) _ c.look_up-x.ensures.result_value
    c.in-Err.ensures (number-some c.in-Err.k))
    (number-some c.in-Err.k))

pub add_characters-requires : goal.add_characters-requires
unfolding settings_from kind_of meaning kind_number
add_characters-requires c =
    record {
      step_pre = c.requires;
      value_accepted = record {
        accepted = first-accepted c.requires _ _ _ (Characters _) refl c.in-Some.ensures.is
            (some-level c.in-Some.ensures.low) (characters-lie _ _ c.is_inside.ensures) c.if-not-is_inside.false-raw
            (characters-judged (content-pre c.requires) _ c.look_up-x.ensures.result_value
            c.in-Ok.ensures refl);
      };
    }
