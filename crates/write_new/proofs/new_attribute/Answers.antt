use Rattle.write_partition.proofs.Tests.{number-some}
use Rattle.grammar_codes.specs.Table.{place_as}
use Rattle.write_event.proofs.Places.{some-level}
use Rattle.write_new.proofs.New.{attribute-lies}
use Rattle.write_first.proofs.First.{first-shape, first-outside, first-stopped, first-accepted, content-pre}
use Rattle.write_content.proofs.Named.{attribute-judged}
use Rattle.write_content.proofs.Named.{attribute-refused, value-asks, attribute-value-refused}
use native.Mathlib.Omega.{arith}
use mathlib.Core.Path.{refl}
use Rattle.spec_fields.specs.Refusal.{number_of}
use Rattle.settings.specs.Meant.{settings_from}
use Rattle.event.specs.declared.Event.TheVariants.{Attribute}
use Rattle.event.specs.Cells.{meaning}
use Rattle.spec_exi.specs.Grammar.{kind_number}
use Rattle.spec_exi.specs.Event.{kind_of}
use borrow.Author.Rules.{rules}
use Rattle.write_new.proofs.new_attribute.Goals as goal

pub returns-in_default : goal.returns-in_default
unfolding place_as settings_from kind_of meaning kind_number number_of
returns-in_default c =
    rw c.answer.ensures
    (first-shape c.requires _ _ _ (Attribute _ _ _) refl c.in_default.ensures.is refl)

pub returns-then-not-name-is_inside : goal.returns-then-not-name-is_inside
unfolding settings_from kind_of meaning kind_number number_of
returns-then-not-name-is_inside c =
    rw c.answer-then-not-name-is_inside.ensures
    (first-outside c.requires _ _ _ (Attribute _ _ _) refl c.in-Some.ensures.is
    (some-level c.in-Some.ensures.low)
    (attribute-lies _ _ _ _ c.is_inside.ensures c.is_inside-2.ensures
    c.is_inside-3.ensures) c.if-not-name-is_inside.true-raw)

pub returns-in-Err : goal.returns-in-Err
unfolding settings_from kind_of meaning kind_number
returns-in-Err c =
    rw (c.answer-in-Err.ensures, c.number.ensures)
    (first-stopped c.requires _ _ _ (Attribute _ _ _) refl c.in-Some.ensures.is
    (some-level c.in-Some.ensures.low)
    (attribute-lies _ _ _ _ c.is_inside.ensures c.is_inside-2.ensures
    c.is_inside-3.ensures) c.if-not-name-is_inside.false-raw
    (attribute-refused (content-pre c.requires) c.in-Err.ensures _
    (number-some c.in-Err.k)) (number-some c.in-Err.k))

pub judge_value-judged-requires : goal.judge_value-judged-requires
judge_value-judged-requires c =
    value-asks (content-pre c.requires) c.in-Ok.ensures refl

pub returns-in-Err-judged : goal.returns-in-Err-judged
unfolding settings_from kind_of meaning kind_number
returns-in-Err-judged c =
    rw (c.answer-in-Err-judged.ensures, c.number-in-Err-judged.ensures)
    (first-stopped c.requires _ _ _ (Attribute _ _ _) refl c.in-Some.ensures.is
    (some-level c.in-Some.ensures.low)
    (attribute-lies _ _ _ _ c.is_inside.ensures c.is_inside-2.ensures
    c.is_inside-3.ensures) c.if-not-name-is_inside.false-raw
    (attribute-value-refused (content-pre c.requires) c.in-Ok.ensures _
    refl c.look_up-x.ensures.result_value c.in-Err-judged.ensures
    (number-some c.in-Err-judged.k)) (number-some c.in-Err-judged.k))

pub add_attribute-requires : goal.add_attribute-requires
unfolding settings_from kind_of meaning kind_number
add_attribute-requires c =
    record {
      step_pre = c.requires;
      value_accepted = record {
        accepted = first-accepted c.requires _ _ _ (Attribute _ _ _) refl
            c.in-Some.ensures.is (some-level c.in-Some.ensures.low)
            (attribute-lies _ _ _ _ c.is_inside.ensures c.is_inside-2.ensures
            c.is_inside-3.ensures) c.if-not-name-is_inside.false-raw
            (attribute-judged (content-pre c.requires) c.in-Ok.ensures _ refl
            c.look_up-x.ensures.result_value c.in-Ok-judged.ensures refl);
      };
    }
