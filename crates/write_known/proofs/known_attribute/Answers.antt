use mathlib.Core.Path.{refl}
use Rattle.write_partition.proofs.Tests.{number-some}
use Rattle.spec_fields.specs.Refusal.{number_of}
use native.Mathlib.Omega.{arith}
use Rattle.write_known.proofs.Attributes.{attribute-outside, attribute-stopped, attribute-stepped}
use Rattle.write_known.proofs.Values.{learned-asks, keep-asks}
use borrow.Author.Rules.{rules}
use Rattle.write_known.proofs.known_attribute.Goals as goal

pub returns-then-not-is_inside : goal.returns-then-not-is_inside
unfolding number_of
returns-then-not-is_inside c =
    rw c.answer.ensures
    (attribute-outside c.requires.step_pre c.requires.learned_pre c.requires.mode_value _ _
    c.is_inside.ensures c.if-not-is_inside.true-raw)

pub returns-in-Err : goal.returns-in-Err
returns-in-Err c =
    rw (c.answer-in-Err.ensures, c.number.ensures)
    (attribute-stopped c.requires.step_pre c.requires.learned_pre c.requires.mode_value _ _
    c.is_inside.ensures c.if-not-is_inside.false-raw c.look_up-x.ensures.result_value
    c.in-Err.ensures (number-some c.in-Err.k))

pub put_learned-next-requires : goal.put_learned-next-requires
put_learned-next-requires c =
    learned-asks c.requires.step_pre c.requires.learned_pre

pub keep_value-at-requires : goal.keep_value-at-requires
keep_value-at-requires c =
    keep-asks c.requires.step_pre c.put_learned-next.ensures
    c.in-Ok.ensures refl c.requires.name_lt_name_rows

pub mark-requires : goal.mark-requires
mark-requires c =
    record { room = omega (arith, c.work-1.given, c.requires.step_pre.rows); low = c.requires.name_lt_name_rows }

pub moved_on-requires : goal.moved_on-requires
moved_on-requires c =
    c.requires.step_pre.bounded

pub returns : goal.returns
returns c =
    rw c.moved_on.ensures
    (attribute-stepped c.requires.step_pre c.requires.learned_pre c.requires.mode_value _ _
    c.is_inside.ensures c.if-not-is_inside.false-raw c.look_up-x.ensures.result_value
    c.in-Ok.ensures refl c.requires.name_value
    c.put_learned-next.ensures c.keep_value-at.ensures c.mark.ensures)
