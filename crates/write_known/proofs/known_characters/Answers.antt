use mathlib.Core.Path.{refl}
use Rattle.write_partition.proofs.Tests.{number-some}
use Rattle.spec_exi.specs.Grammar.{kind_number}
use Rattle.spec_fields.specs.Refusal.{number_of}
use native.Mathlib.Omega.{arith}
use Rattle.write_known.proofs.Values.{characters-stopped, characters-stepped}
use Rattle.write_known.proofs.Values.{learned-asks, keep-asks, characters-outside}
use borrow.Author.Rules.{rules}
use Rattle.write_known.proofs.known_characters.Goals as goal

pub returns-then-not-is_inside : goal.returns-then-not-is_inside
unfolding number_of
returns-then-not-is_inside c =
    rw c.answer.ensures
    (characters-outside c.requires.step_pre c.requires.learned_pre _ _ c.is_inside.ensures
    c.if-not-is_inside.true-raw)

pub returns-in-Err : goal.returns-in-Err
returns-in-Err c =
    rw (c.answer-in-Err.ensures, c.number.ensures)
    (characters-stopped c.requires.step_pre c.requires.learned_pre _ _ c.is_inside.ensures
    c.if-not-is_inside.false-raw c.look_up-x.ensures.result_value c.in-Err.ensures
    (number-some c.in-Err.k))

pub put_learned-next-requires : goal.put_learned-next-requires
put_learned-next-requires c =
    learned-asks c.requires.step_pre c.requires.learned_pre

pub keep_value-at-requires : goal.keep_value-at-requires
keep_value-at-requires c =
    keep-asks c.requires.step_pre c.put_learned-next.ensures
    c.in-Ok.ensures refl c.requires.step_pre.bounded.top

pub next_tag-tag-requires : goal.next_tag-tag-requires
next_tag-tag-requires c =
    c.requires.step_pre.early

pub moved_on-requires : goal.moved_on-requires
moved_on-requires c =
    c.requires.step_pre.bounded

pub returns : goal.returns
unfolding kind_number
returns c =
    rw c.moved_on.ensures
    (characters-stepped c.requires.step_pre c.requires.learned_pre _ _ c.is_inside.ensures
    c.if-not-is_inside.false-raw c.look_up-x.ensures.result_value c.in-Ok.ensures
    refl c.put_learned-next.ensures c.keep_value-at.ensures
    c.content_after-mode.ensures c.next_tag-tag.ensures)
