use Rattle.spec_exi.specs.Grammar.{kind_number}
use Rattle.read_known.proofs.Values.{characters-stepped}
use Rattle.read_known.proofs.Values.{value-asks, join-asks, characters-stopped}
use mathlib.Core.Path.{refl}
use Rattle.read_field.proofs.View.{refusal-some}
use Rattle.read_known.proofs.known_characters.Goals as goal

pub read_value-read-requires : goal.read_value-read-requires
read_value-read-requires c =
    value-asks c.requires.step_pre c.requires.learned_pre c.requires.step_pre.bounded.top

pub returns-in-Err : goal.returns-in-Err
returns-in-Err c =
    rw (c.answer.ensures, c.number.ensures) (record {
      steps = λ s a q. characters-stopped c.requires.step_pre q c.requires.learned_pre.learned a
          c.in-Err.ensures.joins_within c.requires.learned_pre.kind c.in-Err.ensures.value_post
          (refusal-some c.in-Err.y.refusal);
    })

pub store-requires : goal.store-requires
store-requires c =
    c.requires.step_pre.cells

pub join_value-requires : goal.join_value-requires
join_value-requires c =
    join-asks c.requires.step_pre c.requires.learned_pre c.in-Ok.ensures.joins_within c.requires.step_pre.bounded.top

pub next_tag-tag-requires : goal.next_tag-tag-requires
next_tag-tag-requires c =
    c.requires.step_pre.early

pub moved_on-requires : goal.moved_on-requires
moved_on-requires c =
    c.requires.step_pre.bounded

pub shape_of-text : goal.shape_of-text
shape_of-text c =
    c.text-1.given

pub returns : goal.returns
unfolding kind_number
returns c =
    rw (c.moved_on.ensures, c.is_some-joins.ensures) (record {
      steps = λ s a q. characters-stepped c.requires.step_pre q c.requires.learned_pre.learned a
          c.in-Ok.ensures.joins_within c.requires.learned_pre.kind c.in-Ok.ensures.value_post
          refl c.part_of-value.ensures c.store.ensures
          c.join_value.ensures c.content_after-mode.ensures
          c.next_tag-tag.ensures;
    })
