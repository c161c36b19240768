use Rattle.spec_fields.specs.Refusal.{number_of}
use Rattle.read_event.proofs.Steps.{numbered}
use Rattle.read_known.proofs.Values.{attribute-equal, attribute-stepped}
use Rattle.read_known.proofs.Values.{value-asks, clear-asks, join-asks, attribute-stopped}
use mathlib.Core.Path.{refl}
use Rattle.read_field.proofs.View.{refusal-some}
use Rattle.read_known.proofs.known_attribute.Goals as goal

pub read_value-read-requires : goal.read_value-read-requires
read_value-read-requires c =
    value-asks c.requires.step_pre c.requires.learned_pre c.requires.learned_pre.bounds.name

pub returns-in-Err : goal.returns-in-Err
returns-in-Err c =
    rw (c.answer.ensures, c.number.ensures) (record {
      numbered = λ n early. record {
        steps = λ s a q. attribute-stopped (numbered c.requires.step_pre early) q c.requires.learned_pre.learned a
            c.in-Err.ensures.joins_within c.requires.learned_pre.kind c.in-Err.ensures.value_post
            (refusal-some c.in-Err.y.refusal);
      };
    })

pub overflow_sub-x : goal.overflow_sub-x
overflow_sub-x c =
    (clear-asks c.requires.step_pre c.requires.learned_pre c.in-Ok.ensures.value_post refl).0

pub clear_cells-requires : goal.clear_cells-requires
clear_cells-requires c =
    (clear-asks c.requires.step_pre c.requires.learned_pre c.in-Ok.ensures.value_post refl).1

pub returns-then-is_marked : goal.returns-then-is_marked
unfolding number_of
returns-then-is_marked c =
    rw c.answer-then-is_marked.ensures (record {
      numbered = λ n early. record {
        steps = λ s a q. attribute-equal (numbered c.requires.step_pre early) q c.requires.learned_pre.learned a
            c.in-Ok.ensures.joins_within c.requires.learned_pre.kind c.in-Ok.ensures.value_post
            refl c.is_marked.ensures c.if-is_marked.true
            c.clear_cells.ensures;
      };
    })

pub attribute-event-requires : goal.attribute-event-requires
attribute-event-requires c =
    record {
      uri_row_pre = record {
        room = c.requires.step_pre.rows;
        low = c.requires.learned_pre.bounds.uri;
      };
      name_row_pre = record { room = c.requires.step_pre.rows; low = c.requires.learned_pre.bounds.local };
    }

pub store-requires : goal.store-requires
store-requires c =
    c.requires.step_pre.cells

pub keep-requires : goal.keep-requires
keep-requires c =
    join-asks c.requires.step_pre c.requires.learned_pre c.in-Ok.ensures.joins_within c.requires.learned_pre.bounds.name

pub moved_on-requires : goal.moved_on-requires
moved_on-requires c =
    c.requires.step_pre.bounded

pub shape_of-text : goal.shape_of-text
shape_of-text c =
    c.text-1.given

pub returns : goal.returns
returns c =
    rw (c.moved_on.ensures, c.is_some-joins.ensures) (record {
      numbered = λ n early. record {
        steps = λ s a q. attribute-stepped (numbered c.requires.step_pre early) q c.requires.learned_pre.learned a
            c.in-Ok.ensures.joins_within c.requires.learned_pre.kind c.in-Ok.ensures.value_post
            refl c.is_marked.ensures c.if-is_marked.false c.part_of.ensures
            c.attribute-event.ensures c.store.ensures c.keep.ensures;
      };
    })
