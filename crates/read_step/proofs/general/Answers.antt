use mathlib.Core.Path.{refl}
use Rattle.settings.specs.Meant.{settings_from}
use Rattle.read_field.proofs.View.{refusal-some}
use Rattle.read_event.proofs.Steps.{event-asks, step-refused, join-asks, grow-asks, after-asks}
use Rattle.read_event.proofs.Steps.{step-read}
use Rattle.read_step.proofs.general.Goals as goal

pub read_event-requires : goal.read_event-requires
read_event-requires c =
    let pre = c.requires in
    record {
      event_pre = event-asks pre.step_pre;
      code_read = pre.by_code_pre.code;
      learned_value = pre.by_code_pre.is;
    }

pub returns-in-Err : goal.returns-in-Err
returns-in-Err c =
    rw (c.answer.ensures, c.number.ensures)
    (step-refused c.requires.step_pre c.in-Err.ensures (refusal-some c.in-Err.refusal))

pub join_strings-requires : goal.join_strings-requires
join_strings-requires c = join-asks c.requires.step_pre c.in-Ok.ensures refl

pub grow-requires : goal.grow-requires
grow-requires c =
    grow-asks c.requires.step_pre c.in-Ok.ensures refl c.join_strings.ensures

pub store-requires : goal.store-requires
store-requires c = c.requires.step_pre.cells

pub after-d-requires : goal.after-d-requires
after-d-requires c = after-asks c.requires.step_pre c.in-Ok.ensures refl

pub shape_of-text : goal.shape_of-text
shape_of-text c = c.text-1.given

pub returns : goal.returns
unfolding settings_from
returns c =
    rw c.answer-2.ensures
    (step-read c.requires.step_pre c.in-Ok.ensures refl c.join_strings.ensures
    c.grow.ensures c.store.ensures c.after-d.ensures)
