use Rattle.read_event.proofs.Steps.{event-asks, step-refused}
use Rattle.read_event.proofs.Returns.{production-asks, code-refused}
use mathlib.Core.Path.{refl}
use Rattle.read_field.proofs.View.{refusal-some}
use Rattle.read_step.proofs.step.Goals as goal

pub read_production-code-requires : goal.read_production-code-requires
read_production-code-requires c = production-asks (event-asks c.requires)

pub returns-in-Err : goal.returns-in-Err
returns-in-Err c =
    let pre = c.requires in
    let some = refusal-some c.in-Err.refusal in
    rw (c.answer.ensures, c.number.ensures)
    (step-refused pre (code-refused (event-asks pre) c.in-Err.ensures some) some)

pub learned-requires : goal.learned-requires
learned-requires c =
    let pre = c.requires in
    let if2 = c.if-p in
    record {
      step_pre = pre;
      by_code_pre = record {
        code = record { post = c.in-Ok.ensures; good = refl };
        is = if2.true;
      };
    }

pub shape_of-events-then-p : goal.shape_of-events-then-p
shape_of-events-then-p c = c.events-1.given

pub shape_of-text-then-p : goal.shape_of-text-then-p
shape_of-text-then-p c = c.text-1.given

pub shape_of-work-then-p : goal.shape_of-work-then-p
shape_of-work-then-p c = c.work-1.given

pub returns-then-p : goal.returns-then-p
returns-then-p c = c.learned.ensures

pub fixed-requires : goal.fixed-requires
fixed-requires c =
    let pre = c.requires in
    let if2 = c.if-p in
    record {
      step_pre = pre;
      by_code_pre = record {
        code = record { post = c.in-Ok.ensures; good = refl };
        is = if2.false;
      };
    }

pub shape_of-events : goal.shape_of-events
shape_of-events c = c.events-2-1.given

pub shape_of-text : goal.shape_of-text
shape_of-text c = c.text-2-1.given

pub shape_of-work : goal.shape_of-work
shape_of-work c = c.work-2-1.given

pub returns : goal.returns
returns c = c.fixed.ensures
