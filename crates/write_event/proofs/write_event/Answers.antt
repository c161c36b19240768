use mathlib.Core.Path.{refl}
use borrow.Author.Rules.{rules}
use Rattle.settings.specs.Meant.{settings_from}
use Rattle.write_partition.proofs.Tests.{number-some}
use Rattle.write_event.proofs.Steps.{step-refused, put-asks, commit-asks, step-done}
use Rattle.write_event.proofs.write_event.Goals as goal

pub returns-in-Err : goal.returns-in-Err
returns-in-Err c =
    rw (c.answer.ensures, c.number.ensures)
    (step-refused c.requires c.in-Err.ensures (number-some c.in-Err.k))

pub put_event-at-requires : goal.put_event-at-requires
put_event-at-requires c = put-asks c.requires c.in-Ok.ensures refl

pub commit-core-requires : goal.commit-core-requires
commit-core-requires c = commit-asks c.requires c.in-Ok.ensures refl

pub returns : goal.returns
unfolding settings_from
returns c =
    rw c.answer-2.ensures
    (step-done c.requires c.in-Ok.ensures refl c.put_event-at.ensures c.commit-core.ensures)
