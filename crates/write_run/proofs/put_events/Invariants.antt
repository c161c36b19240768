use Rattle.std.proofs.Common.{◌*◌}
use Rattle.spec_exi.specs.Sizes.{cells_per_event}
use Rattle.settings.specs.Meant.{settings_from}
use Rattle.write_run.proofs.Turns.{Reached}
use Rattle.write_run.proofs.put_events.Given as goal

abbrev pub invariant-loop-n : goal.invariant-loop-n
invariant-loop-n l =
    Reached (settings_from l.o) l.opening l.events l.text l.initial.stream l.initial.work
    (record { core = l.initial.c; opened = l.initial.opened }) l.stream l.work
    (record { core = l.c; opened = l.opened }) l.n (cells_per_event * l.n)
