use mathlib.Core.Logic.{⊎_elim}
use mathlib.Core.Path.{sym, subst, ◌∙◌}
use mathlib.Core.List.{List}
use Prim.Native.Nat.{ℕ, ◌-◌}
use Rattle.settings.specs.Meant.{settings_from}
use Rattle.spec_exi.specs.Sizes.{max_events, max_open}
use Rattle.read_run.specs.Run.{Progress}
use Rattle.read_run.proofs.Turns.{progress_start, same-events, same_text, turn-asks}
use Rattle.read_run.proofs.Turns.{turn-over, turn-full, turn-refused, turn_more}
use Rattle.read_run.proofs.Turns.{KeptAfter, turn-stored, turn-same}
use native.Mathlib.Omega.{arith}
use borrow.Author.Rules.{rules}
use Rattle.read_run.proofs.advance.Given as goal

abbrev pub invariant-loop-c : goal.invariant-loop-c
invariant-loop-c l =
    Progress (settings_from l.o) l.stream l.initial.events l.initial.text l.initial.work (record { core = l.initial.c; opened = l.initial.opened }) l.initial.n l.events l.text l.work
    (record { core = l.c; opened = l.opened }) l.n

abbrev pub decreases-loop-c : goal.decreases-loop-c
decreases-loop-c l = max_events - l.n
