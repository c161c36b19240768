use Prim.Native.Nat.{ℕ, ◌+◌, ◌*◌, ◌-◌, ◌/◌}
use native.Mathlib.Omega.{arith}
use mathlib.Core.Path.{◌≡◌, sym, ap, subst, ◌∙◌}
use mathlib.Core.List.{List}
use lib.ListN.{length}
use borrow.Author.Rules.{rules}
use Rattle.spec_exi.specs.Sizes.{max_events, max_open, cells_per_event}
use Rattle.settings.specs.Meant.{settings_from}
use Rattle.event.specs.Cells.{judged}
use Rattle.event.proofs.Laws.{whole-means, shape-means}
use Rattle.write_run.proofs.Turns.{Reached, reached-start, ended-early, ended, too_many}
use Rattle.write_run.proofs.Turns.{cut_short, no-event, turn-asks, turn-refused}
use Rattle.write_run.proofs.Turns.{KeptAfter, turn-stored, turn-same, turn-again}
use Rattle.write_run.proofs.put_events.Goals as goal
use Rattle.write_run.proofs.put_events.Goals.{then-before-after, else-before-after}

-- `put_events` meets its contract: the loop keeps `Reached`.
pub loop-n-init : goal.loop-n-init
loop-n-init c = reached-start c.slice_known-1.given c.requires

pub returns-then-n-eq-MAX_EVENTS : goal.returns-then-n-eq-MAX_EVENTS
unfolding max_events
returns-then-n-eq-MAX_EVENTS c =
    rw c.stopped.ensures
    (too_many c.loop-n.invariant (omega (arith, c.loop-n-test.true)) c.if-n-eq-MAX_EVENTS.true)

pub returns-then-events-cell-lt-CELLS_PER_EVENT : goal.returns-then-events-cell-lt-CELLS_PER_EVENT
unfolding max_events
returns-then-events-cell-lt-CELLS_PER_EVENT c =
    rw c.stopped-then-events-cell-lt-CELLS_PER_EVENT.ensures
    (cut_short c.loop-n.invariant c.if-n-eq-MAX_EVENTS.false (omega (arith, c.loop-n-test.true))
    c.if-events-cell-lt-CELLS_PER_EVENT.true)

pub returns-in_default : goal.returns-in_default
unfolding max_events
returns-in_default c =
    rw c.stopped-in_default.ensures
    (no-event c.loop-n.invariant c.if-n-eq-MAX_EVENTS.false c.if-events-cell-lt-CELLS_PER_EVENT.false
    (shape-means _ c.in_default.ensures))

pub step-r-requires : goal.step-r-requires
unfolding max_events
step-r-requires c = turn-asks c.loop-n.invariant c.requires c.if-n-eq-MAX_EVENTS.false

pub returns-then-r-ne0 : goal.returns-then-r-ne0
unfolding max_events
returns-then-r-ne0 c =
    rw c.stopped-then-r-ne0.ensures
    (turn-refused c.loop-n.invariant c.step-r.ensures
    (record {
      more = c.if-n-eq-MAX_EVENTS.false;
      whole = c.if-events-cell-lt-CELLS_PER_EVENT.false;
      loaded = whole-means _ _ c.in-Some.ensures;
    }) c.if-r-ne0.true)

pub loop-n-preserved : goal.loop-n-preserved
unfolding max_events
loop-n-preserved c =
    let kept : KeptAfter c.loop-n.invariant c.step-r.ensures c.if-before-after.opened = elim c.if-before-after.branch [
      | then-before-after w ↦
          subst (λ (x : List ℕ). KeptAfter c.loop-n.invariant c.step-r.ensures x) (sym w.opened-is)
          (turn-stored c.loop-n.invariant c.step-r.ensures w.if-before-after.true)
      | else-before-after w ↦
          subst (λ (x : List ℕ). KeptAfter c.loop-n.invariant c.step-r.ensures x) (sym w.opened-is)
          (turn-same c.loop-n.invariant c.step-r.ensures w.if-before-after.false)
    ] in
    let further : cells_per_event * c.loop-n.n + cells_per_event ≡ cells_per_event * (c.loop-n.n + 1) = omega arith in
    rw (sym further)
    (turn-again c.loop-n.invariant c.step-r.ensures
    (record {
      more = c.if-n-eq-MAX_EVENTS.false;
      whole = c.if-events-cell-lt-CELLS_PER_EVENT.false;
      loaded = whole-means _ _ c.in-Some.ensures;
    }) c.if-r-ne0.false kept
    c.innermost-top.ensures)

pub returns-then-c-ne-IS_OVER : goal.returns-then-c-ne-IS_OVER
returns-then-c-ne-IS_OVER c =
    let last : (length c.args.events.now + 9 - 1) / 9 ≡ c.loop-n.n = omega (arith, c.loop-n-test.false) in
    rw (c.stopped-then-c-ne-IS_OVER.ensures, last)
    (ended-early c.loop-n.invariant (omega (arith, c.loop-n-test.false)) c.if-c-ne-IS_OVER.true)

pub returns : goal.returns
returns c =
    rw c.stopped-2.ensures
    (ended c.loop-n.invariant (omega (arith, c.loop-n-test.false)) c.if-c-ne-IS_OVER.false)
