use mathlib.Core.Logic.{⊎_elim}
use mathlib.Core.Path.{sym, subst, ◌∙◌}
use mathlib.Core.List.{List}
use Prim.Native.Nat.{ℕ, ◌-◌}
use Rattle.settings.specs.Meant.{settings_from}
use Rattle.spec_exi.specs.Sizes.{max_events, max_open}
use Rattle.read_run.specs.Run.{Progress}
use Rattle.read_run.proofs.Turns.{progress_start, same-events, same_text, turn-asks}
use Rattle.read_run.proofs.Turns.{turn-over, turn-full, turn-refused, turn_more}
use Rattle.read_run.proofs.Turns.{KeptAfter, turn-stored, turn-same}
use native.Mathlib.Omega.{arith}
use borrow.Author.Rules.{rules}
use Rattle.read_run.proofs.advance.Goals as goal
use Rattle.read_run.proofs.advance.Goals.{then-before-c, else-before-c}

pub loop-c-init : goal.loop-c-init
loop-c-init c =
    let pre = c.requires in
    progress_start _ pre

pub shape_of-events-then-n-ge-MAX_EVENTS : goal.shape_of-events-then-n-ge-MAX_EVENTS
shape_of-events-then-n-ge-MAX_EVENTS c =
    let pre = c.requires in
    let inv = c.loop-c.invariant in
    same-events pre inv

pub shape_of-text-then-n-ge-MAX_EVENTS : goal.shape_of-text-then-n-ge-MAX_EVENTS
shape_of-text-then-n-ge-MAX_EVENTS c =
    let pre = c.requires in
    let inv = c.loop-c.invariant in
    same_text pre inv

pub shape_of-work-then-n-ge-MAX_EVENTS : goal.shape_of-work-then-n-ge-MAX_EVENTS
shape_of-work-then-n-ge-MAX_EVENTS c =
    let inv = c.loop-c.invariant in
    inv.work-size

pub returns-then-n-ge-MAX_EVENTS : goal.returns-then-n-ge-MAX_EVENTS
unfolding max_events
returns-then-n-ge-MAX_EVENTS c =
    let pre = c.requires in
    let inv = c.loop-c.invariant in
    let on = c.loop-c-test.true in
    rw c.stopped.ensures (turn-full pre inv on c.if-n-ge-MAX_EVENTS.true)

pub overflow_mul-cell : goal.overflow_mul-cell
overflow_mul-cell c =
    let low = c.if-n-ge-MAX_EVENTS.false in
    omega (arith, low)

pub step-r-requires : goal.step-r-requires
unfolding max_events
step-r-requires c =
    let pre = c.requires in
    let inv = c.loop-c.invariant in
    let low = c.if-n-ge-MAX_EVENTS.false in
    turn-asks pre inv low

pub shape_of-events-then-r-ne0 : goal.shape_of-events-then-r-ne0
shape_of-events-then-r-ne0 c =
    let pre = c.requires in
    let inv = c.loop-c.invariant in
    c.events-1.given ∙ same-events pre inv

pub shape_of-text-then-r-ne0 : goal.shape_of-text-then-r-ne0
shape_of-text-then-r-ne0 c =
    let pre = c.requires in
    let inv = c.loop-c.invariant in
    c.text-1.given ∙ same_text pre inv

pub shape_of-work-then-r-ne0 : goal.shape_of-work-then-r-ne0
shape_of-work-then-r-ne0 c =
    let inv = c.loop-c.invariant in
    c.work-1.given ∙ inv.work-size

pub returns-then-r-ne0 : goal.returns-then-r-ne0
unfolding max_events
returns-then-r-ne0 c =
    let pre = c.requires in
    let inv = c.loop-c.invariant in
    let on = c.loop-c-test.true in
    let low = c.if-n-ge-MAX_EVENTS.false in
    let step = c.step-r.ensures in
    rw c.stopped-then-r-ne0.ensures (turn-refused pre inv on low step c.if-r-ne0.true)

pub overflow_cast-opened : goal.overflow_cast-opened
overflow_cast-opened c =
    let step = c.step-r.ensures in
    omega (arith, step.bounded.top)

pub offset_bounds-opened-before : goal.offset_bounds-opened-before
unfolding max_open
offset_bounds-opened-before c =
    let step = c.step-r.ensures in
    omega (arith, step.bounded.depth, c.if-before-c.true)

pub bounds-opened-before : goal.bounds-opened-before
unfolding max_open
bounds-opened-before c =
    let step = c.step-r.ensures in
    omega (arith, step.bounded.depth, c.if-before-c.true)

pub innermost-requires : goal.innermost-requires
innermost-requires c =
    let step = c.step-r.ensures in
    step.bounded.depth

pub overflow_add-n : goal.overflow_add-n
overflow_add-n c =
    let low = c.if-n-ge-MAX_EVENTS.false in
    omega (arith, low)

pub loop-c-smaller : goal.loop-c-smaller
unfolding max_events
loop-c-smaller c =
    let low = c.if-n-ge-MAX_EVENTS.false in
    omega (arith, low)

pub loop-c-preserved : goal.loop-c-preserved
unfolding max_events
loop-c-preserved c =
    let pre = c.requires in
    let inv = c.loop-c.invariant in
    let on = c.loop-c-test.true in
    let low = c.if-n-ge-MAX_EVENTS.false in
    let step = c.step-r.ensures in
    let zero = c.if-r-ne0.false in
    let kept : KeptAfter pre inv on low step zero c.if-before-c.opened =
    elim c.if-before-c.branch [
      | then-before-c w ↦ subst (λ (x : List ℕ). KeptAfter pre inv on low step zero x)
          (sym w.opened-is) (turn-stored pre inv on low step zero w.if-before-c.true)
      | else-before-c w ↦ subst (λ (x : List ℕ). KeptAfter pre inv on low step zero x)
          (sym w.opened-is) (turn-same pre inv on low step zero w.if-before-c.false)
    ] in
    turn_more pre inv on low step zero kept c.innermost.ensures

pub shape_of-events : goal.shape_of-events
shape_of-events c =
    let pre = c.requires in
    let inv = c.loop-c.invariant in
    same-events pre inv

pub shape_of-text : goal.shape_of-text
shape_of-text c =
    let pre = c.requires in
    let inv = c.loop-c.invariant in
    same_text pre inv

pub shape_of-work : goal.shape_of-work
shape_of-work c =
    let inv = c.loop-c.invariant in
    inv.work-size

pub returns : goal.returns
returns c =
    let pre = c.requires in
    let inv = c.loop-c.invariant in
    rw c.stopped-2.ensures (turn-over pre inv c.loop-c-test.false)
