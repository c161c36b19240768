use native.Mathlib.Omega.{arith}
use mathlib.Core.Path.{sym, ◌∙◌}
use Rattle.name_rules.proofs.Laws.{pair-here, pair-none, not-first, not-second}
use Rattle.name_rules.proofs.has_pair.Goals as goal
use Rattle.name_rules.proofs.has_pair.Goals.{else-w-a-via-then-w-a+else-w-b, else-w-a-via-else-w-a}

-- `has_pair` meets its contract.
pub returns-then-w-b : goal.returns-then-w-b
returns-then-w-b c =
    let step = c.in-Some.ensures.steps in
    pair-here _ _ _ _ c.loop-w.invariant.0 step.1.0 step.1.1 c.if-w-a.true c.if-w-b.true
    ∙ c.loop-w.invariant.1

pub loop-w-preserved : goal.loop-w-preserved
loop-w-preserved c =
    let step = c.in-Some.ensures.steps in (
      step.0 ∙ c.loop-w.invariant.0,
      elim c.else-w-a.branch [
        | else-w-a-via-then-w-a+else-w-b w ↦
            not-second _ _ _ _ c.loop-w.invariant.0 step.1.0 step.1.1 step.1.2 w.if-w-b.false
        | else-w-a-via-else-w-a w ↦
            not-first _ _ _ _ c.loop-w.invariant.0 step.1.0 step.1.1 step.1.2 w.if-w-a.false
      ]
          ∙ c.loop-w.invariant.1,
    )

pub returns : goal.returns
returns c =
    sym (pair-none _ _ _ (omega (arith, c.loop-w.invariant.0, c.in-None.ensures.steps.1.0)))
    ∙ c.loop-w.invariant.1
