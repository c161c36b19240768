use Rattle.grammar_codes.proofs.Table.{values-last, values-more, values-content, values-tag}
use native.Mathlib.Omega.{arith}
use Rattle.grammar_codes.proofs.values_at.Goals as goal

pub returns-then-mode-level : goal.returns-then-mode-level
returns-then-mode-level c = values-content _ _ _ _ c.if-mode-level.true

pub returns-then-mode-level-2 : goal.returns-then-mode-level-2
returns-then-mode-level-2 c = values-tag _ _ _ _ c.if-mode-level-2.true

pub overflow_add-next : goal.overflow_add-next
overflow_add-next c = omega (arith, c.count_at-next.ensures.few, c.count_at-last.ensures.few)

pub returns-then-next-last-eq0 : goal.returns-then-next-last-eq0
returns-then-next-last-eq0 c =
    values-last _ _ _ _ c.count_at-here.ensures c.count_at-next.ensures
    c.count_at-last.ensures c.if-next-last-eq0.true

pub overflow_add-result : goal.overflow_add-result
overflow_add-result c = omega (arith, c.count_at-here.ensures.few)

pub returns : goal.returns
returns c =
    values-more _ _ _ _ c.count_at-here.ensures c.count_at-next.ensures
    c.count_at-last.ensures c.if-next-last-eq0.false
