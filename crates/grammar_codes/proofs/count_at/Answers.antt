use mathlib.Core.Path.{◌∙◌}
use Rattle.grammar_codes.proofs.Table.{tag-count, element-count, fragment-count}
use Rattle.grammar_codes.proofs.Table.{no-count}
use Rattle.grammar_codes.proofs.Table.{count-is, document-count, content-count, end-count}
use Rattle.grammar_codes.proofs.count_at.Goals as goal

pub returns-in-0 : goal.returns-in-0
returns-in-0 c = rw c.in-0.is (count-is _ _ (c.nth.ensures ∙ document-count _ _ _))

pub returns-in-1 : goal.returns-in-1
returns-in-1 c =
    let kept-count = c.kept_count-kept in
    let match = c.in-1 in
    rw match.is (count-is _ _ (c.nth-in-1.ensures ∙ content-count _ _ _ kept-count.ensures))

pub returns-in-2 : goal.returns-in-2
returns-in-2 c =
    let kept-count = c.kept_count-kept in
    let match = c.in-2 in
    rw match.is (count-is _ _ (c.nth-in-2.ensures ∙ end-count _ _ _ kept-count.ensures))

pub returns-in-5 : goal.returns-in-5
returns-in-5 c =
    let kept-count = c.kept_count-kept in
    let match = c.in-5 in
    rw match.is (count-is _ _ (c.nth-in-5.ensures ∙ tag-count _ _ _ kept-count.ensures))

pub returns-in-6 : goal.returns-in-6
returns-in-6 c =
    let kept-count = c.kept_count-kept in
    let match = c.in-6 in
    rw match.is (count-is _ _ (c.nth-in-6.ensures ∙ element-count _ _ _ kept-count.ensures))

pub returns-in-4 : goal.returns-in-4
returns-in-4 c =
    let kept-count = c.kept_count-kept in
    let match = c.in-4 in
    rw match.is (count-is _ _ (c.nth-in-4.ensures ∙ fragment-count _ _ _ kept-count.ensures))

pub returns-in_default : goal.returns-in_default
returns-in_default c =
    let n = c.in_default.in_default-own.rest in
    count-is _ _ (no-count _ _ _ n.0.0.0.0.0.1 n.0.0.0.0.1 n.0.0.0.1 n.0.0.1
    n.0.1 n.1)
