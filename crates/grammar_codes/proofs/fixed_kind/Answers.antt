use Rattle.grammar_codes.proofs.Fixed.{fixed-none, content-kind, end-kind, tag-kind}
use Rattle.grammar_codes.proofs.Fixed.{element-kind, fragment-kind}
use mathlib.Core.Path.{◌∙◌}
use Rattle.grammar_codes.proofs.fixed_kind.Goals as goal

pub returns-in-1 : goal.returns-in-1
returns-in-1 c = rw c.in-1.is (c.nth.ensures ∙ content-kind _)

pub returns-in-2 : goal.returns-in-2
returns-in-2 c = rw c.in-2.is (c.nth-in-2.ensures ∙ end-kind _)

pub returns-in-5 : goal.returns-in-5
returns-in-5 c = rw c.in-5.is (c.nth-in-5.ensures ∙ tag-kind _)

pub returns-in-6 : goal.returns-in-6
returns-in-6 c = rw c.in-6.is (c.nth-in-6.ensures ∙ element-kind _)

pub returns-in-4 : goal.returns-in-4
returns-in-4 c = rw c.in-4.is (c.nth-in-4.ensures ∙ fragment-kind _)

pub returns-in_default : goal.returns-in_default
returns-in_default c =
    let n = c.in_default.in_default-own.rest in
    fixed-none _ _ n.0.0.0.0.1 n.0.0.0.1 n.0.0.1 n.0.1 n.1
