use borrow.Author.Tests.{ne_eqb}
use Rattle.read_production.proofs.own_count.Goals as goal

pub returns-then-mode-eq-IN_ELEMENT : goal.returns-then-mode-eq-IN_ELEMENT
returns-then-mode-eq-IN_ELEMENT c = rw c.if-mode-eq-IN_ELEMENT.true

pub returns : goal.returns
returns c = rw (ne_eqb _ _ c.if-mode-eq-IN_ELEMENT.false)
