use Rattle.write_production.specs.Codes.{own_values}
use borrow.Author.Tests.{eq-eqb, ne_eqb}
use Rattle.write_production.proofs.own_values.Goals as goal

pub returns-then-mode-eq-IN_ELEMENT : goal.returns-then-mode-eq-IN_ELEMENT
unfolding own_values
returns-then-mode-eq-IN_ELEMENT c = rw (eq-eqb _ _ c.if-mode-eq-IN_ELEMENT.true)

pub returns : goal.returns
unfolding own_values
returns c = rw (ne_eqb _ _ c.if-mode-eq-IN_ELEMENT.false)
