use Rattle.grammar_codes.proofs.Places.{outer-first, outer-other}
use Rattle.grammar_codes.proofs.outer_place.Goals as goal

pub returns-then-kind-first-clause-is : goal.returns-then-kind-first-clause-is
returns-then-kind-first-clause-is c = λ k f. outer-first _ _ _ k f c.if-kind-first.true

pub returns-clause-is : goal.returns-clause-is
returns-clause-is c = λ k f. outer-other _ _ _ k f c.if-kind-first.false c.kept_place.ensures.is
