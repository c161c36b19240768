use Rattle.read_production.proofs.Rows.{child-other, child-read}
use Rattle.read_production.proofs.read_child.Goals as goal

pub returns-then-p-gt-SE : goal.returns-then-p-gt-SE
returns-then-p-gt-SE c = λ at. child-other (c.in_ok-p.ensures at) c.if-p-gt-SE.true

pub returns : goal.returns
returns c = λ at. child-read (c.in_ok-p.ensures at) c.if-p-gt-SE.false
