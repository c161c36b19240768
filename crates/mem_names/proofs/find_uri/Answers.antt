use Rattle.mem_names.proofs.Uris.{look-start, look-here, look-on, look-end}
use mathlib.Core.Path.{sym, ◌∙◌}
use Rattle.mem_names.proofs.find_uri.Goals as goal

-- `find_uri` meets its contract.
pub loop-i-init : goal.loop-i-init
loop-i-init c = look-start

pub returns-then-uri_has : goal.returns-then-uri_has
returns-then-uri_has c =
    look-here c.loop-i.invariant c.loop-i-test.true
    (sym c.if-uri_has.true ∙ c.uri_has.ensures)

pub loop-i-preserved : goal.loop-i-preserved
loop-i-preserved c =
    look-on c.loop-i.invariant c.loop-i-test.true
    (sym c.if-uri_has.false ∙ c.uri_has.ensures)

pub returns : goal.returns
returns c = look-end c.loop-i.invariant c.loop-i-test.false
