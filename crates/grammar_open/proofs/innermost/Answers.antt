use mathlib.Core.Path.{◌∙◌}
use Rattle.grammar_open.proofs.Opened.{innermost-none, innermost-some}
use Rattle.spec_exi.specs.Sizes.{max_open}
use native.Mathlib.Omega.{arith}
use borrow.Author.Rules.{rules}
use Rattle.grammar_open.proofs.innermost.Goals as goal

-- `innermost` meets its contract.
pub returns-then-depth-eq0 : goal.returns-then-depth-eq0
returns-then-depth-eq0 c = innermost-none _ c.args.depth c.if-depth-eq0.true

pub offset_bounds-opened-last : goal.offset_bounds-opened-last
unfolding max_open
offset_bounds-opened-last c = omega (arith, c.requires)

pub bounds-opened-last : goal.bounds-opened-last
unfolding max_open
bounds-opened-last c = omega (arith, c.requires)

pub returns : goal.returns
returns c =
    c.row.ensures
    ∙ innermost-some _ c.args.depth c.if-depth-eq0.false
