use mathlib.Core.Path.{sym}
use Rattle.mem_chain.proofs.Last.{below_in, below_out}
use Rattle.mem_chain.proofs.less.Goals as goal

-- `less` meets its contract.
pub returns-then-c-top : goal.returns-then-c-top
returns-then-c-top c = sym (below_in _ _ c.if-c-top.true)

pub returns : goal.returns
returns c = sym (below_out _ _ c.if-c-top.false)
