use Rattle.mem_values.proofs.Formed.{nth-out, nth-new, nth-old}
use Rattle.mem_values.proofs.nth_global.Goals as goal

-- `nth_global` meets its contract.
pub returns-then-number-n : goal.returns-then-number-n
returns-then-number-n c = nth-out _ _ _ _ c.if-number-n.true

pub returns-then-number-newer : goal.returns-then-number-newer
returns-then-number-newer c = nth-new _ _ _ _ c.if-number-n.false c.if-number-newer.true

pub returns : goal.returns
returns c = nth-old _ _ _ _ c.if-number-n.false c.if-number-newer.false
