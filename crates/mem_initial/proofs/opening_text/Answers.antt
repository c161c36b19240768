use mathlib.Core.Path.{◌∙◌}
use Rattle.mem_initial.proofs.Turn.{text-alone}
use Rattle.mem_initial.proofs.opening_text.Goals as goal

-- `opening_text` meets its contract.
pub returns : goal.returns
returns c = c.lay_text.ensures ∙ text-alone
