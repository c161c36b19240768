use Rattle.std.proofs.Common.{rules}
use Rattle.mem_values.proofs.Turn.{text-found}
use Rattle.mem_values.proofs.find.Goals as goal

-- `find` meets its contract.
pub returns : goal.returns
returns c = text-found _ _ _ _ _ _ (c.seek.ensures _ (λ row b h p. search rules))
