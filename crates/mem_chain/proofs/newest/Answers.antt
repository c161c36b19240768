use Rattle.std.proofs.Common.{rules}
use Rattle.mem_chain.proofs.Coded.{code-found}
use Rattle.mem_chain.proofs.newest.Goals as goal

-- `newest` meets its contract.
pub returns : goal.returns
returns c = code-found _ _ _ _ _ _ _ _ (c.seek.ensures _ (λ row b h p. search rules))
