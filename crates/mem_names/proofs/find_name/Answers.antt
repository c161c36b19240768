use Rattle.std.proofs.Common.{rules}
use Rattle.mem_names.proofs.Names.{name-found}
use Rattle.mem_names.proofs.find_name.Goals as goal

-- `find_name` meets its contract.
pub returns : goal.returns
returns c =
    name-found _ _ _ _ _ _ c.spot.ensures.is
    (c.seek.ensures _ (λ row b h p. search rules))
