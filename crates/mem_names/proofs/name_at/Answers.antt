use Rattle.mem_names.proofs.Names.{name-at-made}
use Rattle.mem_names.proofs.name_at.Goals as goal

-- `name_at` meets its contract.
pub returns : goal.returns
returns c =
    name-at-made c.requires.low
    c.less.ensures c.falling.ensures
