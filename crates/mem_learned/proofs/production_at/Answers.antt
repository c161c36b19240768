use Rattle.mem_learned.proofs.Rows.{production-made}
use Rattle.mem_learned.proofs.production_at.Goals as goal

-- `production_at` meets its contract.
pub returns : goal.returns
returns c =
    production-made c.requires.low
    c.falling.ensures c.falling-2.ensures
