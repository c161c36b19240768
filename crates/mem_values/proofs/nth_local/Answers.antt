use mathlib.Core.Path.{refl}
use Rattle.mem_values.proofs.Local.{owner-asking, local-found}
use Rattle.mem_values.proofs.nth_local.Goals as goal

-- `nth_local` meets its contract.
pub nth-requires : goal.nth-requires
nth-requires c =
    owner-asking refl c.requires.room c.requires.low
    c.requires.few

pub returns : goal.returns
returns c = local-found refl c.nth.ensures
