use mathlib.Core.Path.{refl}
use Rattle.mem_names.proofs.Names.{uri-asking, nth-is}
use Rattle.mem_names.proofs.nth_name.Goals as goal

-- `nth_name` meets its contract.
pub nth-requires : goal.nth-requires
nth-requires c =
    uri-asking refl c.requires.room c.requires.low
    c.requires.few

pub returns : goal.returns
returns c = nth-is refl c.nth.ensures
