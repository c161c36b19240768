use mathlib.Core.Path.{refl}
use Rattle.mem_learned.proofs.Rows.{name-seeking, found-learned}
use Rattle.mem_learned.proofs.find.Goals as goal

-- `find` meets its contract.
pub find-requires : goal.find-requires
find-requires c =
    name-seeking refl c.requires.room c.requires.low
    c.requires.kind_low c.requires.name_low
    c.requires.few

pub returns : goal.returns
returns c =
    found-learned refl c.requires.kind_low
    c.requires.name_low c.find.ensures
