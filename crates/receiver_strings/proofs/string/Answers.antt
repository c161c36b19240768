use mathlib.Core.Path.{refl}
use Rattle.receiver_strings.proofs.Strings.{string-seen, number-asks}
use Rattle.receiver_strings.proofs.Points.{spot-asks}
use Rattle.receiver_strings.proofs.string.Goals as goal

-- `string` meets its contract.
pub unsigned-requires : goal.unsigned-requires
unsigned-requires c = spot-asks c.requires

pub by_number-requires : goal.by_number-requires
by_number-requires c =
    number-asks c.requires c.in-Ok.ensures refl

pub returns : goal.returns
returns c = string-seen c.requires c.in-Ok.ensures refl _ c.by_number.ensures
