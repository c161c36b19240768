use mathlib.Core.Path.{refl}
use native.Mathlib.Omega.{arith}
use Rattle.read_field.proofs.octet_at.Goals as goal

-- `read_field::octet_at` meets its contract: the element.
pub overflow_cast-result : goal.overflow_cast-result
overflow_cast-result c = omega (arith, c.shared_slice_known-1.given c.args.i)

pub returns : goal.returns
returns c =
    let o = c.shared_slice_known-1.given c.args.i in
    record { is = refl; small = omega (arith, o) }
