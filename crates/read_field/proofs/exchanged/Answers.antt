use native.Mathlib.Omega.{arith}
use lib.Bits.{and_mask}
use Rattle.read_field.proofs.exchanged.Goals as goal

-- `read_field::exchanged` meets its contract: the mask leaves the low octet.
pub overflow_mul-result : goal.overflow_mul-result
overflow_mul-result c = omega (arith, and_mask c.args.x 8)

pub overflow_add-result : goal.overflow_add-result
overflow_add-result c = omega (arith, and_mask c.args.x 8)

pub returns : goal.returns
returns c = omega (arith, and_mask c.args.x 8)
