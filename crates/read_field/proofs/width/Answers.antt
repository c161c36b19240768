use native.Mathlib.Omega.{arith}
use lib.Count.{leading_le}
use Rattle.spec_fields.specs.Field.{width, width_from}
use Rattle.read_field.proofs.Zeros.{by-zeros}
use Rattle.read_field.proofs.width.Goals as goal

-- `read_field::width` meets its contract: 0 for a choice among none, else the length of m - 1.
pub returns-then-m-eq0 : goal.returns-then-m-eq0
unfolding width width_from
returns-then-m-eq0 c = rw c.if-m-eq0.true

pub overflow_sub-result-2 : goal.overflow_sub-result-2
overflow_sub-result-2 c = leading_le 32 _

pub returns : goal.returns
returns c = by-zeros _ (omega arith) (omega arith)
