use native.Mathlib.Omega.{arith}
use lib.Pow.{pow_pos}
use Rattle.read_field.proofs.Window.{power}
use Rattle.read_field.proofs.Numbers.{bits-past, few-cut}
use Rattle.read_field.proofs.few_bits.Goals as goal

-- `read_field::few_bits` meets its contract: the mask leaves the n bits of the window.
pub returns-then-s-next : goal.returns-then-s-next
returns-then-s-next c = bits-past _ _ _ c.requires.there c.if-s-next.true

pub overflow_sub-result : goal.overflow_sub-result
overflow_sub-result c =
    let n = c.args.n in
    rw (power n (omega arith)) (pow_pos n)

pub returns : goal.returns
returns c =
    few-cut _ _ _ _ c.requires.most c.if-s-next.false c.span-window.ensures
