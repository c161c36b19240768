use mathlib.Core.Path.{sym}
use lib.Pow.{pow_pos}
use Rattle.read_field.proofs.Window.{power}
use Rattle.read_field.proofs.Numbers.{bits-cut}
use native.Mathlib.Omega.{arith}
use Rattle.read_field.proofs.cut.Goals as goal

pub overflow_sub-result-3 : goal.overflow_sub-result-3
overflow_sub-result-3 c =
    let n = c.args.n in rw (power n (omega arith)) (pow_pos n)

pub returns : goal.returns
returns c =
    let pre = c.requires in
    sym (bits-cut _ _ _ pre.some pre.most pre.inside c.octet_at-high.ensures c.octet_at-middle.ensures c.octet_at-low.ensures)
