use Prim.Native.Nat.{◌+◌, ◌<◌}
use native.Mathlib.Omega.{arith}
use Rattle.write_field.proofs.Octet.{put-outside, put-inside, cell-fits}
use borrow.Author.Rules.{rules}
use Rattle.write_field.proofs.put_part.Goals as goal
use Rattle.write_field.proofs.put_part.Goals.{After-wide}

-- `put_part` meets its contract: one cell, or none past the end.
pub returns-then-buf-i : goal.returns-then-buf-i
returns-then-buf-i c = put-outside c.slice_known-1.given c.requires c.if-buf-i.true

fits : (c : After-wide) → c.wide.result + c.args.o < 256
fits c =
    cell-fits c.slice_known-1.given c.requires c.wide.ensures
    c.if-buf-i.false

pub overflow_add-buf : goal.overflow_add-buf
overflow_add-buf c = omega (arith, fits c)

pub overflow_cast-buf : goal.overflow_cast-buf
overflow_cast-buf c = omega (arith, fits c)

pub returns : goal.returns
returns c = put-inside c.slice_known-1.given c.requires c.wide.ensures
