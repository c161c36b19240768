use mathlib.Core.Path.{◌∙◌}
use native.Mathlib.Omega.{arith}
use Rattle.write_field.proofs.Written.{put-length}
use Rattle.write_field.proofs.Unsigned.{Going, started, group-asks, finished, one_more}
use Rattle.write_field.proofs.put_unsigned.Goals as goal

-- `put_unsigned` meets its contract.
pub loop-rest-init : goal.loop-rest-init
loop-rest-init c = started c.slice_known-1.given c.requires

pub put_few-next-requires : goal.put_few-next-requires
put_few-next-requires c =
    group-asks _ c.requires.near c.loop-rest.invariant (omega arith)

pub loop-rest-preserved : goal.loop-rest-preserved
loop-rest-preserved c =
    one_more c.loop-rest.invariant c.loop-rest-test.true c.put_few-next.ensures

pub put_few-requires : goal.put_few-requires
put_few-requires c =
    group-asks _ c.requires.near c.loop-rest.invariant (omega arith)

pub shape_of-buf : goal.shape_of-buf
shape_of-buf c =
    put-length c.put_few.ensures ∙ put-length c.loop-rest.invariant.put

pub returns : goal.returns
returns c =
    finished c.loop-rest.invariant c.loop-rest-test.false
    c.put_few.ensures
