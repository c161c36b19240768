use mathlib.Core.Path.{◌∙◌}
use Rattle.write_field.proofs.Written.{put-length}
use Rattle.write_field.proofs.Field.{few-asks, few-one, rest-asks, few-two}
use borrow.Author.Rules.{rules}
use Rattle.write_field.proofs.put_few.Goals as goal

-- `put_few` meets its contract: one part, or two.
pub put_part-second-requires : goal.put_part-second-requires
put_part-second-requires c = few-asks _ c.requires

pub shape_of-buf-then-next-second : goal.shape_of-buf-then-next-second
shape_of-buf-then-next-second c = put-length c.put_part-second.ensures

pub returns-then-next-second : goal.returns-then-next-second
returns-then-next-second c =
    few-one _ c.requires c.put_part-second.ensures
    c.slice_known-2-1.given c.if-next-second.true

pub put_part-requires : goal.put_part-requires
put_part-requires c =
    rest-asks _ c.requires c.put_part-second.ensures

pub shape_of-buf : goal.shape_of-buf
shape_of-buf c =
    put-length c.put_part.ensures ∙ put-length c.put_part-second.ensures

pub returns : goal.returns
returns c =
    few-two _ c.requires c.put_part-second.ensures c.put_part.ensures
    c.slice_known-3-1.given
