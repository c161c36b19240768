use mathlib.Core.Path.{◌∙◌}
use Rattle.write_field.proofs.Written.{put-length}
use Rattle.write_field.proofs.Field.{as_bits, first-asks, second-asks, third-asks}
use Rattle.write_field.proofs.Field.{put-none, put_one, put_two, put_three}
use borrow.Author.Rules.{rules}
use Rattle.write_field.proofs.put_bits.Goals as goal

-- `put_bits` meets its contract: the parts of the window, as far as the field goes.
pub returns-then-next-at : goal.returns-then-next-at
returns-then-next-at c =
    put-none _ (as_bits c.requires) c.slice_known-1.given c.if-next-at.true

pub put_part-second-requires : goal.put_part-second-requires
put_part-second-requires c = first-asks _ (as_bits c.requires)

pub shape_of-buf-then-next-second : goal.shape_of-buf-then-next-second
shape_of-buf-then-next-second c = put-length c.put_part-second.ensures

pub returns-then-next-second : goal.returns-then-next-second
returns-then-next-second c =
    put_one _ (as_bits c.requires) c.put_part-second.ensures
    c.slice_known-2-1.given c.if-next-second.true

pub put_part-third-requires : goal.put_part-third-requires
put_part-third-requires c =
    second-asks _ (as_bits c.requires) c.put_part-second.ensures

pub shape_of-buf-then-next-third : goal.shape_of-buf-then-next-third
shape_of-buf-then-next-third c =
    put-length c.put_part-third.ensures ∙ put-length c.put_part-second.ensures

pub returns-then-next-third : goal.returns-then-next-third
returns-then-next-third c =
    put_two _ (as_bits c.requires) c.put_part-second.ensures
    c.put_part-third.ensures c.slice_known-3-1.given c.if-next-third.true

pub put_part-requires : goal.put_part-requires
put_part-requires c =
    third-asks _ (as_bits c.requires) c.put_part-second.ensures
    c.put_part-third.ensures

pub shape_of-buf : goal.shape_of-buf
shape_of-buf c =
    put-length c.put_part.ensures
    ∙ put-length c.put_part-third.ensures
    ∙ put-length c.put_part-second.ensures

pub returns : goal.returns
returns c =
    put_three _ (as_bits c.requires) c.put_part-second.ensures
    c.put_part-third.ensures c.put_part.ensures
