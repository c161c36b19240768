use native.Mathlib.Omega.{arith}
use borrow.Author.Rules.{rules}
use Rattle.write_field.proofs.Written.{put-length}
use Rattle.write_field.proofs.Field.{choice-asks, put-chosen, put-sole, few-of, put-one-of}
use Rattle.write_field.proofs.put_choice.Goals as goal

-- `put_choice` meets its contract: no bits, a few, or a number as wide as the choice.
pub returns-then-m-le1 : goal.returns-then-m-le1
returns-then-m-le1 c = put-sole c.requires c.if-m-le1.true c.slice_known-1.given _

pub put_few-requires : goal.put_few-requires
put_few-requires c =
    rw c.taken.ensures (few-of c.requires c.if-m-le256.true _)

pub shape_of-buf-then-m-le256 : goal.shape_of-buf-then-m-le256
shape_of-buf-then-m-le256 c = put-length c.put_few.ensures

pub returns-then-m-le256 : goal.returns-then-m-le256
returns-then-m-le256 c =
    let some = c.if-m-le1.false in
    put-one-of c.requires c.if-m-le256.true (omega (arith, some)) _
    (rw c.taken.ensures at c.put_few.ensures)

pub put_number-requires : goal.put_number-requires
put_number-requires c =
    choice-asks c.requires c.width.ensures

pub shape_of-buf : goal.shape_of-buf
shape_of-buf c = put-length c.put_number.ensures

pub returns : goal.returns
returns c =
    put-chosen c.requires c.width.ensures _
    c.put_number.ensures
