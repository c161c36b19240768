use mathlib.Core.Path.{refl}
use Rattle.write_field.proofs.Written.{put-length}
use Rattle.write_field.proofs.Field.{sixteen, octets-ask, put-little}
use borrow.Author.Rules.{rules}
use Rattle.write_field.proofs.put_octets.Goals as goal

-- `put_octets` meets its contract: the octets exchanged are the bits of one number.
pub exchanged-requires : goal.exchanged-requires
exchanged-requires c = sixteen c.requires

pub put_bits-requires : goal.put_bits-requires
put_bits-requires c = octets-ask c.requires refl c.exchanged.ensures

pub shape_of-buf : goal.shape_of-buf
shape_of-buf c = put-length c.put_bits.ensures

pub returns : goal.returns
returns c =
    put-little c.requires refl c.exchanged.ensures
    c.put_bits.ensures
