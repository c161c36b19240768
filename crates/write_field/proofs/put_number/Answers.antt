use Rattle.spec_fields.specs.Field.{number_bits}
use Rattle.write_field.specs.Written.{alignment_of}
use Rattle.write_field.proofs.Written.{put-length}
use Rattle.write_field.proofs.put_number.Goals as goal

-- `put_number` meets its contract.
pub put_octets-requires : goal.put_octets-requires
put_octets-requires c = c.requires

pub shape_of-buf-then-aligned : goal.shape_of-buf-then-aligned
shape_of-buf-then-aligned c = put-length c.put_octets.ensures

pub returns-then-aligned : goal.returns-then-aligned
unfolding alignment_of
returns-then-aligned c = rw c.if-aligned.true c.put_octets.ensures

pub put_bits-requires : goal.put_bits-requires
put_bits-requires c = c.requires

pub shape_of-buf : goal.shape_of-buf
shape_of-buf c = put-length c.put_bits.ensures

pub returns : goal.returns
unfolding alignment_of number_bits
returns c = rw c.if-aligned.false c.put_bits.ensures
