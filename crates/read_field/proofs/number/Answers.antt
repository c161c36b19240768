use Rattle.read_field.specs.View.{alignment_of}
use Rattle.read_field.proofs.number.Goals as goal

-- `read_field::number` meets its contract: by the alignment.
pub returns-then-aligned : goal.returns-then-aligned
unfolding alignment_of
returns-then-aligned c = rw c.if-aligned.true c.octets.ensures

pub returns : goal.returns
unfolding alignment_of
returns c = rw c.if-aligned.false c.bits.ensures
