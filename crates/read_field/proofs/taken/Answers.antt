use Rattle.read_field.specs.Parts.{taken}
use Rattle.read_field.proofs.taken.Goals as goal

-- `read_field::taken` meets its contract: by the alignment.
pub returns-then-aligned : goal.returns-then-aligned
unfolding taken
returns-then-aligned g c = rw c.if-aligned.true

pub returns : goal.returns
unfolding taken
returns g c = rw c.if-aligned.false c.width.ensures
