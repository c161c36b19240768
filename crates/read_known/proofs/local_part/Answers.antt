use Rattle.read_known.specs.Known.{local_part}
use borrow.Author.Rules.{rules}
use Rattle.read_known.proofs.local_part.Goals as goal

pub returns : goal.returns
unfolding local_part
returns c = rw c.name_at-l.ensures.is
