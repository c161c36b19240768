use Rattle.read_known.specs.Known.{uri_part}
use borrow.Author.Rules.{rules}
use Rattle.read_known.proofs.uri_part.Goals as goal

pub returns : goal.returns
unfolding uri_part
returns c = rw c.uri_at-u.ensures.is
