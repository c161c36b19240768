use borrow.Author.Rules.{rules}
use Rattle.write_content.proofs.with_value.Goals as goal

pub returns : goal.returns
returns c = rw c.with_value-strings.ensures
