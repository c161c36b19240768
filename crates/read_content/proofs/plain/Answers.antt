use borrow.Author.Rules.{rules}
use Rattle.read_content.proofs.plain.Goals as goal

pub returns : goal.returns
returns c = rw c.no_strings-strings.ensures
