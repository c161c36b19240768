use Rattle.spec_exi.specs.Grammar.{kind_number}
use Rattle.grammar_update.specs.Growth.{allowed_in}
use borrow.Author.Rules.{rules}
use Rattle.grammar_update.proofs.allows.Goals as goal

pub returns : goal.returns
unfolding allowed_in kind_number
returns c = rw c.is_marked-marked.ensures
