use Rattle.grammar_match.proofs.Here.{tag-site, outer-site, content-site}
use borrow.Author.Rules.{rules}
use Rattle.grammar_match.proofs.site_in.Goals as goal

pub returns-then-mode-eq-IN_TAG : goal.returns-then-mode-eq-IN_TAG
returns-then-mode-eq-IN_TAG c = tag-site _ c.if-mode-eq-IN_TAG.true

pub returns-then-mode-lt-IN_TAG : goal.returns-then-mode-lt-IN_TAG
returns-then-mode-lt-IN_TAG c = outer-site _ c.if-mode-lt-IN_TAG.true

pub returns : goal.returns
returns c = content-site _ c.if-mode-eq-IN_TAG.false c.if-mode-lt-IN_TAG.false
