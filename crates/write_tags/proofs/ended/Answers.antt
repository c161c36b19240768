use Rattle.spec_exi.specs.Grammar.{kind_number}
use borrow.Author.Rules.{rules}
use Rattle.write_tags.proofs.ended.Goals as goal

pub returns : goal.returns
unfolding kind_number
returns c =
    rw (c.moved_on.ensures, c.mode_after-mode.ensures, c.next_tag-tag.ensures)
