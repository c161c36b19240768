use Rattle.spec_exi.specs.Grammar.{kind_number}
use Rattle.grammar_update.specs.Growth.{growth_of}
use borrow.Author.Rules.{rules}
use Rattle.grammar_update.proofs.growth.Goals as goal

pub has_grammar-has-requires : goal.has_grammar-has-requires
has_grammar-has-requires c = record { room = c.requires.room; low = c.requires.name }

pub site_in-site-requires : goal.site_in-site-requires
site_in-site-requires c = c.requires.top

pub returns : goal.returns
unfolding growth_of kind_number
returns c =
    rw (
      c.has_grammar-has.ensures,
      c.teaches-teaches.ensures,
      c.site_in-site.ensures,
    )
