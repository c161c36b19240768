use Rattle.grammar_match.proofs.Found.{row-asks, part-here}
use borrow.Author.Rules.{rules}
use Rattle.grammar_match.proofs.part_here.Goals as goal

pub production_at-p-requires : goal.production_at-p-requires
production_at-p-requires c = row-asks c.requires

pub returns : goal.returns
returns c =
    let pre = c.requires in
    part-here pre c.production_at-p.ensures _ c.part_of.ensures
