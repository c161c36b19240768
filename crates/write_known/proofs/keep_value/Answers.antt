use borrow.Author.Rules.{rules}
use Rattle.write_known.proofs.keep_value.Goals as goal

pub join_value-requires : goal.join_value-requires
join_value-requires c = c.requires.join _

pub returns : goal.returns
returns c =
    record { put = c.put_value-next.ensures; work-is = c.join_value.ensures }
