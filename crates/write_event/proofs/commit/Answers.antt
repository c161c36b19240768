use Rattle.write_event.proofs.Steps.{join-asks, grow-asks, committed}
use borrow.Author.Rules.{rules}
use Rattle.write_event.proofs.commit.Goals as goal

pub join_strings-requires : goal.join_strings-requires
join_strings-requires c = join-asks c.requires

pub grow-requires : goal.grow-requires
grow-requires c =
    let pre = c.requires in
    let join-strings = c.join_strings in
    grow-asks pre join-strings.ensures

pub returns : goal.returns
returns c =
    let join-strings = c.join_strings in
    let grow = c.grow in
    committed c.requires c.args.fragment _ join-strings.ensures grow.ensures c.after.ensures
