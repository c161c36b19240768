use borrow.Author.Rules.{rules}
use Rattle.write_names.proofs.Put.{name-string, name-put-new, name-put}
use Rattle.write_names.proofs.put_local.Goals as goal

-- `put_local` meets its contract.
pub put_string-requires : goal.put_string-requires
put_string-requires c = name-string c.requires c.if-joins.true

pub returns-then-joins : goal.returns-then-joins
returns-then-joins c =
    name-put-new c.requires
    c.if-joins.true _ c.put_string.ensures

pub returns : goal.returns
returns c =
    name-put c.requires
    c.if-joins.false
    c.count_names-among.ensures
    c.name_at-name.ensures _ c.put_hit.ensures
