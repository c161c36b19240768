use native.Mathlib.Omega.{arith}
use borrow.Author.Rules.{rules}
use Rattle.write_names.proofs.Put.{uris-low, choice-asks, row-asks, uri-put, uri-string, uri-put-new}
use Rattle.write_names.proofs.put_uri.Goals as goal

-- `put_uri` meets its contract.
pub overflow_add-uris : goal.overflow_add-uris
overflow_add-uris c = omega (arith, uris-low c.requires)

pub put_choice-next-requires : goal.put_choice-next-requires
put_choice-next-requires c = choice-asks c.requires (omega arith)

pub put_string-requires : goal.put_string-requires
put_string-requires c =
    uri-string c.requires
    c.if-joins.true _ c.put_choice-next.ensures

pub returns-then-joins : goal.returns-then-joins
returns-then-joins c =
    uri-put-new c.requires
    c.if-joins.true _
    c.put_choice-next.ensures
    c.put_string.ensures

pub overflow_add-uris-2 : goal.overflow_add-uris-2
overflow_add-uris-2 c = omega (arith, uris-low c.requires)

pub overflow_add-row : goal.overflow_add-row
overflow_add-row c =
    omega (
      arith,
      uris-low c.requires,
      c.requires.old c.if-joins.false,
    )

pub put_choice-requires : goal.put_choice-requires
put_choice-requires c = row-asks c.requires c.if-joins.false

pub returns : goal.returns
returns c =
    uri-put c.requires
    c.if-joins.false _ c.put_choice.ensures
