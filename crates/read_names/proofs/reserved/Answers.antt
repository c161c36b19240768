use borrow.Author.Tests.{not-true, not-false}
use borrow.Author.Rules.{rules}
use Rattle.read_names.proofs.reserved.Goals as goal

pub returns-then-not-attr : goal.returns-then-not-attr
returns-then-not-attr c = rw (not-true c.args.attr c.if-not-attr.true-raw)

pub returns : goal.returns
returns c =
    let args = c.args in
    let if1 = c.if-not-attr in
    let look_up = c.look_up-u in
    let look-up2 = c.look_up-x in
    rw (not-false args.attr if1.false-raw, ← look_up.ensures.result_value, ← look-up2.ensures.result_value)
    c.is_reserved.ensures
