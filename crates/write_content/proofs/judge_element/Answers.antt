use mathlib.Core.Path.{refl}
use borrow.Author.Rules.{rules}
use Rattle.std.proofs.lemmas.Result.{err_from_is_err_and}
use Rattle.write_partition.proofs.Tests.{number-some}
use Rattle.write_content.proofs.Named.{element-refused, element-judged}
use Rattle.write_content.proofs.judge_element.Goals as goal

pub returns-in_err-n : goal.returns-in_err-n
returns-in_err-n c =
    let p = err_from_is_err_and c.from_residual.result c.from_residual.ensures.1 in
    rw (p.1, p.2) (element-refused c.requires c.in_err-n.ensures
    (number-some c.in_err-n.field-0.0))

pub returns : goal.returns
returns c = rw c.plain.ensures (element-judged c.requires c.in_ok-n.ensures refl)
